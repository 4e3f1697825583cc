use Rattle.dds_pairs.proofs.NameKeeps.{leaves-named}
use Rattle.dds_pairs.proofs.laws.leaves_have_names.Goals as goal

pub returns : goal.returns
returns c = leaves-named
