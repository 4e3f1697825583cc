use Rattle.dds_parents.proofs.Splits.{split-leaves}
use Rattle.dds_parents.proofs.laws.split_leaves_stand.Goals as goal

pub returns : goal.returns
returns c = split-leaves
