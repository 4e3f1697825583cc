use Rattle.dds_pairs.proofs.Keeps.{copied-rise}
use Rattle.dds_pairs.proofs.laws.copied_pairs_rise.Goals as goal

pub returns : goal.returns
returns c = copied-rise
