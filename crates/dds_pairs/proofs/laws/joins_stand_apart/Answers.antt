use Rattle.dds_pairs.proofs.Apart.{joins-apart}
use Rattle.dds_pairs.proofs.laws.joins_stand_apart.Goals as goal

pub returns : goal.returns
returns c = joins-apart
