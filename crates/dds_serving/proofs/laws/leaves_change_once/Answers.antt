use Rattle.dds_serving.proofs.Once.{change-once}
use Rattle.dds_serving.proofs.laws.leaves_change_once.Goals as goal

pub returns : goal.returns
returns c = change-once
