use Rattle.dds_law_own.proofs.Runs.{bricks-keep}
use Rattle.dds_law_own.proofs.laws.bricks_keep_their_own.Goals as goal

pub returns : goal.returns
returns c = bricks-keep
