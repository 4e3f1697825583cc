use Rattle.dds_copies.proofs.LateRuns.{joins-copy-frozen}
use Rattle.dds_copies.proofs.laws.joins_copy_frozen.Goals as goal

pub returns : goal.returns
returns c = joins-copy-frozen
