use Rattle.dds_pending.proofs.Runs.{pending-lists}
use Rattle.dds_pending.proofs.laws.pending_lists_the_live.Goals as goal

pub returns : goal.returns
returns c = pending-lists
