use Rattle.dds_orders.proofs.Stood.{pending-covered}
use Rattle.dds_orders.proofs.laws.pending_is_covered.Goals as goal

pub returns : goal.returns
returns c = pending-covered
