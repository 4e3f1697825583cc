use Rattle.dds_order_ends.proofs.Runs.{quiet-orders-are-over}
use Rattle.dds_order_ends.proofs.laws.quiet_orders_are_over.Goals as goal

pub returns : goal.returns
returns c = quiet-orders-are-over
