use Rattle.dds_order_ends.proofs.Runs.{orders-wait}
use Rattle.dds_order_ends.proofs.laws.orders_wait.Goals as goal

pub returns : goal.returns
returns c = orders-wait
