use Rattle.dds_orders.proofs.Runs.{orders-numbered}
use Rattle.dds_orders.proofs.laws.orders_are_numbered.Goals as goal

pub returns : goal.returns
returns c = orders-numbered
