use Rattle.dds_orders.proofs.Asks.{orders-ask}
use Rattle.dds_orders.proofs.laws.orders_ask_all.Goals as goal

pub returns : goal.returns
returns c = orders-ask
