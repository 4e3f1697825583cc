use Rattle.dds_members.proofs.Orders.{orders-ask}
use Rattle.dds_members.proofs.laws.orders_ask_once.Goals as goal

pub returns : goal.returns
returns c = orders-ask
