use Rattle.dds_order_talk.proofs.Runs.{orders-keep-to}
use Rattle.dds_order_talk.proofs.laws.orders_keep_to_their_members.Goals as goal

pub returns : goal.returns
returns c = orders-keep-to
