use Rattle.dds_order_runs.proofs.Runs.{orders-always-talk}
use Rattle.dds_order_runs.proofs.laws.orders_always_talk.Goals as goal

pub returns : goal.returns
returns c = orders-always-talk
