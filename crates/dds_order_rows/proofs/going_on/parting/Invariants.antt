use Rattle.std.proofs.Common.{◌≡◌, ◌++◌, drop}
use Rattle.std.specs.Prelude.{filter}
use Rattle.dds_order_rows.specs.OwnOrder.{takes_part}
use Rattle.dds_order_rows.proofs.going_on.parting.Given as goal

abbrev pub invariant-loop-node : goal.invariant-loop-node
invariant-loop-node l =
    l.list ++ filter (takes_part l.state l.order) (drop l.node-index l.node-items) ≡ filter (takes_part l.state l.order) l.node-items
