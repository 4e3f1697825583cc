use Rattle.std.proofs.Common.{◌≡◌, ◌++◌, drop}
use Rattle.std.specs.Prelude.{filter}
use Rattle.dds_base.specs.BrickList.{has}
use Rattle.dds_order_rows.proofs.going_on.sources.Given as goal

abbrev pub invariant-loop-node : goal.invariant-loop-node
invariant-loop-node l =
    l.list ++ filter (λ node. has l.order.granted node) (drop l.node-index l.node-items) ≡ filter (λ node. has l.order.granted node) l.node-items
