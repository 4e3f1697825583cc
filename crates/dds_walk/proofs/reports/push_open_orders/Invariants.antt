use Rattle.std.proofs.Common.{◌≡◌, ◌++◌, drop}
use Rattle.dds_walk.specs.Walk.{open_orders}
use Rattle.dds_walk.proofs.reports.push_open_orders.Given as goal

abbrev pub invariant-loop-place : goal.invariant-loop-place
invariant-loop-place l = l.lines ++ open_orders l.place (drop l.place l.orders) ≡ l.fn.lines ++ open_orders 0 l.orders
