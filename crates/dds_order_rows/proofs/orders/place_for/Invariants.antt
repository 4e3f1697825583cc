use Rattle.std.proofs.Common.{◌≡◌, ◌+◌, drop}
use Rattle.dds_order_rows.specs.Orders.{place_for}
use Rattle.dds_order_rows.proofs.orders.place_for.Given as goal

abbrev pub invariant-loop-place : goal.invariant-loop-place
invariant-loop-place l = place_for l.pairs l.key ≡ l.place + place_for (drop l.place l.pairs) l.key
