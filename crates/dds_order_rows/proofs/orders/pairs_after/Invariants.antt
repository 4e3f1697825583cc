use Rattle.std.proofs.Common.{◌≡◌, drop, []}
use Rattle.dds_order_rows.specs.Orders.{in_order}
use Rattle.dds_order_rows.proofs.orders.pairs_after.Given as goal

abbrev pub invariant-loop-pair : goal.invariant-loop-pair
invariant-loop-pair l = in_order l.found l.name l.after (drop l.pair-index l.pair-items) ≡ in_order [] l.name l.after l.pair-items
