use Rattle.std.proofs.Common.{◌≡◌, drop}
use Rattle.dds_order_rows.specs.OwnOrder.{bound}
use Rattle.dds_order_rows.proofs.finishing.bound.Given as goal

abbrev pub invariant-loop-pair : goal.invariant-loop-pair
invariant-loop-pair l = bound l.table (drop l.pair-index l.pairs) ≡ bound l.initial.table l.pairs
