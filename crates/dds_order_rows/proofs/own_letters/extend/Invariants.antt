use Rattle.std.proofs.Common.{◌≡◌, ◌++◌, take}
use Rattle.dds_order_rows.proofs.own_letters.extend.Given as goal

abbrev pub invariant-loop-pair : goal.invariant-loop-pair
invariant-loop-pair l = l.order ≡ record l.fn.order { copied = l.fn.order.copied ++ take l.pair-index l.pairs }
