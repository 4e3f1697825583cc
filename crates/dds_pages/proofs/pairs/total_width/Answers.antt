use Rattle.std.proofs.Common.{arith}
use Rattle.dds_pages.proofs.PairPages.{total-within}
use Rattle.dds_pages.proofs.pairs.total_width.Goals as goal

pub overflow_add-total : goal.overflow_add-total
overflow_add-total c =
    let h = total-within c.args.pairs.now c.pairs.pair-index c.pair-item.result (omega arith) c.pair-item.is in
    omega (arith, h, c.pairs.invariant, c.width-total.ensures.value, c.requires)
