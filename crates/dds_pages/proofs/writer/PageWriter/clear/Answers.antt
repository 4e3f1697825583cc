use Rattle.std.proofs.Common.{arith}
use Rattle.dds_pages.proofs.Numbers.{cleared}
use Rattle.dds_pages.proofs.writer.PageWriter.clear.Goals as goal

pub invariant_of-self : goal.invariant_of-self
invariant_of-self c =
    cleared c.self.inside.page c.fill.new.self c.self.inside.at _ c.self.invariant (omega (arith, c.self.invariant.within, c.self.invariant.long))
    (c.fill.ensures.after (λ y e. e))
