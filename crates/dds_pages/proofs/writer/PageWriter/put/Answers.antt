use Rattle.std.proofs.Common.{refl, arith}
use Rattle.dds_pages.proofs.Numbers.{write-more}
use Rattle.dds_pages.proofs.writer.PageWriter.put.Goals as goal

pub invariant_of-self : goal.invariant_of-self
invariant_of-self c =
    write-more c.self.inside.page c.copy_from_slice.new.self c.args.bytes.now c.args.self.now c.self.inside.at _ _ c.self.invariant c.self.view_is
    c.copy_from_slice.ensures.after (omega arith) refl c.requires
