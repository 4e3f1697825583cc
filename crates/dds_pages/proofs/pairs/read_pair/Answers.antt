use Rattle.dds_pages.proofs.PairPages.{pair-read}
use Rattle.dds_pages.proofs.pairs.read_pair.Goals as goal

pub returns-in-Ok : goal.returns-in-Ok
returns-in-Ok c =
    pair-read c.args.form c.args.page.now c.args.used c.args.at c.number8_at-key.result c.in-Ok.held c.if-used-at.false
    (rw (← c.number2_at-len.ensures, ← c.extent.ensures) c.if-used-at-2.false) (rw (← c.number2_at-len.ensures, ← c.most.ensures) c.if-len-most.false)
    c.number8_at-key.ensures c.in-Ok.ensures
