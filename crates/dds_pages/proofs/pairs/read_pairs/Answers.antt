use Rattle.std.proofs.Common.{◌+◌, ap}
use Rattle.dds_pages.proofs.PairPages.{reading-more}
use Rattle.dds_pages.proofs.pairs.read_pairs.Goals as goal

pub pairs-preserved : goal.pairs-preserved
pairs-preserved c =
    reading-more c.args.form c.args.page.now c.args.used c.args.count c.pairs.pairs _ c.pairs.at _ c.pairs._pair c.in-Ok.pair c.pairs.invariant
    c.pairs-test.true c.in-Ok.ensures c.in_ok-push.ensures.ok
    (ap (λ n. c.pairs.at + n) c.width-at.ensures.value)
