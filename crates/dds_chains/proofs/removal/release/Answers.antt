use Rattle.std.proofs.Common.{◌∙◌, arith}
use Rattle.dds_chains.proofs.Removing.{times-more}
use Rattle.dds_chains.proofs.removal.release.Goals as goal

pub pages-preserved : goal.pages-preserved
pages-preserved g c = record {
  cache = c.in_ok-give_back-2.ensures.cache ∙ c.pages.invariant.cache;
  number = λ n. let m = times-more n c.as_slice-page-items.result.now c.args.slot.now.overflow c.pages.page-index c.as_slice-page-items.ensures (omega arith)
      in omega (arith, m, c.in_ok-give_back-2.ensures.number n, c.pages.invariant.number n);
}
