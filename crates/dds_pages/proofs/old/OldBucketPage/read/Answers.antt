use Rattle.dds_pages.proofs.PairPages.{old-page-here}
use Rattle.dds_pages.proofs.old.OldBucketPage.read.Goals as goal

pub invariant_of-result : goal.invariant_of-result
invariant_of-result c = old-page-here c.in-Ok.bucket c.args.page.now c.in-Ok.ensures.1
