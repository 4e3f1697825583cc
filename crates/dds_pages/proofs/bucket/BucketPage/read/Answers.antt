use Rattle.dds_pages.proofs.ExactPages.{bucket-read-spelled}
use Rattle.dds_pages.proofs.bucket.BucketPage.read.Goals as goal

pub returns-clause-spelled : goal.returns-clause-spelled
returns-clause-spelled c = bucket-read-spelled c.read_bucket.result c.args.page.now c.told-page c.fits-page c.read_bucket.ensures
