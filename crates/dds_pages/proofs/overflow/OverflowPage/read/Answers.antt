use Rattle.dds_pages.proofs.ExactPages.{overflow-read-spelled}
use Rattle.dds_pages.proofs.overflow.OverflowPage.read.Goals as goal

pub returns-clause-spelled : goal.returns-clause-spelled
returns-clause-spelled c = overflow-read-spelled c.read_overflow.result c.args.page.now c.told-page c.fits-page c.read_overflow.ensures
