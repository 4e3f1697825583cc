use Rattle.dds_pages.proofs.ExactPages.{root-read-spelled}
use Rattle.dds_pages.proofs.root.RootPage.read.Goals as goal

pub returns-clause-spelled : goal.returns-clause-spelled
returns-clause-spelled c = root-read-spelled c.read_root.result c.args.page.now c.told-page c.fits-page c.read_root.ensures
