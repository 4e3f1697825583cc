use Rattle.std.proofs.Common.{◌∙◌, ap}
use Rattle.dds_pages.specs.Fields.{padded}
use Rattle.dds_pages.proofs.Numbers.{page-padded}
use Rattle.dds_pages.proofs.writer.PageWriter.page.Goals as goal

pub returns : goal.returns
returns c = page-padded c.self.inside.page c.self.inside.at c.self.invariant ∙ ap padded c.self.view_is
