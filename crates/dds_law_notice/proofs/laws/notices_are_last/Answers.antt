use Rattle.dds_law_notice.proofs.Last.{notices-are-last}
use Rattle.dds_law_notice.proofs.laws.notices_are_last.Goals as goal

pub returns : goal.returns
returns c = notices-are-last
