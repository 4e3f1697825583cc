use Rattle.dds_copies.proofs.SourceRuns.{sources-send}
use Rattle.dds_copies.proofs.laws.sources_send_the_table.Goals as goal

pub returns : goal.returns
returns c = sources-send
