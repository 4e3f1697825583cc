use Rattle.dds_values.proofs.Histories.{legal-history}
use Rattle.dds_values.proofs.laws.legal_without_reads.Goals as goal

pub returns : goal.returns
returns c = legal-history
