use Rattle.dds_due.proofs.Runs.{open-calls-are-listed}
use Rattle.dds_due.proofs.laws.open_calls_are_listed.Goals as goal

pub returns : goal.returns
returns c = open-calls-are-listed
