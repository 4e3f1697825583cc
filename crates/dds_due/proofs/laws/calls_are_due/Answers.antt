use Rattle.dds_due.proofs.Runs.{calls-are-due}
use Rattle.dds_due.proofs.laws.calls_are_due.Goals as goal

pub returns : goal.returns
returns c = calls-are-due
