use Rattle.dds_due.proofs.Runs.{quiet-calls-are-answered}
use Rattle.dds_due.proofs.laws.quiet_calls_are_answered.Goals as goal

pub returns : goal.returns
returns c = quiet-calls-are-answered
