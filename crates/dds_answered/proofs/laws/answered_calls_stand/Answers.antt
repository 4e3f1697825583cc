use Rattle.dds_answered.proofs.Runs.{answered-calls-stand}
use Rattle.dds_answered.proofs.laws.answered_calls_stand.Goals as goal

pub returns : goal.returns
returns c = answered-calls-stand
