use Rattle.dds_attempts.proofs.Runs.{last-attempts-stand}
use Rattle.dds_attempts.proofs.laws.last_attempts_stand.Goals as goal

pub returns : goal.returns
returns c = last-attempts-stand
