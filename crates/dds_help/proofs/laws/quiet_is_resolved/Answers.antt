use Rattle.dds_help.proofs.Runs.{quiet-is-resolved}
use Rattle.dds_help.proofs.laws.quiet_is_resolved.Goals as goal

pub returns : goal.returns
returns c = quiet-is-resolved
