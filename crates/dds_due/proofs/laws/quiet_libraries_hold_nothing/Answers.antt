use Rattle.dds_due.proofs.Runs.{quiet-libraries-hold-nothing}
use Rattle.dds_due.proofs.laws.quiet_libraries_hold_nothing.Goals as goal

pub returns : goal.returns
returns c = quiet-libraries-hold-nothing
