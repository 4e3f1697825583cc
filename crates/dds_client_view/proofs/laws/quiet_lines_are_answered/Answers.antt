use Rattle.dds_client_view.proofs.Shown.{quiet-lines}
use Rattle.dds_client_view.proofs.laws.quiet_lines_are_answered.Goals as goal

pub returns : goal.returns
returns c = quiet-lines
