use Rattle.dds_law_config.proofs.Quiet.{quiet-answered}
use Rattle.dds_law_config.proofs.laws.quiet_answers.Goals as goal

pub returns : goal.returns
returns c = quiet-answered
