use Rattle.dds_cli.proofs.Whole.{run-whole}
use Rattle.dds_cli.proofs.steps.run_steps.Goals as goal

pub returns-clause-whole : goal.returns-clause-whole
returns-clause-whole g c = run-whole _ _ _ _ _ c.run_command.ensures.end
