use Rattle.std.proofs.Common.{subst}
use Rattle.dds_cli.proofs.Standing.{ran-ok}
use Rattle.dds_script.specs.Opening.{IsOpening}
use Rattle.dds_cli.proofs.steps.run.Goals as goal

pub returns-clause-ran : goal.returns-clause-ran
returns-clause-ran c =
    ran-ok _ c.args.script.now _ c.run_stands.ensures c.clients_see_one_history.ensures c.quiet_lines_are_answered.ensures
    (subst IsOpening c.opening.ensures.value c.ranges-ranges.ensures.kept) c.opening.ensures.kept c.walk_script.ensures.journal c.walk_script.ensures.run
