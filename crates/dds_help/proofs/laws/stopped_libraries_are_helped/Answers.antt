use Rattle.dds_help.proofs.Runs.{stopped-are-helped}
use Rattle.dds_help.proofs.laws.stopped_libraries_are_helped.Goals as goal

pub returns : goal.returns
returns c = stopped-are-helped
