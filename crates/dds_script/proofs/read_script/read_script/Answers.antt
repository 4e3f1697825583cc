use Rattle.dds_script.proofs.OneScript.{err-both, ok-one}
use Rattle.dds_script.proofs.read_script.read_script.Goals as goal

pub returns-clause-one : goal.returns-clause-one
returns-clause-one c = ok-one _ _ c.read_whole.ensures.script

pub returns-clause-none : goal.returns-clause-none
returns-clause-none c = err-both _ _ c.read_whole.ensures.error
