use Rattle.dds_calls.proofs.Gets.{gets-stand-answered}
use Rattle.dds_calls.proofs.laws.gets_stand_answered.Goals as goal

pub returns : goal.returns
returns c = gets-stand-answered
