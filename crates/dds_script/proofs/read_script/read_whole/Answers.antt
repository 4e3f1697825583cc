use Rattle.std.proofs.Common.{arith}
use Rattle.dds_script.proofs.Texts.{at-few, at-sound}
use Rattle.dds_script.proofs.read_script.read_whole.Goals as goal

pub script_of-requires-clause-sound : goal.script_of-requires-clause-sound
script_of-requires-clause-sound c = at-sound _ _ _ c.in-Ok.ensures.read

pub script_of-requires-clause-few : goal.script_of-requires-clause-few
script_of-requires-clause-few c = omega (arith, at-few _ _ _ c.in-Ok.ensures.read, c.requires)
