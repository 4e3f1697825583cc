use Rattle.std.proofs.Common.{take}
use Rattle.dds_script.specs.Words.{HasNo}
use Rattle.dds_script.proofs.words.find.Given as goal

abbrev pub invariant-loop-place : goal.invariant-loop-place
invariant-loop-place l = HasNo l.mark (take l.place l.bytes)
