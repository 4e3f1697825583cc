use Rattle.std.proofs.Common.{arith}
use Rattle.dds_script.proofs.Marks.{hasno-more}
use Rattle.dds_script.proofs.words.find.Goals as goal

pub loop-place-preserved : goal.loop-place-preserved
loop-place-preserved c = hasno-more c.args.mark c.args.bytes.now c.loop-place.place (omega arith) c.loop-place.invariant c.if-byte-mark.false
