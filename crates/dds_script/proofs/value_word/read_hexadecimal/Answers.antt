use Rattle.std.proofs.Common.{arith}
use Rattle.dds_script.proofs.Hexadecimal.{odd-hex, no-hex, hex-more, bytes-push}
use Rattle.dds_script.proofs.value_word.read_hexadecimal.Goals as goal

pub returns-then-word-eq1 : goal.returns-then-word-eq1
returns-then-word-eq1 c = λ bytes is. odd-hex _ bytes c.if-word-eq1.true is

pub returns-in-None : goal.returns-in-None
returns-in-None c = λ bytes is. no-hex c.args.word.now c.loop-place.place (omega arith) c.in-None.ensures bytes is

pub loop-place-preserved : goal.loop-place-preserved
loop-place-preserved c =
    rw c.in_ok-push-in-Some.ensures.items (
      hex-more c.args.word.now c.loop-place.bytes.items c.loop-place.place c.in-Some.byte (omega arith) c.loop-place.invariant.0 c.in-Some.ensures,
      bytes-push c.loop-place.bytes.items c.in-Some.byte c.loop-place.invariant.1 c.in-Some.ensures.2,
    )
