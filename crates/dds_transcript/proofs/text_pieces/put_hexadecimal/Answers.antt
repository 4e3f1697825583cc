use Rattle.std.proofs.Common.{arith}
use Rattle.dds_transcript.proofs.Pieces.{hex-text-more}
use Rattle.dds_transcript.proofs.text_pieces.put_hexadecimal.Goals as goal

pub loop-byte-preserved : goal.loop-byte-preserved
loop-byte-preserved c =
    let a = c.digit.ensures in
    let b = c.in_ok-push.ensures.items in
    let d = c.digit-in-loop-byte.ensures in
    let e = c.in_ok-push-2.ensures.items in
    hex-text-more c.args.bytes.now c.args.text.now.items c.loop-byte.text.items c.push.new.self.items c.push-in-loop-byte.new.self.items c.loop-byte.byte-index
    (omega arith) c.loop-byte.invariant (cc) (cc)
