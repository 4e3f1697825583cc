use Rattle.std.proofs.Common.{arith}
use Rattle.dds_frames.proofs.Places.{refused-within, left-within}
use Rattle.dds_frames.proofs.decode.whole.Goals as goal

pub overflow_sub-result : goal.overflow_sub-result
overflow_sub-result c =
    let e = rw (c.in-Err-Refused.field-0-is, c.new-fields.ensures) at c.in-Err-Refused.ensures in
    let h = refused-within c.args.tag c.args.bytes.now c.in-Err-Refused.left (λ k. omega (arith, c.type_inv.bytes k)) e in
    rw c.in-Err-Refused.field-0-is (omega (arith, h, c.requires))

pub all_read-requires : goal.all_read-requires
all_read-requires c =
    let e = rw c.new-fields.ensures at c.in-Ok.ensures in
    let h = left-within c.args.tag c.args.bytes.now c.in-Ok.letter c.letter.new.self (λ k. omega (arith, c.type_inv.bytes k)) e in
    omega (arith, h, c.left.ensures, c.requires)
