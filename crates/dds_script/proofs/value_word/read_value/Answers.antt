use Rattle.std.proofs.Common.{◌≢◌, ◌<◌, codes, length, arith}
use Rattle.std.proofs.lemmas.Bool.Decides.{nat_tests}
use Rattle.dds_script.proofs.Hexadecimal.{value-hex, hex-value}
use Rattle.dds_script.proofs.value_word.read_value.Goals as goal

pub returns-then-is_empty : goal.returns-then-is_empty
returns-then-is_empty c = λ value is.
    let dash : c.args.word.now ≢ codes "-" = λ e. absurd (cc (c.same.ensures.same.1 e, c.if-same.false)) in
    let h = value-hex c.args.word.now value dash is in
    let n = h.1 in let e = c.is_empty.ensures in let t = c.if-is_empty.true in grind (arith, nat_tests, n, e, t)

pub returns-then-word : goal.returns-then-word
returns-then-word c = λ value is.
    let dash : c.args.word.now ≢ codes "-" = λ e. absurd (cc (c.same.ensures.same.1 e, c.if-same.false)) in
    let h = value-hex c.args.word.now value dash is in
    omega (arith, h.2)

pub returns-in-None : goal.returns-in-None
returns-in-None c = λ value is.
    let dash : c.args.word.now ≢ codes "-" = λ e. absurd (cc (c.same.ensures.same.1 e, c.if-same.false)) in
    let h = value-hex c.args.word.now value dash is in
    let n = rw c.in-None.is at c.in_ok-bytes.ensures in
    n value h.0

pub returns-in-Some : goal.returns-in-Some
returns-in-Some c =
    let h = rw c.in-Some.is at c.in_ok-bytes.ensures in
    let some : 0 < length c.args.word.now = (let e = c.is_empty.ensures in let t = c.if-is_empty.false in grind (arith, nat_tests, e, t)) in
    hex-value c.args.word.now c.in-Some.bytes.items _ h some (omega arith) c.from_vec-in-Some.ensures
