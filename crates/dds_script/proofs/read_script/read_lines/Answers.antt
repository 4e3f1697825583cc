use Rattle.std.proofs.Common.{◌≡◌, ◌<◌, length, take, refl, arith}
use Rattle.std.proofs.lemmas.Bool.Decides.{nat_tests}
use Rattle.std.proofs.lemmas.Grind.{common_steps}
use Rattle.dds_script.proofs.Texts.{at-first, at-more, at-sound, number-at, fault-at, refused-line, ended-at}
use Rattle.dds_script.specs.Grammar.IsRefused.{no_end}
use Rattle.dds_script.proofs.read_script.read_lines.Goals as goal

pub reading-init : goal.reading-init
reading-init c = rw c.new-reader.ensures (at-first c.args.bytes.now)

pub returns-in_default-clause-error : goal.returns-in_default-clause-error
returns-in_default-clause-error c =
    let some : 0 < length c.reading.rest.now = (let e = c.is_empty.ensures in let t = c.reading-test.true in grind (arith, nat_tests, e, t)) in
    rw c.fault.ensures (fault-at _ c.reading.rest.now c.reading.reader _ _ c.reading.invariant
    (no_end c.reading.reader c.reading.rest.now some c.in_default.ensures))

pub take_text-requires : goal.take_text-requires
take_text-requires c = at-sound _ _ c.reading.reader c.reading.invariant.read

pub returns-in-Ok-Some-clause-error : goal.returns-in-Ok-Some-clause-error
returns-in-Ok-Some-clause-error c =
    let t = rw c.in-Ok-Some.field-0-is at c.in-Ok-Some.ensures in
    rw c.fault-in-Ok-Some.ensures (fault-at _ c.reading.rest.now c.reading.reader _ _ c.reading.invariant
    (refused-line c.reading.rest.now (take c.in-Some.end c.reading.rest.now) c.reading.reader c.take_text.new.reader c.in-Some.end c.in-Ok-Some.kind
    c.in-Some.ensures refl t))

pub overflow_add-number : goal.overflow_add-number
overflow_add-number c =
    let n = number-at _ _ _ _ c.reading.invariant in
    omega (arith, n, c.requires)

pub reading-preserved : goal.reading-preserved
reading-preserved c =
    let t = rw c.in-Ok-None.field-0-is at c.in-Ok-None.ensures in
    at-more c.args.bytes.now c.reading.rest.now (take c.in-Some.end c.reading.rest.now) _ c.reading.reader c.take_text.new.reader c.reading.number c.in-Some.end
    c.reading.invariant c.in-Some.ensures refl (grind (arith, common_steps)) t

pub unopened-requires : goal.unopened-requires
unopened-requires c = at-sound _ _ c.reading.reader c.reading.invariant.read

pub returns-in-Some-unopened-clause-error : goal.returns-in-Some-unopened-clause-error
returns-in-Some-unopened-clause-error c =
    let none : length c.reading.rest.now ≡ 0 = (let e = c.is_empty.ensures in let t = c.reading-test.false in grind (arith, nat_tests, e, t)) in
    rw c.fault-in-Some-unopened.ensures (fault-at _ c.reading.rest.now c.reading.reader _ _ c.reading.invariant
    (ended-at c.reading.rest.now c.reading.reader c.in-Some-unopened.kind none c.in-Some-unopened.ensures))
