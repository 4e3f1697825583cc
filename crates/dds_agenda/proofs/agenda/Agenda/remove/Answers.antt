use Rattle.std.proofs.Common.{◌≡◌, ◌∙◌, ap, arith, subst, sym}
use Rattle.dds_agenda.proofs.Places.{none-stands, ordered-out, place_of, stayed, taken}
use Rattle.dds_agenda.specs.Agenda.{IsOrdered, take_out}
use Rattle.dds_agenda.proofs.agenda.Agenda.remove.Goals as goal

pub returns-then-place-len-clause-entries : goal.returns-then-place-len-clause-entries
returns-then-place-len-clause-entries c =
    let k = c.args.entry.now in
    let place : c.place_for-place.result ≡ place_of k c.self.inside.entries = c.place_for-place.ensures ∙ ap (place_of k) c.as_slice.ensures in
    subst (λ es. es ≡ take_out k es) c.self.view_is (none-stands k c.self.inside.entries (omega (arith, place, c.len.ensures, c.if-place-len.true)))

pub returns-then-precedes-clause-entries : goal.returns-then-precedes-clause-entries
returns-then-precedes-clause-entries c =
    let k = c.args.entry.now in
    subst (λ es. es ≡ take_out k es) c.self.view_is
    (stayed k c.at.result.now c.self.inside.entries c.place_for-place.result (c.place_for-place.ensures ∙ ap (place_of k) c.as_slice.ensures)
    (omega (arith, c.len.ensures, c.if-place-len.false)) c.at.ensures (sym c.precedes.ensures ∙ c.if-precedes.true))

pub invariant_of-self : goal.invariant_of-self
invariant_of-self c =
    let k = c.args.entry.now in
    let es = c.self.inside.entries in
    subst IsOrdered (sym (taken k c.at.result.now es c.remove.new.self c.place_for-place.result (c.place_for-place.ensures ∙ ap (place_of k) c.as_slice.ensures)
    (omega (arith, c.len.ensures, c.if-place-len.false)) c.at.ensures (sym c.precedes.ensures ∙ c.if-precedes.false) c.remove.ensures.items))
    (ordered-out k es c.self.invariant)

pub returns-clause-entries : goal.returns-clause-entries
returns-clause-entries c =
    let k = c.args.entry.now in
    subst (λ es. c.remove.new.self ≡ take_out k es) c.self.view_is
    (taken k c.at.result.now c.self.inside.entries c.remove.new.self c.place_for-place.result (c.place_for-place.ensures ∙ ap (place_of k) c.as_slice.ensures)
    (omega (arith, c.len.ensures, c.if-place-len.false)) c.at.ensures (sym c.precedes.ensures ∙ c.if-precedes.false) c.remove.ensures.items)
