use Rattle.std.proofs.Common.{◌≡◌, ◌∙◌, ap, arith, subst}
use Rattle.std.specs.Prelude.{OnOk}
use Rattle.std.proofs.lemmas.List.Sums.{prefix_len-le-length}
use Rattle.dds_agenda.proofs.Places.{insert-ordered, inserted, place_of}
use Rattle.dds_agenda.specs.Agenda.{precedes, put}
use Rattle.dds_agenda.proofs.agenda.Agenda.insert.Goals as goal

pub insert-requires : goal.insert-requires
insert-requires c =
    let place : c.place_for-place.result ≡ place_of c.args.entry c.self.inside.entries = c.place_for-place.ensures
    ∙ ap (place_of c.args.entry) c.as_slice.ensures in
    let low = prefix_len-le-length (λ x. precedes x c.args.entry) c.self.inside.entries in
    omega (arith, place, low)

pub invariant_of-self : goal.invariant_of-self
invariant_of-self c =
    insert-ordered c.insert.result c.args.entry c.self.inside.entries c.insert.new.self c.place_for-place.result
    (c.place_for-place.ensures ∙ ap (place_of c.args.entry) c.as_slice.ensures) c.insert.ensures.ok c.insert.ensures.err c.self.invariant

pub returns-clause-ok : goal.returns-clause-ok
returns-clause-ok c =
    subst (λ es. OnOk c.insert.result (c.insert.new.self ≡ put c.args.entry es)) c.self.view_is
    (inserted c.insert.result c.args.entry c.self.inside.entries c.insert.new.self c.place_for-place.result
    (c.place_for-place.ensures ∙ ap (place_of c.args.entry) c.as_slice.ensures) c.insert.ensures.ok)
