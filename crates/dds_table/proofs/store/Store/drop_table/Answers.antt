use Rattle.std.specs.Prelude.{vec_capacity}
use Rattle.std.proofs.Common.{List, ◌≡◌, Some, length, sym, ap, ◌∙◌, subst, arith}
use Rattle.dds_table.specs.Store.{named, slots_of, place_named}
use Rattle.dds_chains.specs.declared.table.Chains.{Chains}
use Rattle.dds_table.proofs.Stores.{unless, unless-false, store-dropped, named-less, name-at}
use Rattle.dds_table.proofs.Refusing.{slots-less}
use Rattle.dds_table.specs.Places.{IsPlaced}
use Rattle.dds_table.proofs.TablePlaces.{placed-less, first-less}
use Rattle.dds_table.proofs.store.Store.drop_table.Goals as goal

pub invariant_of-self : goal.invariant_of-self
invariant_of-self g c =
    let s = unless-false c.self.inside.failed _ (ap (λ s. s.failed) c.self.view_is ∙ c.requires.live) c.self.invariant.0 in
    let l = ap length c.as_slice.ensures.value in (
      unless c.self.inside.failed _
          (store-dropped c.place_in-place.result c.remove-table.result c.remove-table.new.self.items c.drop_into.new.tables.items
          (vec_capacity c.drop_into.new.tables) s (omega (arith, l, c.place_in-place.ensures.within)) c.remove-table.ensures.value
          c.remove-table.ensures.items c.drop_into.ensures.items c.drop_into.ensures.capacity),
      unless c.self.inside.failed _ (subst (λ (ts : List Chains). IsPlaced c.forget.new.places (named ts)) c.as_slice-2.ensures.value c.forget.ensures),
    )

pub returns : goal.returns
returns g c =
    let p : place_named (named c.self.inside.tables.items) c.args.name ≡ Some c.place_in-place.result =
    ap (λ (ts : List Chains). place_named (named ts) c.args.name) (sym c.as_slice.ensures.value) ∙ c.place_in-place.ensures.value in
    let e = ap (λ (ts : List Chains). named ts) c.remove-table.ensures.items ∙ named-less c.self.inside.tables.items c.args.name c.place_in-place.result p in
    let f = ap (λ (ts : List Chains). slots_of ts) c.remove-table.ensures.items ∙ slots-less c.self.inside.tables.items c.args.name c.place_in-place.result p in
    rw (← c.self.view_is) (λ i. record { cache = c.self.inside.space.cache; tables = e i; slots = f i; failed = c.self.inside.failed })

pub forget-requires-clause-placed : goal.forget-requires-clause-placed
forget-requires-clause-placed g c =
    let l = ap length c.as_slice.ensures.value in
    let p : place_named (named c.self.inside.tables.items) c.args.name ≡ Some c.place_in-place.result =
    ap (λ (ts : List Chains). place_named (named ts) c.args.name) (sym c.as_slice.ensures.value) ∙ c.place_in-place.ensures.value in
    placed-less c.self.inside.places c.self.inside.tables.items c.as_slice-2.result.now c.place_in-place.result c.remove-table.result c.args.name
    (unless-false c.self.inside.failed _ (ap (λ s. s.failed) c.self.view_is ∙ c.requires.live) c.self.invariant.1)
    (c.as_slice-2.ensures.value ∙ c.remove-table.ensures.items) (omega (arith, l, c.place_in-place.ensures.within)) c.remove-table.ensures.value
    (name-at c.self.inside.tables.items c.args.name c.place_in-place.result c.remove-table.result p c.remove-table.ensures.value)

pub forget-requires-clause-first : goal.forget-requires-clause-first
forget-requires-clause-first g c =
    let p : place_named (named c.self.inside.tables.items) c.args.name ≡ Some c.place_in-place.result =
    ap (λ (ts : List Chains). place_named (named ts) c.args.name) (sym c.as_slice.ensures.value) ∙ c.place_in-place.ensures.value in
    first-less c.self.inside.tables.items c.as_slice-2.result.now c.place_in-place.result c.args.name
    (c.as_slice-2.ensures.value ∙ c.remove-table.ensures.items) p
