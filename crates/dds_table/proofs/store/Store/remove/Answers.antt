use Rattle.std.proofs.Common.{refl, List, ◌≡◌, ◌<◌, Some, length, sym, ap, ◌∙◌, arith}
use Rattle.std.specs.FinMap.{remove as without, contains_key}
use Rattle.dds_chains.specs.Content.{Map}
use Rattle.dds_table.specs.Store.{named, place_named, maps_of, map_named}
use Rattle.dds_chains.specs.declared.table.Chains.{Chains}
use Rattle.dds_table.proofs.Stores.{named-set, unless-false, index-at, table-at, uses-at, map-at, changed-named, store-after, holds-after}
use Rattle.dds_table.proofs.TablePlaces.{placed-kept}
use Rattle.dds_table.proofs.Refusing.{refused-at, slots-stay}
use Rattle.std.proofs.Common.{◌==◌, ◌&&◌, not, Bool}
use Rattle.dds_table.proofs.Knowing.{knows-at, knows-set}
use Rattle.dds_table.proofs.store.Store.remove.Goals as goal

pub unbind-requires-clause-index : goal.unbind-requires-clause-index
unbind-requires-clause-index g c =
    let s = unless-false c.self.inside.failed _ (ap (λ s. s.failed) c.self.view_is ∙ c.requires.live) c.self.invariant.0 in
    let l = ap length c.as_slice.ensures.value in
    index-at c.self.inside.tables.items c.place_in-place.result c.index_mut.result.now s.index (omega (arith, l, c.place_in-place.ensures.within))
    c.index_mut.ensures.value

pub unbind-requires-clause-single : goal.unbind-requires-clause-single
unbind-requires-clause-single g c = λ n.
    let s = unless-false c.self.inside.failed _ (ap (λ s. s.failed) c.self.view_is ∙ c.requires.live) c.self.invariant.0 in
    let l = ap length c.as_slice.ensures.value in
    let u = uses-at n c.self.inside.tables.items c.place_in-place.result c.index_mut.result.now (omega (arith, l, c.place_in-place.ensures.within))
    c.index_mut.ensures.value in
    let b = s.balance n in
    omega (arith, u, b)

pub returns-in-Err-clause-lawful : goal.returns-in-Err-clause-lawful
returns-in-Err-clause-lawful g c = λ a is.
    let s = unless-false c.self.inside.failed _ (ap (λ s. s.failed) c.self.view_is ∙ c.requires.live) c.self.invariant.0 in
    let told : g.D.Disk.pages c.self.inside.space.cache.disk ≡ Some a = ap (λ s. g.D.Disk.pages s.cache.disk) c.self.view_is ∙ is in
    let l = ap length c.as_slice.ensures.value in
    c.in-Err.ensures.lawful a told (table-at a c.self.inside.tables.items c.place_in-place.result c.index_mut.result.now (s.stored a told)
    (omega (arith, l, c.place_in-place.ensures.within)) c.index_mut.ensures.value)

pub invariant_of-self-2 : goal.invariant_of-self-2
invariant_of-self-2 g c =
    let s = unless-false c.self.inside.failed _ (ap (λ s. s.failed) c.self.view_is ∙ c.requires.live) c.self.invariant.0 in
    let l = ap length c.as_slice.ensures.value in
    let below : c.place_in-place.result < length c.self.inside.tables.items = omega (arith, l, c.place_in-place.ensures.within) in
    let p : place_named (named c.self.inside.tables.items) c.args.name ≡ Some c.place_in-place.result =
    ap (λ (ts : List Chains). place_named (named ts) c.args.name) (sym c.as_slice.ensures.value) ∙ c.place_in-place.ensures.value in (
      store-after _ _ _ _ _ _ c.self.inside.tables.items _ c.args.name c.place_in-place.result c.index_mut.result.now c.unbind.new.table
          (λ a. without (map_named (maps_of a (named c.self.inside.tables.items)) c.args.name) c.args.key) s below c.index_mut.ensures.value p refl
          c.in-Ok.ensures.name c.in-Ok.ensures.index c.in-Ok.ensures.number
          (λ a is tab. changed-named a _ _ c.index_mut.result.now _ c.unbind.new.table c.self.inside.tables.items c.args.name c.place_in-place.result
          (λ (m : Map). without m c.args.key) p c.index_mut.ensures.value (c.in-Ok.ensures.told a is tab))
          c.in-Ok.ensures.untold,
      placed-kept c.self.inside.places _ (named c.self.inside.tables.items)
          (named-set c.self.inside.tables.items c.place_in-place.result c.index_mut.result.now _ below c.index_mut.ensures.value c.in-Ok.ensures.name
          c.in-Ok.ensures.root) (unless-false c.self.inside.failed _ (ap (λ s. s.failed) c.self.view_is ∙ c.requires.live) c.self.invariant.1),
    )

pub returns-clause-told : goal.returns-clause-told
returns-clause-told g c = λ a is.
    let s = unless-false c.self.inside.failed _ (ap (λ s. s.failed) c.self.view_is ∙ c.requires.live) c.self.invariant.0 in
    let told : g.D.Disk.pages c.self.inside.space.cache.disk ≡ Some a = ap (λ s. g.D.Disk.pages s.cache.disk) c.self.view_is ∙ is in
    let l = ap length c.as_slice.ensures.value in
    let below : c.place_in-place.result < length c.self.inside.tables.items = omega (arith, l, c.place_in-place.ensures.within) in
    let p : place_named (named c.self.inside.tables.items) c.args.name ≡ Some c.place_in-place.result =
    ap (λ (ts : List Chains). place_named (named ts) c.args.name) (sym c.as_slice.ensures.value) ∙ c.place_in-place.ensures.value in
    let tab = table-at a c.self.inside.tables.items c.place_in-place.result c.index_mut.result.now (s.stored a told) below c.index_mut.ensures.value in
    let w = changed-named a _ _ c.index_mut.result.now _ c.unbind.new.table c.self.inside.tables.items c.args.name c.place_in-place.result
    (λ (m : Map). without m c.args.key) p c.index_mut.ensures.value (c.in-Ok.ensures.told a told tab) in
    rw (← c.self.view_is) (holds-after _ _ _ c.unbind.new.space.free.items _ c.unbind.new.space.fresh c.self.inside.tables.items c.args.name
    c.place_in-place.result c.index_mut.result.now c.unbind.new.table _ s below c.index_mut.ensures.value p c.in-Ok.ensures.name a told w)

pub returns-clause-was : goal.returns-clause-was
returns-clause-was g c = λ a is.
    let s = unless-false c.self.inside.failed _ (ap (λ s. s.failed) c.self.view_is ∙ c.requires.live) c.self.invariant.0 in
    let told : g.D.Disk.pages c.self.inside.space.cache.disk ≡ Some a = ap (λ s. g.D.Disk.pages s.cache.disk) c.self.view_is ∙ is in
    let l = ap length c.as_slice.ensures.value in
    let p : place_named (named c.self.inside.tables.items) c.args.name ≡ Some c.place_in-place.result =
    ap (λ (ts : List Chains). place_named (named ts) c.args.name) (sym c.as_slice.ensures.value) ∙ c.place_in-place.ensures.value in
    let tab = table-at a c.self.inside.tables.items c.place_in-place.result c.index_mut.result.now (s.stored a told)
    (omega (arith, l, c.place_in-place.ensures.within)) c.index_mut.ensures.value in
    c.in-Ok.ensures.was a told tab ∙ ap (λ (m : Map). contains_key m c.args.key)
    (sym (map-at a c.self.inside.tables.items c.args.name c.place_in-place.result c.index_mut.result.now p c.index_mut.ensures.value))
    ∙ ap (λ s. contains_key (map_named (maps_of a s.tables) c.args.name) c.args.key) c.self.view_is

pub returns-clause-tables : goal.returns-clause-tables
returns-clause-tables g c =
    let l = ap length c.as_slice.ensures.value in
    rw (← c.self.view_is) (named-set c.self.inside.tables.items c.place_in-place.result c.index_mut.result.now _
    (omega (arith, l, c.place_in-place.ensures.within)) c.index_mut.ensures.value c.in-Ok.ensures.name c.in-Ok.ensures.root)

pub returns-in-Err-clause-refused : goal.returns-in-Err-clause-refused
returns-in-Err-clause-refused g c =
    let l = ap length c.as_slice.ensures.value in
    rw (← c.self.view_is) (refused-at _ c.self.inside.tables.items c.place_in-place.result c.index_mut.result.now c.in-Err.fault
    (omega (arith, l, c.place_in-place.ensures.within)) c.index_mut.ensures.value c.in-Err.ensures.refused)

pub returns-in-Err-clause-stays : goal.returns-in-Err-clause-stays
returns-in-Err-clause-stays g c =
    let l = ap length c.as_slice.ensures.value in
    rw (← c.self.view_is) (slots-stay c.self.inside.tables.items c.place_in-place.result c.index_mut.result.now c.unbind.new.table c.in-Err.fault
    (omega (arith, l, c.place_in-place.ensures.within)) c.index_mut.ensures.value c.in-Err.ensures.stays)

pub returns-clause-known : goal.returns-clause-known
returns-clause-known g c =
    let p : place_named (named c.self.inside.tables.items) c.args.name ≡ Some c.place_in-place.result =
    ap (λ (ts : List Chains). place_named (named ts) c.args.name) (sym c.as_slice.ensures.value) ∙ c.place_in-place.ensures.value in
    rw (← c.self.view_is) (c.in-Ok.ensures.known ∙ knows-at c.self.inside.tables.items c.args.name c.place_in-place.result c.index_mut.result.now c.args.key p
    c.index_mut.ensures.value)

pub returns-clause-keys : goal.returns-clause-keys
returns-clause-keys g c =
    let l = ap length c.as_slice.ensures.value in
    let below : c.place_in-place.result < length c.self.inside.tables.items = omega (arith, l, c.place_in-place.ensures.within) in
    let p : place_named (named c.self.inside.tables.items) c.args.name ≡ Some c.place_in-place.result =
    ap (λ (ts : List Chains). place_named (named ts) c.args.name) (sym c.as_slice.ensures.value) ∙ c.place_in-place.ensures.value in
    rw (← c.self.view_is) (λ q. knows-set c.self.inside.tables.items c.args.name c.place_in-place.result c.unbind.new.table q p below
    (named-set c.self.inside.tables.items c.place_in-place.result c.index_mut.result.now _ below c.index_mut.ensures.value c.in-Ok.ensures.name
    c.in-Ok.ensures.root)
    ∙ c.in-Ok.ensures.keys q ∙ ap (λ (b : Bool). not (c.args.key == q) && b)
    (knows-at c.self.inside.tables.items c.args.name c.place_in-place.result c.index_mut.result.now q p c.index_mut.ensures.value))
