use Rattle.std.specs.Prelude.{vec_capacity}
use Rattle.std.proofs.Common.{refl, List, ◌≡◌, ◌<◌, Some, false, IsTrue, length, sym, ap, subst, ◌∙◌, arith}
use Rattle.std.specs.FinMap.{insert, contains_key, len as size}
use Rattle.dds_disk.specs.Pages.{Pages}
use Rattle.dds_base.specs.Name.{Name, covers}
use Rattle.dds_chains.specs.Content.{Map}
use Rattle.dds_table.specs.Store.{named, place_named, maps_of, map_named}
use Rattle.dds_chains.specs.declared.table.Chains.{Chains}
use Rattle.dds_table.proofs.Stores.{named-set, unless-false, store-reclaimed, index-at, table-at, name-at, uses-at, map-at, changed-named, room-named}
use Rattle.dds_table.proofs.Stores.{store-after, holds-after}
use Rattle.dds_table.proofs.TablePlaces.{placed-kept}
use Rattle.dds_table.proofs.Refusing.{refused-at, slots-stay}
use Rattle.std.proofs.Common.{◌==◌, ◌||◌, Bool}
use Rattle.dds_table.proofs.Knowing.{knows-at, knows-set}
use Rattle.dds_table.proofs.store.Store.put.Goals as goal

pub bind-requires-clause-index : goal.bind-requires-clause-index
bind-requires-clause-index g c =
    let s0 = unless-false c.self.inside.failed _ (ap (λ s. s.failed) c.self.view_is ∙ c.requires.live) c.self.invariant.0 in
    let same : g.D.Disk.pages c.reclaim.new.space.cache.disk ≡ g.D.Disk.pages c.self.inside.space.cache.disk =
    ap (λ k. g.D.Disk.pages k.disk) c.in_ok-reclaim.ensures.cache in
    let s = store-reclaimed (g.D.Disk.pages c.reclaim.new.space.cache.disk) c.reclaim.new.space.free.items c.reclaim.new.space.fresh c.reclaim.new.dropped.items
    (vec_capacity c.reclaim.new.dropped) s0 same c.in_ok-reclaim.ensures.number c.in_ok-reclaim.ensures.shorter c.in_ok-reclaim.ensures.capacity in
    let l = ap length c.as_slice.ensures.value in
    index-at c.self.inside.tables.items c.place_in-place.result c.index_mut.result.now s.index (omega (arith, l, c.place_in-place.ensures.within))
    c.index_mut.ensures.value

pub bind-requires-clause-covers : goal.bind-requires-clause-covers
bind-requires-clause-covers g c =
    let p : place_named (named c.self.inside.tables.items) c.args.name ≡ Some c.place_in-place.result =
    ap (λ (ts : List Chains). place_named (named ts) c.args.name) (sym c.as_slice.ensures.value) ∙ c.place_in-place.ensures.value in
    subst (λ (n : Name). IsTrue (covers n c.args.key)) (sym (name-at c.self.inside.tables.items c.args.name c.place_in-place.result c.index_mut.result.now p
    c.index_mut.ensures.value)) c.requires.covers

pub bind-requires-clause-single : goal.bind-requires-clause-single
bind-requires-clause-single g c = λ n.
    let s0 = unless-false c.self.inside.failed _ (ap (λ s. s.failed) c.self.view_is ∙ c.requires.live) c.self.invariant.0 in
    let same : g.D.Disk.pages c.reclaim.new.space.cache.disk ≡ g.D.Disk.pages c.self.inside.space.cache.disk =
    ap (λ k. g.D.Disk.pages k.disk) c.in_ok-reclaim.ensures.cache in
    let s = store-reclaimed (g.D.Disk.pages c.reclaim.new.space.cache.disk) c.reclaim.new.space.free.items c.reclaim.new.space.fresh c.reclaim.new.dropped.items
    (vec_capacity c.reclaim.new.dropped) s0 same c.in_ok-reclaim.ensures.number c.in_ok-reclaim.ensures.shorter c.in_ok-reclaim.ensures.capacity in
    let l = ap length c.as_slice.ensures.value in
    let u = uses-at n c.self.inside.tables.items c.place_in-place.result c.index_mut.result.now (omega (arith, l, c.place_in-place.ensures.within))
    c.index_mut.ensures.value in
    let b = s.balance n in
    omega (arith, u, b)

pub returns-in-Err-clause-lawful : goal.returns-in-Err-clause-lawful
returns-in-Err-clause-lawful g c = λ a is.
    let s0 = unless-false c.self.inside.failed _ (ap (λ s. s.failed) c.self.view_is ∙ c.requires.live) c.self.invariant.0 in
    let same : g.D.Disk.pages c.reclaim.new.space.cache.disk ≡ g.D.Disk.pages c.self.inside.space.cache.disk =
    ap (λ k. g.D.Disk.pages k.disk) c.in_ok-reclaim.ensures.cache in
    let s = store-reclaimed (g.D.Disk.pages c.reclaim.new.space.cache.disk) c.reclaim.new.space.free.items c.reclaim.new.space.fresh c.reclaim.new.dropped.items
    (vec_capacity c.reclaim.new.dropped) s0 same c.in_ok-reclaim.ensures.number c.in_ok-reclaim.ensures.shorter c.in_ok-reclaim.ensures.capacity in
    let told : g.D.Disk.pages c.reclaim.new.space.cache.disk ≡ Some a = same ∙ ap (λ s. g.D.Disk.pages s.cache.disk) c.self.view_is ∙ is in
    let l = ap length c.as_slice.ensures.value in
    c.in-Err.ensures.lawful a told (table-at a c.self.inside.tables.items c.place_in-place.result c.index_mut.result.now (s.stored a told)
    (omega (arith, l, c.place_in-place.ensures.within)) c.index_mut.ensures.value)

pub invariant_of-self-2 : goal.invariant_of-self-2
invariant_of-self-2 g c =
    let s0 = unless-false c.self.inside.failed _ (ap (λ s. s.failed) c.self.view_is ∙ c.requires.live) c.self.invariant.0 in
    let same : g.D.Disk.pages c.reclaim.new.space.cache.disk ≡ g.D.Disk.pages c.self.inside.space.cache.disk =
    ap (λ k. g.D.Disk.pages k.disk) c.in_ok-reclaim.ensures.cache in
    let s = store-reclaimed (g.D.Disk.pages c.reclaim.new.space.cache.disk) c.reclaim.new.space.free.items c.reclaim.new.space.fresh c.reclaim.new.dropped.items
    (vec_capacity c.reclaim.new.dropped) s0 same c.in_ok-reclaim.ensures.number c.in_ok-reclaim.ensures.shorter c.in_ok-reclaim.ensures.capacity in
    let l = ap length c.as_slice.ensures.value in
    let below : c.place_in-place.result < length c.self.inside.tables.items = omega (arith, l, c.place_in-place.ensures.within) in
    let p : place_named (named c.self.inside.tables.items) c.args.name ≡ Some c.place_in-place.result =
    ap (λ (ts : List Chains). place_named (named ts) c.args.name) (sym c.as_slice.ensures.value) ∙ c.place_in-place.ensures.value in
    let room : (a : Pages) → g.D.Disk.pages c.self.inside.space.cache.disk ≡ Some a
    → contains_key (map_named (maps_of a (named c.self.inside.tables.items)) c.args.name) c.args.key ≡ false
    → size (map_named (maps_of a (named c.self.inside.tables.items)) c.args.name) < 16384 =
    subst (λ s. (a : Pages) → g.D.Disk.pages s.cache.disk ≡ Some a → contains_key (map_named (maps_of a s.tables) c.args.name) c.args.key ≡ false
    → size (map_named (maps_of a s.tables) c.args.name) < 16384) (sym c.self.view_is) c.requires.room in
    let x = index-at c.self.inside.tables.items c.place_in-place.result c.index_mut.result.now s.index below c.index_mut.ensures.value in (
      store-after _ _ _ _ _ _ c.self.inside.tables.items _ c.args.name c.place_in-place.result c.index_mut.result.now c.bind.new.table
          (λ a. insert (map_named (maps_of a (named c.self.inside.tables.items)) c.args.name) c.args.key c.args.value.now) s below c.index_mut.ensures.value p
          refl c.in-Ok.ensures.name c.in-Ok.ensures.index c.in-Ok.ensures.number
          (λ a is tab. changed-named a _ _ c.index_mut.result.now _ c.bind.new.table c.self.inside.tables.items c.args.name c.place_in-place.result
          (λ (m : Map). insert m c.args.key c.args.value.now) p c.index_mut.ensures.value
          (c.in-Ok.ensures.told a is tab (room-named a c.self.inside.tables.items c.args.name c.place_in-place.result c.index_mut.result.now c.args.key p
          c.index_mut.ensures.value x tab (room a (sym same ∙ is)))))
          c.in-Ok.ensures.untold,
      placed-kept c.self.inside.places _ (named c.self.inside.tables.items)
          (named-set c.self.inside.tables.items c.place_in-place.result c.index_mut.result.now _ below c.index_mut.ensures.value c.in-Ok.ensures.name
          c.in-Ok.ensures.root) (unless-false c.self.inside.failed _ (ap (λ s. s.failed) c.self.view_is ∙ c.requires.live) c.self.invariant.1),
    )

pub returns-clause-told : goal.returns-clause-told
returns-clause-told g c = λ a is.
    let s0 = unless-false c.self.inside.failed _ (ap (λ s. s.failed) c.self.view_is ∙ c.requires.live) c.self.invariant.0 in
    let same : g.D.Disk.pages c.reclaim.new.space.cache.disk ≡ g.D.Disk.pages c.self.inside.space.cache.disk =
    ap (λ k. g.D.Disk.pages k.disk) c.in_ok-reclaim.ensures.cache in
    let s = store-reclaimed (g.D.Disk.pages c.reclaim.new.space.cache.disk) c.reclaim.new.space.free.items c.reclaim.new.space.fresh c.reclaim.new.dropped.items
    (vec_capacity c.reclaim.new.dropped) s0 same c.in_ok-reclaim.ensures.number c.in_ok-reclaim.ensures.shorter c.in_ok-reclaim.ensures.capacity in
    let told : g.D.Disk.pages c.reclaim.new.space.cache.disk ≡ Some a = same ∙ ap (λ s. g.D.Disk.pages s.cache.disk) c.self.view_is ∙ is in
    let l = ap length c.as_slice.ensures.value in
    let below : c.place_in-place.result < length c.self.inside.tables.items = omega (arith, l, c.place_in-place.ensures.within) in
    let p : place_named (named c.self.inside.tables.items) c.args.name ≡ Some c.place_in-place.result =
    ap (λ (ts : List Chains). place_named (named ts) c.args.name) (sym c.as_slice.ensures.value) ∙ c.place_in-place.ensures.value in
    let room : (a : Pages) → g.D.Disk.pages c.self.inside.space.cache.disk ≡ Some a
    → contains_key (map_named (maps_of a (named c.self.inside.tables.items)) c.args.name) c.args.key ≡ false
    → size (map_named (maps_of a (named c.self.inside.tables.items)) c.args.name) < 16384 =
    subst (λ s. (a : Pages) → g.D.Disk.pages s.cache.disk ≡ Some a → contains_key (map_named (maps_of a s.tables) c.args.name) c.args.key ≡ false
    → size (map_named (maps_of a s.tables) c.args.name) < 16384) (sym c.self.view_is) c.requires.room in
    let x = index-at c.self.inside.tables.items c.place_in-place.result c.index_mut.result.now s.index below c.index_mut.ensures.value in
    let tab = table-at a c.self.inside.tables.items c.place_in-place.result c.index_mut.result.now (s.stored a told) below c.index_mut.ensures.value in
    let w = changed-named a _ _ c.index_mut.result.now _ c.bind.new.table c.self.inside.tables.items c.args.name c.place_in-place.result
    (λ (m : Map). insert m c.args.key c.args.value.now) p c.index_mut.ensures.value
    (c.in-Ok.ensures.told a told tab (room-named a c.self.inside.tables.items c.args.name c.place_in-place.result c.index_mut.result.now c.args.key p
    c.index_mut.ensures.value x tab (room a (sym same ∙ told)))) in
    rw (← c.self.view_is) (holds-after _ _ _ c.bind.new.space.free.items _ c.bind.new.space.fresh c.self.inside.tables.items c.args.name c.place_in-place.result
    c.index_mut.result.now c.bind.new.table _ s below c.index_mut.ensures.value p c.in-Ok.ensures.name a told w)

pub returns-clause-was : goal.returns-clause-was
returns-clause-was g c = λ a is.
    let s0 = unless-false c.self.inside.failed _ (ap (λ s. s.failed) c.self.view_is ∙ c.requires.live) c.self.invariant.0 in
    let same : g.D.Disk.pages c.reclaim.new.space.cache.disk ≡ g.D.Disk.pages c.self.inside.space.cache.disk =
    ap (λ k. g.D.Disk.pages k.disk) c.in_ok-reclaim.ensures.cache in
    let s = store-reclaimed (g.D.Disk.pages c.reclaim.new.space.cache.disk) c.reclaim.new.space.free.items c.reclaim.new.space.fresh c.reclaim.new.dropped.items
    (vec_capacity c.reclaim.new.dropped) s0 same c.in_ok-reclaim.ensures.number c.in_ok-reclaim.ensures.shorter c.in_ok-reclaim.ensures.capacity in
    let told : g.D.Disk.pages c.reclaim.new.space.cache.disk ≡ Some a = same ∙ ap (λ s. g.D.Disk.pages s.cache.disk) c.self.view_is ∙ is in
    let l = ap length c.as_slice.ensures.value in
    let p : place_named (named c.self.inside.tables.items) c.args.name ≡ Some c.place_in-place.result =
    ap (λ (ts : List Chains). place_named (named ts) c.args.name) (sym c.as_slice.ensures.value) ∙ c.place_in-place.ensures.value in
    let tab = table-at a c.self.inside.tables.items c.place_in-place.result c.index_mut.result.now (s.stored a told)
    (omega (arith, l, c.place_in-place.ensures.within)) c.index_mut.ensures.value in
    c.in-Ok.ensures.was a told tab ∙ ap (λ (m : Map). contains_key m c.args.key)
    (sym (map-at a c.self.inside.tables.items c.args.name c.place_in-place.result c.index_mut.result.now p c.index_mut.ensures.value))
    ∙ ap (λ s. contains_key (map_named (maps_of a s.tables) c.args.name) c.args.key) c.self.view_is

pub returns-clause-tables : goal.returns-clause-tables
returns-clause-tables g c =
    let l = ap length c.as_slice.ensures.value in
    rw (← c.self.view_is) (named-set c.self.inside.tables.items c.place_in-place.result c.index_mut.result.now _
    (omega (arith, l, c.place_in-place.ensures.within)) c.index_mut.ensures.value c.in-Ok.ensures.name c.in-Ok.ensures.root)

pub returns-in-Err-clause-refused : goal.returns-in-Err-clause-refused
returns-in-Err-clause-refused g c =
    let l = ap length c.as_slice.ensures.value in
    rw (← c.self.view_is) (refused-at _ c.self.inside.tables.items c.place_in-place.result c.index_mut.result.now c.in-Err.fault
    (omega (arith, l, c.place_in-place.ensures.within)) c.index_mut.ensures.value c.in-Err.ensures.refused)

pub returns-in-Err-clause-stays : goal.returns-in-Err-clause-stays
returns-in-Err-clause-stays g c =
    let l = ap length c.as_slice.ensures.value in
    rw (← c.self.view_is) (slots-stay c.self.inside.tables.items c.place_in-place.result c.index_mut.result.now c.bind.new.table c.in-Err.fault
    (omega (arith, l, c.place_in-place.ensures.within)) c.index_mut.ensures.value c.in-Err.ensures.stays)

pub returns-clause-known : goal.returns-clause-known
returns-clause-known g c =
    let p : place_named (named c.self.inside.tables.items) c.args.name ≡ Some c.place_in-place.result =
    ap (λ (ts : List Chains). place_named (named ts) c.args.name) (sym c.as_slice.ensures.value) ∙ c.place_in-place.ensures.value in
    rw (← c.self.view_is) (c.in-Ok.ensures.known ∙ knows-at c.self.inside.tables.items c.args.name c.place_in-place.result c.index_mut.result.now c.args.key p
    c.index_mut.ensures.value)

pub returns-clause-keys : goal.returns-clause-keys
returns-clause-keys g c =
    let l = ap length c.as_slice.ensures.value in
    let below : c.place_in-place.result < length c.self.inside.tables.items = omega (arith, l, c.place_in-place.ensures.within) in
    let p : place_named (named c.self.inside.tables.items) c.args.name ≡ Some c.place_in-place.result =
    ap (λ (ts : List Chains). place_named (named ts) c.args.name) (sym c.as_slice.ensures.value) ∙ c.place_in-place.ensures.value in
    rw (← c.self.view_is) (λ q. knows-set c.self.inside.tables.items c.args.name c.place_in-place.result c.bind.new.table q p below
    (named-set c.self.inside.tables.items c.place_in-place.result c.index_mut.result.now _ below c.index_mut.ensures.value c.in-Ok.ensures.name
    c.in-Ok.ensures.root)
    ∙ c.in-Ok.ensures.keys q ∙ ap (λ (b : Bool). c.args.key == q || b)
    (knows-at c.self.inside.tables.items c.args.name c.place_in-place.result c.index_mut.result.now q p c.index_mut.ensures.value))
