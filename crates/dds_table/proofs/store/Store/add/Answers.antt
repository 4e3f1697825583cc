use Rattle.std.specs.Prelude.{vec_capacity}
use Rattle.dds_table.specs.Store.{IsStore, named}
use Rattle.dds_table.specs.Places.{IsPlaced}
use Rattle.dds_chains.specs.declared.table.Chains.{Chains}
use Rattle.std.proofs.Common.{List, [], ◌∷◌, ◌++◌, sym, arith, length, subst, ◌≡◌, Some, ap, ◌∙◌}
use Rattle.dds_table.proofs.Stores.{unless-false, store-reclaimed, store-made, holds-made, names-more}
use Rattle.dds_table.proofs.TablePlaces.{placed-more}
use Rattle.dds_table.proofs.store.Store.add.Goals as goal

pub invariant_of-self-2 : goal.invariant_of-self-2
invariant_of-self-2 g c =
    let s0 = unless-false c.self.inside.failed _ (ap (λ s. s.failed) c.self.view_is ∙ c.requires.live) c.self.invariant.0 in
    let same : g.D.Disk.pages c.reclaim.new.space.cache.disk ≡ g.D.Disk.pages c.self.inside.space.cache.disk =
    ap (λ k. g.D.Disk.pages k.disk) c.in_ok-reclaim.ensures.cache in
    let s = store-reclaimed (g.D.Disk.pages c.reclaim.new.space.cache.disk) c.reclaim.new.space.free.items c.reclaim.new.space.fresh c.reclaim.new.dropped.items
    (vec_capacity c.reclaim.new.dropped) s0 same c.in_ok-reclaim.ensures.number c.in_ok-reclaim.ensures.shorter c.in_ok-reclaim.ensures.capacity in (
      subst (λ (ds : List Chains). IsStore (g.D.Disk.pages c.create.new.space.cache.disk) c.create.new.space.free.items c.create.new.space.fresh
          c.push.new.tables.items ds (vec_capacity c.reserve.new.tables)) (sym c.in_ok-reserve.ensures.items)
          (store-made (vec_capacity c.reserve.new.tables) _ _ _ _ _ _ c.self.inside.tables.items c.push.new.tables.items c.in_ok-table.table s
          c.in_ok-push.ensures c.in_ok-table.ensures.index c.in_ok-table.ensures.number c.in_ok-table.ensures.told c.in_ok-table.ensures.untold
          (let l = ap length c.in_ok-reserve.ensures.items in omega (arith, l, c.in_ok-reserve.ensures.room, c.len.ensures))),
      placed-more c.note.new.places c.self.inside.tables.items c.push.new.tables.items c.in_ok-table.table c.args.name
          (λ root. subst (λ (ts : List Chains). IsPlaced c.note.new.places (named ts ++ (c.args.name, root) ∷ [])) c.as_slice.ensures.value
          (c.in_ok-note.ensures root)) c.in_ok-push.ensures c.in_ok-table.ensures.name,
    )

pub returns-clause-told : goal.returns-clause-told
returns-clause-told g c = λ a is.
    let s0 = unless-false c.self.inside.failed _ (ap (λ s. s.failed) c.self.view_is ∙ c.requires.live) c.self.invariant.0 in
    let same : g.D.Disk.pages c.reclaim.new.space.cache.disk ≡ g.D.Disk.pages c.self.inside.space.cache.disk =
    ap (λ k. g.D.Disk.pages k.disk) c.in_ok-reclaim.ensures.cache in
    let s = store-reclaimed (g.D.Disk.pages c.reclaim.new.space.cache.disk) c.reclaim.new.space.free.items c.reclaim.new.space.fresh c.reclaim.new.dropped.items
    (vec_capacity c.reclaim.new.dropped) s0 same c.in_ok-reclaim.ensures.number c.in_ok-reclaim.ensures.shorter c.in_ok-reclaim.ensures.capacity in
    let told : g.D.Disk.pages c.reclaim.new.space.cache.disk ≡ Some a = same ∙ ap (λ s. g.D.Disk.pages s.cache.disk) c.self.view_is ∙ is in
    rw (← c.self.view_is) (holds-made _ _ _ _ c.self.inside.tables.items c.push.new.tables.items c.in_ok-table.table c.args.name s c.in_ok-push.ensures
    c.in_ok-table.ensures.name a told (c.in_ok-table.ensures.told a told))

pub returns-clause-names : goal.returns-clause-names
returns-clause-names g c = rw (← c.self.view_is) (names-more c.self.inside.tables.items c.push.new.tables.items c.in_ok-table.table c.args.name
    c.in_ok-push.ensures c.in_ok-table.ensures.name)
