use Rattle.std.proofs.Common.{List, ◌≡◌, ◌<◌, Some, length, sym, ap, ◌∙◌, arith}
use Rattle.std.specs.FinMap.{len as size}
use Rattle.dds_chains.specs.Content.{Map}
use Rattle.dds_table.specs.Store.{named, place_named, maps_of, map_named}
use Rattle.dds_chains.specs.declared.table.Chains.{Chains}
use Rattle.dds_chains.proofs.Contents.{content-len}
use Rattle.dds_table.proofs.Stores.{unless-false, index-at, table-at, map-at}
use Rattle.dds_table.proofs.store.Store.len.Goals as goal

pub returns-clause-told : goal.returns-clause-told
returns-clause-told g c = λ a is.
    let s = unless-false c.self.inside.failed _ (ap (λ s. s.failed) c.self.view_is ∙ c.requires.live) c.self.invariant.0 in
    let told : g.D.Disk.pages c.self.inside.space.cache.disk ≡ Some a = ap (λ s. g.D.Disk.pages s.cache.disk) c.self.view_is ∙ is in
    let l = ap length c.as_slice.ensures.value in
    let below : c.place_in-place.result < length c.self.inside.tables.items = omega (arith, l, c.place_in-place.ensures.within) in
    let p : place_named (named c.self.inside.tables.items) c.args.name ≡ Some c.place_in-place.result =
    ap (λ (ts : List Chains). place_named (named ts) c.args.name) (sym c.as_slice.ensures.value) ∙ c.place_in-place.ensures.value in
    let x = index-at c.self.inside.tables.items c.place_in-place.result c.index-table.result.now s.index below c.index-table.ensures in
    let tab = table-at a c.self.inside.tables.items c.place_in-place.result c.index-table.result.now (s.stored a told) below c.index-table.ensures in
    sym (content-len a c.index-table.result.now x tab) ∙ ap (λ (m : Map). size m)
    (sym (map-at a c.self.inside.tables.items c.args.name c.place_in-place.result c.index-table.result.now p c.index-table.ensures))
    ∙ ap (λ s. size (map_named (maps_of a s.tables) c.args.name)) c.self.view_is

pub returns-clause-most : goal.returns-clause-most
returns-clause-most g c =
    let s = unless-false c.self.inside.failed _ (ap (λ s. s.failed) c.self.view_is ∙ c.requires.live) c.self.invariant.0 in
    let l = ap length c.as_slice.ensures.value in
    (index-at c.self.inside.tables.items c.place_in-place.result c.index-table.result.now s.index (omega (arith, l, c.place_in-place.ensures.within))
    c.index-table.ensures).few
