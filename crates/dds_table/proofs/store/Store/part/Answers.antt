use Rattle.std.proofs.Common.{List, ◌≡◌, Some, length, sym, ap, ◌∙◌, arith}
use Rattle.dds_chains.specs.Content.{Map}
use Rattle.dds_table.specs.Store.{named, place_named, maps_of, map_named}
use Rattle.dds_chains.specs.declared.table.Chains.{Chains}
use Rattle.std.proofs.Common.{subst}
use Rattle.dds_chains.specs.Part.{IsPart}
use Rattle.dds_table.proofs.Stores.{unless-false, index-at, table-at, map-at}
use Rattle.dds_table.proofs.Refusing.{refused-at}
use Rattle.dds_table.proofs.store.Store.part.Goals as goal

pub read_part-requires : goal.read_part-requires
read_part-requires g c =
    let s = unless-false c.self.inside.failed _ (ap (λ s. s.failed) c.self.view_is ∙ c.requires.live) c.self.invariant.0 in
    let l = ap length c.as_slice.ensures.value in
    index-at c.self.inside.tables.items c.place_in-place.result c.index.result.now s.index (omega (arith, l, c.place_in-place.ensures.within)) c.index.ensures

pub returns-in-Err-clause-lawful : goal.returns-in-Err-clause-lawful
returns-in-Err-clause-lawful g c = λ a is.
    let s = unless-false c.self.inside.failed _ (ap (λ s. s.failed) c.self.view_is ∙ c.requires.live) c.self.invariant.0 in
    let told : g.D.Disk.pages c.self.inside.space.cache.disk ≡ Some a = ap (λ s. g.D.Disk.pages s.cache.disk) c.self.view_is ∙ is in
    let l = ap length c.as_slice.ensures.value in
    c.in-Err.ensures.lawful a told (table-at a c.self.inside.tables.items c.place_in-place.result c.index.result.now (s.stored a told)
    (omega (arith, l, c.place_in-place.ensures.within)) c.index.ensures)

pub returns-clause-told : goal.returns-clause-told
returns-clause-told g c = λ a is.
    let s = unless-false c.self.inside.failed _ (ap (λ s. s.failed) c.self.view_is ∙ c.requires.live) c.self.invariant.0 in
    let told : g.D.Disk.pages c.self.inside.space.cache.disk ≡ Some a = ap (λ s. g.D.Disk.pages s.cache.disk) c.self.view_is ∙ is in
    let l = ap length c.as_slice.ensures.value in
    let p : place_named (named c.self.inside.tables.items) c.args.name ≡ Some c.place_in-place.result =
    ap (λ (ts : List Chains). place_named (named ts) c.args.name) (sym c.as_slice.ensures.value) ∙ c.place_in-place.ensures.value in
    let tab = table-at a c.self.inside.tables.items c.place_in-place.result c.index.result.now (s.stored a told)
    (omega (arith, l, c.place_in-place.ensures.within)) c.index.ensures in
    subst (λ s. IsPart (map_named (maps_of a s.tables) c.args.name) c.args.after c.args.most c.in-Ok.part.pairs c.in-Ok.part.last) c.self.view_is
    (subst (λ (m : Map). IsPart m c.args.after c.args.most c.in-Ok.part.pairs c.in-Ok.part.last)
    (sym (map-at a c.self.inside.tables.items c.args.name c.place_in-place.result c.index.result.now p c.index.ensures)) (c.in-Ok.ensures.told a told tab))

pub returns-in-Err-clause-refused : goal.returns-in-Err-clause-refused
returns-in-Err-clause-refused g c =
    let l = ap length c.as_slice.ensures.value in
    refused-at _ c.self.inside.tables.items c.place_in-place.result c.index.result.now c.in-Err.fault (omega (arith, l, c.place_in-place.ensures.within))
    c.index.ensures c.in-Err.ensures.refused
