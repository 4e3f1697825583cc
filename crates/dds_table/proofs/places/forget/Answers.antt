use Rattle.std.proofs.Common.{◌≡◌, ◌-◌, ◌<◌, suc, length, ap, ◌∙◌, arith}
use Rattle.std.specs.BTreeMap as tree
use Rattle.dds_table.specs.Store.{named}
use Rattle.dds_table.specs.Places.{name_cmp, moved_place}
use Rattle.dds_table.proofs.TablePlaces.{moved-init, moved-step, moved-end, split-named, length-named}
use Rattle.dds_table.proofs.places.forget.Goals as goal

pub moving-init : goal.moving-init
moving-init c =
    let l = length-named c.args.tables.now in
    record {
      above = c.requires.within;
      within = omega arith;
      placed = λ n. c.requires.placed n ∙ moved-init (named c.args.tables.now) c.args.at c.args.name.now n (length c.args.tables.now)
          (omega (arith, l, c.requires.within)) (omega (arith, l));
    }

pub moving-preserved : goal.moving-preserved
moving-preserved c =
    let ts = named c.args.tables.now in
    let l = length-named c.args.tables.now in
    let p = c.moving.place - 1 in
    let one : c.moving.place ≡ suc p = omega (arith, c.moving-test.true) in
    let below : p < length c.args.tables.now = omega (arith, c.moving-test.true, c.moving.invariant.within) in
    record {
      above = omega (arith, c.moving-test.true);
      within = omega (arith, c.moving.invariant.within);
      placed = λ n. c.move_to.ensures n ∙ moved-step ts c.args.at c.args.name.now n c.index-tables-place.result.name c.index-tables-place.result.root p
          (tree.get name_cmp c.moving.places n) (omega (arith, c.moving-test.true)) (omega (arith, l, below))
          (split-named c.args.tables.now p c.index-tables-place.result below c.index-tables-place.is)
          (c.moving.invariant.placed n ∙ ap (λ k. moved_place ts c.args.at c.args.name.now k n) one);
    }

pub returns : goal.returns
returns c n =
    let ts = named c.args.tables.now in
    let l = length-named c.args.tables.now in
    let end : c.moving.place ≡ c.args.at = omega (arith, c.moving-test.false, c.moving.invariant.above) in
    c.forget_stale.ensures n ∙ moved-end ts c.args.at c.args.name.now n _ _ (omega (arith, l, c.requires.within))
    (c.moving.invariant.placed c.args.name.now ∙ ap (λ k. moved_place ts c.args.at c.args.name.now k c.args.name.now) end)
    (c.moving.invariant.placed n ∙ ap (λ k. moved_place ts c.args.at c.args.name.now k n) end)
