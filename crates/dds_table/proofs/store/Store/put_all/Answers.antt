use Rattle.std.proofs.lemmas.Result.{err_from_is_err_and}
use Rattle.std.proofs.lemmas.List.{take_all}
use Rattle.std.proofs.Common.{◌≤◌, List, length, ◌∙◌, subst, refl, arith}
use Rattle.dds_base.specs.declared.pair.Pair.{Pair}
use Rattle.dds_table.specs.Store.{Holds, maps_of, with_map}
use Rattle.dds_table.specs.Lift.{map_of}
use Rattle.dds_table.proofs.Stores.{told-back}
use Rattle.dds_table.proofs.OldPages.{covered-at}
use Rattle.dds_table.proofs.Refusing.{refused-stays}
use Rattle.dds_table.proofs.Lifts.{lift-start, lift-room, lift-next}
use Rattle.dds_table.proofs.store.Store.put_all.Goals as goal

pub putting-init : goal.putting-init
putting-init g c = record {
  live = c.requires.live;
  tables = refl;
  holds = λ a is. lift-start (g.D.Disk.pages c.args.self.now.cache.disk) a c.args.self.now.tables c.args.name is (c.requires.empty a is);
  untold = λ none. none;
  steady = refl;
}

pub put-requires-clause-covers : goal.put-requires-clause-covers
put-requires-clause-covers g c =
    covered-at c.args.name c.args.pairs.now c.putting.pair-index c.pair-item.result c.requires.covered (omega (arith, c.putting-test.true)) c.pair-item.is

pub put-requires-clause-room : goal.put-requires-clause-room
put-requires-clause-room g c = λ b is no.
    let o = told-back (g.D.Disk.pages c.args.self.now.cache.disk) (g.D.Disk.pages c.putting.self.cache.disk) c.putting.invariant.untold b is in
    lift-room (g.D.Disk.pages c.putting.self.cache.disk) o.0 b c.args.self.now.tables c.putting.self.tables c.args.name c.args.pairs.now c.putting.pair-index
    c.requires.there (c.putting.invariant.holds o.0 o.1) is (omega (arith, c.putting-test.true)) c.requires.few

pub returns-in_err-put-clause-lawful : goal.returns-in_err-put-clause-lawful
returns-in_err-put-clause-lawful g c = λ a is.
    let m = c.putting.invariant.holds a is in
    let p = err_from_is_err_and c.from_residual.result c.from_residual.ensures.1 in
    rw (p.1, p.2) (c.in_err-put.ensures.lawful m.pages m.is_told)

pub returns-in_err-put-clause-refused : goal.returns-in_err-put-clause-refused
returns-in_err-put-clause-refused g c =
    let p = err_from_is_err_and c.from_residual.result c.from_residual.ensures.1 in
    rw (p.1, p.2) (refused-stays _ _ _ _ c.in_err-put.ensures.stays c.in_err-put.ensures.refused)

pub putting-preserved : goal.putting-preserved
putting-preserved g c = record {
  live = c.in_ok-put.ensures.ok;
  tables = c.in_ok-put.ensures.tables ∙ c.putting.invariant.tables;
  holds = λ a is.
      let m = c.putting.invariant.holds a is in
      lift-next (g.D.Disk.pages c.putting.self.cache.disk) (g.D.Disk.pages c.put.new.self.cache.disk) a c.args.self.now.tables c.putting.self.tables
      c.put.new.self.tables c.args.name c.args.pairs.now c.putting.pair-index c.pair-item.result c.requires.there (omega (arith, c.putting-test.true))
      c.pair-item.is m (c.in_ok-put.ensures.told m.pages m.is_told);
  untold = λ none. c.in_ok-put.ensures.untold (c.putting.invariant.untold none);
  steady = c.in_ok-put.ensures.steady ∙ c.putting.invariant.steady;
}

pub returns-clause-told : goal.returns-clause-told
returns-clause-told g c = λ a is.
    let long : length c.args.pairs.now ≤ c.putting.pair-index = omega (arith, c.putting-test.false) in
    subst (λ (ps : List Pair). Holds (g.D.Disk.pages c.putting.self.cache.disk) c.putting.self.tables
    (with_map (maps_of a c.args.self.now.tables) c.args.name (map_of ps))) (take_all c.putting.pair-index c.args.pairs.now long)
    (c.putting.invariant.holds a is)
