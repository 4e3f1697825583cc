use Rattle.std.proofs.lemmas.Result.{err_from_is_err_and}
use Rattle.std.proofs.Common.{◌-◌, ◌+◌, ◌∷◌, [], ap, ◌∙◌, arith}
use Rattle.dds_groups.specs.Names.{low_half, high_half}
use Rattle.dds_table.specs.Store.{names}
use Rattle.dds_table.proofs.Stores.{told-back}
use Rattle.dds_table.proofs.NamedMaps.{names-without, there-still, there-low, there-high}
use Rattle.dds_table.proofs.Splits.{holds-split}
use Rattle.dds_table.proofs.Parted.{parted}
use Rattle.dds_table.proofs.Turns.{names-two, moves-start, moves-room, moves-turn}
use Rattle.dds_table.proofs.store.Store.split.Goals as goal

pub len-most-requires-clause-there : goal.len-most-requires-clause-there
len-most-requires-clause-there g c =
    there-still c.args.self.now.tables c.add-2.new.self.tables c.args.name (low_half c.args.name ∷ high_half c.args.name ∷ [])
    (names-two c.args.self.now.tables c.add.new.self.tables c.add-2.new.self.tables c.args.name c.low_half.result c.high_half.result c.low_half.ensures
    c.high_half.ensures c.in_ok-add.ensures.names c.in_ok-add-2.ensures.names) c.requires.there

pub turns-init : goal.turns-init
turns-init g c = record {
  live = c.in_ok-add-2.ensures.ok;
  names = names-two c.args.self.now.tables c.add.new.self.tables c.add-2.new.self.tables c.args.name c.low_half.result c.high_half.result c.low_half.ensures
      c.high_half.ensures c.in_ok-add.ensures.names c.in_ok-add-2.ensures.names;
  moves = λ a is.
      let h1 = c.in_ok-add.ensures.told a is in
      let h2 = c.in_ok-add-2.ensures.told h1.pages h1.is_told in
      moves-start (g.D.Disk.pages c.add.new.self.cache.disk) (g.D.Disk.pages c.add-2.new.self.cache.disk) a c.args.self.now.tables c.add.new.self.tables
      c.add-2.new.self.tables c.args.name c.low_half.result c.high_half.result c.len-most.result (c.len-most.result - 0) c.low_half.ensures
      c.high_half.ensures c.requires.there h1 h2 (c.len-most.ensures.told h2.pages h2.is_told) c.len-most.ensures.most (omega arith);
  untold = λ none. c.in_ok-add-2.ensures.untold (c.in_ok-add.ensures.untold none);
  steady = c.in_ok-add-2.ensures.steady ∙ c.in_ok-add.ensures.steady;
}

pub move_first-requires-clause-there : goal.move_first-requires-clause-there
move_first-requires-clause-there g c = there-still c.args.self.now.tables c.turns.self.tables c.args.name (low_half c.args.name ∷ high_half c.args.name ∷ [])
    c.turns.invariant.names c.requires.there

pub move_first-requires-clause-low : goal.move_first-requires-clause-low
move_first-requires-clause-low g c = there-low c.args.self.now.tables c.turns.self.tables c.args.name c.turns.invariant.names

pub move_first-requires-clause-high : goal.move_first-requires-clause-high
move_first-requires-clause-high g c = there-high c.args.self.now.tables c.turns.self.tables c.args.name c.turns.invariant.names

pub move_first-requires-clause-room : goal.move_first-requires-clause-room
move_first-requires-clause-room g c = λ b is.
    let o = told-back (g.D.Disk.pages c.args.self.now.cache.disk) (g.D.Disk.pages c.turns.self.cache.disk) c.turns.invariant.untold b is in
    moves-room (g.D.Disk.pages c.turns.self.cache.disk) o.0 b c.args.self.now.tables c.turns.self.tables c.args.name (c.len-most.result - c.turns._turn)
    c.requires.there c.requires.low c.requires.high (c.turns.invariant.moves o.0 o.1) is

pub returns-in_err-move_first-clause-lawful : goal.returns-in_err-move_first-clause-lawful
returns-in_err-move_first-clause-lawful g c = λ a is.
    let m = c.turns.invariant.moves a is in
    let p = err_from_is_err_and c.from_residual-in_err-move_first.result c.from_residual-in_err-move_first.ensures.1 in
    rw (p.1, p.2) (c.in_err-move_first.ensures.lawful m.pages m.is_told)

pub turns-preserved : goal.turns-preserved
turns-preserved g c = record {
  live = c.in_ok-move_first.ensures.ok;
  names = ap names c.in_ok-move_first.ensures.tables ∙ c.turns.invariant.names;
  moves = λ a is.
      let m = c.turns.invariant.moves a is in
      moves-turn (g.D.Disk.pages c.turns.self.cache.disk) (g.D.Disk.pages c.move_first.new.self.cache.disk) a c.args.self.now.tables c.turns.self.tables
      c.move_first.new.self.tables c.args.name (c.len-most.result - c.turns._turn) (c.len-most.result - (c.turns._turn + 1)) c.requires.there c.requires.low
      c.requires.high m (c.in_ok-move_first.ensures.told m.pages m.is_told) (omega arith);
  untold = λ none. c.in_ok-move_first.ensures.untold (c.turns.invariant.untold none);
  steady = c.in_ok-move_first.ensures.steady ∙ c.turns.invariant.steady;
}

pub drop_table-requires-clause-there : goal.drop_table-requires-clause-there
drop_table-requires-clause-there g c = there-still c.args.self.now.tables c.turns.self.tables c.args.name (low_half c.args.name ∷ high_half c.args.name ∷ [])
    c.turns.invariant.names c.requires.there

pub returns-clause-told : goal.returns-clause-told
returns-clause-told g c = λ a is.
    rw c.drop_table.ensures (holds-split (g.D.Disk.pages c.turns.self.cache.disk) a c.args.self.now.tables c.turns.self.tables c.args.name c.requires.there
    (c.len-most.result - c.turns._turn) (omega (arith, c.turns-test.false)) (c.turns.invariant.moves a is))

pub returns-clause-names : goal.returns-clause-names
returns-clause-names g c =
    rw c.drop_table.ensures (names-without c.args.self.now.tables c.turns.self.tables c.args.name (low_half c.args.name ∷ high_half c.args.name ∷ [])
    c.turns.invariant.names c.requires.there)

pub returns-clause-parted : goal.returns-clause-parted
returns-clause-parted g c = λ a is. parted _ c.args.name (c.keys_are_covered.ensures a is)

pub returns-in_err-add-clause-parted : goal.returns-in_err-add-clause-parted
returns-in_err-add-clause-parted g c = λ a is. parted _ c.args.name (c.keys_are_covered.ensures a is)

pub returns-in_err-add-2-clause-parted : goal.returns-in_err-add-2-clause-parted
returns-in_err-add-2-clause-parted g c = λ a is. parted _ c.args.name (c.keys_are_covered.ensures a is)

pub returns-in_err-move_first-clause-parted : goal.returns-in_err-move_first-clause-parted
returns-in_err-move_first-clause-parted g c = λ a is. parted _ c.args.name (c.keys_are_covered.ensures a is)
