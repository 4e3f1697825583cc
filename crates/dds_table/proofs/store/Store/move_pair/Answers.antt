use Rattle.std.proofs.lemmas.Result.{err_from_is_err_and}
use Rattle.std.specs.FinMap.{remove}
use Rattle.dds_table.specs.Store.{maps_of, map_named, with_map}
use Rattle.dds_table.proofs.Refusing.{refused-stays}
use Rattle.dds_table.proofs.Stores.{told-back}
use Rattle.dds_table.proofs.Turns.{room-low, room-high, held-covered}
use Rattle.dds_table.proofs.store.Store.move_pair.Goals as goal

pub put_covered-requires-clause-room : goal.put_covered-requires-clause-room
put_covered-requires-clause-room g c = λ b is.
    let o = told-back (g.D.Disk.pages c.args.self.now.cache.disk) (g.D.Disk.pages c.remove.new.self.cache.disk) c.in_ok-remove.ensures.untold b is in
    room-low (g.D.Disk.pages c.remove.new.self.cache.disk) c.remove.new.self.tables (maps_of o.0 c.args.self.now.tables) b c.args.name c.low_half.result
    (remove (map_named (maps_of o.0 c.args.self.now.tables) c.args.name) c.args.key) c.args.key c.args.value.now c.low_half.ensures
    (c.requires.room o.0 o.1) (c.requires.bound o.0 o.1) (c.in_ok-remove.ensures.told o.0 o.1) is

pub returns-in_err-put_covered-clause-lawful : goal.returns-in_err-put_covered-clause-lawful
returns-in_err-put_covered-clause-lawful g c = λ a is.
    let h = c.in_ok-remove.ensures.told a is in
    let p = err_from_is_err_and c.from_residual-in_err-put_covered.result c.from_residual-in_err-put_covered.ensures.1 in
    rw (p.1, p.2) (c.in_err-put_covered.ensures.lawful h.pages h.is_told)

pub put_covered-requires-2-clause-room : goal.put_covered-requires-2-clause-room
put_covered-requires-2-clause-room g c = λ b is.
    let m = told-back (g.D.Disk.pages c.remove.new.self.cache.disk) (g.D.Disk.pages c.put_covered.new.self.cache.disk) c.in_ok-put_covered.ensures.untold b is
    in
    let o = told-back (g.D.Disk.pages c.args.self.now.cache.disk) (g.D.Disk.pages c.remove.new.self.cache.disk) c.in_ok-remove.ensures.untold m.0 m.1 in
    let change = remove (map_named (maps_of o.0 c.args.self.now.tables) c.args.name) c.args.key in
    room-high (g.D.Disk.pages c.put_covered.new.self.cache.disk) c.put_covered.new.self.tables (maps_of o.0 c.args.self.now.tables) b c.args.name
    c.low_half.result c.high_half.result change c.args.key c.args.value.now c.low_half.ensures c.high_half.ensures (c.requires.room o.0 o.1)
    (c.requires.bound o.0 o.1)
    (held-covered _ _ c.remove.new.self.tables c.put_covered.new.self.tables (with_map (maps_of o.0 c.args.self.now.tables) c.args.name change) m.0
    c.low_half.result c.args.key c.args.value.now (c.in_ok-remove.ensures.told o.0 o.1) m.1 (c.in_ok-put_covered.ensures.told m.0 m.1))
    is

pub returns-clause-lawful : goal.returns-clause-lawful
returns-clause-lawful g c = λ a is.
    let h = c.in_ok-remove.ensures.told a is in
    let k = c.in_ok-put_covered.ensures.told h.pages h.is_told in
    c.put_covered-2.ensures.lawful k.pages k.is_told

pub returns-in_err-remove-clause-refused : goal.returns-in_err-remove-clause-refused
returns-in_err-remove-clause-refused g c =
    let p = err_from_is_err_and c.from_residual.result c.from_residual.ensures.1 in
    rw (p.1, p.2) (refused-stays _ _ _ _ c.in_err-remove.ensures.stays c.in_err-remove.ensures.refused)
