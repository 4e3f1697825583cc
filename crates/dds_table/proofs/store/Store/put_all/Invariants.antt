use Rattle.std.proofs.Common.{◌≡◌, Some, None, false, take}
use Rattle.dds_disk.specs.Pages.{Pages}
use Rattle.dds_table.specs.Store.{maps_of, with_map, Holds}
use Rattle.dds_table.specs.Lift.{map_of}
use Rattle.dds_table.proofs.store.Store.put_all.Given as goal

abbrev pub invariant-putting : goal.invariant-putting
invariant-putting g l = record {
  live : l.self.failed ≡ false;
  tables : l.self.tables ≡ l.fn.self.tables;
  holds : (a : Pages) → g.D.Disk.pages l.fn.self.cache.disk ≡ Some a
      → Holds (g.D.Disk.pages l.self.cache.disk) l.self.tables (with_map (maps_of a l.fn.self.tables) l.name (map_of (take l.pair-index l.pairs)));
  untold : g.D.Disk.pages l.fn.self.cache.disk ≡ None → g.D.Disk.pages l.self.cache.disk ≡ None;
  steady : g.D.Disk.faults l.self.cache.disk ≡ g.D.Disk.faults l.fn.self.cache.disk;
}
