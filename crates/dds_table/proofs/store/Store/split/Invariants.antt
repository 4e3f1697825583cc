use Rattle.std.proofs.Common.{◌≡◌, ◌-◌, ◌++◌, ◌∷◌, [], Some, None, false}
use Rattle.dds_disk.specs.Pages.{Pages}
use Rattle.dds_groups.specs.Names.{low_half, high_half}
use Rattle.dds_table.specs.Split.{Moves}
use Rattle.dds_table.specs.Store.{names, maps_of}
use Rattle.dds_table.proofs.store.Store.split.Given as goal

abbrev pub invariant-turns : goal.invariant-turns
invariant-turns g l = record {
  live : l.self.failed ≡ false;
  names : names l.self.tables ≡ names l.fn.self.tables ++ low_half l.name ∷ high_half l.name ∷ [];
  moves : (a : Pages) → g.D.Disk.pages l.fn.self.cache.disk ≡ Some a
      → Moves (g.D.Disk.pages l.self.cache.disk) l.self.tables (maps_of a l.fn.self.tables) l.name (l.most - l._turn);
  untold : g.D.Disk.pages l.fn.self.cache.disk ≡ None → g.D.Disk.pages l.self.cache.disk ≡ None;
  steady : g.D.Disk.faults l.self.cache.disk ≡ g.D.Disk.faults l.fn.self.cache.disk;
}
