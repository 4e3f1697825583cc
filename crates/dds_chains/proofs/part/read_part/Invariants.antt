use Rattle.std.proofs.Common.{◌≡◌, ◌-◌, length, Some}
use Rattle.dds_disk.specs.Pages.{Pages}
use Rattle.dds_chains.specs.Content.{content}
use Rattle.dds_chains.specs.Index.{IsTable}
use Rattle.dds_chains.proofs.Parts.{Continues}
use Rattle.dds_chains.proofs.part.read_part.Given as goal

abbrev pub invariant-pairs : goal.invariant-pairs
invariant-pairs g l = record {
  part : (a : Pages) → g.D.Disk.pages l.fn.space.cache.disk ≡ Some a → IsTable a l.table
      → Continues (content a l.table.root) l.fn.start l.most l.pairs l.after (l.most - l._pair);
  long : length l.pairs ≡ l._pair;
  same : g.D.Disk.pages l.space.cache.disk ≡ g.D.Disk.pages l.fn.space.cache.disk;
  free : l.space.free.items ≡ l.fn.space.free.items;
  fresh : l.space.fresh ≡ l.fn.space.fresh;
  steady : g.D.Disk.faults l.space.cache.disk ≡ g.D.Disk.faults l.fn.space.cache.disk;
}
