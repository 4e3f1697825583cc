use Rattle.std.proofs.Common.{ℕ, ◌≡◌, ◌≤◌, ◌*◌, min, List, length, Some}
use Rattle.dds_disk.specs.Pages.{Pages}
use Rattle.dds_chains.specs.Index.{IsSpread}
use Rattle.dds_chains.proofs.Fetching.{IsReading}
use Rattle.dds_chains.proofs.value.read_chain.Given as goal

abbrev pub invariant-pages : goal.invariant-pages
invariant-pages g l = record {
  within : length l.bytes.items ≤ l.len;
  sized : length l.bytes.items ≡ min l.len (4080 * l.page-index);
  read : (a : Pages) (value : List ℕ) → g.D.Disk.pages l.fn.space.cache.disk ≡ Some a → IsSpread a l.overflow value → l.len ≡ length value
      → IsReading a l.overflow l.page-index value l.bytes.items;
  same : g.D.Disk.pages l.space.cache.disk ≡ g.D.Disk.pages l.fn.space.cache.disk;
  free : l.space.free.items ≡ l.fn.space.free.items;
  fresh : l.space.fresh ≡ l.fn.space.fresh;
  steady : g.D.Disk.faults l.space.cache.disk ≡ g.D.Disk.faults l.fn.space.cache.disk;
}
