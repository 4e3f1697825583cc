use Rattle.std.proofs.Common.{◌≡◌, ℕ, List, Result, Some}
use Rattle.dds_base.specs.declared.pair.Pair.{Pair}
use Rattle.dds_disk.specs.Pages.{Pages}
use Rattle.dds_table.specs.Met.{IsMetBy}
use Rattle.dds_table.specs.Old.{walk_in, start_of, left, Ends, AreCovered}
use Rattle.dds_table.proofs.walk.read_all.Given as goal

abbrev pub invariant-walking : goal.invariant-walking
invariant-walking g l = record {
  same : g.E.Disk.pages l.old ≡ g.E.Disk.pages l.fn.old;
  steady : g.E.Disk.faults l.old ≡ g.E.Disk.faults l.fn.old;
  covered : AreCovered l.name l.walk.pairs;
  met : IsMetBy l.walk l.met;
  ends : (p : Pages) → g.E.Disk.pages l.fn.old ≡ Some p → (k : ℕ) (end : Result (List Pair) ℕ) → walk_in k p l.name l.root.firsts l.walk ≡ Some end
      → Ends p l.name l.root.firsts (start_of l.page l.root) end;
}

abbrev pub decreases-walking : goal.decreases-walking
decreases-walking g l = left l.walk
