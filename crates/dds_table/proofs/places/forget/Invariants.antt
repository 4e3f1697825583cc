use Rattle.std.proofs.Common.{◌≡◌, ◌≤◌, length}
use Rattle.std.specs.BTreeMap as tree
use Rattle.dds_base.specs.Name.{Name}
use Rattle.dds_table.specs.Store.{named}
use Rattle.dds_table.specs.Places.{name_cmp, moved_place}
use Rattle.dds_table.proofs.places.forget.Given as goal

abbrev pub invariant-moving : goal.invariant-moving
invariant-moving l = record {
  above : l.at ≤ l.place;
  within : l.place ≤ length l.tables;
  placed : (n : Name) → tree.get name_cmp l.places n ≡ moved_place (named l.tables) l.at l.name l.place n;
}

abbrev pub decreases-moving : goal.decreases-moving
decreases-moving l = l.place
