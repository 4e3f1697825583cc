use Rattle.std.proofs.Common.{◌≡◌, ◌++◌, length}
use Rattle.dds_stage.proofs.pump.move_out.Given as goal

abbrev pub invariant-moving : goal.invariant-moving
invariant-moving g l = record {
  moved : l.out.items ++ l.from.items ≡ l.fn.out.items ++ l.fn.from.items;
  room : l.from.capacity ≡ l.fn.from.capacity;
}

abbrev pub decreases-moving : goal.decreases-moving
decreases-moving g l = length l.from.items
