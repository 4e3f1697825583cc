use Rattle.std.proofs.Common.{◌≡◌, ◌≤◌, drop, take}
use Rattle.dds_groups.specs.Leaves.{is_some_of}
use Rattle.dds_groups.proofs.successor.is_some_of.Given as goal

abbrev pub invariant-loop-place : goal.invariant-loop-place
invariant-loop-place l = record {
  within : l.met ≤ l.count;
  rest : is_some_of l.old (take l.count l.list) ≡ is_some_of (drop l.place l.old) (drop l.met (take l.count l.list));
}
