use Rattle.std.proofs.Common.{◌≡◌, ◌+◌, drop, length}
use Rattle.std.specs.Prelude.{filter}
use Rattle.dds_world.specs.Stands.{stands_in}
use Rattle.dds_walk.proofs.reports.count_entries.Given as goal

abbrev pub invariant-loop-m : goal.invariant-loop-m
invariant-loop-m l = l.entries + length (filter (stands_in l.told) (drop l.m-index l.made)) ≡ length (filter (stands_in l.told) l.made)
