use Rattle.std.proofs.Common.{◌≡◌, ◌++◌, map}
use Rattle.std.specs.Prelude.{filter}
use Rattle.std.specs.Vec.Iter.{into_iter_items}
use Rattle.dds_world.specs.Stands.{stands_in}
use Rattle.dds_world.proofs.runs.history_of.Given as goal

abbrev pub invariant-loop-m : goal.invariant-loop-m
invariant-loop-m l =
    l.entries.items ++ map (λ m. m.entry) (filter (stands_in l.told) (into_iter_items l.m-iterator)) ≡ map (λ m. m.entry) (filter (stands_in l.told) l.fn.made)
