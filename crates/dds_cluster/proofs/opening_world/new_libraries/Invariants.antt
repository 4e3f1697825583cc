use Rattle.std.proofs.Common.{◌≡◌, ◌++◌, ◌-◌, ◌≤◌}
use Rattle.dds_cluster.specs.World.{new_libraries}
use Rattle.dds_cluster.proofs.opening_world.new_libraries.Given as goal

abbrev pub invariant-loop-number : goal.invariant-loop-number
invariant-loop-number l =
    (l.libraries.items ++ new_libraries l.opening (l.count - l.number) l.number ≡ new_libraries l.opening l.count 0) × (l.number ≤ l.count)
