use Rattle.std.proofs.Common.{◌≡◌, ◌++◌, ◌-◌, ◌≤◌}
use Rattle.dds_cluster.specs.World.{new_bricks}
use Rattle.dds_cluster.proofs.opening_world.new_bricks.Given as goal

abbrev pub invariant-loop-number : goal.invariant-loop-number
invariant-loop-number l =
    (l.bricks.items ++ new_bricks l.opening.leaves (l.count - l.number) l.number ≡ new_bricks l.opening.leaves l.count 0) × (l.number ≤ l.count)
