use Rattle.std.proofs.Common.{◌≡◌, ◌-◌, ◌≤◌}
use Rattle.dds_walk.specs.Walk.{moves}
use Rattle.dds_walk.proofs.moving.moves.Given as goal

abbrev pub invariant-loop-made : goal.invariant-loop-made
invariant-loop-made l = (moves (l.limit - l.made) l.made l.walk ≡ moves l.limit 0 l.fn.walk) × (l.made ≤ l.limit)

abbrev pub decreases-loop-made : goal.decreases-loop-made
decreases-loop-made l = l.limit - l.made
