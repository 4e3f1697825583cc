use Rattle.std.proofs.Common.{◌≡◌, ◌++◌}
use Rattle.std.specs.Vec.Iter.{into_iter_items}
use Rattle.dds_cluster.specs.Turn.{points_made}
use Rattle.dds_cluster.proofs.points.points_made.Given as goal

abbrev pub invariant-loop-point : goal.invariant-loop-point
invariant-loop-point l = l.list ++ points_made l.at l.letter (into_iter_items l.point-iterator) ≡ points_made l.at l.letter l.fn.points
