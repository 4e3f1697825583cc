use Rattle.std.proofs.Common.{◌≡◌, ◌++◌}
use Rattle.std.specs.Vec.Iter.{into_iter_items}
use Rattle.dds_cluster.specs.Trace.{all_kept}
use Rattle.dds_cluster.proofs.run.all_kept.Given as goal

abbrev pub invariant-loop-m : goal.invariant-loop-m
invariant-loop-m l = l.made ++ all_kept l.made (into_iter_items l.m-iterator) ≡ l.fn.made ++ all_kept l.fn.made l.fn.new
