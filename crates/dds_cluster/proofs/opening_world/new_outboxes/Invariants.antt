use Rattle.std.proofs.Common.{◌≡◌, replicate, []}
use Rattle.dds_cluster.proofs.opening_world.new_outboxes.Given as goal

abbrev pub invariant-loop-place : goal.invariant-loop-place
invariant-loop-place l = l.outboxes.items ≡ replicate l._place []
