use Rattle.std.proofs.Common.{◌≡◌, replicate, []}
use Rattle.dds_cluster.proofs.opening_world.new_links.Given as goal

abbrev pub invariant-loop-place : goal.invariant-loop-place
invariant-loop-place l = l.links.items ≡ replicate l._place (replicate l.nodes [])
