use Rattle.std.proofs.Common.{◌≡◌, replicate, []}
use Rattle.dds_chains.proofs.table.no_buckets.Given as goal

abbrev pub invariant-loop-bucket : goal.invariant-loop-bucket
invariant-loop-bucket l = l.buckets.items ≡ replicate l._bucket []
