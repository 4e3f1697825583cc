use Rattle.std.proofs.Common.{ℕ, ◌≡◌, ◌+◌, take}
use Rattle.dds_chains.specs.Index.{vacant, same, buckets_use}
use Rattle.dds_chains.proofs.removal.release_table.Given as goal

abbrev pub invariant-buckets : goal.invariant-buckets
invariant-buckets g l = record {
  cache : l.space.cache ≡ l.fn.space.cache;
  number : (n : ℕ) → vacant n l.space.free.items l.space.fresh ≡ vacant n l.fn.space.free.items l.fn.space.fresh + same n l.table.root
      + buckets_use n (take l.slots-index l.table.buckets.items);
}
