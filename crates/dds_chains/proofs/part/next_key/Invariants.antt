use Rattle.std.proofs.Common.{ℕ, ◌≡◌, ◌<◌, true, false}
use Rattle.dds_base.specs.Place.{bucket as bucket_no}
use Rattle.dds_chains.specs.Part.{has_key}
use Rattle.dds_base.specs.Place.{is_after}
use Rattle.dds_chains.proofs.part.next_key.Given as goal

abbrev pub invariant-buckets : goal.invariant-buckets
invariant-buckets l = (q : ℕ) → bucket_no q < l.bucket → has_key l.table q ≡ true → is_after l.after q ≡ false
