use Rattle.std.proofs.Common.{◌≡◌, length, take}
use Rattle.dds_pages.specs.Root.{numbers_at}
use Rattle.dds_pages.proofs.root.firsts_of.Given as goal

abbrev pub invariant-buckets : goal.invariant-buckets
invariant-buckets l = record {
  long : length l.firsts ≡ 256;
  read : take l.bucket l.firsts ≡ numbers_at l.page 16 l.bucket;
}
