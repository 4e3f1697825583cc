use Rattle.std.proofs.Common.{◌≡◌, length, take}
use Rattle.std.specs.List.{flat_map}
use Rattle.dds_pages.specs.Bucket.{pair_bytes}
use Rattle.dds_pages.proofs.pairs.total_width.Given as goal

abbrev pub invariant-pairs : goal.invariant-pairs
invariant-pairs l = l.total ≡ length (flat_map pair_bytes (take l.pair-index l.pairs))
