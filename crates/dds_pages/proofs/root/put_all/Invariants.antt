use Rattle.std.proofs.Common.{◌≡◌, ◌++◌, take}
use Rattle.std.specs.List.{flat_map}
use Rattle.dds_pages.specs.Fields.{spelled}
use Rattle.dds_pages.proofs.root.put_all.Given as goal

abbrev pub invariant-buckets : goal.invariant-buckets
invariant-buckets l = l.writer ≡ l.fn.writer ++ flat_map (spelled 8) (take l.bucket l.firsts)
