use Rattle.std.proofs.Common.{◌≡◌, ◌++◌, take, map}
use Rattle.std.specs.List.{flat_map}
use Rattle.dds_pages.specs.Fields.{spelled}
use Rattle.dds_pages.specs.Root.{root_head}
use Rattle.dds_chains.specs.Index.{first_page}
use Rattle.dds_chains.proofs.table.Chains.write_root_in.Given as goal

abbrev pub invariant-buckets : goal.invariant-buckets
invariant-buckets l = l.writer ≡ root_head 2 l.self.len ++ flat_map (spelled 8) (take l.bucket (map first_page l.self.buckets.items))
