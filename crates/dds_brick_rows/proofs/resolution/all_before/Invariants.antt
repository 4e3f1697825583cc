use Rattle.std.proofs.Common.{◌≡◌, drop}
use Rattle.std.specs.List.{list_all}
use Rattle.dds_base.specs.NodeSet.{has_node}
use Rattle.dds_brick_rows.specs.Resolution.{before}
use Rattle.dds_brick_rows.proofs.resolution.all_before.Given as goal

abbrev pub invariant-loop-other : goal.invariant-loop-other
invariant-loop-other l =
    list_all (λ n. has_node l.known n) (before l.list l.member) ≡ list_all (λ n. has_node l.known n) (before (drop l.other-index l.list) l.member)
