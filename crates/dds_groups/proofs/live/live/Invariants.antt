use Rattle.std.proofs.Common.{◌≡◌, take}
use Rattle.dds_base.specs.NodeSet.{has_node}
use Rattle.dds_groups.specs.Leaves.{live}
use Rattle.dds_groups.proofs.live.live.Given as goal

abbrev pub invariant-loop-place : goal.invariant-loop-place
invariant-loop-place l = l.members ≡ live (take l.place l.list) (has_node l.known)
