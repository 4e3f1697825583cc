use Rattle.std.proofs.Common.{◌≡◌, take}
use Rattle.dds_states.proofs.nodes.members.Given as goal

abbrev pub invariant-loop-place : goal.invariant-loop-place
invariant-loop-place l = l.list ≡ take l.place l.group
