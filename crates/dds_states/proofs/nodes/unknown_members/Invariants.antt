use Rattle.std.proofs.Common.{◌≡◌, drop, ◌++◌}
use Rattle.dds_states.specs.Turn.{unknown}
use Rattle.dds_states.proofs.nodes.unknown_members.Given as goal

abbrev pub invariant-loop-place : goal.invariant-loop-place
invariant-loop-place l = l.list ++ unknown (drop l.place l.group) l.known ≡ unknown l.group l.known
