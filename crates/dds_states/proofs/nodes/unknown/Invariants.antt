use Rattle.std.proofs.Common.{◌≡◌, drop, ◌++◌}
use Rattle.dds_states.specs.Turn.{unknown}
use Rattle.dds_states.proofs.nodes.unknown.Given as goal

abbrev pub invariant-loop-node : goal.invariant-loop-node
invariant-loop-node l = l.list ++ unknown (drop l.node-index l.nodes) l.known ≡ unknown l.nodes l.known
