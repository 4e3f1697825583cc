use Rattle.std.proofs.Common.{◌≡◌, take}
use Rattle.dds_states.proofs.nodes.group.Given as goal

abbrev pub invariant-loop-node : goal.invariant-loop-node
invariant-loop-node l = l.numbers.items ≡ take l.node-index l.nodes
