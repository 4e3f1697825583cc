use Rattle.std.proofs.Common.{◌≡◌, drop, ◌++◌}
use Rattle.dds_states.specs.Turn.{to_each}
use Rattle.dds_states.proofs.nodes.copy_to_each.Given as goal

abbrev pub invariant-loop-node : goal.invariant-loop-node
invariant-loop-node l = l.outbox ++ to_each (drop l.node-index l.nodes) l.letter ≡ to_each l.nodes l.letter
