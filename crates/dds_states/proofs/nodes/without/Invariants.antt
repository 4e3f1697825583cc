use Rattle.std.proofs.Common.{◌≡◌, drop, ◌++◌}
use Rattle.dds_states.specs.Turn.{without}
use Rattle.dds_states.proofs.nodes.without.Given as goal

abbrev pub invariant-loop-n : goal.invariant-loop-n
invariant-loop-n l = l.list ++ without (drop l.n-index l.nodes) l.node ≡ without l.nodes l.node
