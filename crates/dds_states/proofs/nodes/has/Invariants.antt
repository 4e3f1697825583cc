use Rattle.std.proofs.Common.{◌≡◌, drop}
use Rattle.dds_base.specs.BrickList.{has}
use Rattle.dds_states.proofs.nodes.has.Given as goal

abbrev pub invariant-loop-n : goal.invariant-loop-n
invariant-loop-n l = has l.nodes l.node ≡ has (drop l.n-index l.nodes) l.node
