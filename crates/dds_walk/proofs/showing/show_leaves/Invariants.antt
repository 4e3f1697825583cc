use Rattle.std.proofs.Common.{◌≡◌, ◌++◌, drop}
use Rattle.dds_walk.specs.Walk.{leaf_lines}
use Rattle.dds_walk.proofs.showing.show_leaves.Given as goal

abbrev pub invariant-loop-leaf : goal.invariant-loop-leaf
invariant-loop-leaf l =
    l.lines ++ leaf_lines l.state.pairs l.brick (drop l.leaf-index l.leaf-items) ≡ l.fn.lines ++ leaf_lines l.state.pairs l.brick l.leaf-items
