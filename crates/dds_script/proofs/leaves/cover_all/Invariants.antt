use Rattle.std.proofs.Common.{◌≡◌, ◌+◌, drop}
use Rattle.dds_script.specs.Shares.{shares}
use Rattle.dds_script.proofs.leaves.cover_all.Given as goal

abbrev pub invariant-loop-leaf : goal.invariant-loop-leaf
invariant-loop-leaf l = l.sum + shares (drop l.leaf-index l.leaves) ≡ shares l.leaves
