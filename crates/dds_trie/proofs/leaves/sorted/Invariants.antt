use Rattle.std.proofs.Common.{◌≡◌, ◌≤◌, drop, length}
use Rattle.dds_trie.specs.Nodes.{seen}
use Rattle.dds_trie.proofs.leaves.sorted.Given as goal

abbrev pub invariant-loop-left : goal.invariant-loop-left
invariant-loop-left l = (l.sorted ≡ seen (drop l.left l.nodes)) × (l.left ≤ length l.nodes)

abbrev pub decreases-loop-left : goal.decreases-loop-left
decreases-loop-left l = l.left
