use Rattle.std.proofs.Common.{◌-◌}
use Rattle.dds_trie.proofs.nodes.+leaf_from.Given as goal

abbrev pub decreases-leaf_from : goal.decreases-leaf_from
decreases-leaf_from l = 17 - l.depth
