use Rattle.std.proofs.Common.{◌-◌}
use Rattle.dds_trie.proofs.nodes.+place_from.Given as goal

abbrev pub decreases-place_from : goal.decreases-place_from
decreases-place_from l = l.want - l.depth
