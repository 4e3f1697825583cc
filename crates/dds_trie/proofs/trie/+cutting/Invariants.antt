use Rattle.std.proofs.Common.{◌+◌, ◌-◌, ◌*◌}
use Rattle.dds_trie.proofs.trie.+cutting.Given as goal

abbrev pub decreases-cut : goal.decreases-cut
decreases-cut l = 2 * (l.deepest - l.name.depth) + 1

abbrev pub decreases-cut_below : goal.decreases-cut_below
decreases-cut_below l = 2 * (l.deepest - l.name.depth)
