use Rattle.std.proofs.Common.{◌-◌}
use Rattle.dds_trie.proofs.nodes.+grow.Given as goal

abbrev pub decreases-grow : goal.decreases-grow
decreases-grow l = l.want - l.depth
