use Rattle.std.proofs.Common.{sym, subst, ap}
use Rattle.dds_trie.specs.Nodes.{IsTrie, seen}
use Rattle.dds_trie.proofs.Links.{trie-none}
use Rattle.dds_trie.proofs.leaves.Leaves.new.Goals as goal

pub invariant_of-result : goal.invariant_of-result
invariant_of-result c = subst IsTrie (sym c.new.ensures) trie-none

pub returns : goal.returns
unfolding seen
returns c = ap seen c.new.ensures
