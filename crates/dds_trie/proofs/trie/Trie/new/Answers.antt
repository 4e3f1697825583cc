use Rattle.std.proofs.Common.{arith}
use Rattle.std.specs.FinMap.{get-empty}
use Rattle.dds_trie.specs.Trie.{name_cmp}
use Rattle.dds_trie.proofs.trie.Trie.new.Goals as goal

pub invariant_of-result : goal.invariant_of-result
invariant_of-result c = (omega arith, λ n h. rw c.new.ensures (get-empty name_cmp n))
