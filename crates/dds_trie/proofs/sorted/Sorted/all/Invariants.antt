use Rattle.std.proofs.Common.{◌≡◌, ◌++◌, map}
use Rattle.dds_trie.proofs.sorted.Sorted.all.Given as goal

abbrev pub invariant-loop-name : goal.invariant-loop-name
invariant-loop-name l = l.list ++ map (λ e. e.1) l._name-iterator ≡ map (λ e. e.1) l.initial._name-iterator
