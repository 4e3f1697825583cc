-- The leaves of the nodes from a place on.
use Rattle.std.proofs.Common.{◌≡◌, ℕ, ◌+◌, ◌<◌, List, [], ◌∷◌, drop, length, get_or, refl, sym, arith}
use Rattle.std.proofs.lemmas.Grind.{common_steps}
use Rattle.std.specs.FinMap.{empty}
use Rattle.dds_trie.specs.declared.nodes.Node.{Node}
use Rattle.dds_trie.specs.Trie.{LeafMap, rebound}
use Rattle.dds_trie.specs.Nodes.{seen}

seen-cons : (n : Node) (ns : List Node) → seen (n ∷ ns) ≡ rebound (seen ns) n.name n.leaf
unfolding seen
seen-cons n ns = refl

pub seen-none : (ns : List Node) → ns ≡ [] → seen ns ≡ empty
unfolding seen
seen-none [] h = refl
seen-none (n ∷ ns) h = absurd (cc)

-- one node more before them
pub seen-from : (ns : List Node) (i : ℕ) (n : Node) (m : LeafMap) → i < length ns → n ≡ get_or ns i n → m ≡ seen (drop (i + 1) ns) →
    rebound m n.name n.leaf ≡ seen (drop i ns)
seen-from ns i n m h at is =
    let split : drop i ns ≡ n ∷ drop (i + 1) ns = grind (arith, common_steps) in
    rw (split, is) (sym (seen-cons n (drop (i + 1) ns)))
