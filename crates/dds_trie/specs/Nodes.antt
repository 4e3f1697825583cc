use Rattle.std.specs.Prelude.{◌≡◌, ℕ, ◌<◌, ◌%◌, ◌/◌, ◌^◌, ◌==◌, ◌&&◌, is_some, Bool, true, false, List, [], ◌∷◌, Option, Some, None, zero, suc, length, get_or}
use Rattle.std.specs.FinMap.{empty}
use Rattle.dds_base.specs.Name.{Name, overlaps}
use Rattle.dds_trie.specs.declared.nodes.Node.{Node}
use Rattle.dds_trie.specs.Trie.{LeafMap, rebound, name_at}

-- the key is under the high half of a name of this depth that covers it
abbrev pub is_high : ℕ → ℕ → Bool
is_high key depth = key / 2 ^ depth % 2 == 1

-- what stands for a node that isn't there
abbrev pub blank : Node
blank = record { name = record { bits = 0; depth = 0 }; low = 0; high = 0; leaf = None }

-- the place of a node's high or low half
abbrev pub child : Node → Bool → ℕ
child n true = n.high
child n false = n.low

-- the node with another place of that half
abbrev pub linked_to : Node → Bool → ℕ → Node
linked_to n true at = record n { high = at }
linked_to n false at = record n { low = at }

-- the node at a half's place; 0 is none
abbrev pub linked : ℕ → Option ℕ
linked zero = None
linked (suc at) = Some (suc at)

-- the place of the first node
abbrev pub first : List Node → Option ℕ
first [] = None
first (n ∷ ns) = Some 0

-- the place of a node's half
abbrev pub next : List Node → Option ℕ → Bool → Option ℕ
next ns None high = None
next ns (Some at) high = linked (child (get_or ns at blank) high)

-- where the walk by the key's lowest bits leads to, as many as the depth
unfoldable pub place : List Node → ℕ → ℕ → Option ℕ
place ns key zero = first ns
place ns key (suc depth) = next ns (place ns key depth) (is_high key depth)

-- the leaves of the nodes by their names
unfoldable pub seen : List Node → LeafMap
seen [] = empty
seen (n ∷ ns) = rebound (seen ns) n.name n.leaf

-- the walk leads to nodes that are named as it went, and to each node by its name
pub record IsTrie (ns : List Node) : Type 0 where
  pub there : (key depth at : ℕ) → place ns key depth ≡ Some at → at < length ns
  pub named : (key depth at : ℕ) → place ns key depth ≡ Some at → (get_or ns at blank).name ≡ name_at key depth
  pub found : (at : ℕ) → at < length ns → place ns (get_or ns at blank).name.bits (get_or ns at blank).name.depth ≡ Some at

-- the node has a leaf, and its name overlaps the name
abbrev pub bound_overlaps : Name → Node → Bool
bound_overlaps name n = is_some n.leaf && overlaps n.name name
