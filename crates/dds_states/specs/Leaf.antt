-- How a node looks a key up.
use Rattle.std.specs.Prelude.{ℕ, Option}
use Rattle.dds_base.specs.declared.leaf.Leaf.{Leaf}
use Rattle.dds_base.specs.declared.name.TheConstants.{DEPTH}
use Rattle.dds_trie.specs.Trie.{LeafMap, leaf_within}

-- the leaf that covers a key
abbrev pub leaf_for : LeafMap → ℕ → Option Leaf
leaf_for leaves key = leaf_within leaves DEPTH key
