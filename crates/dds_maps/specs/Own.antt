use Rattle.std.specs.Prelude.{ℕ, Bool, false, ◌==◌, ◌-◌, ◌%◌, ◌^◌, Option, Some, None, if◌then◌else◌}
use Rattle.std.specs.FinMap.{get}
use Rattle.dds_base.specs.Name.{Name}
use Rattle.dds_base.specs.declared.leaf.Leaf.{Leaf}
use Rattle.dds_groups.specs.Take.{may_take}
use Rattle.dds_trie.specs.Trie.{LeafMap, or_else}

-- the name that covers all keys of a name at one depth less
abbrev pub whole : Name → Name
whole n = record { bits = n.bits % 2 ^ (n.depth - 1); depth = n.depth - 1 }

-- the leaf of this name, else the leaf of the name that it is a half of
abbrev pub own_leaf : LeafMap → Name → Option Leaf
own_leaf m n = or_else (get m n) (if n.depth == 0 then None else get m (whole n))

-- the brick takes the leaf in the place of that one, if it has one
abbrev pub may_take_for : Option Leaf → ℕ → Leaf → (ℕ → Bool) → Bool → Bool
may_take_for None me leaf known free = false
may_take_for (Some own) me leaf known free = may_take me own leaf known free
