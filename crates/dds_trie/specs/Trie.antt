use Rattle.std.specs.Prelude.{◌≡◌, ℕ, List, map, Bool, ◌&&◌, ◌<◌, ◌≤◌, ◌%◌, ◌^◌, ◌⊎◌, Option, Some, None, true, not, nat_le, nat_lt, zero, suc}
use Rattle.std.specs.Ordering.{nat_cmp, ordering_then}
use Rattle.std.specs.declared.cmp.Ordering.{Ordering}
use Rattle.std.specs.FinMap.{FinMap, entries, get, insert, remove, retain_keys, contains_key}
use Rattle.dds_base.specs.Name.{Name, covers, overlaps}
use Rattle.dds_base.specs.declared.leaf.Leaf.{Leaf}

-- the order of names: by bits, then by depth
abbrev pub name_cmp : Name → Name → Ordering
name_cmp a b = ordering_then (nat_cmp a.bits b.bits) (nat_cmp a.depth b.depth)

-- a partition map: leaves by their names
abbrev pub LeafMap : Type 0
LeafMap = FinMap name_cmp Leaf

-- the leaves in the order of their names
abbrev pub leaves_of : LeafMap → List Leaf
leaves_of m = map (λ e. e.1) (entries m)

-- all keys of the second name are covered by the first
abbrev pub is_under : Name → Name → Bool
is_under top name = nat_le top.depth name.depth && covers top name.bits

-- the second name is deeper than the first, which covers all its keys
abbrev pub is_below : Name → Name → Bool
is_below top name = nat_lt top.depth name.depth && covers top name.bits

-- the map without the leaves whose names are deeper than a name that covers all their keys
abbrev pub cut_below : LeafMap → Name → LeafMap
cut_below m top = retain_keys m (λ name. not (is_below top name))

-- the map without the leaves whose names lie under a name, its own one included
abbrev pub cut : LeafMap → Name → LeafMap
cut m top = retain_keys m (λ name. not (is_under top name))

-- the name of this depth that covers the key
abbrev pub name_at : ℕ → ℕ → Name
name_at key depth = record { bits = key % 2 ^ depth; depth = depth }

-- the first leaf that is there, else the other one
abbrev pub or_else : Option Leaf → Option Leaf → Option Leaf
or_else None other = other
or_else (Some leaf) other = Some leaf

-- the deepest leaf of at most this depth that covers the key
unfoldable pub leaf_within : LeafMap → ℕ → ℕ → Option Leaf
leaf_within m zero key = get m (name_at key 0)
leaf_within m (suc depth) key = or_else (get m (name_at key (suc depth))) (leaf_within m depth key)

-- a leaf put into the map takes away each leaf whose name lies under its own
abbrev pub put : LeafMap → Leaf → LeafMap
put m leaf = insert (cut m leaf.name) leaf.name leaf

-- some leaf's name overlaps the name
pub record OverlapsSome (m : LeafMap) (name : Name) : Type 0 where
  pub other : Name
  pub bound : contains_key m other ≡ true
  pub overlaps : overlaps other name ≡ true

-- no name deeper than the bound, and no name with more bits than its depth, has a leaf
abbrev pub IsWithin : LeafMap → ℕ → Type 0
IsWithin m deepest = (name : Name) → (deepest < name.depth) ⊎ (2 ^ name.depth ≤ name.bits) → get m name ≡ None

-- the name bound to what it was bound to, or to nothing
abbrev pub rebound : LeafMap → Name → Option Leaf → LeafMap
rebound m name None = remove m name
rebound m name (Some leaf) = insert m name leaf

-- the deepest leaf of less than this depth that covers the key
abbrev pub shallower : LeafMap → ℕ → ℕ → Option Leaf
shallower m zero key = None
shallower m (suc depth) key = leaf_within m depth key
