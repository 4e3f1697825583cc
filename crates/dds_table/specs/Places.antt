-- Where the tables of a store stand, by their names.
use Rattle.std.specs.Prelude.{ℕ, ◌≡◌, ◌+◌, ◌++◌, Bool, false, List, ◌∷◌, Option, Some, None, nat_le, take, drop, option_map, slice_get}
use Rattle.std.specs.Ordering.{nat_cmp, ordering_then}
use Rattle.std.specs.declared.cmp.Ordering.{Ordering}
use Rattle.std.specs.BTreeMap.{BTreeMap}
use Rattle.std.specs.BTreeMap as tree
use Rattle.dds_base.specs.Name.{Name, same_name}
use Rattle.dds_table.specs.Store.{Named, place_named}

-- the order of names: by bits, then by depth
abbrev pub name_cmp : Name → Name → Ordering
name_cmp a b = ordering_then (nat_cmp a.bits b.bits) (nat_cmp a.depth b.depth)

-- the tree has the place of each name, and no other
abbrev pub IsPlaced : BTreeMap Name ℕ → List Named → Type 0
IsPlaced places tables = (n : Name) → tree.get name_cmp places n ≡ place_named tables n

-- the place of a name before the table of another, or of the same, was taken out at a place
abbrev pub old_place : List Named → ℕ → Name → Name → Option ℕ
old_place tables at name n = place_named (take at tables ++ (name, 0) ∷ drop at tables) n

-- there is a place, and it is at least this one
abbrev pub is_from : ℕ → Option ℕ → Bool
is_from at None = false
is_from at (Some place) = nat_le at place

abbrev pub is_of : Name → Option Named → Bool
is_of name None = false
is_of name (Some table) = same_name table.0 name

-- the table at the place is of the name
abbrev pub stands_at : List Named → Name → Option ℕ → Bool
stands_at tables name None = false
stands_at tables name (Some place) = is_of name (slice_get tables place)

abbrev pub or_else : Option ℕ → Option ℕ → Option ℕ
or_else None other = other
or_else (Some place) other = Some place

-- the place of a name while the places from one on have moved up by one
abbrev pub moved_place : List Named → ℕ → Name → ℕ → Name → Option ℕ
moved_place tables at name place n =
    or_else (place_named (take at tables) n) (or_else (option_map (λ k. place + k) (place_named (drop place tables) n)) (old_place tables at name n))
