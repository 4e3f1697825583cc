use Rattle.std.specs.Prelude.{ℕ, Bool, true, false, Option, Some, None, ◌==◌, ◌&&◌, ◌||◌, ◌+◌, ◌-◌, List, [], ◌∷◌, ◌++◌, length, take}
use Rattle.std.specs.Prelude.{slice_index, not, nat_lt, if◌then◌else◌}
use Rattle.dds_base.specs.Name.{same_name}
use Rattle.dds_base.specs.Number.{StampOf}
use Rattle.dds_base.specs.BrickList.{has}
use Rattle.dds_base.specs.declared.leaf.Leaf.{Leaf}
use Rattle.dds_groups.specs.declared.successor.Change.{Change}
use Rattle.dds_groups.specs.declared.successor.Change.TheVariants.{Join, Split}
use Rattle.dds_groups.specs.Names.{low_half, high_half, is_half, other_half}

-- both stamps have the same maker and count
abbrev pub same_stamp : StampOf → StampOf → Bool
same_stamp a b = a.maker == b.maker && a.count == b.count

-- the first number is greater, or both are equal and the rest decides
abbrev pub above : ℕ → ℕ → Bool → Bool
above x y rest = nat_lt y x || (x == y && rest)

-- the first leaf is newer than the second: its epoch, depth, stamp's maker and stamp's count are greater, compared in
-- this order
abbrev pub newer : Leaf → Leaf → Bool
newer a b =
    above a.epoch b.epoch (above a.name.depth b.name.depth (above a.stamp.maker b.stamp.maker (nat_lt b.stamp.count a.stamp.count)))

-- the second list is some members of the first, all or none among them, in their order
abbrev pub is_some_of : List ℕ → List ℕ → Bool
is_some_of [] [] = true
is_some_of [] (y ∷ ys) = false
is_some_of (x ∷ xs) [] = true
is_some_of (x ∷ xs) (y ∷ ys) = if x == y then is_some_of xs ys else is_some_of xs (y ∷ ys)

-- the last leaf's predecessor is the first one
abbrev pub follows : Leaf → Leaf → Bool
follows old new = same_stamp new.prev old.stamp && new.epoch == old.epoch + 1

-- the list is some members of the first list in their order, then the maker
abbrev pub is_joined_list : List ℕ → ℕ → List ℕ → Bool
is_joined_list old maker list =
    is_some_of old (take (length list - 1) list) && nat_lt 0 (length list) && slice_index list (length list - 1) == maker

-- the second leaf is the first one's partition after its maker, no member before, has joined the group
abbrev pub is_join : Leaf → Leaf → Bool
is_join old new =
    same_name old.name new.name && not (has old.list new.stamp.maker) && is_joined_list old.list new.stamp.maker new.list

-- the second leaf is a half of the first one's partition, made by a member
abbrev pub is_split : Leaf → Leaf → Bool
is_split old new =
    is_half old.name new.name && is_some_of old.list new.list && has new.list new.stamp.maker

-- how the second leaf comes from the first in one step, if it does
abbrev pub successor : Leaf → Leaf → Option Change
successor old new =
    if follows old new then
    (if is_join old new then Some Join else (if is_split old new then Some Split else None))
    else None

-- the members that aren't known to have stopped, in their order
abbrev pub live : List ℕ → (ℕ → Bool) → List ℕ
live [] known = []
live (x ∷ xs) known = if known x then live xs known else x ∷ live xs known

-- the leaf that a joiner makes: its partition is the old one's, its members are the live ones and the joiner
abbrev pub joined : Leaf → List ℕ → ℕ → ℕ → Leaf
joined old members joiner count =
    record {
      name = old.name;
      epoch = old.epoch + 1;
      stamp = record { maker = joiner; count = count };
      prev = old.stamp;
      list = members ++ joiner ∷ [];
    }

-- the low half's leaf that a member makes by a split
abbrev pub low_child : Leaf → List ℕ → ℕ → ℕ → Leaf
low_child old members maker count =
    record {
      name = low_half old.name;
      epoch = old.epoch + 1;
      stamp = record { maker = maker; count = count };
      prev = old.stamp;
      list = members;
    }

-- the high half's leaf of the same split: all but the name is the low one's
abbrev pub high_child : Leaf → List ℕ → ℕ → ℕ → Leaf
high_child old members maker count = record (low_child old members maker count) { name = high_half old.name }

-- the leaf of the other half after the split that made this leaf: it differs in the name's top bit alone
abbrev pub sibling : Leaf → Leaf
sibling leaf = record leaf { name = other_half leaf.name }
