-- What a brick does for the orders of other bricks.
use Rattle.std.specs.Prelude.{ℕ, Bool, not, ◌&&◌, ◌+◌, List, [], ◌∷◌, ◌++◌, Option, Some, None, is_some, length, filter, map, take, nat_le, if◌then◌else◌}
use Rattle.std.specs.List.{insert}
use Rattle.std.specs.FinMap.{get, entries}
use Rattle.dds_base.specs.Name.{Name, covers}
use Rattle.dds_base.specs.BrickList.{has}
use Rattle.dds_base.specs.Place.{is_after, is_before}
use Rattle.dds_base.specs.declared.leaf.Leaf.{Leaf}
use Rattle.dds_base.specs.declared.number.NodeNo.{NodeNo}
use Rattle.dds_base.specs.declared.pair.Pair.{Pair}
use Rattle.dds_groups.specs.Leaves.{successor}
use Rattle.dds_history.specs.Map.{Map, pairs_of}
use Rattle.dds_letters.specs.declared.copied_pairs.TheConstants.{COPIED}
use Rattle.dds_letters.specs.declared.letter.Letter.TheVariants as letter
use Rattle.dds_letters.specs.declared.refusal.Refusal.{Refusal}
use Rattle.dds_letters.specs.declared.refusal.Wanted.{Wanted}
use Rattle.dds_letters.specs.declared.refusal.Wanted.TheVariants as wanted
use Rattle.dds_locks.specs.Leases.{lease_of, is_given, released}
use Rattle.dds_maps.specs.Own.{own_leaf}
use Rattle.dds_states.specs.Turn.{BrickTurn, still, sends}
use Rattle.dds_brick_rows.specs.Refusal.{lease_refusal}
use Rattle.dds_brick_rows.specs.Take.{take as take_leaf, replaced}
use Rattle.dds_states.specs.declared.brick_state.BrickState.{BrickState}

-- the brick with a lease more
abbrev pub leasing : BrickState → Name → ℕ → BrickState
leasing s name holder =
    record s { locks = record s.locks { leases = s.locks.leases ++ record { name = name; holder = holder } ∷ [] } }

-- the brick without a lease
abbrev pub releasing : BrickState → Name → ℕ → BrickState
releasing s name holder = record s { locks = record s.locks { leases = released s.locks.leases name holder } }

abbrev pub granted : BrickState → NodeNo → ℕ → Name → Option Leaf → BrickTurn
granted s from order name None = still s
granted s from order name (Some leaf) = sends (leasing s name from) ((from, letter.Granted order leaf) ∷ [])

abbrev pub lease_answered : BrickState → NodeNo → ℕ → Name → Option Refusal → BrickTurn
lease_answered s from order name None = granted s from order name (get s.leaves name)
lease_answered s from order name (Some refusal) = sends s ((from, letter.LeaseRefused order refusal) ∷ [])

-- Lease: first takes the leaf, where one is told and it may; then refuses, or gives the lease and tells the own leaf
abbrev pub lease_row : BrickState → NodeNo → ℕ → Wanted → BrickTurn
lease_row s from order (wanted.Name name) = lease_answered s from order name (lease_refusal s name None)
lease_row s from order (wanted.Leaf leaf) =
    lease_answered (take_leaf s leaf) from order leaf.name (lease_refusal (take_leaf s leaf) leaf.name (Some leaf.stamp))

-- Release: drops the sender's lease of the name
abbrev pub release_row : BrickState → NodeNo → Name → BrickTurn
release_row s from name = still (releasing s name from)

-- the place of a key among pairs in order of place: that of the first pair that it stands before
abbrev pub place_for : List Pair → ℕ → ℕ
place_for [] key = 0
place_for (p ∷ ps) key = if is_before key p.key then 0 else place_for ps key + 1

-- pairs in order of place, with a pair more
abbrev pub placed : Pair → List Pair → List Pair
placed p ps = insert ps (place_for ps p.key) p

-- those of the pairs that lie under a name and after a key, in order of place
abbrev pub in_order : List Pair → Name → Option ℕ → List Pair → List Pair
in_order found name after [] = found
in_order found name after (p ∷ ps) =
    in_order (if covers name p.key && is_after after p.key then placed p found else found) name after ps

-- a map's pairs under a name whose places are after that of a key, if there is one, in order of place
abbrev pub pairs_after : Map → Name → Option ℕ → List Pair
pairs_after pairs name after = in_order [] name after (pairs_of (entries pairs))

-- CopyAsk: where the sender has the lease and the name is an own leaf's, sends the next pairs, as many as a part takes,
-- and whether none follow
abbrev pub copy_part : List Pair → NodeNo → ℕ → BrickState → BrickTurn
copy_part pairs from order s = sends s ((from, letter.CopyPart order (nat_le (length pairs) COPIED) (take COPIED pairs)) ∷ [])

abbrev pub copy_ask_row : BrickState → NodeNo → ℕ → Name → Option ℕ → BrickTurn
copy_ask_row s from order name after =
    if is_given s.locks.leases name from && is_some (get s.leaves name) then copy_part (pairs_after s.pairs name after) from order s
    else still s

abbrev pub installed_over : BrickState → NodeNo → ℕ → Leaf → Option Leaf → BrickTurn
installed_over s from order leaf None = still s
installed_over s from order leaf (Some own) =
    if is_some (successor own leaf)
    then sends (record s { leaves = replaced s.leaves own leaf }) ((from, letter.Installed order own.name) ∷ [])
    else still s

-- Install: where a lease of the sender overlaps the leaf's name, the leaf lists this brick, and it comes in one step
-- from an own leaf, replaces that one and says which it was
abbrev pub install_row : BrickState → NodeNo → ℕ → Leaf → BrickTurn
install_row s from order leaf =
    if is_some (lease_of s.locks.leases leaf.name from) && has leaf.list s.number
    then installed_over s from order leaf (own_leaf s.leaves leaf.name)
    else still s
