-- The leaves that a brick takes.
use Rattle.std.specs.Prelude.{ℕ, Bool, not, ◌==◌, ◌&&◌, ◌-◌, ◌^◌, Option, Some, None, is_some, nat_lt, if◌then◌else◌}
use Rattle.std.specs.FinMap.{remove}
use Rattle.dds_base.specs.Name.{Name}
use Rattle.dds_base.specs.NodeSet.{has_node}
use Rattle.dds_base.specs.declared.leaf.Leaf.{Leaf}
use Rattle.dds_groups.specs.Leaves.{sibling}
use Rattle.dds_groups.specs.Take.{may_take}
use Rattle.dds_locks.specs.Leases.{leased}
use Rattle.dds_locks.specs.Pending.{any_under}
use Rattle.dds_maps.specs.Own.{own_leaf}
use Rattle.dds_trie.specs.Trie.{LeafMap, put}
use Rattle.dds_states.specs.Turn.{BrickTurn, still}
use Rattle.dds_brick_rows.specs.Refusal.{joins_over}
use Rattle.dds_states.specs.declared.brick_state.BrickState.{BrickState}

-- the name is the low half of its whole
abbrev pub is_low : Name → Bool
is_low name = nat_lt name.bits (2 ^ (name.depth - 1))

-- of a split's leaf and its sibling, the low half's
abbrev pub low_of : Leaf → Leaf
low_of leaf = if is_low leaf.name then leaf else sibling leaf

-- and the high half's
abbrev pub high_of : Leaf → Leaf
high_of leaf = if is_low leaf.name then sibling leaf else leaf

-- the brick's leaf replaced by one of the same name, or by a split's leaf and its sibling
abbrev pub replaced : LeafMap → Leaf → Leaf → LeafMap
replaced m own leaf =
    if own.name.depth == leaf.name.depth then put m leaf else put (put (remove m own.name) (low_of leaf)) (high_of leaf)

-- nothing is under way on a name: no lease and no open join overlaps it, and no key under it is locked
abbrev pub is_free : BrickState → Name → Bool
is_free s name =
    not (is_some (leased s.locks.leases name)) && (not (any_under s.locks.pending name) && not (joins_over s.order name))

abbrev pub take_over : BrickState → Leaf → Option Leaf → BrickState
take_over s leaf None = s
take_over s leaf (Some own) =
    if may_take s.number own leaf (has_node s.known) (is_free s own.name) then record s { leaves = replaced s.leaves own leaf } else s

-- the brick takes a leaf that it is told in the place of its own, where it may; its pairs stay
abbrev pub take : BrickState → Leaf → BrickState
take s leaf = take_over s leaf (own_leaf s.leaves leaf.name)

-- Push: takes the leaf where it may
abbrev pub push_row : BrickState → Leaf → BrickTurn
push_row s leaf = still (take s leaf)
