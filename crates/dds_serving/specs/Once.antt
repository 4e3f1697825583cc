-- What one turn of a brick does to its leaves.
use Rattle.std.specs.Prelude.{◌≡◌, ◌⊎◌, ◌||◌, false, true, Option, Some, None, [], is_some}
use Rattle.std.specs.FinMap.{get}
use Rattle.dds_base.specs.Name.{Name}
use Rattle.dds_base.specs.NodeSet.{has_node}
use Rattle.dds_base.specs.declared.leaf.Leaf.{Leaf}
use Rattle.dds_base.specs.declared.number.NodeNo.{NodeNo}
use Rattle.dds_base.specs.declared.op.Order.{Order}
use Rattle.dds_brick_rows.specs.Refusal.{is_join}
use Rattle.dds_brick_rows.specs.Take.{replaced}
use Rattle.dds_core.specs.Brick.{brick_input, live_brick_turn}
use Rattle.dds_groups.specs.Leaves.{successor}
use Rattle.dds_groups.specs.Take.{is_better_rival, maker_known}
use Rattle.dds_letters.specs.declared.letter.Letter.{Letter}
use Rattle.dds_maps.specs.Own.{own_leaf}
use Rattle.dds_order_rows.specs.OwnOrder.{made_leaf, parting, serving}
use Rattle.dds_states.specs.Turn.{BrickTurn, without}
use Rattle.dds_states.specs.declared.brick_state.BrickState.{BrickState}
use Rattle.dds_states.specs.declared.brick_state.OpenOrder.{OpenOrder}
use Rattle.dds_states.specs.declared.brick_state.OrderPhase.TheVariants.{Installing, Leasing}
use Rattle.dds_states.specs.declared.brick_state.Task.TheVariants.{Split}
use Rattle.dds_world.specs.Groups.{letter_leaf}

-- one order at two moments; only a join's leaf changes between them
abbrev pub IsOf : OpenOrder → OpenOrder → Type 0
IsOf p o = (o.number ≡ p.number) × (o.name ≡ p.name) × (o.task ≡ p.task) × ((o.leaf ≡ p.leaf) ⊎ (is_join o.task ≡ true))

-- the order was open before the turn, or is a split of an own leaf that opens in it
pub data IsOpen (s : BrickState) (p : OpenOrder) : Type 0 where
  was_open : s.order ≡ Some p → IsOpen s p
  opens : (at : Name) (leaf : Leaf) → s.order ≡ None → get s.leaves at ≡ Some leaf → p.leaf ≡ Some leaf → p.name ≡ leaf.name → p.task ≡ Split
      → p.phase ≡ Leasing → IsOpen s p

-- the order made the leaf before the turn; or makes it in the turn, of the leaf that it had, since no other brick takes part
pub data HasMadeLeaf (number made_before : NodeNo) (p : OpenOrder) (made : Leaf) : Type 0 where
  before : p.phase ≡ Installing made → HasMadeLeaf number made_before p made
  at_once : (o : OpenOrder) (leaf : Leaf) (u : BrickState) → IsOf p o → p.leaf ≡ Some leaf → o.leaf ≡ Some leaf → u.number ≡ number
      → u.made ≡ made_before → without (parting u o leaf) u.number ≡ [] → made ≡ made_leaf u o leaf o.task → HasMadeLeaf number made_before p made

-- a brick's leaves after a turn in which it was told a leaf, or none: they are as before; or the told leaf stands in the place of an own
-- one, which it comes from in one step, or else is a better rival of, and then its maker is known to have stopped
pub data TakeOnce (s : BrickState) (told : Option Leaf) (t : BrickTurn) : Type 0 where
  stays : t.state.leaves ≡ s.leaves → TakeOnce s told t
  takes : (mine leaf : Leaf) → told ≡ Some leaf → own_leaf s.leaves leaf.name ≡ Some mine
      → (is_some (successor mine leaf) || is_better_rival (has_node s.known) mine leaf) ≡ true
      → (is_some (successor mine leaf) ≡ false → maker_known (has_node s.known) leaf.stamp ≡ true) → t.state.leaves ≡ replaced s.leaves mine leaf
      → TakeOnce s told t

-- or the leaf that the open order made is served
pub data ChangeOnce (s : BrickState) (told : Option Leaf) (t : BrickTurn) : Type 0 where
  rests : TakeOnce s told t → ChangeOnce s told t
  serves : (p : OpenOrder) (made : Leaf) → IsOpen s p → HasMadeLeaf s.number s.made p made
      → t.state.leaves ≡ (serving s p made p.task).leaves → ChangeOnce s told t

-- of each state of a brick: at each letter, and at each order
pub record LeavesChangeOnce : Type 0 where
  pub letters : (s : BrickState) (from : NodeNo) (l : Letter) → ChangeOnce s (letter_leaf l) (live_brick_turn s from l)
  pub orders : (s : BrickState) (o : Order) → ChangeOnce s None (brick_input s o)
