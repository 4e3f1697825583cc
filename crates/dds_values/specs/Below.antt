-- What a change of a brick's leaves keeps, and what the values take of the end of a brick's own join, which `dds_copies` proves.
use Rattle.std.specs.Prelude.{ℕ, ◌≡◌, true, false, List, Some, is_some}
use Rattle.std.specs.FinMap.{get}
use Rattle.std.specs.List.{AllByRecursion}
use Rattle.dds_base.specs.Name.{covers}
use Rattle.dds_base.specs.Op.{the_key}
use Rattle.dds_base.specs.declared.leaf.Leaf.{Leaf}
use Rattle.dds_base.specs.declared.number.NodeNo.{NodeNo}
use Rattle.dds_base.specs.declared.pair.Pair.{Pair}
use Rattle.dds_base.specs.declared.pending.Pending.{Pending}
use Rattle.dds_brick_rows.specs.Refusal.{is_join}
use Rattle.dds_cluster.specs.declared.trace.Made.{Made}
use Rattle.dds_core.specs.Brick.{live_brick_turn}
use Rattle.dds_core.specs.Notice.{learns, order_part}
use Rattle.dds_letters.specs.declared.letter.Letter.{Letter}
use Rattle.dds_letters.specs.declared.letter.Letter.TheVariants as letter
use Rattle.dds_net.specs.Event.{Event, History, brick_takes}
use Rattle.dds_order_rows.specs.OwnOrder.{serving}
use Rattle.dds_states.specs.Leaf.{leaf_for}
use Rattle.dds_states.specs.declared.brick_state.BrickState.{BrickState}
use Rattle.dds_states.specs.declared.brick_state.OpenOrder.{OpenOrder}
use Rattle.dds_values.specs.Values.{bound_in}

abbrev pub IsCovered : BrickState → Pending → Type 0
IsCovered s p = is_some (leaf_for s.leaves (the_key p.op)) ≡ true

-- a brick has what the table has of each key that its leaves come to cover
abbrev pub ComesHeld : List Made → BrickState → BrickState → Type 0
ComesHeld made s u =
    (key : ℕ) → is_some (leaf_for u.leaves key) ≡ true → is_some (leaf_for s.leaves key) ≡ false → get u.pairs key ≡ bound_in made key

-- and has the same of each key that its leaves cover before and after
pub record LeavesKeepHeld (made : List Made) (s u : BrickState) : Type 0 where
  pub stays :
      (key : ℕ) → is_some (leaf_for u.leaves key) ≡ true → is_some (leaf_for s.leaves key) ≡ true → get u.pairs key ≡ get s.pairs key
  pub comes : ComesHeld made s u

-- one order at two moments; what it has copied at the later one lies under its name
abbrev pub IsAs : OpenOrder → OpenOrder → Type 0
IsAs p o = (o.name ≡ p.name) × (o.task ≡ p.task) × AllByRecursion (λ (x : Pair). covers o.name x.key ≡ true) o.copied

-- where the leaf that the brick's own join made is served, the brick has what the table has of each key that it comes to cover
abbrev pub WhereServed : List Made → BrickState → BrickState → Type 0
WhereServed made s u =
    (p o : OpenOrder) (leaf : Leaf) → s.order ≡ Some p → IsAs p o → is_join o.task ≡ true → u.leaves ≡ (serving s o leaf o.task).leaves
    → u.pairs ≡ (serving s o leaf o.task).pairs → ComesHeld made s u

-- at a letter at which the own order goes on, which may end it: for a notice, where that has gone on
abbrev pub OwnLeavesAt : List Made → BrickState → NodeNo → Letter → Type 0
OwnLeavesAt made s from (letter.Granted number leaf) = WhereServed made s (live_brick_turn s from (letter.Granted number leaf)).state
OwnLeavesAt made s from (letter.CopyPart number last pairs) = WhereServed made s (live_brick_turn s from (letter.CopyPart number last pairs)).state
OwnLeavesAt made s from (letter.Installed number name) = WhereServed made s (live_brick_turn s from (letter.Installed number name)).state
OwnLeavesAt made s from letter.Notice = WhereServed made s (order_part (learns s from) from).state
OwnLeavesAt made s from other = Unit {0}

-- and at an event
abbrev pub LeavesKept : History → Event → Type 0
LeavesKept h (brick_takes at from l s) = OwnLeavesAt h.made s from l
LeavesKept h other = Unit {0}
