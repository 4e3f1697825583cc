-- How a join copies the table, step by step.
use Rattle.std.specs.Prelude.{ℕ, ◌≡◌, Bool, true, false, List, Option, Some, None}
use Rattle.std.specs.FinMap.{get}
use Rattle.std.specs.List.{AllByRecursion}
use Rattle.dds_base.specs.Name.{Name, covers}
use Rattle.dds_base.specs.Op.{the_key}
use Rattle.dds_base.specs.declared.leaf.Leaf.{Leaf}
use Rattle.dds_base.specs.declared.number.NodeNo.{NodeNo}
use Rattle.dds_base.specs.declared.op.Op.{Op}
use Rattle.dds_base.specs.declared.pair.Pair.{Pair}
use Rattle.dds_core.specs.Brick.{live_brick_turn}
use Rattle.dds_history.specs.Map.{Map, after}
use Rattle.dds_letters.specs.declared.letter.Letter.{Letter}
use Rattle.dds_letters.specs.declared.letter.Letter.TheVariants as letter
use Rattle.dds_order_rows.specs.Orders.{pairs_after}
use Rattle.dds_order_rows.specs.OwnOrder.{serving}
use Rattle.dds_states.specs.declared.brick_state.BrickState.{BrickState}
use Rattle.dds_states.specs.declared.brick_state.OpenOrder.{OpenOrder}
use Rattle.dds_states.specs.declared.brick_state.OrderPhase.{OrderPhase}
use Rattle.dds_states.specs.declared.brick_state.OrderPhase.TheVariants.{Copying}
use Rattle.dds_states.specs.declared.brick_state.Task.TheVariants.{Join}
use Rattle.dds_world.specs.Values.{AreCopied}
use Rattle.dds_copies.specs.Copies.{AsksNext, HoldsUnder, OrderCopies, TellsNext}

-- of each table: a source that holds it under the join's name answers with its next part; a part that comes to the join leaves what it has
-- copied the table's; an operation on another key leaves it so; and a brick without pairs under the name holds the table there at the
-- join's end, and has other keys as before
pub record CopyingKeepsTheTable : Type 0 where
  pub answers :
      (table : Map) (s : BrickState) (to : NodeNo) (number : ℕ) (o : OpenOrder) (name : Name) (place : Option ℕ) → number ≡ o.number
      → AsksNext o (letter.CopyAsk number name place) → HoldsUnder table o.name s
      → AllByRecursion (λ (p : NodeNo × Letter). TellsNext table o p.1) (live_brick_turn s to (letter.CopyAsk number name place)).out.letters
  pub grows :
      (table : Map) (s : BrickState) (o : OpenOrder) (source : NodeNo) (number : ℕ) (last : Bool) (pairs : List Pair) → s.order ≡ Some o
      → o.phase ≡ Copying source → AreCopied table o (Copying source) → TellsNext table o (letter.CopyPart number last pairs)
      → OrderCopies table (live_brick_turn s source (letter.CopyPart number last pairs)).state
  pub stays :
      (table : Map) (op : Op) (o : OpenOrder) (phase : OrderPhase) → covers o.name (the_key op) ≡ false → AreCopied table o phase
      → AreCopied (after table op) o phase
  pub ends :
      (table : Map) (s : BrickState) (o : OpenOrder) (made : Leaf) (via : NodeNo) → o.copied ≡ pairs_after table o.name None
      → ((key : ℕ) → covers o.name key ≡ true → get s.pairs key ≡ None) → HoldsUnder table o.name (serving s o made (Join via))
  pub others :
      (table : Map) (s : BrickState) (o : OpenOrder) (made : Leaf) (via : NodeNo) (key : ℕ) → o.copied ≡ pairs_after table o.name None
      → covers o.name key ≡ false → get (serving s o made (Join via)).pairs key ≡ get s.pairs key
