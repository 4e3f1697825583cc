-- What a brick's turn does to what its open join has copied, and what it says of that of others.
use Rattle.std.specs.Prelude.{ℕ, ◌≡◌, ◌<◌, ◌&&◌, false, true, List, Option, Some, None, is_some}
use Rattle.std.specs.FinMap.{get}
use Rattle.std.specs.List.{AllByRecursion}
use Rattle.dds_base.specs.Name.{Name}
use Rattle.dds_base.specs.NodeSet.{has_node}
use Rattle.dds_base.specs.Place.{last_key}
use Rattle.dds_base.specs.declared.number.NodeNo.{NodeNo}
use Rattle.dds_base.specs.declared.op.Order.{Order}
use Rattle.dds_brick_rows.specs.Refusal.{is_join}
use Rattle.dds_core.specs.Brick.{brick_input, live_brick_turn}
use Rattle.dds_history.specs.Map.{Map}
use Rattle.dds_letters.specs.declared.letter.Letter.{Letter}
use Rattle.dds_letters.specs.declared.letter.Letter.TheVariants as letter
use Rattle.dds_locks.specs.Leases.{is_given}
use Rattle.dds_states.specs.Turn.{BrickTurn}
use Rattle.dds_states.specs.declared.brick_state.BrickState.{BrickState}
use Rattle.dds_states.specs.declared.brick_state.OpenOrder.{OpenOrder}
use Rattle.dds_states.specs.declared.brick_state.OrderPhase.TheVariants.{Copying}
use Rattle.dds_world.specs.Values.{AreCopied}
use Rattle.dds_copies.specs.Copies.{AsksNext, HoldsUnder, TellsNext}

-- what the open join of a brick has copied is the table's
abbrev pub JoinCopies : Map → BrickState → Type 0
JoinCopies table s = (o : OpenOrder) → s.order ≡ Some o → is_join o.task ≡ true → AreCopied table o o.phase

-- the brick hears of its join's source what follows
abbrev pub JoinHears : Map → BrickState → NodeNo → Letter → Type 0
JoinHears table s from l = (o : OpenOrder) → s.order ≡ Some o → is_join o.task ≡ true → o.phase ≡ Copying from → TellsNext table o l

-- behind a turn what the open join has copied is the table's, and what was asked for is what follows
pub record JoinGoes (table : Map) (t : BrickTurn) : Type 0 where
  pub copies : JoinCopies table t.state
  pub asks :
      (o : OpenOrder) → t.state.order ≡ Some o → is_join o.task ≡ true → AllByRecursion (λ (p : NodeNo × Letter). AsksNext o p.1) t.out.letters

-- a brick that is asked by a join is asked for the next part, and holds the table under the name where it answers
pub record IsAsked (table : Map) (s : BrickState) (from : NodeNo) (o : OpenOrder) (name : Name) (place : Option ℕ) : Type 0 where
  pub named : name ≡ o.name
  pub at : place ≡ last_key None o.copied
  pub holds : (is_given s.locks.leases name from && is_some (get s.leaves name)) ≡ true → HoldsUnder table o.name s

abbrev pub SourceHolds : Map → BrickState → NodeNo → OpenOrder → Letter → Type 0
SourceHolds table s from o (letter.CopyAsk number name place) = number ≡ o.number → IsAsked table s from o name place
SourceHolds table s from o other = Unit {0}

-- the letters tell a join the next part, or nothing
abbrev pub AllTell : Map → OpenOrder → List (NodeNo × Letter) → Type 0
AllTell table o ls = AllByRecursion (λ (p : NodeNo × Letter). TellsNext table o p.1) ls

-- of each table, brick, letter and order that comes
pub record TurnsKeepCopies : Type 0 where
  pub hears :
      (table : Map) (s : BrickState) (from : NodeNo) (l : Letter) → JoinCopies table s → JoinHears table s from l
      → JoinGoes table (live_brick_turn s from l)
  pub told : (table : Map) (s : BrickState) (order : Order) → JoinCopies table s → JoinGoes table (brick_input s order)

-- and of each join of another brick, where the letter is of a node that isn't known to have stopped, and no notice of the brick itself
pub record TurnsTellNext : Type 0 where
  pub hears :
      (table : Map) (s : BrickState) (from : NodeNo) (l : Letter) (o : OpenOrder) → from < 80 → has_node s.known from ≡ false
      → (l ≡ letter.Notice → from ≡ s.number → ⊥) → SourceHolds table s from o l → AllTell table o (live_brick_turn s from l).out.letters
  pub told : (table : Map) (s : BrickState) (order : Order) (o : OpenOrder) → AllTell table o (brick_input s order).out.letters
