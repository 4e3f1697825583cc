-- Each refusal was true at the step that made it. Proved of every run.
use Rattle.std.specs.Prelude.{ℕ, ◌≡◌, ◌⊎◌, List, Option, Some, slice_get, take}
use Rattle.std.specs.FinMap.{get}
use Rattle.dds_base.specs.Name.{Name}
use Rattle.dds_base.specs.Number.{Txn, StampOf}
use Rattle.dds_base.specs.declared.leaf.Leaf.{Leaf}
use Rattle.dds_base.specs.declared.number.CallNo.{CallNo}
use Rattle.dds_base.specs.declared.number.CallerNo.{CallerNo}
use Rattle.dds_base.specs.declared.number.NodeNo.{NodeNo}
use Rattle.dds_base.specs.declared.op.Met.{Met}
use Rattle.dds_base.specs.declared.op.Met.TheVariants as met
use Rattle.dds_base.specs.declared.op.Op.{Op}
use Rattle.dds_base.specs.declared.op.Order.TheVariants as order
use Rattle.dds_base.specs.declared.op.OrderReply.TheVariants as answered
use Rattle.dds_brick_rows.specs.Refusal.{get_refusal, update_denial}
use Rattle.dds_letters.specs.declared.letter.Letter.{Letter}
use Rattle.dds_letters.specs.declared.letter.Letter.TheVariants as letter
use Rattle.dds_letters.specs.declared.refusal.Answer.TheVariants as answer
use Rattle.dds_letters.specs.declared.refusal.Ballot.TheVariants as ballot
use Rattle.dds_letters.specs.declared.refusal.Denial.{Denial}
use Rattle.dds_letters.specs.declared.refusal.Denial.TheVariants as denial
use Rattle.dds_letters.specs.declared.refusal.Refusal.{Refusal}
use Rattle.dds_letters.specs.declared.refusal.Wanted.{Wanted}
use Rattle.dds_order_rows.specs.Denials.{lease_denial, split_refusal}
use Rattle.dds_order_rows.specs.OwnOrder.{met_of}
use Rattle.dds_script.specs.Opening.{OpeningOf}
use Rattle.dds_states.specs.declared.brick_state.BrickState.{BrickState}
use Rattle.dds_states.specs.declared.brick_state.OpenOrder.{OpenOrder}
use Rattle.dds_states.specs.declared.library_state.LibraryState.{LibraryState}
use Rattle.dds_states.specs.declared.library_state.OpenCall.{OpenCall}
use Rattle.dds_states.specs.declared.library_state.Phase.TheVariants as phase
use Rattle.dds_states.specs.declared.turn.Replied.TheVariants as replied
use Rattle.dds_world.specs.Places.{reached, world_at, Travels, Handles}
use Rattle.dds_cluster.specs.Trace.{replies_in, run_of}
use Rattle.dds_cluster.specs.World.{brick_at, library_at}
use Rattle.dds_cluster.specs.declared.step.Input.TheVariants as input
use Rattle.dds_cluster.specs.declared.step.Step.{Step}
use Rattle.dds_cluster.specs.declared.step.Step.TheVariants as step

-- at some place of the run the brick took this letter in this state
pub record TookBefore (o : OpeningOf) (journal : List Step) (brick : NodeNo) (l : Letter) (s : BrickState) : Type 0 where
  pub at : ℕ
  pub handles : Handles o journal at brick l s

-- a get's refusal, an update's and a lease's were true when the brick made them
pub record GetWasRefused (o : OpeningOf) (journal : List Step) (brick : NodeNo) (txn : Txn) (why : Refusal) : Type 0 where
  pub caller : CallerNo
  pub call : CallNo
  pub key : ℕ
  pub name : Name
  pub stamp : StampOf
  pub state : BrickState
  pub took : TookBefore o journal brick (letter.Get txn caller call key name stamp) state
  pub true_then : get_refusal state key name stamp ≡ Some why

pub record UpdateWasDenied (o : OpeningOf) (journal : List Step) (brick : NodeNo) (txn : Txn) (why : Denial) : Type 0 where
  pub caller : CallerNo
  pub call : CallNo
  pub below : ℕ
  pub name : Name
  pub stamp : StampOf
  pub list : List NodeNo
  pub op : Op
  pub state : BrickState
  pub took : TookBefore o journal brick (letter.Prepare txn caller call below name stamp list op) state
  pub true_then : update_denial state op name stamp ≡ Some why

pub record LeaseWasRefused (o : OpeningOf) (journal : List Step) (brick asker : NodeNo) (number : ℕ) (why : Refusal) : Type 0 where
  pub what : Wanted
  pub state : BrickState
  pub took : TookBefore o journal brick (letter.Lease number what) state
  pub sender : took.handles.from ≡ asker
  pub true_then : lease_denial state what ≡ Some why

-- a brick refused a get or an update of a call for what it met
pub record GetOfCallWasRefused (o : OpeningOf) (journal : List Step) (caller : ℕ) (call : CallNo) (m : Met) : Type 0 where
  pub brick : NodeNo
  pub txn : Txn
  pub why : Refusal
  pub was : GetWasRefused o journal brick txn why
  pub caller_is : was.caller ≡ caller
  pub call_is : was.call ≡ call
  pub met : met_of why brick ≡ m

pub record UpdateOfCallWasRefused (o : OpeningOf) (journal : List Step) (caller : ℕ) (call : CallNo) (m : Met) : Type 0 where
  pub brick : NodeNo
  pub txn : Txn
  pub why : Refusal
  pub was : UpdateWasDenied o journal brick txn (denial.Refused why)
  pub caller_is : was.caller ≡ caller
  pub call_is : was.call ≡ call
  pub met : met_of why brick ≡ m

abbrev pub CallWasRefused : OpeningOf → List Step → ℕ → CallNo → Met → Type 0
CallWasRefused o journal caller call m =
    GetOfCallWasRefused o journal caller call m ⊎ UpdateOfCallWasRefused o journal caller call m

-- what a call keeps that looks for a newer map: a brick refused it for that; that a brick stopped is no refusal
abbrev pub WasMet : OpeningOf → List Step → ℕ → CallNo → Met → Type 0
WasMet o journal caller call (met.Stopped brick) = Unit {0}
WasMet o journal caller call (met.Lease brick) = CallWasRefused o journal caller call (met.Lease brick)
WasMet o journal caller call (met.Lock brick) = CallWasRefused o journal caller call (met.Lock brick)
WasMet o journal caller call (met.Stale brick) = CallWasRefused o journal caller call (met.Stale brick)

-- the step at a place answers the brick's open order, whose request a member refused
pub record MemberRefused (o : OpeningOf) (journal : List Step) (at : ℕ) (m : Met) : Type 0 where
  pub node : NodeNo
  pub brick : NodeNo
  pub state : BrickState
  pub open_order : OpenOrder
  pub why : Refusal
  pub step : slice_get journal at ≡ Some (step.Handle node brick)
  pub there : brick_at (world_at o journal at) node ≡ Some state
  pub is_open : state.order ≡ Some open_order
  pub was : LeaseWasRefused o journal brick node open_order.number why
  pub met : met_of why brick ≡ m

-- the step at a place orders a split that the brick itself refuses
pub record BrickRefused (o : OpeningOf) (journal : List Step) (at : ℕ) (m : Met) : Type 0 where
  pub node : NodeNo
  pub state : BrickState
  pub name : Name
  pub leaf : Leaf
  pub why : Refusal
  pub step : slice_get journal at ≡ Some (step.Input node (input.Order (order.Split node name)))
  pub there : brick_at (world_at o journal at) node ≡ Some state
  pub own : get state.leaves name ≡ Some leaf
  pub true_then : split_refusal state leaf.name ≡ Some why
  pub met : met_of why node ≡ m

-- the step at a place answers an order with what it met: a member refused it, or, of a split, its own brick did
abbrev pub OrderWasRefused : OpeningOf → List Step → ℕ → Met → Type 0
OrderWasRefused o journal at m = MemberRefused o journal at m ⊎ BrickRefused o journal at m

-- each refusal in a letter, kept by a library or given by an order was true at the step that made it
pub record RefusalsWereTrue (o : OpeningOf) (journal : List Step) : Type 0 where
  pub gets :
      (from to : NodeNo) (txn : Txn) (why : Refusal) →
      Travels (reached o journal) from to (letter.Got txn (answer.Refused why)) →
      GetWasRefused o journal from txn why
  pub updates :
      (from to : NodeNo) (txn : Txn) (why : Denial) →
      Travels (reached o journal) from to (letter.Vote txn (ballot.No why)) →
      UpdateWasDenied o journal from txn why
  pub leases :
      (from to : NodeNo) (number : ℕ) (why : Refusal) →
      Travels (reached o journal) from to (letter.LeaseRefused number why) →
      LeaseWasRefused o journal from to number why
  pub kept :
      (node brick : NodeNo) (s : LibraryState) (at : ℕ) (c : OpenCall) (waiting : List NodeNo) (why : Denial) →
      library_at (reached o journal) node ≡ Some s →
      slice_get s.calls at ≡ Some c →
      c.phase ≡ phase.Aborting waiting why brick →
      UpdateWasDenied o journal brick c.txn why
  pub asking :
      (node : NodeNo) (s : LibraryState) (at : ℕ) (c : OpenCall) (waiting : List NodeNo) (newest : Option Leaf) (m : Met) →
      library_at (reached o journal) node ≡ Some s →
      slice_get s.calls at ≡ Some c →
      c.phase ≡ phase.Asking waiting newest m →
      WasMet o journal c.request.caller c.request.call m
  pub orders :
      (at place : ℕ) (s : Step) (m : Met) →
      slice_get journal at ≡ Some s →
      slice_get (replies_in (run_of o (take at journal)) s) place ≡ Some (replied.Order (answered.Refused m)) →
      OrderWasRefused o journal at m
