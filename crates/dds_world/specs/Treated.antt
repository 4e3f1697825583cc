-- The steps at which a library treats one of its calls.
use Rattle.std.specs.Prelude.{ℕ, ◌≡◌, ◌≤◌, ◌⊎◌, ◌==◌, ◌&&◌, ◌+◌, Bool, List, [], ◌∷◌, Option, Some, None, slice_get, if◌then◌else◌}
use Rattle.std.specs.List.{find}
use Rattle.dds_base.specs.Number.{Txn, same_txn}
use Rattle.dds_base.specs.declared.leaf.Leaf.{Leaf}
use Rattle.dds_base.specs.declared.number.NodeNo.{NodeNo}
use Rattle.dds_base.specs.declared.op.Op.{Op}
use Rattle.dds_cluster.specs.World.{library_at, link}
use Rattle.dds_cluster.specs.declared.step.Input.TheVariants as input
use Rattle.dds_cluster.specs.declared.step.Message.{Message}
use Rattle.dds_cluster.specs.declared.step.Step.{Step}
use Rattle.dds_cluster.specs.declared.step.Step.TheVariants as step
use Rattle.dds_cluster.specs.declared.trace.Asked.{Asked}
use Rattle.dds_cluster.specs.declared.trace.Told.{Told}
use Rattle.dds_core.specs.LibraryTurn.{at_attempt, attempts, learns, library_turn}
use Rattle.dds_letters.specs.declared.letter.Letter.{Letter}
use Rattle.dds_letters.specs.declared.letter.Letter.TheVariants as letter
use Rattle.dds_script.specs.Opening.{OpeningOf}
use Rattle.dds_states.specs.Leaf.{leaf_for}
use Rattle.dds_states.specs.declared.library_state.LibraryState.{LibraryState}
use Rattle.dds_states.specs.declared.library_state.OpenCall.{OpenCall}
use Rattle.dds_states.specs.declared.library_state.Phase.{Phase}
use Rattle.dds_states.specs.declared.library_state.Phase.TheVariants as phase
use Rattle.dds_world.specs.Places.{world_at}

-- a place from a call's Input to its answer, both included
pub record IsWithinCall (a : Asked) (told : Told) (at : ℕ) : Type 0 where
  pub from_input : a.place ≤ at
  pub to_answer : at ≤ told.place

-- the open call of a library that is this call
abbrev pub is_this : Asked → OpenCall → Bool
is_this a c = c.request.caller == a.caller && c.request.call.0 == a.call.0

abbrev pub open_as : LibraryState → Asked → Option OpenCall
open_as s a = find (is_this a) s.calls

-- the members of an update's attempt
abbrev pub attempt_list : Phase → List NodeNo
attempt_list (phase.Getting leaf brick) = []
attempt_list (phase.Preparing leaf list waiting) = list
attempt_list (phase.Committing leaf list waiting was) = list
attempt_list (phase.Aborting waiting denial brick) = []
attempt_list (phase.Asking waiting newest met) = []

abbrev pub list_of_call : Option OpenCall → List NodeNo
list_of_call None = []
list_of_call (Some c) = attempt_list c.phase

-- the list of the leaf that a library's map has for a key
abbrev pub list_of_leaf : Option Leaf → List NodeNo
list_of_leaf None = []
list_of_leaf (Some leaf) = leaf.list

abbrev pub map_list : LibraryState → ℕ → List NodeNo
map_list s key = list_of_leaf (leaf_for s.map key)

-- the library directly after the part of a notice that treats an attempt
abbrev pub treated : LibraryState → NodeNo → Txn → List Txn → LibraryState
treated s y txn [] = s
treated s y txn (t ∷ ts) =
    if same_txn t txn then (at_attempt s y letter.Notice (Some t)).state
    else treated (at_attempt s y letter.Notice (Some t)).state y txn ts

abbrev pub treated_call : LibraryState → NodeNo → Letter → Option OpenCall → LibraryState
treated_call s from letter.Notice (Some c) = treated (learns s from) from c.txn (attempts s.calls)
treated_call s from l c = (library_turn s from l).state

-- at the place the call is made
pub record IsInputOf (journal : List Step) (at : ℕ) (node : NodeNo) (a : Asked) (within after : LibraryState) : Type 0 where
  pub op : Op
  pub step : slice_get journal at ≡ Some (step.Input node (input.Call a.caller a.call op))
  pub treats : within ≡ after

-- at the place the call's library takes a letter that changes or answers the call
pub record IsHandleOf (o : OpeningOf) (journal : List Step) (at : ℕ) (node : NodeNo) (a : Asked) (before within after : LibraryState)
    : Type 0 where
  pub from : NodeNo
  pub message : Message
  pub step : slice_get journal at ≡ Some (step.Handle node from)
  pub first : slice_get (link (world_at o journal at) from node) 0 ≡ Some message
  pub treats : within ≡ treated_call before from message.letter (open_as before a)
  pub changes : open_as after a ≡ open_as before a → ⊥

-- within the call its library treats it, in these states: before the step, directly after the part of the step that
-- treats the call, and after the step
pub record Treats (o : OpeningOf) (journal : List Step) (a : Asked) (told : Told) (before within after : LibraryState) : Type 0 where
  pub at : ℕ
  pub in_call : IsWithinCall a told at
  pub node : NodeNo
  pub is_before : library_at (world_at o journal at) node ≡ Some before
  pub is_after : library_at (world_at o journal (at + 1)) node ≡ Some after
  pub how : IsInputOf journal at node a within after ⊎ IsHandleOf o journal at node a before within after
