-- Leaves with one name and stamp are one leaf; the bricks that serve a key list each other; leaves list the live members of those that they
-- came from; and each pending transaction lies under a leaf, and lists its live members. All of it is proved of every run (`dds_law_config`).
use Rattle.std.specs.Prelude.{ℕ, ◌≡◌, ◌⊎◌, true, List, Option, Some, None, is_some, slice_get}
use Rattle.std.specs.FinMap.{get}
use Rattle.dds_base.specs.BrickList.{has}
use Rattle.dds_base.specs.Name.{Name}
use Rattle.dds_base.specs.Op.{the_key}
use Rattle.dds_base.specs.declared.leaf.Leaf.{Leaf}
use Rattle.dds_base.specs.declared.number.NodeNo.{NodeNo}
use Rattle.dds_base.specs.declared.pending.Pending.{Pending}
use Rattle.dds_cluster.specs.World.{World, brick_at, library_at}
use Rattle.dds_cluster.specs.declared.step.Step.{Step}
use Rattle.dds_letters.specs.declared.letter.Letter.{Letter}
use Rattle.dds_letters.specs.declared.letter.Letter.TheVariants as letter
use Rattle.dds_letters.specs.declared.refusal.Answer.{Answer}
use Rattle.dds_letters.specs.declared.refusal.Answer.TheVariants as answer
use Rattle.dds_letters.specs.declared.refusal.Ballot.{Ballot}
use Rattle.dds_letters.specs.declared.refusal.Ballot.TheVariants as ballot
use Rattle.dds_letters.specs.declared.refusal.Denial.{Denial}
use Rattle.dds_letters.specs.declared.refusal.Denial.TheVariants as denial
use Rattle.dds_letters.specs.declared.refusal.Refusal.{Refusal}
use Rattle.dds_letters.specs.declared.refusal.Refusal.TheVariants as refusal
use Rattle.dds_letters.specs.declared.refusal.Wanted.{Wanted}
use Rattle.dds_letters.specs.declared.refusal.Wanted.TheVariants as wanted
use Rattle.dds_script.specs.Opening.{OpeningOf}
use Rattle.dds_states.specs.Leaf.{leaf_for}
use Rattle.dds_states.specs.declared.brick_state.BrickState.{BrickState}
use Rattle.dds_states.specs.declared.brick_state.OpenOrder.{OpenOrder}
use Rattle.dds_states.specs.declared.brick_state.OrderPhase.{OrderPhase}
use Rattle.dds_states.specs.declared.brick_state.OrderPhase.TheVariants.{Leasing, Copying, Installing}
use Rattle.dds_states.specs.declared.library_state.LibraryState.{LibraryState}
use Rattle.dds_states.specs.declared.library_state.OpenCall.{OpenCall}
use Rattle.dds_states.specs.declared.library_state.Phase.{Phase}
use Rattle.dds_states.specs.declared.library_state.Phase.TheVariants as phase
use Rattle.dds_trie.specs.Trie.{is_under}
use Rattle.dds_world.specs.Places.{reached, IsLive, Serves, Travels}

-- the leaf that a refusal tells
abbrev pub refusal_leaf : Refusal → Option Leaf
refusal_leaf refusal.Lease = None
refusal_leaf refusal.Lock = None
refusal_leaf (refusal.Stale leaf) = leaf

abbrev pub denial_leaf : Denial → Option Leaf
denial_leaf (denial.Refused why) = refusal_leaf why
denial_leaf denial.Full = None

abbrev pub answer_leaf : Answer → Option Leaf
answer_leaf answer.Absent = None
answer_leaf (answer.Value value) = None
answer_leaf (answer.Refused why) = refusal_leaf why

abbrev pub ballot_leaf : Ballot → Option Leaf
ballot_leaf ballot.Yes = None
ballot_leaf (ballot.No why) = denial_leaf why

abbrev pub wanted_leaf : Wanted → Option Leaf
wanted_leaf (wanted.Name name) = None
wanted_leaf (wanted.Leaf leaf) = Some leaf

-- the leaf in a letter
abbrev pub letter_leaf : Letter → Option Leaf
letter_leaf (letter.Push leaf) = Some leaf
letter_leaf (letter.Got txn a) = answer_leaf a
letter_leaf (letter.Vote txn vote) = ballot_leaf vote
letter_leaf (letter.MapTell txn leaf) = leaf
letter_leaf (letter.Lease number what) = wanted_leaf what
letter_leaf (letter.Granted number leaf) = Some leaf
letter_leaf (letter.LeaseRefused number why) = refusal_leaf why
letter_leaf (letter.Install number leaf) = Some leaf
letter_leaf (letter.Get txn caller call key name stamp) = None
letter_leaf (letter.Prepare txn caller call below name stamp list op) = None
letter_leaf (letter.Commit txn) = None
letter_leaf (letter.Abort txn) = None
letter_leaf (letter.MapAsk txn caller call key) = None
letter_leaf (letter.Applied txn was) = None
letter_leaf (letter.Aborted txn) = None
letter_leaf (letter.Help txn list) = None
letter_leaf (letter.Query txn list) = None
letter_leaf (letter.Status txn status) = None
letter_leaf (letter.Outcome txn commit) = None
letter_leaf (letter.Release number name) = None
letter_leaf (letter.CopyAsk number name after) = None
letter_leaf (letter.CopyPart number last pairs) = None
letter_leaf (letter.Installed number name) = None
letter_leaf letter.Notice = None

-- the leaf of an open call
abbrev pub call_leaf : Phase → Option Leaf
call_leaf (phase.Getting leaf brick) = Some leaf
call_leaf (phase.Preparing leaf list waiting) = Some leaf
call_leaf (phase.Committing leaf list waiting was) = Some leaf
call_leaf (phase.Aborting waiting why brick) = denial_leaf why
call_leaf (phase.Asking waiting newest met) = newest

-- the leaf that an order makes
abbrev pub made_leaf : OrderPhase → Option Leaf
made_leaf Leasing = None
made_leaf (Copying source) = None
made_leaf (Installing made) = Some made

-- a leaf stands at a brick: it is one of its own, or its order's, or the one that its order makes
pub record IsBricksLeaf (w : World) (leaf : Leaf) : Type 0 where
  pub brick : NodeNo
  pub state : BrickState
  pub name : Name
  pub there : brick_at w brick ≡ Some state
  pub is : get state.leaves name ≡ Some leaf

pub record IsOrdersLeaf (w : World) (leaf : Leaf) : Type 0 where
  pub brick : NodeNo
  pub state : BrickState
  pub order : OpenOrder
  pub there : brick_at w brick ≡ Some state
  pub open_order : state.order ≡ Some order
  pub is : (order.leaf ≡ Some leaf) ⊎ (made_leaf order.phase ≡ Some leaf)

-- or at a library: in its map, or in an open call
pub record IsMapsLeaf (w : World) (leaf : Leaf) : Type 0 where
  pub node : NodeNo
  pub state : LibraryState
  pub name : Name
  pub there : library_at w node ≡ Some state
  pub is : get state.map name ≡ Some leaf

pub record IsCallsLeaf (w : World) (leaf : Leaf) : Type 0 where
  pub node : NodeNo
  pub state : LibraryState
  pub at : ℕ
  pub call : OpenCall
  pub there : library_at w node ≡ Some state
  pub open_call : slice_get state.calls at ≡ Some call
  pub is : call_leaf call.phase ≡ Some leaf

-- or in a letter on its way
pub record IsLettersLeaf (w : World) (leaf : Leaf) : Type 0 where
  pub from : NodeNo
  pub to : NodeNo
  pub sent : Letter
  pub travels : Travels w from to sent
  pub is : letter_leaf sent ≡ Some leaf

-- a leaf stands in a node or in a letter
pub data HasLeaf : World → Leaf → Type 0 where
  in_brick : (w : World) (leaf : Leaf) → IsBricksLeaf w leaf → HasLeaf w leaf
  in_order : (w : World) (leaf : Leaf) → IsOrdersLeaf w leaf → HasLeaf w leaf
  in_map : (w : World) (leaf : Leaf) → IsMapsLeaf w leaf → HasLeaf w leaf
  in_call : (w : World) (leaf : Leaf) → IsCallsLeaf w leaf → HasLeaf w leaf
  in_letter : (w : World) (leaf : Leaf) → IsLettersLeaf w leaf → HasLeaf w leaf

-- two leaves of one name and stamp are one leaf
abbrev pub SameStampSameLeaf : OpeningOf → List Step → Type 0
SameStampSameLeaf o journal =
    (a b : Leaf) → HasLeaf (reached o journal) a → HasLeaf (reached o journal) b → a.name ≡ b.name → a.stamp ≡ b.stamp → a ≡ b

-- each live brick of the first list is in the second one
abbrev pub ListsTheLive : World → List NodeNo → List NodeNo → Type 0
ListsTheLive w list other = (brick : NodeNo) (s : BrickState) → has list brick ≡ true → IsLive w brick s → has other brick ≡ true

-- bricks that serve a key list each other; a leaf lists the live members of the leaf that it came from; and a transaction
-- pending at a live brick is of a key that the brick serves, and lists the live members of the leaf that covers it
pub record ServersShareAGroup (o : OpeningOf) (journal : List Step) : Type 0 where
  pub share :
      (a b : NodeNo) (key : ℕ) (s t : BrickState) (leaf other : Leaf) →
      Serves (reached o journal) a key s leaf →
      Serves (reached o journal) b key t other →
      has leaf.list b ≡ true
  pub parents :
      (leaf parent : Leaf) →
      HasLeaf (reached o journal) leaf →
      HasLeaf (reached o journal) parent →
      leaf.prev ≡ parent.stamp →
      is_under parent.name leaf.name ≡ true →
      ListsTheLive (reached o journal) parent.list leaf.list
  pub covered :
      (brick : NodeNo) (s : BrickState) (at : ℕ) (p : Pending) →
      IsLive (reached o journal) brick s →
      slice_get s.locks.pending at ≡ Some p →
      is_some (leaf_for s.leaves (the_key p.op)) ≡ true
  pub pending :
      (brick : NodeNo) (s : BrickState) (at : ℕ) (p : Pending) (leaf : Leaf) →
      slice_get s.locks.pending at ≡ Some p →
      Serves (reached o journal) brick (the_key p.op) s leaf →
      ListsTheLive (reached o journal) leaf.list p.list
