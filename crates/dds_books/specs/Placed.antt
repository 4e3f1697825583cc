-- Which nodes the numbers in states and letters are, whose attempts they name, and what the phases of open calls keep.
use Rattle.std.specs.Prelude.{ℕ, ◌≡◌, ◌<◌, ◌≤◌, ◌⊎◌, Bool, true, false, List, Option, Some, None}
use Rattle.std.specs.FinMap.{get}
use Rattle.std.specs.List.{AllByRecursion}
use Rattle.dds_base.specs.BrickList.{has}
use Rattle.dds_base.specs.Name.{Name}
use Rattle.dds_base.specs.NodeSet.{has_node}
use Rattle.dds_base.specs.Number.{Txn}
use Rattle.dds_base.specs.Op.{is_get}
use Rattle.dds_base.specs.declared.leaf.Leaf.{Leaf}
use Rattle.dds_base.specs.declared.node_set.NodeSet.{NodeSet}
use Rattle.dds_base.specs.declared.op.Op.{Op}
use Rattle.dds_locks.specs.declared.leases.Lease.{Lease}
use Rattle.dds_base.specs.declared.pending.Pending.{Pending}
use Rattle.dds_letters.specs.declared.letter.Letter.{Letter}
use Rattle.dds_letters.specs.declared.letter.Letter.TheVariants as letter
use Rattle.dds_letters.specs.declared.refusal.Answer.{Answer}
use Rattle.dds_letters.specs.declared.refusal.Answer.TheVariants as answer
use Rattle.dds_letters.specs.declared.refusal.Ballot.{Ballot}
use Rattle.dds_letters.specs.declared.refusal.Ballot.TheVariants as ballot
use Rattle.dds_letters.specs.declared.refusal.Denial.{Denial}
use Rattle.dds_letters.specs.declared.refusal.Denial.TheVariants as denial
use Rattle.dds_letters.specs.declared.refusal.Refusal.{Refusal}
use Rattle.dds_letters.specs.declared.refusal.Refusal.TheVariants as refusal
use Rattle.dds_letters.specs.declared.refusal.Wanted.{Wanted}
use Rattle.dds_letters.specs.declared.refusal.Wanted.TheVariants as wanted
use Rattle.dds_locks.specs.State.{LockState}
use Rattle.dds_net.proofs.Carried.{AllCarried}
use Rattle.dds_net.proofs.Pairwise.{Pairwise}
use Rattle.dds_net.specs.Net.{Net, Node, nowhere, a_brick, a_library, Sizes, is_in}
use Rattle.dds_states.specs.Turn.{is_none_left}
use Rattle.dds_states.specs.declared.brick_state.BrickState.{BrickState}
use Rattle.dds_states.specs.declared.brick_state.Deferred.{Deferred}
use Rattle.dds_states.specs.declared.brick_state.OpenOrder.{OpenOrder}
use Rattle.dds_states.specs.declared.brick_state.OrderPhase.{OrderPhase}
use Rattle.dds_states.specs.declared.brick_state.OrderPhase.TheVariants as order_phase
use Rattle.dds_states.specs.declared.brick_state.Resolving.{Resolving}
use Rattle.dds_states.specs.declared.brick_state.Task.{Task}
use Rattle.dds_states.specs.declared.brick_state.Task.TheVariants as task
use Rattle.dds_states.specs.declared.library_state.LibraryState.{LibraryState}
use Rattle.dds_states.specs.declared.library_state.OpenCall.{OpenCall}
use Rattle.dds_states.specs.declared.library_state.Phase.{Phase}
use Rattle.dds_states.specs.declared.library_state.Phase.TheVariants as phase
use Rattle.dds_trie.specs.Trie.{LeafMap}

-- The invariant, of nodes and channels alone.
--
-- | part       | why it is needed                                        | which rows keep it                                    |
-- | `NodeOk`   | a node's state has its number, and the nodes are those  | none changes a number                                 |
-- |            | of the cluster: a letter comes to the node of its number |                                                       |
-- | `AreBricks` | lists of leaves, calls, transactions and orders have   | what makes a list keeps some of one's members; a join |
-- |            | each brick once: a letter to each comes to each once    | adds a brick that the leaf doesn't list (`TaskOk`)    |
-- | `Made`     | an attempt to come has no letters, and isn't pending    | what takes a number counts it                         |
-- | `IsFrom`,  | a conversation on an attempt is between its library and | Get, Prepare, Commit, Abort and MapAsk answer their   |
-- | `IsTo`     | a brick                                                 | sender; calls send letters of their own attempts      |
-- | `IsBetween` | orders and resolvings are between bricks               | what bricks send to others, from lists of bricks      |
-- | `PhaseOk`  | a phase fits its operation; who is waited for is some of | all rows of calls; a Notice call by call              |
-- |            | the list, at least one, none known as stopped           |                                                       |
-- | `apart`    | a notice treats each open call once                     | what begins takes a new number                        |

abbrev pub IsBrick : Sizes → ℕ → Type 0
IsBrick z k = k < z.bricks

-- bricks of the cluster, each once
pub record AreBricks (z : Sizes) (list : List ℕ) : Type 0 where
  pub bricks : AllByRecursion (IsBrick z) list
  pub apart : Pairwise (λ m n. m ≡ n → ⊥) list

abbrev pub LeafOk : Sizes → Leaf → Type 0
LeafOk z leaf = AreBricks z leaf.list

abbrev pub OfSome : {X : Type 0} → (X → Type 0) → Option X → Type 0
OfSome P None = Unit {0}
OfSome P (Some x) = P x

abbrev pub LeavesOk : Sizes → LeafMap → Type 0
LeavesOk z m = (name : Name) (leaf : Leaf) → get m name ≡ Some leaf → LeafOk z leaf

-- leaves in refusals
abbrev pub RefusalOk : Sizes → Refusal → Type 0
RefusalOk z (refusal.Stale leaf) = OfSome (LeafOk z) leaf
RefusalOk z other = Unit {0}

abbrev pub DenialOk : Sizes → Denial → Type 0
DenialOk z (denial.Refused why) = RefusalOk z why
DenialOk z denial.Full = Unit {0}

abbrev pub AnswerOk : Sizes → Answer → Type 0
AnswerOk z (answer.Refused why) = RefusalOk z why
AnswerOk z other = Unit {0}

abbrev pub BallotOk : Sizes → Ballot → Type 0
BallotOk z (ballot.No why) = DenialOk z why
BallotOk z ballot.Yes = Unit {0}

abbrev pub WantedOk : Sizes → Wanted → Type 0
WantedOk z (wanted.Leaf leaf) = LeafOk z leaf
WantedOk z (wanted.Name name) = Unit {0}

-- the attempt has been made: it is below its library's next one
abbrev pub MadeAt : Txn → Node → Type 0
MadeAt txn nowhere = ⊥
MadeAt txn (a_brick s) = ⊥
MadeAt txn (a_library s) = txn.number < s.next

abbrev pub Made : Net → Txn → Type 0
Made n txn = MadeAt txn (n.node txn.library)

-- Letters from a to b; T holds of each attempt that was made.

-- between two bricks
pub record IsBetween (z : Sizes) (a b : ℕ) : Type 0 where
  pub sender : IsBrick z a
  pub receiver : IsBrick z b

-- from the attempt's library to a brick
pub record IsFrom (T : Txn → Type 0) (z : Sizes) (a b : ℕ) (txn : Txn) : Type 0 where
  pub library : txn.library ≡ a
  pub made : T txn
  pub receiver : IsBrick z b

-- from a brick to the attempt's library
pub record IsTo (T : Txn → Type 0) (z : Sizes) (a b : ℕ) (txn : Txn) : Type 0 where
  pub library : txn.library ≡ b
  pub made : T txn
  pub sender : IsBrick z a

-- a letter that a node sends in its turn
abbrev pub Said : (Txn → Type 0) → Sizes → ℕ → ℕ → Letter → Type 0
Said T z a b (letter.Get txn caller call key name stamp) = IsFrom T z a b txn
Said T z a b (letter.Prepare txn caller call below name stamp list op) = IsFrom T z a b txn × AreBricks z list × (has list b ≡ true)
Said T z a b (letter.Commit txn) = IsFrom T z a b txn
Said T z a b (letter.Abort txn) = IsFrom T z a b txn
Said T z a b (letter.MapAsk txn caller call key) = IsFrom T z a b txn
Said T z a b (letter.Push leaf) = IsBrick z b × LeafOk z leaf
Said T z a b (letter.Got txn what) = IsTo T z a b txn × AnswerOk z what
Said T z a b (letter.Vote txn vote) = IsTo T z a b txn × BallotOk z vote
Said T z a b (letter.Applied txn was) = IsTo T z a b txn
Said T z a b (letter.Aborted txn) = IsTo T z a b txn
Said T z a b (letter.MapTell txn leaf) = IsTo T z a b txn × OfSome (LeafOk z) leaf
Said T z a b (letter.Help txn list) = IsBetween z a b × T txn × AreBricks z list
Said T z a b (letter.Query txn list) = IsBetween z a b × T txn × AreBricks z list
Said T z a b (letter.Status txn status) = IsBetween z a b × T txn
Said T z a b (letter.Outcome txn commit) = IsBetween z a b × T txn
Said T z a b (letter.Lease number what) = IsBetween z a b × WantedOk z what
Said T z a b (letter.Granted number leaf) = IsBetween z a b × LeafOk z leaf
Said T z a b (letter.LeaseRefused number why) = IsBetween z a b × RefusalOk z why
Said T z a b (letter.Release number name) = IsBetween z a b
Said T z a b (letter.CopyAsk number name after) = IsBetween z a b
Said T z a b (letter.CopyPart number last pairs) = IsBetween z a b
Said T z a b (letter.Install number leaf) = IsBetween z a b × LeafOk z leaf
Said T z a b (letter.Installed number name) = IsBetween z a b
Said T z a b letter.Notice = ⊥

abbrev pub LetterOk : (Txn → Type 0) → Sizes → ℕ → ℕ → Letter → Type 0
LetterOk T z a b letter.Notice = Unit {0}
LetterOk T z a b other = Said T z a b other

-- A brick's state

abbrev pub PendingOk : (Txn → Type 0) → Sizes → ℕ → Pending → Type 0
PendingOk T z at p = T p.txn × AreBricks z p.list × (has p.list at ≡ true)

abbrev pub LocksOk : (Txn → Type 0) → Sizes → ℕ → LockState → Type 0
LocksOk T z at locks = AllByRecursion (PendingOk T z at) locks.pending × AllByRecursion (λ (l : Lease). IsBrick z l.holder) locks.leases

abbrev pub DeferredOk : (Txn → Type 0) → Sizes → Deferred → Type 0
DeferredOk T z d = IsBrick z d.from × T d.txn × AreBricks z d.list

abbrev pub ResolvingOk : (Txn → Type 0) → Sizes → Resolving → Type 0
ResolvingOk T z r = T r.txn × AreBricks z r.list × AreBricks z r.waiting

-- a join's leaf doesn't list the brick yet
abbrev pub TaskOk : ℕ → Task → Option Leaf → Type 0
TaskOk at (task.Join via) (Some leaf) = has leaf.list at ≡ false
TaskOk at other leaf = Unit {0}

abbrev pub OrderPhaseOk : Sizes → OrderPhase → Type 0
OrderPhaseOk z order_phase.Leasing = Unit {0}
OrderPhaseOk z (order_phase.Copying source) = IsBrick z source
OrderPhaseOk z (order_phase.Installing made) = LeafOk z made

pub record OrderParts (z : Sizes) (at : ℕ) (job : Task) (leaf : Option Leaf) (asked granted waiting : List ℕ) (step : OrderPhase) : Type 0 where
  pub its_task : TaskOk at job leaf
  pub its_leaf : OfSome (LeafOk z) leaf
  pub its_asked : AllByRecursion (IsBrick z) asked
  pub its_granted : AllByRecursion (IsBrick z) granted
  pub its_waiting : AllByRecursion (IsBrick z) waiting
  pub its_step : OrderPhaseOk z step

abbrev pub OrderOk : Sizes → ℕ → OpenOrder → Type 0
OrderOk z at o = OrderParts z at o.task o.leaf o.asked o.granted o.waiting o.phase

pub record BrickParts (T : Txn → Type 0) (z : Sizes) (at number : ℕ) (leaves : LeafMap) (locks : LockState) (deferred : List Deferred)
    (resolving : List Resolving) (order : Option OpenOrder) : Type 0 where
  pub its_number : number ≡ at
  pub inside : IsBrick z at
  pub its_leaves : LeavesOk z leaves
  pub its_locks : LocksOk T z at locks
  pub its_deferred : AllByRecursion (DeferredOk T z) deferred
  pub its_resolving : AllByRecursion (ResolvingOk T z) resolving
  pub its_order : OfSome (OrderOk z at) order

abbrev pub BrickOk : (Txn → Type 0) → Sizes → ℕ → BrickState → Type 0
BrickOk T z at s = BrickParts T z at s.number s.leaves s.locks s.deferred s.resolving s.order

-- A library's state

-- nodes that are waited for: at least one, bricks of the cluster, each once, and none known to have stopped
pub record AreAwaited (z : Sizes) (known : NodeSet) (waiting : List ℕ) : Type 0 where
  pub some : is_none_left waiting ≡ false
  pub bricks : AreBricks z waiting
  pub unknown : AllByRecursion (λ n. has_node known n ≡ false) waiting

-- some of the attempt's members
pub record AreMembers (z : Sizes) (known : NodeSet) (list waiting : List ℕ) : Type 0 where
  pub list_ok : AreBricks z list
  pub awaited : AreAwaited z known waiting
  pub members : AllByRecursion (λ n. has list n ≡ true) waiting

-- with no flag kept, each member is waited for, or known to have stopped
abbrev pub NoneHasTold : NodeSet → List ℕ → List ℕ → Option Bool → Type 0
NoneHasTold known list waiting None = AllByRecursion (λ n. (has waiting n ≡ true) ⊎ (has_node known n ≡ true)) list
NoneHasTold known list waiting (Some was) = Unit {0}

pub record IsAsked (z : Sizes) (known : NodeSet) (brick : ℕ) : Type 0 where
  pub inside : IsBrick z brick
  pub unknown : has_node known brick ≡ false

abbrev pub PhaseOk : Sizes → NodeSet → Op → Phase → Type 0
PhaseOk z known o (phase.Getting leaf brick) = (is_get o ≡ true) × IsAsked z known brick
PhaseOk z known o (phase.Preparing leaf list waiting) = (is_get o ≡ false) × AreMembers z known list waiting
PhaseOk z known o (phase.Committing leaf list waiting was) = (is_get o ≡ false) × AreMembers z known list waiting × NoneHasTold known list waiting was
PhaseOk z known o (phase.Aborting waiting why brick) = (is_get o ≡ false) × AreAwaited z known waiting × DenialOk z why × IsBrick z brick
PhaseOk z known o (phase.Asking waiting newest met) = AreAwaited z known waiting × OfSome (LeafOk z) newest

pub record CallOk (z : Sizes) (number next : ℕ) (known : NodeSet) (c : OpenCall) : Type 0 where
  pub library : c.txn.library ≡ number
  pub below : c.txn.number < next
  pub its_phase : PhaseOk z known c.request.op c.phase

-- calls of two attempts
abbrev pub OtherAttempt : OpenCall → OpenCall → Type 0
OtherAttempt c d = c.txn.number ≡ d.txn.number → ⊥

pub record LibraryOk (z : Sizes) (at : ℕ) (s : LibraryState) : Type 0 where
  pub its_number : s.number ≡ at
  pub inside : is_in z at ≡ true
  pub high : 64 ≤ at
  pub its_bricks : s.bricks ≡ z.bricks
  pub leaves : LeavesOk z s.map
  pub apart : Pairwise OtherAttempt s.calls
  pub calls : AllByRecursion (CallOk z s.number s.next s.known) s.calls

-- The nodes and channels

abbrev pub NodeOk : (Txn → Type 0) → Sizes → ℕ → Node → Type 0
NodeOk T z k nowhere = is_in z k ≡ false
NodeOk T z k (a_brick s) = BrickOk T z k s
NodeOk T z k (a_library s) = LibraryOk z k s

pub record ArePlaced (z : Sizes) (n : Net) : Type 0 where
  pub nodes : (k : ℕ) → NodeOk (Made n) z k (n.node k)
  pub letters : AllCarried (LetterOk (Made n) z) n
