-- Who resolves an attempt, by the nodes and channels of a cluster and the members that attempts have.
use Rattle.std.specs.Prelude.{ℕ, ◌≡◌, ◌&&◌, Bool, true, false, List}
use Rattle.std.specs.List.{AllByRecursion}
use Rattle.dds_base.specs.NodeSet.{has_node}
use Rattle.dds_base.specs.Number.{Txn}
use Rattle.dds_base.specs.declared.number.NodeNo.{NodeNo}
use Rattle.dds_base.specs.declared.pending.Pending.{Pending}
use Rattle.dds_core.specs.LibraryTurn.{live_library_turn}
use Rattle.dds_letters.specs.declared.letter.Letter.{Letter}
use Rattle.dds_states.specs.declared.brick_state.BrickState.{BrickState}
use Rattle.dds_net.specs.Event.{Event, library_takes, library_asked, brick_takes, asked_turn}
use Rattle.dds_net.specs.Net.{Net, Node, nowhere, a_brick, a_library, Sizes, is_in}
use Rattle.dds_talk.specs.Seen.{is_open}
use Rattle.dds_resolve.specs.Team.{Ground, Members, LetterOk, DeferredOk, OpenIf, OpenOk, ResolvingOk}

abbrev pub is_stopped : Node → Bool
is_stopped nowhere = false
is_stopped (a_brick s) = s.stopped
is_stopped (a_library s) = s.stopped

-- the attempt is open at a library that stopped
abbrev pub is_frozen : Node → Txn → Bool
is_frozen nowhere t = false
is_frozen (a_brick s) t = false
is_frozen (a_library s) t = s.stopped && is_open s t

abbrev pub ground : Sizes → Net → (Txn → List ℕ) → Ground
ground z n list =
    record { stopped = λ a. is_stopped (n.node a); frozen = λ t. is_frozen (n.node t.library) t; list = list; inside = is_in z }

-- a brick between its turns
pub record BrickIs (g : Ground) (at : ℕ) (s : BrickState) : Type 0 where
  pub number : s.number ≡ at
  pub known : (n : ℕ) → has_node s.known n ≡ true → g.stopped n ≡ true
  pub pending : AllByRecursion (λ (p : Pending). Members g p.txn p.list at) s.locks.pending
  pub deferred : AllByRecursion (DeferredOk g at) s.deferred
  pub resolving : AllByRecursion (ResolvingOk g at) s.resolving

abbrev pub NodeOk : Ground → ℕ → Node → Type 0
NodeOk g at nowhere = Unit {0}
NodeOk g at (a_brick s) = BrickIs g at s
NodeOk g at (a_library s) = Unit {0}

-- | part      | why it is needed                                                        | what keeps it                                   |
-- | `nodes`   | who is asked or told is a member, and who asks or tells is the resolver | Help, Query, Status, Outcome, the Notice;        |
-- |           |                                                                         | Prepare (its list is the attempt's)             |
-- | `letters` | the same of letters                                                     | the same rows; what libraries send              |
pub record Teams (z : Sizes) (n : Net) (list : Txn → List ℕ) : Type 0 where
  pub nodes : (at : ℕ) → NodeOk (ground z n list) at (n.node at)
  pub letters : (a c : ℕ) → AllByRecursion (LetterOk (ground z n list) a c) (n.channel a c)

-- of the books: a library's prepares have their attempt's members, and an attempt's members don't change
abbrev pub Fitting : Ground → ℕ → List (NodeNo × Letter) → Type 0
Fitting g at ls = AllByRecursion (λ (p : NodeNo × Letter). LetterOk g at p.0 p.1) ls

abbrev pub SaysOf : Ground → Event → Type 0
SaysOf g (library_takes at from l s) = Fitting g at (live_library_turn s from l).out.letters
SaysOf g (library_asked at caller call o s) = Fitting g at (asked_turn s caller call o).out.letters
SaysOf g other = Unit {0}

-- of the conversations of libraries: what is pending at a brick, or asked for by a prepare that it takes, is open at its library,
-- if that has stopped
abbrev pub OpensOf : Ground → Event → Type 0
OpensOf g (brick_takes at from l s) = AllByRecursion (λ (p : Pending). OpenIf g p.txn) s.locks.pending × OpenOk g l
OpensOf g other = Unit {0}
