-- What each attempt was: its call, its operation and the list that its first letter told.
use Rattle.std.specs.Prelude.{ℕ, ◌≡◌, ◌≤◌, ◌==◌, true, List, [], ◌∷◌, Option, Some, None, is_some, if◌then◌else◌}
use Rattle.std.specs.List.{AllByRecursion}
use Rattle.dds_base.specs.Number.{Txn}
use Rattle.dds_base.specs.declared.number.CallNo.{CallNo}
use Rattle.dds_base.specs.declared.op.Op.{Op}
use Rattle.dds_base.specs.declared.op.Op.TheVariants as op
use Rattle.dds_core.specs.LibraryTurn.{live_library_turn}
use Rattle.dds_letters.specs.declared.letter.Letter.{Letter}
use Rattle.dds_letters.specs.declared.letter.Letter.TheVariants as letter
use Rattle.dds_net.proofs.Carried.{AllCarried}
use Rattle.dds_net.specs.Event.{Event, library_takes, library_asked}
use Rattle.dds_net.specs.Event.{asked_turn}
use Rattle.dds_net.specs.Net.{Net, Node, nowhere, a_brick, a_library}
use Rattle.dds_states.specs.declared.library_state.LibraryState.{LibraryState}
use Rattle.dds_states.specs.declared.library_state.OpenCall.{OpenCall}
use Rattle.dds_states.specs.declared.library_state.Phase.{Phase}
use Rattle.dds_states.specs.declared.library_state.Phase.TheVariants as phase
use Rattle.dds_states.specs.declared.library_state.Request.{Request}

-- an attempt's call and operation, and the members that an update asked; a get and a look for a newer map have no list
pub record Entry : Type 0 where
  pub caller : ℕ
  pub call : CallNo
  pub op : Op
  pub list : Option (List ℕ)

abbrev pub Book : Type 0
Book = Txn → Option Entry

abbrev pub entry : Request → Option (List ℕ) → Entry
entry r list = record { caller = r.caller; call = r.call; op = r.op; list = list }

-- what an open call tells of its attempt; one that aborts has no list any more
abbrev pub tells : Request → Phase → Option Entry
tells r (phase.Getting leaf brick) = Some (entry r None)
tells r (phase.Preparing leaf list waiting) = Some (entry r (Some list))
tells r (phase.Committing leaf list waiting was) = Some (entry r (Some list))
tells r (phase.Aborting waiting why brick) = None
tells r (phase.Asking waiting newest met) = Some (entry r None)

-- of the open call with this attempt number
abbrev pub open_entry : List OpenCall → ℕ → Option Entry
open_entry [] number = None
open_entry (c ∷ cs) number = if c.txn.number == number then tells c.request c.phase else open_entry cs number

-- the open call's, or else the one before
abbrev pub over : Option Entry → Option Entry → Option Entry
over None before = before
over (Some e) before = Some e

abbrev pub with_library : ℕ → LibraryState → Book → Book
with_library at s b txn = if txn.library == at then over (open_entry s.calls txn.number) (b txn) else b txn

-- the book after an event: an overlay of the library that the event changes
abbrev pub booked : Event → Book → Book
booked (library_takes at from l s) b = with_library at (live_library_turn s from l).state b
booked (library_asked at caller call o s) b = with_library at (asked_turn s caller call o).state b
booked other b = b

-- The claim: the book has each open call's attempt, none that is to come, and what each Get and Prepare on its way tells.
--
-- | part           | why it is needed                                    | which rows keep it                                        |
-- | `IsBooked`     | what an open call tells again is what is there      | all rows of calls: the list stays from Preparing to       |
-- |                |                                                     | Committing                                                |
-- | `to_come`      | a new entry takes no other's place                  | a library's attempts have numbers that it counted         |
-- | `LetterListed` | what a brick reads or prepares is what the book has | what begins an attempt opens it with what it sends        |

abbrev pub ListFits : Phase → Option (List ℕ) → Type 0
ListFits (phase.Getting leaf brick) list = list ≡ None
ListFits (phase.Preparing leaf members waiting) list = list ≡ Some members
ListFits (phase.Committing leaf members waiting was) list = list ≡ Some members
ListFits (phase.Aborting waiting why brick) list = is_some list ≡ true
ListFits (phase.Asking waiting newest met) list = list ≡ None

pub record IsBooked (b : Book) (c : OpenCall) : Type 0 where
  pub its : Entry
  pub there : b c.txn ≡ Some its
  pub caller_is : its.caller ≡ c.request.caller
  pub call_is : its.call ≡ c.request.call
  pub op_is : its.op ≡ c.request.op
  pub list_fits : ListFits c.phase its.list

pub record LibraryListed (b : Book) (s : LibraryState) : Type 0 where
  pub calls : AllByRecursion (IsBooked b) s.calls
  pub to_come : (txn : Txn) → txn.library ≡ s.number → s.next ≤ txn.number → b txn ≡ None

abbrev pub NodeListed : Book → ℕ → Node → Type 0
NodeListed b k nowhere = Unit {0}
NodeListed b k (a_brick s) = Unit {0}
NodeListed b k (a_library s) = LibraryListed b s

abbrev pub LetterListed : Book → ℕ → ℕ → Letter → Type 0
LetterListed b from to (letter.Get txn caller call key name stamp) = b txn ≡ Some (record { caller = caller; call = call; op = op.Get key; list = None })
LetterListed b from to (letter.Prepare txn caller call below name stamp list o) = b txn ≡ Some
    (record { caller = caller; call = call; op = o; list = Some list })
LetterListed b from to other = Unit {0}

pub record AreListed (n : Net) (b : Book) : Type 0 where
  pub nodes : (k : ℕ) → NodeListed b k (n.node k)
  pub letters : AllCarried (LetterListed b) n

-- an entry never changes once it is there
abbrev pub IsWithin : Book → Book → Type 0
IsWithin b c = (txn : Txn) (e : Entry) → b txn ≡ Some e → c txn ≡ Some e
