-- The parts of two-phase commit, of a cluster's nodes and channels and the books.
use Rattle.std.specs.Prelude.{ℕ, ◌≡◌, ◌<◌, ◌≤◌, Bool, true, false, not, List, [], ◌∷◌, Option, Some, None}
use Rattle.std.specs.FinMap.{get}
use Rattle.dds_base.specs.BrickList.{has}
use Rattle.dds_base.specs.NodeSet.{has_node}
use Rattle.dds_base.specs.Number.{Txn}
use Rattle.dds_locks.specs.Pending.{IsApart}
use Rattle.dds_states.specs.declared.brick_state.BrickState.{BrickState}
use Rattle.dds_states.specs.declared.library_state.LibraryState.{LibraryState}
use Rattle.dds_states.specs.declared.library_state.OpenCall.{OpenCall}
use Rattle.dds_states.specs.declared.library_state.Phase.{Phase}
use Rattle.dds_states.specs.declared.library_state.Phase.TheVariants.{Preparing, Committing}
use Rattle.dds_net.specs.Net.{Net, a_brick, a_library, Sizes}
use Rattle.dds_talk.specs.Books.{Books}
use Rattle.dds_talk.specs.Seen.{Apart, IsGroup, Once, asks, at, call_of, commits_now, is_open, is_pending, noting, says, view}
use Rattle.dds_talk.specs.Table.{View, Ask, At, IsTalk}
use Rattle.dds_talk.specs.Table.View.{New, VoteDue, VoteHeard, CommitDue, CommitHeard, AbortDue, AbortHeard, Past, Off}
use Rattle.dds_talk.specs.Table.Ask.{prepare, commit, abort}
use Rattle.dds_talk.specs.Table.At.{Unprepared, Prepared, Committed, Aborted}

-- | part     | why it is needed                                                                 | what keeps it                                |
-- | `talk`   | what is known of a member by what the library sees, and the other way round      | Prepare, Commit, Abort and resolving at      |
-- |          |                                                                                  | bricks; every turn of a call; stops          |
-- | `note`   | what a brick noted is in the books; nothing is noted of what is pending; an      | Prepare (nothing is noted of it, by `talk`), |
-- |          | attempt is pending once                                                          | all that note an outcome                     |
-- | `apart`  | a key has one pending attempt                                                    | Prepare's test                               |
-- | `calls`  | open attempts are their library's, differ, are below `next`, and have the books' | every turn of a call, an input of a call     |
-- |          | members, each once; attempts yet to come have none and aren't decided            |                                              |
-- | `decide` | a decided attempt is prepared or committed at each live member, none is told to  | votes; Commit; what a resolver decides       |
-- |          | abort it, and its library commits it or has done so; a noted commit was decided  |                                              |
-- | `kept`   | of an attempt that is open, trimming dropped no outcome                          | Prepare (its bound), a call's new attempts   |

-- a library and a member that it doesn't know as stopped
pub record Meeting (n : Net) (t : Txn) (m : ℕ) (l : LibraryState) (s : BrickState) : Type 0 where
  pub library : n.node t.library ≡ a_library l
  pub member : n.node m ≡ a_brick s
  pub unknown : has_node l.known m ≡ false

abbrev pub Conversation : Net → Books → Txn → ℕ → LibraryState → BrickState → Type 0
Conversation n b t m l s =
    IsTalk (not l.stopped) (not s.stopped) (has_node s.known t.library) (view l (b.list t) t m) (asks t (n.channel t.library m))
    (at s.locks.pending (b.noted m t) t) (says t (n.channel m t.library))

abbrev pub AllTalk : Net → Books → Type 0
AllTalk n b = (t : Txn) (m : ℕ) (l : LibraryState) (s : BrickState) → Meeting n t m l s → Conversation n b t m l s

-- `note`, `apart`, of one brick
pub record BrickOk (noted : Txn → Option Bool) (s : BrickState) : Type 0 where
  pub agrees : (t : Txn) → noting s.locks.outcomes noted t ≡ noted t
  pub free : (t : Txn) → is_pending s.locks.pending t ≡ true → noted t ≡ None
  pub once : Once s.locks.pending
  pub apart : IsApart s.locks.pending

abbrev pub AllNote : Net → Books → Type 0
AllNote n b = (k : ℕ) (s : BrickState) → n.node k ≡ a_brick s → BrickOk (b.noted k) s

-- `calls`, of one library
abbrev pub IsFor : List ℕ → Phase → Type 0
IsFor list (Preparing leaf members waiting) = members ≡ list
IsFor list (Committing leaf members waiting was) = members ≡ list
IsFor list other = Unit {0}

pub record CallOk (z : Sizes) (b : Books) (s : LibraryState) (c : OpenCall) : Type 0 where
  pub library : c.txn.library ≡ s.number
  pub below : c.txn.number < s.next
  pub list : IsFor (b.list c.txn) c.phase
  pub decided : commits_now c.phase ≡ true → b.decided c.txn ≡ true

pub record LibraryOk (z : Sizes) (b : Books) (k : ℕ) (s : LibraryState) : Type 0 where
  pub number : s.number ≡ k
  pub apart : Apart s.calls
  pub calls : (t : Txn) (c : OpenCall) → call_of s.calls t ≡ Some c → CallOk z b s c
  pub unmade : (t : Txn) → t.library ≡ k → s.next ≤ t.number → b.list t ≡ []
  pub undecided : (t : Txn) → t.library ≡ k → s.next ≤ t.number → b.decided t ≡ false
  pub groups : (t : Txn) → t.library ≡ k → IsGroup z (b.list t)

abbrev pub AllCall : Sizes → Net → Books → Type 0
AllCall z n b = (k : ℕ) (s : LibraryState) → n.node k ≡ a_library s → LibraryOk z b k s

-- what follows of a live member from a decided commit
abbrev pub SureAt : At → Type 0
SureAt Unprepared = ⊥
SureAt Prepared = Unit {0}
SureAt Committed = Unit {0}
SureAt Aborted = ⊥

abbrev pub NoAbort : List Ask → Type 0
NoAbort [] = Unit {0}
NoAbort (prepare ∷ xs) = NoAbort xs
NoAbort (commit ∷ xs) = NoAbort xs
NoAbort (abort ∷ xs) = ⊥

abbrev pub SureView : View → Type 0
SureView New = ⊥
SureView VoteDue = ⊥
SureView VoteHeard = ⊥
SureView CommitDue = Unit {0}
SureView CommitHeard = Unit {0}
SureView AbortDue = ⊥
SureView AbortHeard = ⊥
SureView Past = Unit {0}
SureView Off = ⊥

pub record Sure (live : Bool) (v : View) (o : List Ask) (a : At) : Type 0 where
  pub at : SureAt a
  pub none : NoAbort o
  pub view : live ≡ true → SureView v

-- a live member of a decided attempt
pub record Decided (n : Net) (b : Books) (t : Txn) (m : ℕ) (l : LibraryState) (s : BrickState) : Type 0 where
  pub meets : Meeting n t m l s
  pub live : s.stopped ≡ false
  pub member : has (b.list t) m ≡ true
  pub decided : b.decided t ≡ true

abbrev pub IsSure : Net → Books → Txn → ℕ → LibraryState → BrickState → Type 0
IsSure n b t m l s = Sure (not l.stopped) (view l (b.list t) t m) (asks t (n.channel t.library m)) (at s.locks.pending (b.noted m t) t)

abbrev pub AllDecide : Net → Books → Type 0
AllDecide n b = (t : Txn) (m : ℕ) (l : LibraryState) (s : BrickState) → Decided n b t m l s → IsSure n b t m l s

abbrev pub NotedAsDecided : Books → Type 0
NotedAsDecided b = (k : ℕ) (t : Txn) → b.noted k t ≡ Some true → b.decided t ≡ true

-- `kept`: of a live brick, and of an attempt that is open at its library, live or not
abbrev pub AllKeep : Net → Books → Type 0
AllKeep n b =
    (t : Txn) (m : ℕ) (l : LibraryState) (s : BrickState) → n.node t.library ≡ a_library l → n.node m ≡ a_brick s → s.stopped ≡ false
    → is_open l t ≡ true → b.noted m t ≡ get s.locks.outcomes t

pub record Commit (z : Sizes) (n : Net) (b : Books) : Type 0 where
  pub talk : AllTalk n b
  pub note : AllNote n b
  pub calls : AllCall z n b
  pub decide : AllDecide n b
  pub noted : NotedAsDecided b
  pub kept : AllKeep n b
