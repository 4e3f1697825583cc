-- What bricks hold, of a cluster's nodes and channels, the history and the books of two-phase commit: a record of named parts. Each event keeps
-- them where the laws of leaves give what `Below` says.
use Rattle.std.specs.Prelude.{ℕ, ◌≡◌, Bool, true, false, List, Option, Some, None, is_some}
use Rattle.std.specs.FinMap.{get}
use Rattle.std.specs.List.{AllByRecursion, find}
use Rattle.dds_base.specs.Number.{Txn}
use Rattle.dds_base.specs.Op.{the_key}
use Rattle.dds_base.specs.declared.pending.Pending.{Pending}
use Rattle.dds_cluster.specs.Lists.{is_applied, is_update_of}
use Rattle.dds_cluster.specs.declared.trace.Made.{Made}
use Rattle.dds_history.specs.History.{IsLegal, replay}
use Rattle.dds_history.specs.Map.{Map, bound_after, reply_with}
use Rattle.dds_letters.specs.declared.letter.Letter.{Letter}
use Rattle.dds_letters.specs.declared.letter.Letter.TheVariants as letter
use Rattle.dds_locks.specs.Pending.{holder}
use Rattle.dds_net.specs.Event.{History}
use Rattle.dds_net.specs.Net.{Net, Node, nowhere, a_brick, a_library}
use Rattle.dds_states.specs.Leaf.{leaf_for}
use Rattle.dds_states.specs.declared.brick_state.BrickState.{BrickState}
use Rattle.dds_states.specs.declared.library_state.OpenCall.{OpenCall}
use Rattle.dds_states.specs.declared.library_state.Phase.{Phase}
use Rattle.dds_states.specs.declared.library_state.Phase.TheVariants.{Getting, Preparing, Committing, Aborting, Asking}
use Rattle.dds_talk.specs.Books.{Books}
use Rattle.dds_world.specs.Values.{before_entry, entries_of_points}

-- the table that some points leave, and what it has for a key
abbrev pub table : List Made → Map
table made = replay (entries_of_points made)

abbrev pub bound_in : List Made → ℕ → Option (List ℕ)
bound_in made key = get (table made) key

-- the points before that of a transaction, all of them where it has none, or where there is no transaction
abbrev pub before : List Made → Option Txn → List Made
before made None = made
before made (Some txn) = before_entry made txn

-- for each key that a leaf of the brick covers, the brick has what the points left before that of the transaction pending on it
abbrev pub IsHeldAt : List Made → BrickState → ℕ → Type 0
IsHeldAt made s key = get s.pairs key ≡ bound_in (before made (holder s.locks.pending key)) key

abbrev pub IsHeldBy : List Made → BrickState → Type 0
IsHeldBy made s = (key : ℕ) → is_some (leaf_for s.leaves key) ≡ true → IsHeldAt made s key

-- where a pending transaction was applied somewhere, the table has at its key what its operation left there
abbrev pub IsLeftBy : List Made → Pending → Type 0
IsLeftBy made p =
    is_applied made p.txn ≡ true
    → bound_in made (the_key p.op) ≡ bound_after (bound_in (before_entry made p.txn) (the_key p.op)) p.op

pub record HoldsTable (made : List Made) (s : BrickState) : Type 0 where
  pub held : IsHeldBy made s
  pub after : AllByRecursion (IsLeftBy made) s.locks.pending

-- a flag is that of the first point of the update
pub record HasFlag (made : List Made) (txn : Txn) (was : Bool) : Type 0 where
  pub point : Made
  pub first : find (is_update_of txn) made ≡ Some point
  pub reply : point.entry.reply ≡ reply_with point.entry.op was

abbrev pub LetterFlag : List Made → Letter → Type 0
LetterFlag made (letter.Applied txn was) = HasFlag made txn was
LetterFlag made other = Unit {0}

-- the flag that an open call has heard
abbrev pub kept_flag : Phase → Option Bool
kept_flag (Committing leaf list waiting was) = was
kept_flag (Getting leaf brick) = None
kept_flag (Preparing leaf list waiting) = None
kept_flag (Aborting waiting why brick) = None
kept_flag (Asking waiting newest met) = None

abbrev pub CallFlag : List Made → OpenCall → Type 0
CallFlag made c = (was : Bool) → kept_flag c.phase ≡ Some was → HasFlag made c.txn was

-- of each node
abbrev pub NodeHolds : List Made → Node → Type 0
NodeHolds made nowhere = Unit {0}
NodeHolds made (a_brick s) = s.stopped ≡ false → HoldsTable made s
NodeHolds made (a_library s) = AllByRecursion (CallFlag made) s.calls

-- | part     | why it is needed                                                             | what keeps it                                    |
-- | `nodes`  | a live brick has what the points left, but for the key of a transaction       | the first point of a transaction, at its brick   |
-- |          | pending there, of which it has what was there before that one's point, and    | and at the others; a further point; an abort;    |
-- |          | then the table has what the operation left; a call's flag is the first        | Prepare; each change of leaves; Applied at a     |
-- |          | point's, so the answer is that point's reply                                  | library                                          |
-- | `sent`   | so is the flag of a letter                                                    | Commit                                           |
-- | `legal`  | each point's reply is the one that one map gives, reads unfiltered            | Get; the first point of a transaction            |
-- | `noted`  | what a brick noted as committed was applied: so the first brick that applies  | all that note an outcome                         |
-- |          | a transaction finds it pending at all others                                  |                                                  |
pub record AreHeld (h : History) (n : Net) (b : Books) : Type 0 where
  pub nodes : (k : ℕ) → NodeHolds h.made (n.node k)
  pub sent : (a c : ℕ) → AllByRecursion (LetterFlag h.made) (n.channel a c)
  pub legal : IsLegal (entries_of_points h.made)
  pub noted : (k : ℕ) (t : Txn) → b.noted k t ≡ Some true → is_applied h.made t ≡ true
