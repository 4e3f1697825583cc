-- What a brick does for the calls of libraries.
use Rattle.std.specs.Prelude.{ℕ, Bool, true, false, List, [], ◌∷◌, ◌++◌, Option, Some, None}
use Rattle.std.specs.FinMap.{get, insert}
use Rattle.dds_base.specs.Name.{Name}
use Rattle.dds_base.specs.Number.{Txn, StampOf}
use Rattle.dds_base.specs.Op.{the_key}
use Rattle.dds_base.specs.declared.number.NodeNo.{NodeNo}
use Rattle.dds_base.specs.declared.pending.Pending.{Pending}
use Rattle.dds_history.specs.Map.{after, flag_of}
use Rattle.dds_letters.specs.declared.letter.Letter.TheVariants as letter
use Rattle.dds_letters.specs.declared.refusal.Answer.{Answer}
use Rattle.dds_letters.specs.declared.refusal.Answer.TheVariants as answer
use Rattle.dds_letters.specs.declared.refusal.Ballot.TheVariants as ballot
use Rattle.dds_letters.specs.declared.refusal.Denial.{Denial}
use Rattle.dds_letters.specs.declared.refusal.Refusal.{Refusal}
use Rattle.dds_locks.specs.Outcomes.{trimmed}
use Rattle.dds_locks.specs.Pending as pending
use Rattle.dds_states.specs.Turn.{BrickTurn, still, sends, and_then}
use Rattle.dds_brick_rows.specs.Refusal.{get_refusal, update_denial}
use Rattle.dds_states.specs.Leaf.{leaf_for}
use Rattle.dds_states.specs.declared.brick_state.BrickState.{BrickState}
use Rattle.dds_states.specs.declared.turn.Point.TheVariants as point

-- what a get found, as its letter says it
abbrev pub answer_of : Option (List ℕ) → Answer
answer_of None = answer.Absent
answer_of (Some value) = answer.Value value

abbrev pub got : BrickState → NodeNo → Txn → ℕ → Option Refusal → BrickTurn
got s from txn key None =
    record {
      state = s;
      out = record { letters = (from, letter.Got txn (answer_of (get s.pairs key))) ∷ []; points = point.Read txn (get s.pairs key) ∷ []; replies = [] };
    }
got s from txn key (Some refusal) = sends s ((from, letter.Got txn (answer.Refused refusal)) ∷ [])

-- Get: sends the refusal, or what the key is bound to
abbrev pub get_row : BrickState → NodeNo → Txn → ℕ → Name → StampOf → BrickTurn
get_row s from txn key name stamp = got s from txn key (get_refusal s key name stamp)

-- the brick without a library's outcomes of attempts below a number
abbrev pub trim : BrickState → ℕ → ℕ → BrickState
trim s library below = record s { locks = record s.locks { outcomes = trimmed s.locks.outcomes library below } }

abbrev pub voted : BrickState → NodeNo → Pending → Option Denial → BrickTurn
voted s from p None =
    sends (record s { locks = record s.locks { pending = s.locks.pending ++ p ∷ [] } }) ((from, letter.Vote p.txn ballot.Yes) ∷ [])
voted s from p (Some d) = sends s ((from, letter.Vote p.txn (ballot.No d)) ∷ [])

-- Prepare: forgets outcomes below the bound, and votes no; or keeps the update as pending, which locks its key, and
-- votes yes
abbrev pub prepare_row : BrickState → NodeNo → Pending → ℕ → Name → StampOf → BrickTurn
prepare_row s from p below name stamp = voted (trim s p.txn.library below) from p (update_denial s p.op name stamp)

-- the brick without the first pending transaction of this number, if there is one
abbrev pub dropped : BrickState → Txn → BrickState
dropped s txn = record s { locks = record s.locks { pending = pending.without s.locks.pending txn } }

-- the brick with a transaction's outcome
abbrev pub noted : BrickState → Txn → Bool → BrickState
noted s txn commit = record s { locks = record s.locks { outcomes = insert s.locks.outcomes txn commit } }

-- the flag of a pending transaction, taken before it is applied
abbrev pub flag_at : BrickState → Pending → Bool
flag_at s p = flag_of (get s.pairs (the_key p.op)) p.op

-- a transaction that was pending is applied, and noted Committed
abbrev pub applied : BrickState → Pending → BrickTurn
applied s p =
    record {
      state = record (noted s p.txn true) { pairs = after s.pairs p.op };
      out = record { letters = []; points = point.Applied p (flag_at s p) ∷ []; replies = [] };
    }

abbrev pub commit_found : BrickState → NodeNo → Option Pending → BrickTurn
commit_found s from None = still s
commit_found s from (Some p) =
    and_then (applied s p) (λ t. sends t ((from, letter.Applied p.txn (flag_at s p)) ∷ []))

-- Commit: applies the transaction where it is pending, and tells its flag
abbrev pub commit_row : BrickState → NodeNo → Txn → BrickTurn
commit_row s from txn = commit_found (dropped s txn) from (pending.first_of s.locks.pending txn)

abbrev pub aborted : BrickState → Option Pending → BrickState
aborted s None = s
aborted s (Some p) = noted s p.txn false

-- Abort: drops the transaction where it is pending and notes it Aborted, and says so in each case
abbrev pub abort_row : BrickState → NodeNo → Txn → BrickTurn
abort_row s from txn =
    sends (aborted (dropped s txn) (pending.first_of s.locks.pending txn)) ((from, letter.Aborted txn) ∷ [])

-- MapAsk: tells the leaf that covers the key, if there is one
abbrev pub map_ask_row : BrickState → NodeNo → Txn → ℕ → BrickTurn
map_ask_row s from txn key = sends s ((from, letter.MapTell txn (leaf_for s.leaves key)) ∷ [])
