-- What the nodes and channels say of one attempt that a resolver and another member talk about.
use Rattle.std.specs.Prelude.{ℕ, ◌==◌, ◌&&◌, Bool, false, List, [], ◌∷◌, ◌++◌, Option, Some, None, find, if◌then◌else◌}
use Rattle.std.specs.FinMap.{get}
use Rattle.dds_base.specs.BrickList.{has}
use Rattle.dds_base.specs.Number.{Txn, same_txn}
use Rattle.dds_base.specs.declared.pending.TxnStatus.{TxnStatus}
use Rattle.dds_base.specs.declared.pending.TxnStatus.TheVariants as txn_status
use Rattle.dds_brick_rows.specs.Resolution.{is_of}
use Rattle.dds_letters.specs.declared.letter.Letter.{Letter}
use Rattle.dds_letters.specs.declared.letter.Letter.TheVariants as letter
use Rattle.dds_states.specs.declared.brick_state.BrickState.{BrickState}
use Rattle.dds_states.specs.declared.brick_state.Deferred.{Deferred}
use Rattle.dds_states.specs.declared.brick_state.Question.{Question}
use Rattle.dds_states.specs.declared.brick_state.Question.TheVariants.{Help, Query}
use Rattle.dds_states.specs.declared.brick_state.Resolving.{Resolving}
use Rattle.dds_talk.specs.Table.{At}
use Rattle.dds_talk.specs.Table.At.{Unprepared, Prepared, Committed, Aborted}
use Rattle.dds_talk.specs.Resolve.{Side, Tell}
use Rattle.dds_talk.specs.Resolve.Side.{Rest, Wait, Heard}
use Rattle.dds_talk.specs.Resolve.Tell.{query, outcome}
use Rattle.dds_talk.specs.Seen.{one, at}

-- what a resolver says of an attempt, and what a member answers
abbrev pub tell_in : Letter → Option (Txn × Tell)
tell_in (letter.Query txn list) = Some (txn, query)
tell_in (letter.Outcome txn commit) = Some (txn, outcome commit)
tell_in other = None

abbrev pub status_at : TxnStatus → At
status_at txn_status.NotPrepared = Unprepared
status_at txn_status.Prepared = Prepared
status_at txn_status.Committed = Committed
status_at txn_status.Aborted = Aborted

abbrev pub status_in : Letter → Option (Txn × At)
status_in (letter.Status txn status) = Some (txn, status_at status)
status_in other = None

-- the resolver's side of a member
abbrev pub side_of : Option Resolving → ℕ → Side
side_of None m = Rest
side_of (Some r) m = if has r.waiting m then Wait else Heard r.saw_commit r.saw_no

abbrev pub side : BrickState → Txn → ℕ → Side
side s t m = side_of (find (is_of t) s.resolving) m

-- a resolver's questions that a member put off, each written as what it will be answered
abbrev pub is_asking : ℕ → Txn → Deferred → Question → Bool
is_asking f t d Help = false
is_asking f t d Query = d.from == f && same_txn d.txn t

abbrev pub waits : At → ℕ → Txn → List Deferred → List At
waits a f t [] = []
waits a f t (d ∷ ds) = one (is_asking f t d d.question) a ++ waits a f t ds

-- how far an attempt is here, where its outcome wasn't trimmed
abbrev pub own_at : BrickState → Txn → At
own_at s t = at s.locks.pending (get s.locks.outcomes t) t
