use Rattle.std.proofs.Common.{◌≡◌, ℕ, ◌+◌, Bool, true, false, cond, List, [], ◌∷◌, Option, Some, None, is_some, refl, arith}
use Rattle.std.proofs.lemmas.Bool.Decides.{nat_tests}
use Rattle.std.specs.Prelude.{nat_lt}
use Rattle.std.specs.FinMap.{get}
use Rattle.dds_base.specs.Number.{Txn, same_txn}
use Rattle.dds_base.specs.declared.pending.Pending.{Pending}
use Rattle.dds_base.specs.declared.pending.TxnStatus.{TxnStatus}
use Rattle.dds_base.specs.declared.pending.TxnStatus.TheVariants as told
use Rattle.dds_locks.specs.Pending.{first_of, times}
use Rattle.dds_locks.specs.State.{LockState}
use Rattle.dds_locks.specs.Status.{noted_status, status}
use Rattle.dds_talk.specs.Seen.{at, at_of, is_pending}
use Rattle.dds_talk.specs.Table.{At}
use Rattle.dds_talk.specs.Table.At.{Unprepared, Prepared, Committed, Aborted}

-- What a brick tells of an attempt is how far it is there, where its outcome wasn't trimmed.

abbrev pub as_status : At → TxnStatus
as_status Unprepared = told.NotPrepared
as_status Prepared = told.Prepared
as_status Committed = told.Committed
as_status Aborted = told.Aborted

more-times : (n : ℕ) → nat_lt 0 (n + 1) ≡ true
more-times n = grind (arith, nat_tests)

times-pending : (ps : List Pending) (t : Txn) → nat_lt 0 (times ps t) ≡ is_pending ps t
times-pending [] t = refl
times-pending (p ∷ ps) t =
    elim (same_txn p.txn t) as (λ b. nat_lt 0 (cond b (times ps t + 1) (times ps t)) ≡ is_some (cond b (Some p) (first_of ps t)))
    [ true ↦ more-times (times ps t) | false ↦ times-pending ps t ]

status-of : (b : Bool) (n : Option Bool) → cond b told.Prepared (noted_status n) ≡ as_status (at_of b n)
status-of true n = refl
status-of false None = refl
status-of false (Some true) = refl
status-of false (Some false) = refl

pub status-at : (s : LockState) (noted : Option Bool) (t : Txn) → get s.outcomes t ≡ noted → status s t ≡ as_status (at s.pending noted t)
status-at s noted t e = rw (times-pending s.pending t, e) (status-of (is_pending s.pending t) noted)
