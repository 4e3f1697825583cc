use Rattle.std.specs.Prelude.{Bool, true, false, Option, Some, None, nat_lt, if◌then◌else◌}
use Rattle.std.specs.FinMap.{get}
use Rattle.dds_base.specs.Number.{Txn}
use Rattle.dds_base.specs.declared.pending.TxnStatus.{TxnStatus}
use Rattle.dds_base.specs.declared.pending.TxnStatus.TheVariants.{NotPrepared, Prepared, Committed, Aborted}
use Rattle.dds_locks.specs.Pending.{times}
use Rattle.dds_locks.specs.State.{LockState}

-- the status that an outcome gives
abbrev pub noted_status : Option Bool → TxnStatus
noted_status None = NotPrepared
noted_status (Some true) = Committed
noted_status (Some false) = Aborted

-- Prepared where the transaction is pending, else the outcome noted last, else NotPrepared
abbrev pub status : LockState → Txn → TxnStatus
status s txn = if nat_lt 0 (times s.pending txn) then Prepared else noted_status (get s.outcomes txn)
