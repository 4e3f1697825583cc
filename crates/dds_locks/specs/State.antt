use Rattle.std.specs.Prelude.{List, refl}
use Rattle.std.specs.Coded.{Coded, code_by, coded×, coded_list, coded_bool}
use Rattle.std.specs.FinMap as map
use Rattle.dds_base.specs.contracts.number.TxnNo as txn
use Rattle.dds_base.specs.contracts.pending.Pending as pending
use Rattle.dds_locks.specs.contracts.leases.Lease as lease
use Rattle.dds_base.specs.declared.pending.Pending.{Pending}
use Rattle.dds_locks.specs.declared.leases.Lease.{Lease}
use Rattle.dds_locks.specs.Outcomes.{OutcomeMap}

-- what a brick's lock manager keeps: the pending transactions in the order of preparing, the leases in the order of
-- giving, and the outcomes by transaction
pub record LockState : Type 0 where
  pub pending : List Pending
  pub leases : List Lease
  pub outcomes : OutcomeMap

abbrev pub lock_code : Coded LockState
lock_code =
    code_by (List Pending × (List Lease × OutcomeMap))
    (coded× (coded_list pending.the_row.coded) (coded× (coded_list lease.the_row.coded) (map.code txn.the_row.coded coded_bool)))
    (λ s. (s.pending, (s.leases, s.outcomes))) (λ p. record { pending = p.0; leases = p.1.0; outcomes = p.1.1 }) (λ _. refl)
