use Rattle.std.proofs.Common.{◌≡◌, ◌+◌, ◌≤◌, drop}
use Rattle.std.specs.Prelude.{count_by}
use Rattle.dds_brick_rows.specs.Refusal.{is_new_under}
use Rattle.dds_brick_rows.proofs.refusal.count_new.Given as goal

abbrev pub invariant-loop-pending : goal.invariant-loop-pending
invariant-loop-pending l =
    (l.count + count_by (λ p. is_new_under l.pairs l.name p) (drop l.pending-index l.locks.pending)
    ≡ count_by (λ p. is_new_under l.pairs l.name p) l.locks.pending) × (l.count ≤ l.pending-index)
