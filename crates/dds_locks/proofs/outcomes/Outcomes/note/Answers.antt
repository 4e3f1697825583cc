use Rattle.std.proofs.Common.{◌≤◌}
use Rattle.dds_locks.proofs.Seen.{insert-seen}
use Rattle.dds_locks.proofs.Trims.{libraries-note}
use Rattle.dds_locks.proofs.Txns.{txn_total, txn_antisymmetric}
use Rattle.dds_locks.proofs.outcomes.Outcomes.note.Goals as goal

pub returns-clause-ok : goal.returns-clause-ok
returns-clause-ok c = rw (← c.self.view_is) (insert-seen txn_total txn_antisymmetric c.self.inside.noted c.insert.new.self c.args.txn c.args.committed
    c.in_ok-insert.ensures.updates.0)

pub invariant_of-self-2 : goal.invariant_of-self-2
invariant_of-self-2 c =
    let lib : 64 ≤ c.args.txn.library = rw (← c.library-library.ensures.value) c.library-library.ensures.range in
    libraries-note c.self.inside.noted c.insert.new.self c.args.txn c.args.committed c.self.invariant lib c.in_ok-insert.ensures.updates.0
