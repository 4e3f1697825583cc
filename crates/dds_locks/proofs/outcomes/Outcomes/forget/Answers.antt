use Rattle.dds_locks.proofs.Seen.{remove-seen}
use Rattle.dds_locks.proofs.Trims.{libraries-forget}
use Rattle.dds_locks.proofs.Txns.{txn_total, txn_antisymmetric}
use Rattle.dds_locks.proofs.outcomes.Outcomes.forget.Goals as goal

pub returns : goal.returns
returns c = rw (← c.self.view_is) (remove-seen txn_total txn_antisymmetric c.self.inside.noted c.remove.new.self c.args.txn c.remove.ensures.updates.0)

pub invariant_of-self : goal.invariant_of-self
invariant_of-self c = libraries-forget c.self.inside.noted c.remove.new.self c.args.txn c.self.invariant c.remove.ensures.updates.0
