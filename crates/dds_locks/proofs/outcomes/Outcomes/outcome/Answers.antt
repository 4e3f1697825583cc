use Rattle.std.proofs.Common.{sym, ◌∙◌}
use Rattle.dds_locks.proofs.Seen.{get-seen}
use Rattle.dds_locks.proofs.Txns.{txn_total}
use Rattle.dds_locks.proofs.outcomes.Outcomes.outcome.Goals as goal

pub returns : goal.returns
returns c = rw (← c.self.view_is) (c.copied.ensures ∙ c.get.ensures.value ∙ sym (get-seen txn_total c.self.inside.noted c.args.txn))
