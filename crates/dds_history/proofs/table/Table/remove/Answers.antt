use Rattle.std.proofs.Common.{sym, ap, ◌∙◌, is_some}
use Rattle.dds_history.proofs.Seen.{get-seen, remove-seen}
use Rattle.dds_history.proofs.table.Table.remove.Goals as goal

pub returns-clause-table : goal.returns-clause-table
returns-clause-table c = rw (← c.self.view_is) (remove-seen c.self.inside.pairs c.remove.new.self c.args.key c.remove.ensures.updates.0)

pub returns-clause-was : goal.returns-clause-was
returns-clause-was c = rw (← c.self.view_is) (c.is_some.ensures ∙ ap is_some (c.remove.ensures.value ∙ sym (get-seen c.self.inside.pairs c.args.key)))
