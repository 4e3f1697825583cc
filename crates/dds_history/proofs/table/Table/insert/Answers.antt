use Rattle.std.proofs.Common.{sym, ap, ◌∙◌, is_some}
use Rattle.dds_history.proofs.Seen.{get-seen, insert-seen}
use Rattle.dds_history.proofs.table.Table.insert.Goals as goal

pub returns-clause-ok : goal.returns-clause-ok
returns-clause-ok c = rw (← c.self.view_is) (insert-seen c.self.inside.pairs c.insert.new.self c.args.key c.args.value c.in_ok-before.ensures.updates.0)

pub returns-clause-was : goal.returns-clause-was
returns-clause-was c = rw (← c.self.view_is) (c.is_some.ensures ∙ ap is_some (c.in_ok-before.ensures.old ∙ sym (get-seen c.self.inside.pairs c.args.key)))
