use Rattle.std.proofs.Common.{sym, ◌∙◌}
use Rattle.dds_history.proofs.Seen.{get-seen}
use Rattle.dds_history.proofs.table.Table.get.Goals as goal

pub returns : goal.returns
returns c = rw (← c.self.view_is) (c.get.ensures.value ∙ sym (get-seen c.self.inside.pairs c.args.key))
