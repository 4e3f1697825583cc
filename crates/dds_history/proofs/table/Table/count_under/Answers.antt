use Rattle.std.proofs.Common.{◌∙◌}
use Rattle.dds_history.proofs.Entries.{count-all}
use Rattle.dds_history.proofs.table.Table.count_under.Goals as goal

pub returns : goal.returns
returns c =
    count-all c.loop-key.count c.args.name c.loop-key.key-iterator c.into_iter-key-iterator.result c.self.inside.pairs.entries c.args.self.now
    c.loop-key.invariant.0 c.in-None.ensures.steps.0 (c.into_iter-key-iterator.ensures.into_iter_gives ∙ c.keys-key-items.ensures.rest)
    c.keys-key-items.ensures.ordered c.self.view_is
