use Rattle.std.proofs.Common.{◌∙◌}
use Rattle.dds_history.proofs.Entries.{pairs-all}
use Rattle.dds_history.proofs.table.Table.pairs.Goals as goal

pub returns : goal.returns
returns c =
    pairs-all c.loop-key.pairs c.loop-key.key-iterator c.into_iter-key-iterator.result c.self.inside.pairs.entries c.args.self.now c.loop-key.invariant
    c.in-None.ensures.steps.0 (c.into_iter-key-iterator.ensures.into_iter_gives ∙ c.iter-key-items.ensures.rest) c.iter-key-items.ensures.ordered
    c.self.view_is
