use Rattle.std.proofs.Common.{◌∙◌}
use Rattle.dds_trie.proofs.Cuts.{name_total, name_antisymmetric}
use Rattle.dds_trie.proofs.Listed.{values-all}
use Rattle.dds_trie.proofs.sorted.Sorted.all.Goals as goal

pub returns : goal.returns
returns c =
    values-all name_total name_antisymmetric c.loop-name.list c.loop-name._name-iterator c.into_iter-name-iterator.result c.self.inside.tree.entries
    c.args.self.now c.loop-name.invariant c.in-None.ensures.steps.0 (c.into_iter-name-iterator.ensures.into_iter_gives ∙ c.iter-name-items.ensures.rest)
    c.iter-name-items.ensures.ordered c.self.view_is
