use Rattle.std.proofs.Common.{ap, ◌∙◌}
use Rattle.std.specs.List.{list_any}
use Rattle.dds_trie.specs.Nodes.{bound_overlaps}
use Rattle.dds_trie.proofs.Overlaps.{overlaps-seen}
use Rattle.dds_trie.proofs.leaves.Leaves.overlapping.Goals as goal

pub returns : goal.returns
returns c =
    rw (← c.self.view_is) (overlaps-seen c.self.inside.nodes c.args.name c.any_overlaps.result c.self.invariant
    (c.any_overlaps.ensures ∙ ap (list_any (bound_overlaps c.args.name)) c.as_slice.ensures))
