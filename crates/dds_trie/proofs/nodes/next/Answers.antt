use Rattle.std.proofs.Common.{ap, ◌∙◌, sym}
use Rattle.dds_trie.specs.declared.nodes.Node.{Node}
use Rattle.dds_trie.specs.Nodes.{child, linked, is_high}
use Rattle.dds_trie.proofs.Walks.{place-next, node-at}
use Rattle.dds_trie.proofs.nodes.next.Goals as goal

pub returns : goal.returns
returns c =
    place-next c.args.nodes.now c.args.key c.args.depth c.args.from c.requires.from
    ∙ ap linked (ap (λ (n : Node). child n (is_high c.args.key c.args.depth))
    (sym (c.index-nodes-from.is ∙ node-at c.args.nodes.now c.args.from c.index-nodes-from.result
    (c.requires.trie.there c.args.key c.args.depth c.args.from c.requires.from))) ∙ ap (child c.index-nodes-from.result) (sym c.is_high.ensures)
    ∙ sym c.child.ensures)
