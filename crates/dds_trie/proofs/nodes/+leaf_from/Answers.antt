use Rattle.std.proofs.Common.{ap, ◌∙◌, ◌<◌, ◌+◌, ◌-◌, arith}
use Rattle.std.proofs.lemmas.List.{get_or_default}
use Rattle.dds_trie.specs.Trie.{leaf_within}
use Rattle.dds_trie.specs.Nodes.{linked, seen, blank}
use Rattle.dds_trie.proofs.Lookups.{within-here, within-end, shallower-next, linked-some}
use Rattle.dds_trie.proofs.nodes.+leaf_from.Goals as goal

pub returns-then-depth-eq-DEPTH : goal.returns-then-depth-eq-DEPTH
returns-then-depth-eq-DEPTH t c =
    let node = c.index-nodes-from.is ∙ get_or_default c.args.nodes.now c.args.from c.index-nodes-from.result blank
    (c.requires.trie.there c.args.key c.args.depth c.args.from c.requires.from) in
    within-here c.args.nodes.now c.args.key c.args.depth c.args.from c.index-nodes-from.result _ _ c.requires.trie c.requires.from node c.deeper-best.ensures
    c.requires.best ∙ ap (λ d. leaf_within (seen c.args.nodes.now) d c.args.key) c.if-depth-eq-DEPTH.true

pub returns-then-next-eq0 : goal.returns-then-next-eq0
returns-then-next-eq0 t c =
    let node = c.index-nodes-from.is ∙ get_or_default c.args.nodes.now c.args.from c.index-nodes-from.result blank
    (c.requires.trie.there c.args.key c.args.depth c.args.from c.requires.from) in
    let here = within-here c.args.nodes.now c.args.key c.args.depth c.args.from c.index-nodes-from.result _ _ c.requires.trie c.requires.from node
    c.deeper-best.ensures c.requires.best in
    within-end c.args.nodes.now c.args.key c.args.depth 16 _ c.requires.trie (c.next-next.ensures ∙ ap linked c.if-next-eq0.true) c.requires.depth here

pub leaf_from-requires : goal.leaf_from-requires
leaf_from-requires t c =
    let node = c.index-nodes-from.is ∙ get_or_default c.args.nodes.now c.args.from c.index-nodes-from.result blank
    (c.requires.trie.there c.args.key c.args.depth c.args.from c.requires.from) in
    let here = within-here c.args.nodes.now c.args.key c.args.depth c.args.from c.index-nodes-from.result _ _ c.requires.trie c.requires.from node
    c.deeper-best.ensures c.requires.best in
    let less : 17 - (c.args.depth + 1) < t = omega (arith, c.decreases, c.requires.depth) in (
      less,
      (
        c.requires.trie,
        (
          linked-some c.next-next.result _ c.if-next-eq0.false c.next-next.ensures,
          (omega (arith, c.requires.depth, c.if-depth-eq-DEPTH.false), shallower-next (seen c.args.nodes.now) c.args.depth c.args.key _ here),
        ),
      ),
    )
