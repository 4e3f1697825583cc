use Rattle.dds_trie.specs.declared.nodes.Node.{Node}
use Rattle.std.proofs.Common.{ap, sym, ◌∙◌}
use Rattle.std.proofs.lemmas.List.{get_or_default}
use Rattle.dds_trie.specs.Nodes.{blank}
use Rattle.dds_trie.proofs.Sightings.{seen-name, unseen-name}
use Rattle.dds_trie.proofs.leaves.get_in.Goals as goal

pub returns-in-Some : goal.returns-in-Some
returns-in-Some c =
    let within = c.requires.there c.args.name.bits c.args.name.depth c.in-Some.at (sym c.in-Some.ensures.value) in
    c.as_ref.ensures.value ∙ ap (λ (n : Node). n.leaf) (get_or_default c.args.nodes.now c.in-Some.at c.index-nodes-at.result blank within)
    ∙ sym (seen-name c.args.nodes.now c.args.name c.in-Some.at c.requires c.in-Some.ensures.valid c.in-Some.ensures.value)

pub returns-in-None : goal.returns-in-None
returns-in-None c = sym (unseen-name c.args.nodes.now c.args.name c.requires c.in-None.ensures.valid (sym c.in-None.ensures.value))
