use Rattle.std.proofs.Common.{None, ap, sym, ◌∙◌}
use Rattle.dds_trie.specs.Nodes.{place, seen}
use Rattle.dds_trie.proofs.Leafed.{trie-leaf}
use Rattle.dds_trie.proofs.Sightings.{set-name, without-none, unseen-name}
use Rattle.dds_trie.proofs.leaves.Leaves.remove.Goals as goal

pub invariant_of-self : goal.invariant_of-self
invariant_of-self c = trie-leaf c.self.inside.nodes c.in-Some.at None c.set_leaf.new.nodes c.set_leaf.ensures.nodes c.self.invariant

pub returns-in-Some : goal.returns-in-Some
returns-in-Some c =
    let at = sym (c.in-Some.ensures.value ∙ ap (λ ns. place ns c.args.name.bits c.args.name.depth) c.as_slice.ensures) in
    rw (← c.self.view_is) (set-name c.self.inside.nodes c.set_leaf.new.nodes c.args.name c.in-Some.at None c.self.invariant c.in-Some.ensures.valid at
    c.set_leaf.ensures.nodes)

pub returns-in_default : goal.returns-in_default
returns-in_default c =
    let off = sym (c.in_default.ensures.value ∙ ap (λ ns. place ns c.args.name.bits c.args.name.depth) c.as_slice.ensures) in
    rw (← c.self.view_is) (without-none (seen c.self.inside.nodes) c.args.name
    (unseen-name c.self.inside.nodes c.args.name c.self.invariant c.in_default.ensures.valid off))
