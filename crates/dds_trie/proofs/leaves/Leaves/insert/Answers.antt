use Rattle.std.proofs.Common.{Some, ap, sym, ◌∙◌}
use Rattle.std.specs.FinMap.{get}
use Rattle.dds_trie.specs.Trie.{LeafMap, rebound}
use Rattle.dds_trie.proofs.Cuts.{on-err}
use Rattle.dds_trie.proofs.Leafed.{trie-leaf}
use Rattle.dds_trie.proofs.Sightings.{set-name, seen-name, unseen-name}
use Rattle.dds_trie.proofs.leaves.Leaves.insert.Goals as goal

pub returns-in_err-at-clause-free : goal.returns-in_err-at-clause-free
returns-in_err-at-clause-free c =
    rw (← c.self.view_is) (on-err c.from_residual.result _
    (unseen-name c.self.inside.nodes c.args.name c.self.invariant c.in_err-at.ensures.valid c.in_err-at.ensures.err))

pub invariant_of-self-2 : goal.invariant_of-self-2
invariant_of-self-2 c = trie-leaf c.place_or_new.new.nodes c.in_ok-at.at (Some c.args.leaf) c.set_leaf.new.nodes c.set_leaf.ensures.nodes
    c.in_ok-at.ensures.trie

pub returns-clause-ok : goal.returns-clause-ok
returns-clause-ok c =
    rw (← c.self.view_is) (set-name c.place_or_new.new.nodes c.set_leaf.new.nodes c.args.name c.in_ok-at.at (Some c.args.leaf) c.in_ok-at.ensures.trie
    c.in_ok-at.ensures.valid c.in_ok-at.ensures.ok c.set_leaf.ensures.nodes
    ∙ ap (λ (m : LeafMap). rebound m c.args.name (Some c.args.leaf)) c.in_ok-at.ensures.seen)

pub returns-clause-was : goal.returns-clause-was
returns-clause-was c =
    rw (← c.self.view_is) (c.set_leaf.ensures.value ∙ sym (seen-name c.place_or_new.new.nodes c.args.name c.in_ok-at.at c.in_ok-at.ensures.trie
    c.in_ok-at.ensures.valid (sym c.in_ok-at.ensures.ok)) ∙ ap (λ (m : LeafMap). get m c.args.name) c.in_ok-at.ensures.seen)
