use Rattle.std.proofs.Common.{sym, ◌∙◌, subst}
use Rattle.dds_trie.specs.Nodes.{IsTrie}
use Rattle.dds_trie.proofs.Links.{started, nothing}
use Rattle.dds_trie.proofs.Lookups.{within-nothing}
use Rattle.dds_trie.proofs.leaves.Leaves.leaf_of.Goals as goal

pub returns-then-is_empty : goal.returns-then-is_empty
returns-then-is_empty c =
    rw (← c.self.view_is, ← c.as_slice-nodes.ensures) (sym (within-nothing c.as_slice-nodes.result.now c.args.key 16
    (subst IsTrie (sym c.as_slice-nodes.ensures) c.self.invariant)
    (nothing c.as_slice-nodes.result.now (sym c.is_empty.ensures ∙ c.if-is_empty.true) c.args.key)))

pub leaf_from-requires-clause-from : goal.leaf_from-requires-clause-from
leaf_from-requires-clause-from c = started c.as_slice-nodes.result.now (sym c.is_empty.ensures ∙ c.if-is_empty.false) c.args.key
