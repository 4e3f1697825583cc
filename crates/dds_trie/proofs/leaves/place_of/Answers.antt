use Rattle.std.proofs.Common.{sym, ◌∙◌}
use Rattle.dds_trie.proofs.Links.{started}
use Rattle.dds_trie.proofs.leaves.place_of.Goals as goal

pub place_from-requires-clause-from : goal.place_from-requires-clause-from
place_from-requires-clause-from c = started c.args.nodes.now (sym c.is_empty.ensures ∙ c.if-is_empty.false) c.from.result
