use Rattle.dds_trie.proofs.Seen.{insert-seen}
use Rattle.dds_trie.proofs.Cuts.{name_total, name_antisymmetric}
use Rattle.dds_trie.proofs.sorted.Sorted.insert.Goals as goal

pub returns : goal.returns
returns c = rw (← c.self.view_is) (insert-seen name_total name_antisymmetric c.self.inside.tree c.insert.new.self c.args.name c.args.leaf
    c.in_ok-insert.ensures.updates.0)
