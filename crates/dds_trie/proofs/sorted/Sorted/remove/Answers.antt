use Rattle.dds_trie.proofs.Seen.{remove-seen}
use Rattle.dds_trie.proofs.Cuts.{name_total, name_antisymmetric}
use Rattle.dds_trie.proofs.sorted.Sorted.remove.Goals as goal

pub returns : goal.returns
returns c = rw (← c.self.view_is) (remove-seen name_total name_antisymmetric c.self.inside.tree c.remove.new.self c.args.name c.remove.ensures.updates.0)
