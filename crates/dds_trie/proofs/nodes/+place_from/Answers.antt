use Rattle.std.proofs.Common.{ap, ◌∙◌, sym, ◌+◌, arith}
use Rattle.dds_trie.specs.Nodes.{linked}
use Rattle.dds_trie.proofs.Walks.{none-at}
use Rattle.dds_trie.proofs.nodes.+place_from.Goals as goal

pub returns-then-next-eq0 : goal.returns-then-next-eq0
returns-then-next-eq0 t c =
    sym (none-at c.args.nodes.now c.args.key (c.args.depth + 1) c.args.want (c.next-next.ensures ∙ ap linked c.if-next-eq0.true) (omega arith))
