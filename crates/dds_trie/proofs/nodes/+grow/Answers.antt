use Rattle.std.proofs.Common.{◌+◌, arith}
use Rattle.dds_trie.proofs.Cuts.{on-err}
use Rattle.dds_trie.proofs.Walks.{none-at}
use Rattle.dds_trie.proofs.nodes.+grow.Goals as goal

pub returns-in_err-next-clause-err : goal.returns-in_err-next-clause-err
returns-in_err-next-clause-err t c =
    on-err c.from_residual.result _ (none-at c.args.nodes.now c.args.key (c.args.depth + 1) c.args.want c.in_err-next.ensures.err
    (omega (arith, c.requires.depth, c.if-depth-want.false)))
