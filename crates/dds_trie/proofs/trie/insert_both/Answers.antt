use Rattle.std.proofs.Common.{ap, ◌∙◌}
use Rattle.dds_trie.specs.Trie.{rebound, LeafMap}
use Rattle.dds_trie.proofs.Cuts.{bound-now, put-back}
use Rattle.dds_trie.proofs.trie.insert_both.Goals as goal

pub put_back-requires : goal.put_back-requires
put_back-requires c = bound-now c.args.leaves.now c.insert-2.new.self c.args.low.name c.args.low (c.in-Err.ensures.err ∙ c.in_ok-was.ensures.ok)

pub returns-in-Err-clause-err : goal.returns-in-Err-clause-err
returns-in-Err-clause-err c =
    c.put_back.ensures ∙ ap (λ (m : LeafMap). rebound m c.args.low.name c.in_ok-was.was') (c.in-Err.ensures.err ∙ c.in_ok-was.ensures.ok)
    ∙ put-back c.args.leaves.now c.args.low.name c.args.low c.in_ok-was.was' c.in_ok-was.ensures.was
