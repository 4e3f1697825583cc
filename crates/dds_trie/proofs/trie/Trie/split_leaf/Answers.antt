use Rattle.std.proofs.Common.{arith}
use Rattle.dds_trie.specs.Trie.{IsWithin}
use Rattle.dds_trie.proofs.Cuts.{within-both, within-cut, split-cut}
use Rattle.dds_trie.proofs.trie.Trie.split_leaf.Goals as goal

pub cut_below-requires-clause-within : goal.cut_below-requires-clause-within
cut_below-requires-clause-within c =
    rw (c.remove.ensures, c.in_ok-insert_both.ensures.ok)
    (within-both c.self.inside.leaves c.self.inside.deepest c.max-self-inside.result c.args.name c.args.low.name c.args.high.name c.args.low c.args.high
    c.self.invariant.1 (omega arith) (omega arith) (omega arith) c.depth_of.ensures.valid c.depth_of-2.ensures.valid)

pub cut_below-requires-2-clause-within : goal.cut_below-requires-2-clause-within
cut_below-requires-2-clause-within c =
    let within : IsWithin c.remove.new.self c.max-self-inside.result =
    rw (c.remove.ensures, c.in_ok-insert_both.ensures.ok)
    (within-both c.self.inside.leaves c.self.inside.deepest c.max-self-inside.result c.args.name c.args.low.name c.args.high.name c.args.low c.args.high
    c.self.invariant.1 (omega arith) (omega arith) (omega arith) c.depth_of.ensures.valid c.depth_of-2.ensures.valid) in
    rw c.cut_below.ensures (within-cut c.remove.new.self c.max-self-inside.result c.args.low.name within)

pub invariant_of-self-2 : goal.invariant_of-self-2
invariant_of-self-2 c =
    let within : IsWithin c.remove.new.self c.max-self-inside.result =
    rw (c.remove.ensures, c.in_ok-insert_both.ensures.ok)
    (within-both c.self.inside.leaves c.self.inside.deepest c.max-self-inside.result c.args.name c.args.low.name c.args.high.name c.args.low c.args.high
    c.self.invariant.1 (omega arith) (omega arith) (omega arith) c.depth_of.ensures.valid c.depth_of-2.ensures.valid) in
    let below : IsWithin c.cut_below.new.leaves c.max-self-inside.result =
    rw c.cut_below.ensures (within-cut c.remove.new.self c.max-self-inside.result c.args.low.name within) in
    (omega arith, rw c.cut_below-2.ensures (within-cut c.cut_below.new.leaves c.max-self-inside.result c.args.high.name below))

pub returns-clause-ok : goal.returns-clause-ok
returns-clause-ok c =
    rw (← c.self.view_is) (rw (c.cut_below-2.ensures, c.cut_below.ensures, c.remove.ensures, c.in_ok-insert_both.ensures.ok)
    (split-cut c.self.inside.leaves c.self.inside.deepest c.args.name c.args.low c.args.high c.self.invariant.1 c.self.invariant.0 c.requires.low
    c.requires.high c.depth_of.ensures.valid c.depth_of-2.ensures.valid (omega arith)))
