use Rattle.std.proofs.Common.{arith}
use Rattle.dds_trie.specs.Trie.{IsWithin}
use Rattle.dds_trie.proofs.Cuts.{within-insert, within-cut, put-cut}
use Rattle.dds_trie.proofs.trie.Trie.put_leaf.Goals as goal

pub cut_below-requires-clause-within : goal.cut_below-requires-clause-within
cut_below-requires-clause-within c =
    rw c.in_ok-insert.ensures.ok (within-insert c.self.inside.leaves c.self.inside.deepest c.max-self-inside.result c.args.leaf.name c.args.leaf
    c.self.invariant.1 (omega arith) (omega arith) c.depth_of.ensures.valid)

pub invariant_of-self-2 : goal.invariant_of-self-2
invariant_of-self-2 c =
    let within : IsWithin c.insert.new.self c.max-self-inside.result =
    rw c.in_ok-insert.ensures.ok (within-insert c.self.inside.leaves c.self.inside.deepest c.max-self-inside.result c.args.leaf.name c.args.leaf
    c.self.invariant.1 (omega arith) (omega arith) c.depth_of.ensures.valid) in
    (omega arith, rw c.cut_below.ensures (within-cut c.insert.new.self c.max-self-inside.result c.args.leaf.name within))

pub returns-clause-ok : goal.returns-clause-ok
returns-clause-ok c =
    rw (← c.self.view_is) (rw (c.cut_below.ensures, c.in_ok-insert.ensures.ok)
    (put-cut c.self.inside.leaves c.self.inside.deepest c.args.leaf c.depth_of.ensures.valid c.self.invariant.1))
