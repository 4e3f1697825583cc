use Rattle.std.proofs.Common.{◌+◌, ◌-◌, ◌*◌, ◌<◌, sym, ap, arith}
use Rattle.dds_base.specs.Name.{Name}
use Rattle.dds_trie.specs.Trie.{IsWithin}
use Rattle.dds_trie.proofs.Cuts.{cut-none, cut-halves, within-remove, within-cut}
use Rattle.dds_trie.proofs.trie.+cutting.Goals as goal

pub cut-cut_below-requires : goal.cut-cut_below-requires
cut-cut_below-requires t c =
    let less : 2 * (c.args.deepest - c.args.name.depth) < t = omega (arith, c.decreases) in
    let within : IsWithin c.remove.new.self c.args.deepest = rw c.remove.ensures (within-remove c.args.leaves.now c.args.deepest c.args.name c.requires.within)
    in
    (less, (c.requires.depth, within))

pub cut_below-cut-requires-then-depth_of-deepest : goal.cut_below-cut-requires-then-depth_of-deepest
cut_below-cut-requires-then-depth_of-deepest t c =
    let deep = ap (λ (n : Name). n.depth) c.high_half.ensures in
    let less : 2 * (c.args.deepest - c.high_half.result.depth) + 1 < t = omega (arith, deep, c.decreases) in
    let low : IsWithin c.cut.new.leaves c.args.deepest = rw c.cut.ensures
    (within-cut _ c.args.deepest c.low_half.result (within-remove c.args.leaves.now c.args.deepest c.low_half.result c.requires.within)) in
    (less, (c.requires.depth, low))

pub cut_below-returns-then-depth_of-deepest : goal.cut_below-returns-then-depth_of-deepest
cut_below-returns-then-depth_of-deepest t c =
    rw (c.cut-then-depth_of-deepest.ensures, c.cut.ensures, c.high_half.ensures, c.low_half.ensures)
    (cut-halves c.args.leaves.now c.args.deepest c.args.name c.depth_of.ensures.valid c.requires.within)

pub cut_below-returns-else-depth_of-deepest : goal.cut_below-returns-else-depth_of-deepest
cut_below-returns-else-depth_of-deepest t c = sym (cut-none c.args.leaves.now c.args.deepest c.args.name (omega arith) c.requires.within)
