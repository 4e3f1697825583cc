use Rattle.std.proofs.Common.{arith, refl}
use Rattle.dds_script.proofs.Covering.{shares-most, sum-tells, shares-drop, shares-end}
use Rattle.dds_script.proofs.leaves.cover_all.Goals as goal

pub overflow_add-sum : goal.overflow_add-sum
overflow_add-sum c =
    let d = shares-drop c.args.leaves.now c.loop-leaf.leaf-index c.leaf-item.result (omega arith) c.leaf-item.is in
    let m = shares-most _ c.args.leaves.now 65536 refl c.requires.apart c.requires.placed.1 in
    omega (arith, d, m, c.loop-leaf.invariant, c.share-sum.ensures.value)

pub returns : goal.returns
returns c = sum-tells c.args.leaves.now c.loop-leaf.sum c.requires.apart c.requires.placed
    (omega (arith, c.loop-leaf.invariant, shares-end c.args.leaves.now c.loop-leaf.leaf-index (omega arith)))
