use Rattle.dds_walk.proofs.Leaves.{leaves-more}
use Rattle.dds_walk.proofs.showing.show_leaves.Goals as goal

pub loop-leaf-preserved : goal.loop-leaf-preserved
loop-leaf-preserved c =
    leaves-more c.args.state.now.pairs c.args.brick c.loop-leaf.lines c.push.new.self _ c.as_slice-leaf-items.result.now c.loop-leaf.leaf-index
    c.leaf-item.result c.leaf_line.result c.loop-leaf-test.true c.leaf-item.is c.leaf_line.ensures c.in_ok-push.ensures.ok c.loop-leaf.invariant
