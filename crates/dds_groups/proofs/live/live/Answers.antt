use Rattle.std.proofs.Common.{◌≤◌, take, length, arith, length-take}
use Rattle.dds_base.specs.NodeSet.{has_node}
use Rattle.dds_groups.specs.Leaves.{live}
use Rattle.dds_groups.proofs.Members.{live-length, live-more, live-new}
use Rattle.dds_groups.proofs.live.live.Goals as goal

pub push_live-requires-clause-room : goal.push_live-requires-clause-room
push_live-requires-clause-room c =
    let known = has_node c.args.known.now in
    let most : length (live (take c.loop-place.place c.args.list.now) known) ≤ length (take c.loop-place.place c.args.list.now) = live-length _ known in
    rw c.loop-place.invariant (omega (arith, most, length-take c.loop-place.place c.args.list.now))

pub push_live-requires-clause-new : goal.push_live-requires-clause-new
push_live-requires-clause-new c =
    rw (c.loop-place.invariant, c.at.ensures.value) (live-new c.args.list.now c.loop-place.place (has_node c.args.known.now) c.len-place-end.ensures.bricks
    (omega arith))

pub loop-place-preserved : goal.loop-place-preserved
loop-place-preserved c =
    rw (live-more c.args.list.now c.loop-place.place (has_node c.args.known.now) (omega arith))
    (rw (← c.loop-place.invariant, ← c.at.ensures.value) c.push_live.ensures)
