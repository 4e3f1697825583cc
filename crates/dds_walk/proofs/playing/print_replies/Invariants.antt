use Rattle.std.proofs.Common.{◌≡◌, ◌++◌, map}
use Rattle.std.specs.Vec.Iter.{into_iter_items}
use Rattle.dds_walk.specs.Walk.{reply_line}
use Rattle.dds_walk.proofs.playing.print_replies.Given as goal

abbrev pub invariant-loop-reply : goal.invariant-loop-reply
invariant-loop-reply l =
    l.lines ++ map (reply_line l.kind l.node) (into_iter_items l.reply-iterator) ≡ l.fn.lines ++ map (reply_line l.kind l.node) l.fn.replies
