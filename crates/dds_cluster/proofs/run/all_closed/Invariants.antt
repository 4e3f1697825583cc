use Rattle.std.proofs.Common.{◌≡◌, drop}
use Rattle.dds_cluster.specs.Trace.{all_closed}
use Rattle.dds_cluster.proofs.run.all_closed.Given as goal

abbrev pub invariant-loop-reply : goal.invariant-loop-reply
invariant-loop-reply l = all_closed l.callers (drop l.reply-index l.replies) ≡ all_closed l.fn.callers l.replies
