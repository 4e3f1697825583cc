use Rattle.std.proofs.Common.{◌≡◌, ◌++◌, drop}
use Rattle.dds_cluster.specs.Trace.{told_at}
use Rattle.dds_cluster.proofs.run.told_at.Given as goal

abbrev pub invariant-loop-reply : goal.invariant-loop-reply
invariant-loop-reply l = l.told ++ told_at l.at (drop l.reply-index l.replies) ≡ l.fn.told ++ told_at l.at l.replies
