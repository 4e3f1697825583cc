use Rattle.std.proofs.Common.{◌≡◌, ◌++◌, drop}
use Rattle.dds_core.specs.Notice.{numbered}
use Rattle.dds_core.proofs.notice.numbered.Given as goal

abbrev pub invariant-loop-p : goal.invariant-loop-p
invariant-loop-p l = l.list.items ++ numbered (drop l.p-index l.pending) ≡ numbered l.pending
