use Rattle.std.proofs.Common.{◌≡◌, ◌++◌, drop}
use Rattle.dds_core.specs.LibraryTurn.{attempts}
use Rattle.dds_core.proofs.library.attempts.Given as goal

abbrev pub invariant-loop-call : goal.invariant-loop-call
invariant-loop-call l = l.list.items ++ attempts (drop l.call-index l.calls) ≡ attempts l.calls
