use Rattle.std.proofs.Common.{◌≡◌, ◌-◌, ◌^◌, drop}
use Rattle.dds_core.specs.LibraryTurn.{least_of}
use Rattle.dds_core.proofs.library.least_attempt.Given as goal

abbrev pub invariant-loop-call : goal.invariant-loop-call
invariant-loop-call l = least_of l.least (drop l.call-index l.calls) ≡ least_of (2 ^ 64 - 1) l.calls
