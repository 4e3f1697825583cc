use Rattle.std.proofs.Common.{◌≡◌, ◌++◌, drop}
use Rattle.dds_walk.specs.Walk.{open_calls}
use Rattle.dds_walk.proofs.reports.push_open_calls.Given as goal

abbrev pub invariant-loop-place : goal.invariant-loop-place
invariant-loop-place l = l.lines ++ open_calls l.place (drop l.place l.callers) ≡ l.fn.lines ++ open_calls 0 l.callers
