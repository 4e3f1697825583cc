use Rattle.std.proofs.Common.{◌≡◌, ◌++◌, ◌-◌, ◌≤◌}
use Rattle.dds_cluster.specs.Trace.{new_callers}
use Rattle.dds_cluster.proofs.opening_world.new_callers.Given as goal

abbrev pub invariant-loop-number : goal.invariant-loop-number
invariant-loop-number l =
    (l.callers ++ new_callers l.libraries (l.count - l.number) l.number ≡ new_callers l.libraries l.count 0) × (l.number ≤ l.count)
