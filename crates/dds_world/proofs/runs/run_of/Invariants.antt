use Rattle.std.proofs.Common.{◌≡◌, drop}
use Rattle.dds_cluster.specs.Trace.{trace_from, run_of}
use Rattle.dds_world.proofs.runs.run_of.Given as goal

abbrev pub invariant-loop-step : goal.invariant-loop-step
invariant-loop-step l = trace_from l.trace (drop l.step-index l.steps) ≡ run_of l.opening l.steps
