use Rattle.std.proofs.Common.{◌≡◌, drop}
use Rattle.dds_cluster.specs.Trace.{is_run_from, is_run}
use Rattle.dds_world.proofs.runs.is_run.Given as goal

abbrev pub invariant-loop-step : goal.invariant-loop-step
invariant-loop-step l = is_run_from l.trace (drop l.step-index l.journal) ≡ is_run l.opening l.journal
