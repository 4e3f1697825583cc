use Rattle.std.proofs.Common.{◌≡◌, take}
use Rattle.dds_walk.proofs.reports.queue_of.Given as goal

abbrev pub invariant-loop-step : goal.invariant-loop-step
invariant-loop-step l = l.queue ≡ take l.step-index l.steps
