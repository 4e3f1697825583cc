use Rattle.std.proofs.Common.{◌≡◌, replicate}
use Rattle.dds_walk.proofs.reports.no_counts.Given as goal

abbrev pub invariant-loop-caller : goal.invariant-loop-caller
invariant-loop-caller l = l.counts ≡ replicate l._caller 0
