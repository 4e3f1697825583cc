use Rattle.std.proofs.Common.{◌≡◌, None, replicate}
use Rattle.dds_walk.proofs.reports.no_orders.Given as goal

abbrev pub invariant-loop-brick : goal.invariant-loop-brick
invariant-loop-brick l = l.orders ≡ replicate l._brick None
