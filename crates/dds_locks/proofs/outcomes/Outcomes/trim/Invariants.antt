use Rattle.std.proofs.Common.{◌≡◌}
use Rattle.std.specs.FinMap as map
use Rattle.dds_locks.specs.Outcomes.{trimmed}
use Rattle.dds_locks.proofs.outcomes.Outcomes.trim.Given as goal

abbrev pub invariant-trimming : goal.invariant-trimming
invariant-trimming l = trimmed l.self l.library l.below ≡ trimmed l.fn.self l.library l.below

abbrev pub decreases-trimming : goal.decreases-trimming
decreases-trimming l = map.len l.self
