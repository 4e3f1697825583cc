use Rattle.std.proofs.Common.{◌≡◌, ◌++◌, ◌+◌, ◌-◌, ◌≤◌}
use Rattle.dds_states.specs.Turn.{numbers_from}
use Rattle.dds_states.proofs.nodes.numbers.Given as goal

abbrev pub invariant-loop-place : goal.invariant-loop-place
invariant-loop-place l =
    (l.list ++ numbers_from (l.count - l.place) (l.first + l.place) ≡ numbers_from l.count l.first) × (l.place ≤ l.count)
