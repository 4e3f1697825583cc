use Rattle.std.proofs.Common.{◌≡◌, drop}
use Rattle.std.specs.List.{list_any}
use Rattle.dds_walk.specs.Walk.{makes_call}
use Rattle.dds_walk.proofs.lines.has_input.Given as goal

abbrev pub invariant-loop-place : goal.invariant-loop-place
invariant-loop-place l = list_any (makes_call l.caller l.call) (drop l.place l.rest) ≡ list_any (makes_call l.caller l.call) l.rest
