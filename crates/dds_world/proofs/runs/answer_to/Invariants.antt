use Rattle.std.proofs.Common.{◌≡◌, drop}
use Rattle.dds_world.specs.Stands.{answer_to}
use Rattle.dds_world.proofs.runs.answer_to.Given as goal

abbrev pub invariant-loop-answer : goal.invariant-loop-answer
invariant-loop-answer l = answer_to (drop l.answer-index l.told) l.caller l.call ≡ answer_to l.told l.caller l.call
