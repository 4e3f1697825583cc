use Rattle.std.proofs.Common.{◌≡◌, ◌++◌, map, drop}
use Rattle.dds_world.specs.Stands.{placed_call, answer_to}
use Rattle.dds_world.proofs.runs.calls_of.Given as goal

abbrev pub invariant-loop-a : goal.invariant-loop-a
invariant-loop-a l =
    l.list.items ++ map (λ a. placed_call a (answer_to l.told a.caller a.call)) (drop l.a-index l.asked)
    ≡ map (λ a. placed_call a (answer_to l.told a.caller a.call)) l.asked
