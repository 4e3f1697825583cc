use Rattle.std.proofs.Common.{arith, take, inl, inr}
use Rattle.std.proofs.lemmas.Grind.{common_steps}
use Rattle.dds_base.proofs.Outside.{past-more}
use Rattle.dds_base.proofs.source.read_by.Goals as goal

pub returns-then-n-most_bytes-clause-too_long : goal.returns-then-n-most_bytes-clause-too_long
returns-then-n-most_bytes-clause-too_long g c =
    λ _. past-more _ _ _ c.reading.text.items (take c.in-Ok.n c.read.new.into) _ _ c.reading.invariant.taken c.in-Ok.ensures.taken
    (inl (grind (arith, common_steps)))

pub returns-then-ends-most_lines-clause-too_long :
    goal.returns-then-ends-most_lines-clause-too_long
returns-then-ends-most_lines-clause-too_long g c =
    λ _. past-more _ _ _ c.reading.text.items (take c.in-Ok.n c.read.new.into) _ _ c.reading.invariant.taken c.in-Ok.ensures.taken
    (inr (grind (arith, common_steps)))
