use Rattle.std.proofs.Common.{◌∙◌, sym, arith}
use Rattle.dds_walk.proofs.Looking.{any-here, any-next}
use Rattle.dds_walk.proofs.lines.has_input.Goals as goal

pub returns-then-is_call_at : goal.returns-then-is_call_at
returns-then-is_call_at c =
    any-here c.args.caller c.args.call c.args.rest.now c.loop-place.place
    (omega (arith, c.loop-place-test.true, c.len-place-end.ensures, c.loop-place.auto.place-end)) (sym c.is_call_at.ensures ∙ c.if-is_call_at.true)
    ∙ c.loop-place.invariant

pub loop-place-preserved : goal.loop-place-preserved
loop-place-preserved c =
    any-next c.args.caller c.args.call c.args.rest.now c.loop-place.place
    (omega (arith, c.loop-place-test.true, c.len-place-end.ensures, c.loop-place.auto.place-end)) (sym c.is_call_at.ensures ∙ c.if-is_call_at.false)
    ∙ c.loop-place.invariant
