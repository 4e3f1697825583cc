use Rattle.std.proofs.Common.{arith}
use Rattle.dds_states.proofs.Numbers.{numbers-push}
use Rattle.dds_states.proofs.nodes.numbers.Goals as goal

pub loop-place-preserved : goal.loop-place-preserved
loop-place-preserved c = (
  numbers-push c.loop-place.list c.push.new.self _ c.args.count c.loop-place.place c.args.first c.in-Some.node c.loop-place-test.true
      c.loop-place.invariant.0 c.in_ok-push.ensures.ok c.in-Some.ensures,
  omega (arith, c.loop-place-test.true),
)
