use Rattle.std.proofs.Common.{◌≡◌, ◌∙◌, sym, ap, subst, arith}
use Rattle.std.specs.Prelude.{nat_lt}
use Rattle.dds_states.proofs.Groups.{there-is}
use Rattle.dds_cluster.specs.World.{new_brick}
use Rattle.dds_cluster.proofs.Openings.{bricks-more}
use Rattle.dds_cluster.proofs.opening_world.new_bricks.Goals as goal

pub loop-number-preserved : goal.loop-number-preserved
loop-number-preserved c =
    let node : c.in-Some.node ≡ c.loop-number.number = there-is (nat_lt c.loop-number.number 64) _ _ (sym c.in-Some.ensures) in
    let is : c.in_ok-new_brick.field-0 ≡ new_brick c.args.opening.now.leaves c.loop-number.number = c.in_ok-new_brick.ensures
    ∙ ap (λ l. new_brick l c.in-Some.node) c.leaves.ensures.value ∙ ap (λ n. new_brick c.args.opening.now.leaves n) node in (
      rw c.in_ok-push.ensures.items (bricks-more c.args.opening.now.leaves c.loop-number.bricks.items c.bricks-count.result c.loop-number.number
          c.in_ok-new_brick.field-0 _ c.loop-number-test.true is c.loop-number.invariant.0),
      omega (arith, c.loop-number-test.true),
    )
