use Rattle.std.proofs.Common.{◌≡◌, ◌∙◌, ◌+◌, ◌-◌, sym, ap, subst, arith}
use Rattle.std.specs.Prelude.{nat_lt}
use Rattle.dds_states.proofs.Groups.{there-is}
use Rattle.dds_cluster.specs.World.{new_library}
use Rattle.dds_cluster.proofs.Openings.{libraries-more}
use Rattle.dds_cluster.proofs.opening_world.new_libraries.Goals as goal

pub loop-number-preserved : goal.loop-number-preserved
loop-number-preserved c =
    let node : c.in-Some.node ≡ 64 + c.loop-number.number = there-is (nat_lt c.loop-number.number 16) _ _ (sym c.in-Some.ensures) in
    let less : c.in-Some.node - 64 ≡ c.loop-number.number = omega (arith, node) in
    let is : c.in_ok-new_library.field-0 ≡ new_library c.args.opening.now c.loop-number.number = c.in_ok-new_library.ensures
    ∙ ap (λ n. new_library c.args.opening.now n) less in (
      rw c.in_ok-push.ensures.items (libraries-more c.args.opening.now c.loop-number.libraries.items c.libraries-count.result c.loop-number.number
          c.in_ok-new_library.field-0 _ c.loop-number-test.true is c.loop-number.invariant.0),
      omega (arith, c.loop-number-test.true),
    )

pub new_library-requires : goal.new_library-requires
new_library-requires c =
    let node : c.in-Some.node ≡ 64 + c.loop-number.number = there-is (nat_lt c.loop-number.number 16) _ _ (sym c.in-Some.ensures) in
    omega (arith, node)
