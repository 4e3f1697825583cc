use Rattle.std.proofs.Common.{◌≡◌, ◌∙◌, ◌+◌, ◌%◌, None, sym, ap, arith}
use Rattle.std.specs.Prelude.{nat_lt}
use Rattle.dds_base.specs.declared.number.NodeNo.{NodeNo}
use Rattle.dds_states.proofs.Groups.{there-is}
use Rattle.dds_cluster.specs.declared.trace.Caller.{Caller}
use Rattle.dds_cluster.proofs.Openings.{callers-more}
use Rattle.dds_cluster.proofs.opening_world.new_callers.Goals as goal

pub loop-number-preserved : goal.loop-number-preserved
loop-number-preserved c =
    let node : c.in-Some.library ≡ 64 + c.loop-number.number % c.libraries-libraries.result =
    there-is (nat_lt (c.loop-number.number % c.libraries-libraries.result) 16) _ _ (sym c.in-Some.ensures) in
    let is : ◌≡◌ {A = Caller} (record { library = c.in-Some.library; call = None; least = 0 })
    (record { library = 64 + c.loop-number.number % c.libraries-libraries.result; call = None; least = 0 }) =
    ap (λ n. record { library = n; call = None; least = 0 }) node in (
      rw c.in_ok-push.ensures.ok (callers-more c.libraries-libraries.result c.loop-number.callers c.callers-count.result c.loop-number.number
          (record { library = c.in-Some.library; call = None; least = 0 }) _ c.loop-number-test.true is c.loop-number.invariant.0),
      omega (arith, c.loop-number-test.true),
    )
