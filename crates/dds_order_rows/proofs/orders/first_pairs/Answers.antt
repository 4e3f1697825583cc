use Rattle.std.proofs.Common.{◌≡◌, take, None, Some, arith, ◌∙◌, sym, ap}
use Rattle.std.proofs.lemmas.Grind.{common_steps}
use Rattle.dds_base.specs.Place.{last_key}
use Rattle.dds_base.proofs.Places.{last-push}
use Rattle.dds_order_rows.proofs.Copying.{take-least}
use Rattle.dds_order_rows.proofs.orders.first_pairs.Goals as goal

pub loop-place-preserved : goal.loop-place-preserved
loop-place-preserved c =
    let i = c.loop-place.invariant.0 in
    let p = c.index-pairs-place.is in
    let q = c.in_ok-pair.ensures in
    let n = c.in_ok-push.ensures.ok in
    (grind (arith, common_steps), sym (ap (last_key None) n ∙ last-push None c.loop-place.copied c.in_ok-pair.pair))

pub returns : goal.returns
returns c =
    c.loop-place.invariant.0 ∙ take-least c.args.pairs.now 32 c.loop-place.place (omega (arith, c.min-place-end.ensures))
