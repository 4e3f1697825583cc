use Rattle.std.proofs.Common.{◌≡◌, sym, ap, ◌∙◌, refl, option_copied, take}
use Rattle.std.proofs.lemmas.Bool.{false≢true}
use Rattle.std.specs.FinMap.{get}
use Rattle.dds_base.specs.Op.{the_key}
use Rattle.dds_history.specs.Map.{reply_at}
use Rattle.dds_history.specs.History.{replay}
use Rattle.dds_history.proofs.Histories.{legal-more, legal-reply}
use Rattle.dds_history.proofs.history.legal.Goals as goal

pub returns-then-not-is_reply : goal.returns-then-not-is_reply
returns-then-not-is_reply c =
    let e = c.index-entries-place.result in
    let bound : option_copied c.left_at-bound.result ≡ get (replay (take c.loop-place.place c.args.entries.now)) (the_key e.op) = c.left_at-bound.ensures
    ∙ ap (get (replay (take c.loop-place.place c.args.entries.now))) c.key.ensures in (
      λ h. absurd (false≢true h),
      λ legal. c.if-not-is_reply.ensures.1
          (legal-reply c.args.entries.now c.loop-place.place e c.loop-place-test.true c.index-entries-place.is legal ∙ ap (λ b. reply_at b e.op) (sym bound)),
    )

pub loop-place-preserved : goal.loop-place-preserved
loop-place-preserved c =
    let e = c.index-entries-place.result in
    let bound : option_copied c.left_at-bound.result ≡ get (replay (take c.loop-place.place c.args.entries.now)) (the_key e.op) = c.left_at-bound.ensures
    ∙ ap (get (replay (take c.loop-place.place c.args.entries.now))) c.key.ensures in
    legal-more c.args.entries.now c.loop-place.place e c.loop-place-test.true c.index-entries-place.is c.loop-place.invariant
    (c.if-not-is_reply.ensures.0 refl ∙ ap (λ b. reply_at b e.op) bound)
