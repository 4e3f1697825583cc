use Rattle.std.proofs.Common.{◌≡◌, ◌∙◌, Some, sym, ap}
use Rattle.dds_walk.specs.Walk.{after_event, event_by, or_stays, picked_in, picks_in, tries}
use Rattle.dds_walk.proofs.moving.event.Goals as goal

pub returns-clause-walk : goal.returns-clause-walk
returns-clause-walk c =
    let w = c.args.walk.now in
    let p : picked_in w ≡ Some c.in-Some.step = sym c.in_ok-step.ensures.step ∙ c.in-Some.is in
    let e : after_event w ≡ tries (picks_in w) c.in-Some.step = ap (λ o. or_stays (picks_in w) (event_by (picks_in w) o)) p in
    rw (e, ← c.in_ok-step.ensures.after) c.make.ensures.walk
