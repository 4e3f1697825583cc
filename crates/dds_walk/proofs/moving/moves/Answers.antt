use Rattle.std.proofs.Common.{◌≡◌, ◌-◌, ◌∙◌, ap, sym, arith}
use Rattle.dds_walk.specs.Walk.{Moved, moves}
use Rattle.dds_walk.proofs.Moves.{moves-over, moves-one, moves-none}
use Rattle.dds_walk.proofs.moving.moves.Goals as goal

pub returns-then-not-branch-clause-walk : goal.returns-then-not-branch-clause-walk
returns-then-not-branch-clause-walk c =
    c.in_ok-event.ensures.walk ∙ sym (ap (λ (m : Moved). m.walk)
    (moves-none c.args.limit c.loop-made.made c.loop-made.walk _ c.loop-made-test.true (sym c.in_ok-event.ensures.made ∙ c.if-not-branch.true)
    c.loop-made.invariant.0))

pub returns-then-not-branch-clause-events : goal.returns-then-not-branch-clause-events
returns-then-not-branch-clause-events c =
    sym (ap (λ (m : Moved). m.events) (moves-none c.args.limit c.loop-made.made c.loop-made.walk _ c.loop-made-test.true
    (sym c.in_ok-event.ensures.made ∙ c.if-not-branch.true) c.loop-made.invariant.0))

pub loop-made-preserved : goal.loop-made-preserved
loop-made-preserved c = (
  rw c.in_ok-event.ensures.walk (moves-one c.args.limit c.loop-made.made c.loop-made.walk _ c.loop-made-test.true
      (sym c.in_ok-event.ensures.made ∙ c.if-not-branch.false) c.loop-made.invariant.0),
  omega (arith, c.loop-made-test.true),
)

pub returns-clause-walk : goal.returns-clause-walk
returns-clause-walk c =
    let none : c.args.limit - c.loop-made.made ≡ 0 = omega (arith, c.loop-made-test.false) in
    ap (λ (m : Moved). m.walk) (sym (moves-over c.loop-made.made c.loop-made.walk) ∙ ap (λ n. moves n c.loop-made.made c.loop-made.walk) (sym none)
    ∙ c.loop-made.invariant.0)

pub returns-clause-events : goal.returns-clause-events
returns-clause-events c =
    let none : c.args.limit - c.loop-made.made ≡ 0 = omega (arith, c.loop-made-test.false) in
    ap (λ (m : Moved). m.events) (sym (moves-over c.loop-made.made c.loop-made.walk) ∙ ap (λ n. moves n c.loop-made.made c.loop-made.walk) (sym none)
    ∙ c.loop-made.invariant.0)
