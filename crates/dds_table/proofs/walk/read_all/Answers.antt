use Rattle.std.proofs.Common.{◌∙◌}
use Rattle.dds_table.proofs.OldPages.{ends-more, walk-counted, walk-fault}
use Rattle.dds_table.proofs.walk.read_all.Goals as goal

pub walking-preserved : goal.walking-preserved
walking-preserved g c = record {
  same = c.turn.ensures.same ∙ c.walking.invariant.same;
  steady = c.in-Ok-true.ensures.steady ∙ c.walking.invariant.steady;
  covered = c.turn.ensures.covered;
  met = c.in-Ok-true.ensures.met;
  ends = λ p is. ends-more p c.args.name c.in-Ok.root.firsts _ c.walking.walk c.turn.new.walk c.in-Ok-true.field-0 c.in-Ok-true.field-0-test
      (c.walking.invariant.ends p is) (c.in-Ok-true.ensures.told p (c.walking.invariant.same ∙ is));
}

pub returns-in-Ok-false-clause-told : goal.returns-in-Ok-false-clause-told
returns-in-Ok-false-clause-told g c = λ p is.
    walk-counted p c.args.name c.args.page c.in-Ok.root c.walking.walk c.turn.new.walk c.in-Ok-false.field-0 c.finish.result c.in-Ok-false.field-0-test
    (c.in-Ok.ensures.told p is) (c.walking.invariant.ends p is) (c.in-Ok-false.ensures.told p (c.walking.invariant.same ∙ is)) c.finish.ensures.value

pub returns-in-Err-turn-clause-told : goal.returns-in-Err-turn-clause-told
returns-in-Err-turn-clause-told g c = λ p is.
    walk-fault p c.args.name c.args.page c.in-Ok.root c.walking.walk c.turn.new.walk c.in-Err-turn.fault (c.in-Ok.ensures.told p is)
    (c.walking.invariant.ends p is) (c.in-Err-turn.ensures.told p (c.walking.invariant.same ∙ is))
