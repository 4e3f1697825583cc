use Rattle.std.proofs.Common.{sym, ap, ◌∙◌, None, arith}
use Rattle.std.proofs.lemmas.Result.{err_from_is_err_and}
use Rattle.std.proofs.lemmas.List.{length-append}
use Rattle.dds_base.specs.Place.{last_key}
use Rattle.dds_frames.proofs.Loops.{last-push, pairs-more, pairs-fail, pairs-done}
use Rattle.dds_frames.proofs.fields.Fields.pairs_from.Goals as goal

pub returns-in_err-pair : goal.returns-in_err-pair
returns-in_err-pair c =
    let p = err_from_is_err_and c.from_residual.result c.from_residual.ensures.1 in
    rw (p.1, p.2) (pairs-fail _ _ _ _ _ _ c.loop-pair-test.true (rw (← c.loop-pair.invariant.last) c.in_err-pair.ensures.value) c.loop-pair.invariant.rest)

pub loop-pair-preserved : goal.loop-pair-preserved
loop-pair-preserved c = record {
  count = rw c.in_ok-push.ensures.ok (simp length-append (omega (arith, c.loop-pair.invariant.count)));
  last = sym (ap (last_key None) c.in_ok-push.ensures.ok ∙ last-push None c.loop-pair.pairs c.in_ok-pair.pair);
  rest = rw c.in_ok-push.ensures.ok (pairs-more _ _ _ _ _ _ _ c.loop-pair-test.true (rw (← c.loop-pair.invariant.last) c.in_ok-pair.ensures.value)
      c.loop-pair.invariant.rest);
}

pub returns : goal.returns
returns c = pairs-done _ _ _ _ _ c.loop-pair-test.false c.loop-pair.invariant.rest
