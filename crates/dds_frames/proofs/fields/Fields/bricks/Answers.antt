use Rattle.std.proofs.Common.{arith}
use Rattle.std.proofs.lemmas.Result.{err_from_is_err_and}
use Rattle.std.proofs.lemmas.List.{length-append}
use Rattle.dds_frames.proofs.Loops.{bricks-more, bricks-fail, bricks-done}
use Rattle.dds_frames.proofs.fields.Fields.bricks.Goals as goal

pub returns-in_err-brick-clause-value : goal.returns-in_err-brick-clause-value
returns-in_err-brick-clause-value c =
    let p = err_from_is_err_and c.from_residual.result c.from_residual.ensures.1 in
    rw (p.1, p.2) (bricks-fail _ _ _ _ _ _ c.loop-brick-test.true c.in_err-brick.ensures.value c.loop-brick.invariant.rest)

pub loop-brick-preserved : goal.loop-brick-preserved
loop-brick-preserved c = record {
  count = rw c.push.ensures (simp length-append (omega (arith, c.loop-brick.invariant.count)));
  rest = rw c.push.ensures (bricks-more _ _ _ _ _ _ _ c.loop-brick-test.true c.in_ok-brick.ensures.value c.loop-brick.invariant.rest);
}

pub returns-clause-value : goal.returns-clause-value
returns-clause-value c = bricks-done _ _ _ _ _ c.loop-brick-test.false c.loop-brick.invariant.rest
