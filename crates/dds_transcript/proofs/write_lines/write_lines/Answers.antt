use Rattle.std.proofs.Common.{[], arith, sym, ◌∙◌, append-nil}
use Rattle.dds_transcript.proofs.Writing.{writing-more, writing-part, writing-end, report-drop, report-end}
use Rattle.dds_transcript.proofs.write_lines.write_lines.Goals as goal

pub returns-in-Err-write_full-clause-part : goal.returns-in-Err-write_full-clause-part
returns-in-Err-write_full-clause-part g c =
    let d = report-drop c.args.lines.now c.loop-line.line-index c.line-item.result (omega arith) c.line-item.is in
    writing-part _ _ _ _ _ _ _ _ _ c.loop-line.invariant.writing d c.in-Ok.ensures c.in-Err-write_full.ensures.part

pub loop-line-preserved : goal.loop-line-preserved
loop-line-preserved g c =
    let d = report-drop c.args.lines.now c.loop-line.line-index c.line-item.result (omega arith) c.line-item.is in
    record {
      writing = writing-more _ _ _ _ _ _ _ _ _ _ c.loop-line.invariant.writing d c.in-Ok.ensures c.in-Ok-write_full.ensures.moved;
      never_falls = omega (arith, c.loop-line.invariant.never_falls, c.in-Ok-write_full.ensures.never_falls);
    }

pub returns-in-Ok-write_all-clause-whole : goal.returns-in-Ok-write_all-clause-whole
returns-in-Ok-write_all-clause-whole g c =
    writing-end _ _ _ _ _ _ _ c.loop-line.invariant.writing (report-end c.args.lines.now c.loop-line.line-index (omega arith)) c.as_slice.ensures.value
    c.in-Ok-write_all.ensures.whole

pub returns-clause-part : goal.returns-clause-part
returns-clause-part g c =
    let none = report-end c.args.lines.now c.loop-line.line-index (omega arith) in
    writing-part _ _ _ _ [] [] _ _ _ c.loop-line.invariant.writing none (c.as_slice.ensures.value ∙ sym (append-nil _)) c.in-Err-write_all.ensures.part
