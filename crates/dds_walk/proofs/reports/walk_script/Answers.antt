use Rattle.dds_walk.proofs.Once.{lines-once, run-once, steps-once, walked-once}
use Rattle.dds_cluster.specs.declared.step.TheConstants.{EVENTS}
use Rattle.dds_walk.proofs.reports.walk_script.Goals as goal

pub returns-clause-journal : goal.returns-clause-journal
returns-clause-journal c =
    let is = walked-once EVENTS c.args.script.now _ c.lines_done.new.walk _ c.in_ok-walk.ensures.walk c.lines.ensures.value c.in_ok-lines_done.ensures in
    steps-once EVENTS c.args.script.now c.lines_done.new.walk _ c.ended.result is c.ended.ensures.journal

pub returns-clause-run : goal.returns-clause-run
returns-clause-run c =
    let is = walked-once EVENTS c.args.script.now _ c.lines_done.new.walk _ c.in_ok-walk.ensures.walk c.lines.ensures.value c.in_ok-lines_done.ensures in
    run-once EVENTS c.args.script.now c.lines_done.new.walk _ c.ended.result c.in_ok-walk.ensures.kept.ranges c.lines.ensures.kept.lines is
    c.ended.ensures.journal

pub returns-clause-lines : goal.returns-clause-lines
returns-clause-lines c =
    let is = walked-once EVENTS c.args.script.now _ c.lines_done.new.walk _ c.in_ok-walk.ensures.walk c.lines.ensures.value c.in_ok-lines_done.ensures in
    lines-once EVENTS c.args.script.now c.lines_done.new.walk _ _ c.ended.result c.in_ok-walk.ensures.kept.ranges c.lines.ensures.kept.lines is
    c.ended.ensures.journal c.ended.ensures.lines
