use Rattle.std.proofs.Common.{ap, ◌∙◌}
use Rattle.dds_history.specs.Map.{after}
use Rattle.dds_history.proofs.Histories.{replay-more}
use Rattle.dds_history.proofs.history.replay.Goals as goal

pub loop-entry-preserved : goal.loop-entry-preserved
loop-entry-preserved c =
    let e = c.entry-item.result in
    rw (replay-more c.args.entries.now c.loop-entry.entry-index e c.loop-entry-test.true c.entry-item.is)
    (c.in_ok-apply.ensures.ok ∙ ap (λ t. after t e.op) c.loop-entry.invariant)
