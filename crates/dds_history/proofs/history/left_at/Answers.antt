use Rattle.std.proofs.Common.{sym, ap, ◌∙◌, take}
use Rattle.std.specs.Ordering.{nat_cmp}
use Rattle.std.specs.FinMap.{get-empty}
use Rattle.dds_history.specs.Map.{bound_by}
use Rattle.dds_history.specs.History.{replay}
use Rattle.dds_history.proofs.Bindings.{get-after}
use Rattle.dds_history.proofs.Histories.{replay-more}
use Rattle.dds_history.proofs.history.left_at.Goals as goal

pub loop-entry-init : goal.loop-entry-init
loop-entry-init c = sym (get-empty nat_cmp c.args.key)

pub loop-entry-preserved : goal.loop-entry-preserved
loop-entry-preserved c =
    let e = c.entry-item.result in
    rw (replay-more c.args.entries.now c.loop-entry.entry-index e c.loop-entry-test.true c.entry-item.is)
    (c.left_by-bound.ensures ∙ ap (λ b. bound_by b e.op c.args.key) c.loop-entry.invariant
    ∙ sym (get-after (replay (take c.loop-entry.entry-index c.args.entries.now)) e.op c.args.key))
