use Rattle.std.proofs.Common.{◌≡◌, ◌∙◌, sym}
use Rattle.dds_core.proofs.Going.{goes-helped}
use Rattle.dds_core.proofs.notice.pending_goes.Goals as goal

pub returns-clause-out : goal.returns-clause-out
returns-clause-out c =
    goes-helped c.helped_by.result c.args.state.now c.args.node c.args.txn c.args.list.now c.as_slice.result.now
    (sym c.is_stuck.ensures ∙ c.if-not-is_stuck.false) (c.as_slice.ensures ∙ c.in_ok-live.ensures) c.helped_by.ensures.out
