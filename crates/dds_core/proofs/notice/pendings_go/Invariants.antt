use Rattle.std.proofs.Common.{◌≡◌}
use Rattle.std.specs.Vec.Iter.{into_iter_items}
use Rattle.dds_states.specs.Turn.{both}
use Rattle.dds_core.specs.Notice.{pendings_go}
use Rattle.dds_core.proofs.notice.pendings_go.Given as goal

abbrev pub invariant-loop-txn : goal.invariant-loop-txn
invariant-loop-txn l =
    ((pendings_go l.state l.node (into_iter_items l.txn-iterator)).state ≡ (pendings_go l.initial.state l.node (into_iter_items l.initial.txn-iterator)).state)
    ×
    (both l.turn (pendings_go l.state l.node (into_iter_items l.txn-iterator)).out
    ≡ (pendings_go l.initial.state l.node (into_iter_items l.initial.txn-iterator)).out)
