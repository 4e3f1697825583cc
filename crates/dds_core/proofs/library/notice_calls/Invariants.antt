use Rattle.std.proofs.Common.{◌≡◌}
use Rattle.std.specs.Vec.Iter.{into_iter_items}
use Rattle.dds_states.specs.Turn.{both}
use Rattle.dds_core.specs.LibraryTurn.{notice_calls}
use Rattle.dds_core.proofs.library.notice_calls.Given as goal

abbrev pub invariant-loop-txn : goal.invariant-loop-txn
invariant-loop-txn l =
    ((notice_calls l.state l.node (into_iter_items l.txn-iterator)).state
    ≡ (notice_calls l.initial.state l.node (into_iter_items l.initial.txn-iterator)).state) ×
    (both l.turn (notice_calls l.state l.node (into_iter_items l.txn-iterator)).out
    ≡ (notice_calls l.initial.state l.node (into_iter_items l.initial.txn-iterator)).out)
