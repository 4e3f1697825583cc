use Rattle.std.proofs.Common.{◌≡◌}
use Rattle.std.specs.Vec.Iter.{into_iter_items}
use Rattle.dds_states.specs.Turn.{both}
use Rattle.dds_core.specs.Notice.{asked_all_again}
use Rattle.dds_core.proofs.notice.asked_all_again.Given as goal

abbrev pub invariant-loop-letter : goal.invariant-loop-letter
invariant-loop-letter l =
    ((asked_all_again l.state (into_iter_items l.letter-iterator)).state ≡ (asked_all_again l.initial.state (into_iter_items l.initial.letter-iterator)).state)
    ×
    (both l.turn (asked_all_again l.state (into_iter_items l.letter-iterator)).out
    ≡ (asked_all_again l.initial.state (into_iter_items l.initial.letter-iterator)).out)
