use Rattle.std.proofs.Common.{◌≡◌}
use Rattle.std.specs.Vec.Iter.{into_iter_items}
use Rattle.dds_states.specs.Turn.{both}
use Rattle.dds_brick_rows.specs.Resolution.{resolvings_go}
use Rattle.dds_brick_rows.proofs.resolution.resolvings_go.Given as goal

abbrev pub invariant-loop-resolving : goal.invariant-loop-resolving
invariant-loop-resolving l =
    ((resolvings_go l.state l.from l.news (into_iter_items l.resolving-iterator)).state
    ≡ (resolvings_go l.initial.state l.from l.news (into_iter_items l.initial.resolving-iterator)).state) ×
    (both l.turn (resolvings_go l.state l.from l.news (into_iter_items l.resolving-iterator)).out
    ≡ (resolvings_go l.initial.state l.from l.news (into_iter_items l.initial.resolving-iterator)).out)
