use Rattle.std.proofs.Common.{◌≡◌, drop}
use Rattle.dds_base.specs.BrickList.{has}
use Rattle.dds_brick_rows.specs.Resolution.{before}
use Rattle.dds_core.proofs.notice.is_before.Given as goal

abbrev pub invariant-loop-member : goal.invariant-loop-member
invariant-loop-member l = has (before l.list l.other) l.node ≡ has (before (drop l.member-index l.list) l.other) l.node
