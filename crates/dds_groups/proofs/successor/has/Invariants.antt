use Rattle.std.proofs.Common.{◌≡◌, drop}
use Rattle.dds_base.specs.BrickList.{has}
use Rattle.dds_groups.proofs.successor.has.Given as goal

abbrev pub invariant-loop-place : goal.invariant-loop-place
invariant-loop-place l = has l.list l.node ≡ has (drop l.place l.list) l.node
