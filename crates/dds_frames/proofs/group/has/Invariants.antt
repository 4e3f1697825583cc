use Rattle.std.proofs.Common.{◌≡◌, drop}
use Rattle.dds_base.specs.BrickList.{has}
use Rattle.dds_frames.proofs.group.has.Given as goal

abbrev pub invariant-loop-place : goal.invariant-loop-place
invariant-loop-place l = has (drop l.place l.bricks) l.number ≡ has l.bricks l.number
