use Rattle.std.proofs.Common.{◌≡◌, drop}
use Rattle.dds_base.specs.BrickList.{are_bricks}
use Rattle.dds_base.proofs.brick_list.are_bricks.Given as goal

abbrev pub invariant-loop-place : goal.invariant-loop-place
invariant-loop-place l = are_bricks l.numbers ≡ are_bricks (drop l.place l.numbers)
