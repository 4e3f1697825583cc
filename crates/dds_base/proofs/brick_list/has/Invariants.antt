use Rattle.std.proofs.Common.{◌≡◌, drop}
use Rattle.dds_base.specs.BrickList.{has}
use Rattle.dds_base.proofs.brick_list.has.Given as goal

abbrev pub invariant-loop-number : goal.invariant-loop-number
invariant-loop-number l = has l.numbers l.wanted ≡ has (drop l.number-index l.numbers) l.wanted
