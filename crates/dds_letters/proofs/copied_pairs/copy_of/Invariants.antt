use Rattle.std.proofs.Common.{◌≡◌, take}
use Rattle.dds_letters.proofs.copied_pairs.copy_of.Given as goal

abbrev pub invariant-loop-place : goal.invariant-loop-place
invariant-loop-place l = l.copied ≡ take l.place l.pairs
