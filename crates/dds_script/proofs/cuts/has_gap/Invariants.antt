use Rattle.std.proofs.Common.{◌≡◌, drop}
use Rattle.dds_script.specs.Words.{gap_behind, has_gap}
use Rattle.dds_script.proofs.cuts.has_gap.Given as goal

abbrev pub invariant-loop-byte : goal.invariant-loop-byte
invariant-loop-byte l = gap_behind l.space (drop l.byte-index l.text) ≡ has_gap l.text
