use Rattle.std.proofs.Common.{length}
use Rattle.dds_script.proofs.Texts.{IsAt}
use Rattle.dds_script.proofs.read_script.read_lines.Given as goal

abbrev pub invariant-reading : goal.invariant-reading
invariant-reading l = IsAt l.bytes l.rest l.reader l.number

abbrev pub decreases-reading : goal.decreases-reading
decreases-reading l = length l.rest
