use Rattle.std.proofs.Common.{◌≡◌, drop}
use Rattle.dds_walk.specs.Walk.{lines_done}
use Rattle.dds_walk.proofs.lines.lines_done.Given as goal

abbrev pub invariant-loop-line : goal.invariant-loop-line
invariant-loop-line l = lines_done l.limit l.walk (drop l.line-index l.lines) ≡ lines_done l.limit l.fn.walk l.lines
