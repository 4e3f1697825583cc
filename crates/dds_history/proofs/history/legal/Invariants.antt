use Rattle.std.proofs.Common.{take}
use Rattle.dds_history.specs.History.{IsLegal}
use Rattle.dds_history.proofs.history.legal.Given as goal

abbrev pub invariant-loop-place : goal.invariant-loop-place
invariant-loop-place l = IsLegal (take l.place l.entries)
