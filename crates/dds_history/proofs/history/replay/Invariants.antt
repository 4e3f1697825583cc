use Rattle.std.proofs.Common.{◌≡◌, take}
use Rattle.dds_history.specs.History.{replay}
use Rattle.dds_history.proofs.history.replay.Given as goal

abbrev pub invariant-loop-entry : goal.invariant-loop-entry
invariant-loop-entry l = l.table ≡ replay (take l.entry-index l.entries)
