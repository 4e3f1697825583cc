use Rattle.std.proofs.Common.{◌≡◌, option_copied, take}
use Rattle.std.specs.FinMap as map
use Rattle.dds_history.specs.History.{replay}
use Rattle.dds_history.proofs.history.left_at.Given as goal

abbrev pub invariant-loop-entry : goal.invariant-loop-entry
invariant-loop-entry l = option_copied l.bound ≡ map.get (replay (take l.entry-index l.entries)) l.key
