use Rattle.std.proofs.Common.{◌≡◌, ◌++◌}
use Rattle.dds_history.specs.Map.{pairs_of}
use Rattle.dds_history.proofs.table.Table.pairs.Given as goal

abbrev pub invariant-loop-key : goal.invariant-loop-key
invariant-loop-key l = l.pairs ++ pairs_of l.key-iterator ≡ pairs_of l.initial.key-iterator
