use Rattle.std.proofs.Common.{◌≡◌, ◌+◌, ◌<◌, ◌^◌, length}
use Rattle.std.specs.Prelude.{count_by}
use Rattle.dds_base.specs.Name.{covers}
use Rattle.dds_history.proofs.table.Table.count_under.Given as goal

abbrev pub invariant-loop-key : goal.invariant-loop-key
invariant-loop-key l =
    (l.count + count_by (λ key. covers l.name key) l.key-iterator ≡ count_by (λ key. covers l.name key) l.initial.key-iterator)
    × (l.count + length l.key-iterator < 2 ^ 63)
