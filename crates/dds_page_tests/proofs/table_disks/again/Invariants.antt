use Rattle.std.proofs.Common.{◌≡◌, false}
use Rattle.dds_page_tests.proofs.table_disks.again.Given as goal

abbrev pub invariant-loop-turn : goal.invariant-loop-turn
invariant-loop-turn g l = l.store.failed ≡ false
