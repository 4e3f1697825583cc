use Rattle.std.proofs.Common.{◌≡◌, false}
use Rattle.dds_page_tests.proofs.acts.run.Given as goal

abbrev pub invariant-loop-place : goal.invariant-loop-place
invariant-loop-place g l = l.store.failed ≡ false
