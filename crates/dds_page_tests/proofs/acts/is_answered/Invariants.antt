use Rattle.std.proofs.Common.{◌≡◌, false}
use Rattle.dds_page_tests.proofs.acts.is_answered.Given as goal

abbrev pub invariant-loop-key : goal.invariant-loop-key
invariant-loop-key g l = l.store.failed ≡ false
