use Rattle.dds_law_commit.proofs.Calls.{calls-are-kept}
use Rattle.dds_law_commit.proofs.laws.calls_are_kept.Goals as goal

pub returns : goal.returns
returns c = calls-are-kept
