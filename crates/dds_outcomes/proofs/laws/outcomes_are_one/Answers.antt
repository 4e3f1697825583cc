use Rattle.dds_outcomes.proofs.Entries.{pending-kept}
use Rattle.dds_outcomes.proofs.Runs.{outcomes-are-one}
use Rattle.dds_outcomes.proofs.laws.outcomes_are_one.Goals as goal

-- with it is checked that what is pending is what its attempt asked
pub returns : goal.returns
returns c = let entries = pending-kept in outcomes-are-one
