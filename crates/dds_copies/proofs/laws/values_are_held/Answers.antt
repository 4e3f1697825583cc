use Rattle.dds_copies.proofs.Runs.{values-held}
use Rattle.dds_copies.proofs.laws.values_are_held.Goals as goal

pub returns : goal.returns
returns c = values-held
