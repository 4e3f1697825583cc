use Rattle.dds_copies.proofs.Runs.{joins-frozen}
use Rattle.dds_copies.proofs.laws.bound_joins_are_frozen.Goals as goal

pub returns : goal.returns
returns c = joins-frozen
