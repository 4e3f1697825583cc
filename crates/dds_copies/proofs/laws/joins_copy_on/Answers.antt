use Rattle.dds_copies.proofs.Stops.{copies-on}
use Rattle.dds_copies.proofs.laws.joins_copy_on.Goals as goal

pub returns : goal.returns
returns c = copies-on
