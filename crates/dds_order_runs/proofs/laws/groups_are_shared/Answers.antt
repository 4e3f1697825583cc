use Rattle.dds_order_runs.proofs.Group.{groups-are-shared}
use Rattle.dds_order_runs.proofs.laws.groups_are_shared.Goals as goal

pub returns : goal.returns
returns c = groups-are-shared
