use Rattle.dds_order_runs.proofs.Runs.{granted-hold}
use Rattle.dds_order_runs.proofs.laws.granted_members_hold.Goals as goal

pub returns : goal.returns
returns c = granted-hold
