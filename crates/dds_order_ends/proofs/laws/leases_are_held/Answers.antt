use Rattle.dds_order_ends.proofs.Runs.{leases-are-held}
use Rattle.dds_order_ends.proofs.laws.leases_are_held.Goals as goal

pub returns : goal.returns
returns c = leases-are-held
