use Rattle.dds_orders.proofs.Stood.{leases-stand}
use Rattle.dds_orders.proofs.laws.leases_stand.Goals as goal

pub returns : goal.returns
returns c = leases-stand
