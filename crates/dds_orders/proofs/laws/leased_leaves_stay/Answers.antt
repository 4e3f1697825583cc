use Rattle.dds_orders.proofs.Steps.{leaves-stay}
use Rattle.dds_orders.proofs.laws.leased_leaves_stay.Goals as goal

pub returns : goal.returns
returns c = leaves-stay
