use Rattle.dds_law_leaf.proofs.Ever.{leaves-are-one}
use Rattle.dds_law_leaf.proofs.laws.leaves_are_one.Goals as goal

pub returns : goal.returns
returns c = leaves-are-one
