use Rattle.dds_parents.proofs.Parents.{leaves-list}
use Rattle.dds_parents.proofs.laws.leaves_list_parents.Goals as goal

pub returns : goal.returns
returns c = leaves-list
