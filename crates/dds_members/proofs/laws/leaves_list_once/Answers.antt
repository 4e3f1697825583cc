use Rattle.dds_members.proofs.Leaves.{leaves-list}
use Rattle.dds_members.proofs.laws.leaves_list_once.Goals as goal

pub returns : goal.returns
returns c = leaves-list
