use Rattle.dds_parents.proofs.MembersStay.{served-list}
use Rattle.dds_parents.proofs.laws.served_leaves_list.Goals as goal

pub returns : goal.returns
returns c = served-list
