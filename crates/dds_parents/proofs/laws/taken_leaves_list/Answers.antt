use Rattle.dds_parents.proofs.Taken.{taken-list}
use Rattle.dds_parents.proofs.laws.taken_leaves_list.Goals as goal

pub returns : goal.returns
returns c = taken-list
