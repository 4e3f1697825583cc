use Rattle.dds_pending.proofs.SentPrepares.{prepares-list}
use Rattle.dds_pending.proofs.laws.prepares_list_the_live.Goals as goal

pub returns : goal.returns
returns c = prepares-list
