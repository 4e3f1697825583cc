use Rattle.dds_order_runs.proofs.Members.{joiners-unlisted}
use Rattle.dds_order_runs.proofs.laws.joiners_stay_unlisted.Goals as goal

pub returns : goal.returns
returns c = joiners-unlisted
