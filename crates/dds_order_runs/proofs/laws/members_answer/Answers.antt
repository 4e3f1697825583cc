use Rattle.dds_order_runs.proofs.Members.{members-answer}
use Rattle.dds_order_runs.proofs.laws.members_answer.Goals as goal

pub returns : goal.returns
returns c = members-answer
