use Rattle.dds_calls.proofs.Answering.{answers-are-caused}
use Rattle.dds_calls.proofs.laws.answers_are_caused.Goals as goal

pub returns : goal.returns
returns c = answers-are-caused
