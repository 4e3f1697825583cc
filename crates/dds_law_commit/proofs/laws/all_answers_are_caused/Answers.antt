use Rattle.dds_law_commit.proofs.Causes.{all-are-caused}
use Rattle.dds_law_commit.proofs.laws.all_answers_are_caused.Goals as goal

pub returns : goal.returns
returns c = all-are-caused
