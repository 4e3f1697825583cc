use Rattle.dds_commit.proofs.Runs.{parts-hold}
use Rattle.dds_commit.proofs.laws.parts_hold.Goals as goal

pub returns : goal.returns
returns c = parts-hold
