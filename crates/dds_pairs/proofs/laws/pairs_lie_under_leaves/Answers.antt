use Rattle.dds_pairs.proofs.LieKeeps.{pairs-lie}
use Rattle.dds_pairs.proofs.laws.pairs_lie_under_leaves.Goals as goal

pub returns : goal.returns
returns c = pairs-lie
