use Rattle.dds_law_config.proofs.Values.{values-kept}
use Rattle.dds_law_config.proofs.laws.values_are_kept.Goals as goal

pub returns : goal.returns
returns c = values-kept
