use Rattle.dds_law_config.proofs.Values.{stay-frozen}
use Rattle.dds_law_config.proofs.laws.bound_joins_stay_frozen.Goals as goal

pub returns : goal.returns
returns c = stay-frozen
