use Rattle.dds_law_config.proofs.Values.{always-copy}
use Rattle.dds_law_config.proofs.laws.joins_always_copy.Goals as goal

pub returns : goal.returns
returns c = always-copy
