use Rattle.dds_law_config.proofs.Runs.{fixed-stand}
use Rattle.dds_law_config.proofs.laws.fixed_stands.Goals as goal

pub returns : goal.returns
returns c = fixed-stand
