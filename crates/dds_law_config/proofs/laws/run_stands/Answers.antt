use Rattle.dds_law_config.proofs.Runs.{all-stand}
use Rattle.dds_law_config.proofs.laws.run_stands.Goals as goal

pub returns : goal.returns
returns c = all-stand
