use Rattle.dds_law_config.proofs.Lost.{none-lost}
use Rattle.dds_law_config.proofs.laws.kept_members_lose_nothing.Goals as goal

pub returns : goal.returns
returns c = none-lost
