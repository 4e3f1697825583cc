use Rattle.dds_once.proofs.Never.{refused-updates-stand-never}
use Rattle.dds_once.proofs.laws.refused_updates_stand_never.Goals as goal

pub returns : goal.returns
returns c = refused-updates-stand-never
