use Rattle.dds_resolve.proofs.ReadyKeeps.{resolvings-are-ready}
use Rattle.dds_resolve.proofs.laws.resolvings_are_ready.Goals as goal

pub returns : goal.returns
returns c = resolvings-are-ready
