use Rattle.dds_once.proofs.Runs.{updates-stand-once}
use Rattle.dds_once.proofs.laws.updates_stand_once.Goals as goal

pub returns : goal.returns
returns c = updates-stand-once
