use Rattle.dds_listed.proofs.Worlds.{joins-unlisted}
use Rattle.dds_listed.proofs.laws.joins_are_unlisted.Goals as goal

pub returns : goal.returns
returns c = joins-unlisted
