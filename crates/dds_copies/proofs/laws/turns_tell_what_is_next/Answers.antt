use Rattle.dds_copies.proofs.Tells.{turns-tell}
use Rattle.dds_copies.proofs.laws.turns_tell_what_is_next.Goals as goal

pub returns : goal.returns
returns c = turns-tell
