use Rattle.dds_copies.proofs.Turns.{turns-keep}
use Rattle.dds_copies.proofs.laws.turns_keep_what_is_copied.Goals as goal

pub returns : goal.returns
returns c = turns-keep
