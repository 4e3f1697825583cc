use Rattle.dds_copies.proofs.Runs.{joins-copy}
use Rattle.dds_copies.proofs.laws.joins_copy_the_table.Goals as goal

pub returns : goal.returns
returns c = joins-copy
