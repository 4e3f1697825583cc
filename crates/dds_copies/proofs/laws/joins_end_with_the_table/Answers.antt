use Rattle.dds_copies.proofs.Ends.{joins-end}
use Rattle.dds_copies.proofs.laws.joins_end_with_the_table.Goals as goal

pub returns : goal.returns
returns c = joins-end
