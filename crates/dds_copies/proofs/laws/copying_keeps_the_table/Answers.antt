use Rattle.dds_copies.proofs.Steps.{copying-keeps}
use Rattle.dds_copies.proofs.laws.copying_keeps_the_table.Goals as goal

pub returns : goal.returns
returns c = copying-keeps
