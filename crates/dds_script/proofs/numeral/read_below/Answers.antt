use Rattle.std.proofs.Common.{arith}
use Rattle.dds_script.proofs.WordFacts.{no-below}
use Rattle.dds_script.proofs.numeral.read_below.Goals as goal

pub returns-else-n-from : goal.returns-else-n-from
returns-else-n-from c = no-below _ c.in-Some.n _ c.in-Some.ensures (omega arith) (omega arith)
