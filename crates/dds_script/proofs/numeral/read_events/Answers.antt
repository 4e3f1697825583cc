use Rattle.std.proofs.Common.{arith, inr}
use Rattle.dds_script.proofs.WordFacts.{no-within}
use Rattle.dds_script.proofs.numeral.read_events.Goals as goal

pub returns-else-n-le-EVENTS : goal.returns-else-n-le-EVENTS
returns-else-n-le-EVENTS c = no-within _ c.in-Some.n 0 _ c.in-Some.ensures (inr (omega arith)) (omega arith)
