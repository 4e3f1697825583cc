use Rattle.std.proofs.Common.{arith}
use Rattle.dds_script.proofs.WordFacts.{parts-name, no-parts}
use Rattle.dds_script.proofs.node_words.read_parts.Goals as goal

pub returns-then-bits-lt65536 : goal.returns-then-bits-lt65536
returns-then-bits-lt65536 c = parts-name _ _ c.in-Some-Some.bits c.in-Some-Some.depth _ c.in-Some-Some.ensures c.in-Some-Some.ensures' c.of.ensures

pub returns-else-bits-lt65536 : goal.returns-else-bits-lt65536
returns-else-bits-lt65536 c = no-parts _ _ c.in-Some-Some.bits c.in-Some-Some.ensures (omega arith)
