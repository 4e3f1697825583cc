use Rattle.std.proofs.Common.{arith, inl, inr}
use Rattle.dds_script.proofs.WordFacts.{no-within}
use Rattle.dds_script.proofs.numeral.read_count.Goals as goal
use Rattle.dds_script.proofs.numeral.read_count.Goals.{else-n-ge1-via-then-n-ge1+else-n-from, else-n-ge1-via-else-n-ge1}

pub returns-else-n-ge1 : goal.returns-else-n-ge1
returns-else-n-ge1 c = elim c.else-n-ge1.branch [
  | else-n-ge1-via-then-n-ge1+else-n-from w ↦ no-within _ c.in-Some.n 1 _ c.in-Some.ensures (inr (omega (arith, w.if-n-from))) (omega arith)
  | else-n-ge1-via-else-n-ge1 w ↦ no-within _ c.in-Some.n 1 _ c.in-Some.ensures (inl (omega (arith, w.if-n-ge1))) (omega arith)
]
