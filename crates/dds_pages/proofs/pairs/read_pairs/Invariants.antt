use Rattle.dds_pages.proofs.PairPages.{IsReading}
use Rattle.dds_pages.proofs.pairs.read_pairs.Given as goal

abbrev pub invariant-pairs : goal.invariant-pairs
invariant-pairs l = IsReading l.form l.page l.used l.count l.pairs l.at l._pair
