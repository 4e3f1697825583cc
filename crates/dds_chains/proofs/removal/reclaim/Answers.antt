use Rattle.std.proofs.Common.{arith}
use Rattle.dds_chains.proofs.Adding.{then-ok}
use Rattle.dds_chains.proofs.Releasing.{popped}
use Rattle.dds_chains.proofs.removal.reclaim.Goals as goal

pub returns-in-Some-clause-number : goal.returns-in-Some-clause-number
returns-in-Some-clause-number g c = then-ok c.release_table.result c.release_table.ensures.number
    (λ h n. let p = popped n c.args.dropped.now.items c.pop.new.self.items c.pop.result c.in-Some.table c.pop.ensures.items c.in-Some.is
    in omega (arith, p, h n))
