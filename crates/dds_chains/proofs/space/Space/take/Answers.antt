use Rattle.std.proofs.Common.{refl, arith, ◌+◌}
use Rattle.dds_chains.proofs.Uses.{take-free, take-fresh, popped-none, popped-some}
use Rattle.dds_chains.proofs.Reading.{free-below}
use Rattle.dds_chains.proofs.space.Space.take.Goals as goal

pub returns-in-Some-clause-number : goal.returns-in-Some-clause-number
returns-in-Some-clause-number g c = λ n.
    take-free n c.in-Some.page c.args.self.now.fresh c.pop.new.self.items c.args.self.now.free.items
    (popped-some c.pop.new.self.items c.args.self.now.free.items c.pop.result c.in-Some.page c.pop.ensures.items c.in-Some.is)

pub returns-clause-number : goal.returns-clause-number
returns-clause-number g c = λ n.
    take-fresh n (c.args.self.now.fresh) c.args.self.now.fresh (c.args.self.now.fresh + 1) c.args.self.now.free.items c.pop.new.self.items
    (popped-none c.pop.new.self.items c.args.self.now.free.items c.pop.result c.pop.ensures.items c.in_default.is) refl refl

pub returns-in-Some-clause-below : goal.returns-in-Some-clause-below
returns-in-Some-clause-below g c =
    free-below c.in-Some.page c.args.self.now.fresh c.pop.new.self.items c.args.self.now.free.items c.requires
    (popped-some c.pop.new.self.items c.args.self.now.free.items c.pop.result c.in-Some.page c.pop.ensures.items c.in-Some.is) (omega arith)
