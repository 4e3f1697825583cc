use Rattle.dds_chains.proofs.Parts.{next-none, next-more, next-all}
use Rattle.dds_chains.proofs.part.least.Goals as goal

pub slots-init : goal.slots-init
slots-init c = next-none c.args.after

pub slots-preserved : goal.slots-preserved
slots-preserved c = next-more c.args.slots.now c.slots.slot-index c.slot-item.result c.args.after c.slots.best c.earlier-best.result c.slots.invariant
    c.slots-test.true c.slot-item.is c.earlier-best.ensures

pub returns : goal.returns
returns c = next-all c.args.slots.now c.slots.slot-index c.args.after c.slots.best c.slots.invariant c.slots-test.false
