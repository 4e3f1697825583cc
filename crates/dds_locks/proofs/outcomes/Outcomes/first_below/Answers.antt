use Rattle.std.proofs.Common.{ap}
use Rattle.std.specs.BTreeMap.Range.{IsEntryInRange}
use Rattle.std.specs.declared.ops.Bound.TheVariants.{Included, Excluded}
use Rattle.dds_base.specs.Number.{Txn}
use Rattle.dds_locks.specs.Outcomes.{txn_cmp}
use Rattle.dds_locks.proofs.Trims.{bound-seen, of-first, none-seen, none-of-brick}
use Rattle.dds_locks.proofs.outcomes.Outcomes.first_below.Goals as goal

pub returns-in-Some-clause-noted : goal.returns-in-Some-clause-noted
returns-in-Some-clause-noted c =
    let m = c.self.inside.noted in
    let e = of-first (IsEntryInRange txn_cmp (Included c.new.result) (Excluded c.new-2.result) m) c.range-found.result c.next.new.self
    (c.in-Some.txn.now, c.in-Some.field-0-1.now) c.in-Some.ensures.steps (c.range-found.ensures.in_range tt).1 in
    rw (← c.self.view_is) (bound-seen m c.in-Some.txn.now c.in-Some.field-0-1.now e.1)

pub returns-in-None-clause-none : goal.returns-in-None-clause-none
returns-in-None-clause-none c =
    let m = c.self.inside.noted in
    let empty = (c.range-found.ensures.in_range tt).5 c.in-None.ensures.steps.0 in
    rw (← c.self.view_is) (none-seen m c.new.result c.new-2.result c.args.library c.args.below (ap (λ (t : Txn). t.library) c.new.ensures)
    (ap (λ (t : Txn). t.number) c.new.ensures) (ap (λ (t : Txn). t.library) c.new-2.ensures) (ap (λ (t : Txn). t.number) c.new-2.ensures) empty)

pub returns-then-is_brick-clause-none : goal.returns-then-is_brick-clause-none
returns-then-is_brick-clause-none c =
    rw (← c.self.view_is) (none-of-brick c.self.inside.noted c.args.library c.args.below c.self.invariant (c.is_brick.ensures.0 c.if-is_brick.true))
