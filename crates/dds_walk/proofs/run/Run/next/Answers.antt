use Rattle.std.proofs.Common.{ap}
use Rattle.dds_agenda.specs.Agenda.{AreSame}
use Rattle.dds_walk.proofs.Kept.{agenda-kept, unless-failed}
use Rattle.dds_walk.specs.Agenda.{entries}
use Rattle.dds_cluster.specs.declared.trace.Trace.{Trace}
use Rattle.dds_walk.proofs.run.Run.next.Goals as goal

pub invariant_of-self-2 : goal.invariant_of-self-2
invariant_of-self-2 c =
    let run = c.self.inside in
    agenda-kept run.trace c.args.step.now c.next.new.trace.world c.touched-outbox.result.0 c.touched-outbox.result.1 c.entry_at-posted.result c.entry_at.result
    c.entry_on-linked.result c.entry_on.result run.agenda c.exchange.new.self c.exchange-2.new.self
    (ap (λ (t : Trace). t.world) c.in_ok-replies.ensures.trace)
    c.touched-outbox.ensures.outbox c.touched-outbox.ensures.link c.entry_at-posted.ensures c.entry_at.ensures c.entry_on-linked.ensures c.entry_on.ensures
    (unless-failed run.failed (AreSame (entries run.trace.world) run.agenda) c.if-self.false c.self.invariant)
    c.exchange.ensures.order c.in_ok-exchange.ensures.entries c.exchange-2.ensures.order c.in_ok-exchange-2.ensures.entries
