use Rattle.std.proofs.Common.{◌∙◌, ap, length}
use Rattle.dds_agenda.specs.Agenda.{AreSame}
use Rattle.dds_walk.proofs.Kept.{unless-failed}
use Rattle.dds_walk.proofs.Rank.{events-count}
use Rattle.dds_walk.specs.Agenda.{entries}
use Rattle.dds_walk.specs.Picking.{events}
use Rattle.dds_cluster.specs.declared.trace.Trace.{Trace}
use Rattle.dds_walk.proofs.run.Run.events.Goals as goal

pub returns : goal.returns
returns c =
    let run = c.self.inside in
    let same = unless-failed run.failed (AreSame (entries run.trace.world) run.agenda) c.if-self.false c.self.invariant in
    c.len.ensures ∙ events-count run.trace.world run.agenda same ∙ ap (λ (t : Trace). length (events t.world)) c.self.view_is
