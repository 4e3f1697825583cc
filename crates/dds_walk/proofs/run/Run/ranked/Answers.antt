use Rattle.std.proofs.Common.{◌∙◌, Some, ap}
use Rattle.dds_agenda.specs.Agenda.{AreSame}
use Rattle.dds_walk.proofs.Kept.{unless-failed}
use Rattle.dds_walk.proofs.Rank.{ranked-entry, step_for}
use Rattle.dds_walk.specs.Agenda.{entries, event_of}
use Rattle.dds_walk.specs.Picking.{events, ranked}
use Rattle.dds_walk.specs.declared.picking.Event.{Event}
use Rattle.dds_cluster.specs.declared.trace.Trace.{Trace}
use Rattle.dds_walk.proofs.run.Run.ranked.Goals as goal

pub returns-in_ok-event_of-in-Some : goal.returns-in_ok-event_of-in-Some
returns-in_ok-event_of-in-Some c =
    let run = c.self.inside in
    let same = unless-failed run.failed (AreSame (entries run.trace.world) run.agenda) c.if-self.false c.self.invariant in
    ap (λ (e : Event). Some e.step) c.in_ok-event_of-in-Some.ensures
    ∙ ap (λ b. Some (event_of b c.in-Some.entry).step) c.bricks.ensures
    ∙ ap (step_for _) c.in-Some.ensures.entry
    ∙ ranked-entry run.trace.world run.agenda c.args.rank same c.ranked.ensures.order
    ∙ ap (λ (t : Trace). ranked (events t.world) c.args.rank) c.self.view_is

pub returns-in-None : goal.returns-in-None
returns-in-None c =
    let run = c.self.inside in
    let same = unless-failed run.failed (AreSame (entries run.trace.world) run.agenda) c.if-self.false c.self.invariant in
    ap (step_for _) c.in-None.ensures.entry
    ∙ ranked-entry run.trace.world run.agenda c.args.rank same c.ranked.ensures.order
    ∙ ap (λ (t : Trace). ranked (events t.world) c.args.rank) c.self.view_is
