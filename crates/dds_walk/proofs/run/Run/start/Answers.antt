use Rattle.std.proofs.Common.{◌∙◌, ap, sym}
use Rattle.std.specs.List.{sum_by}
use Rattle.dds_walk.proofs.Entries.{entries-none}
use Rattle.dds_walk.specs.Agenda.{entries}
use Rattle.dds_cluster.specs.declared.trace.Trace.{Trace}
use Rattle.dds_walk.proofs.run.Run.start.Goals as goal

pub invariant_of-result : goal.invariant_of-result
invariant_of-result c = λ f.
    ap (sum_by f) (ap (λ (t : Trace). entries t.world) c.in_ok-start.ensures ∙ entries-none c.args.opening.now ∙ sym c.new.ensures)
