use Rattle.std.proofs.Common.{◌≡◌, true, false, List, [], ◌∷◌, refl}
use Rattle.std.proofs.lemmas.Bool.{both_ways}
use Rattle.std.specs.List.{AllByRecursion}
use Rattle.dds_base.specs.NodeSet.{has_node}
use Rattle.dds_base.specs.declared.number.NodeNo.{NodeNo}
use Rattle.dds_base.specs.declared.pending.Pending.{Pending}
use Rattle.dds_cluster.specs.Trace.{is_run}
use Rattle.dds_cluster.specs.World.{World}
use Rattle.dds_cluster.specs.declared.step.Step.{Step}
use Rattle.dds_due.proofs.Runs.{quiet-calls-are-answered, quiet-libraries-hold-nothing}
use Rattle.dds_due.specs.Quiet.{IsOfStopped}
use Rattle.dds_help.proofs.Runs.{quiet-is-resolved}
use Rattle.dds_order_ends.proofs.Runs.{quiet-orders-are-over}
use Rattle.dds_order_runs.proofs.Runs.{orders-always-talk}
use Rattle.dds_room.proofs.Runs.{parts-always-go-on}
use Rattle.dds_script.specs.Opening.{IsOpening, OpeningOf}
use Rattle.dds_states.specs.declared.brick_state.BrickState.{BrickState}
use Rattle.dds_world.specs.Places.{IsLive, reached}
use Rattle.dds_world.specs.Quiet.{IsIdle, Quiet, QuietAnswers}

-- In a quiet world everybody was answered who can be: what calls, resolvings and orders wait for would be on its way.

-- what is pending is of libraries that have stopped, and of none that the brick knows to have stopped: so there is none
none-pending : (w : World) (s : BrickState) (ps : List Pending) → AllByRecursion (IsOfStopped w s) ps
    → AllByRecursion (λ (p : Pending). has_node s.known p.txn.library ≡ false) ps → ps ≡ []
none-pending w s [] stopped unknown = refl
none-pending w s (p ∷ ps) stopped unknown = absurd (both_ways (has_node s.known p.txn.library) unknown.0 stopped.0.known)

quiet-brick : (o : OpeningOf) (journal : List Step) → IsOpening o → is_run o journal ≡ true → Quiet (reached o journal) → (node : NodeNo) (s : BrickState)
    → IsLive (reached o journal) node s → IsIdle s
quiet-brick o journal h run q node s live =
    let left = quiet-is-resolved o journal h run q node s live in
    let stopped = quiet-libraries-hold-nothing o journal h run q node s live in
    let parts = parts-always-go-on o journal h run (orders-always-talk o journal h run) in
    let over = quiet-orders-are-over o journal node s h run q parts live in
    record {
      pending = none-pending (reached o journal) s s.locks.pending stopped left.pending;
      leases = over.leases;
      resolving = left.resolving;
      deferred = left.deferred;
      order = over.order;
    }

pub quiet-answered : QuietAnswers
quiet-answered o journal h run q =
    let answered = quiet-calls-are-answered o journal h run q in
    record { calls = answered.calls; libraries = answered.libraries; bricks = λ node s live. quiet-brick o journal h run q node s live }
