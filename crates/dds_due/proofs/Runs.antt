use Rattle.std.proofs.Common.{◌≡◌, []}
use Rattle.dds_base.specs.declared.number.NodeNo.{NodeNo}
use Rattle.dds_cluster.specs.Trace.{run_of}
use Rattle.dds_commit.proofs.Runs.{parts-hold}
use Rattle.dds_core.proofs.Lists.{all-map}
use Rattle.dds_net.proofs.Nodes.{brick-node, library-node}
use Rattle.dds_net.proofs.Quiet.{quiet-net}
use Rattle.dds_net.specs.Net.{net, sizes_of}
use Rattle.dds_states.specs.declared.library_state.LibraryState.{LibraryState}
use Rattle.dds_world.specs.Quiet.{AnsweredIfLive, IsLiveLibrary}
use Rattle.dds_due.proofs.Along.{grounds, net-due, run-due}
use Rattle.dds_due.proofs.Held.{IsOf, all-of-stopped, of-stopped}
use Rattle.dds_due.proofs.Listed.{run-going}
use Rattle.dds_due.proofs.Quiet.{answered-then, library-idle}
use Rattle.dds_due.specs.Due.{AreDue}
use Rattle.dds_due.specs.Law.{CallsAreDue, OpenCallsAreListed, QuietCallsAreAnswered, QuietLibrariesHoldNothing}
use Rattle.dds_due.specs.Opened.{IsAnsweredOrOpen}
use Rattle.dds_due.specs.Quiet.{IsOfStopped}

-- What holds of each run.

pub open-calls-are-listed : OpenCallsAreListed
open-calls-are-listed o journal h run = (run-going o journal h run).opened

pub calls-are-due : CallsAreDue
calls-are-due o journal h run =
    let all = parts-hold o journal h run in
    net-due (sizes_of o) (net (sizes_of o) (run_of o journal).world) all.books (grounds o journal h all) all.holds.commit all.holds.placed
    (run-due o journal h run)

pub quiet-calls-are-answered : QuietCallsAreAnswered
quiet-calls-are-answered o journal h run quiet =
    let z = sizes_of o in
    let t = run_of o journal in
    let n = net z t.world in
    let all = parts-hold o journal h run in
    let due : AreDue n = calls-are-due o journal h run in
    let opened = open-calls-are-listed o journal h run in
    let idle : (node : NodeNo) (s : LibraryState) → IsLiveLibrary t.world node s → s.calls ≡ [] = (λ node s l.
    library-idle z n node s (grounds o journal h all) all.holds.placed due (quiet-net z t.world quiet) (library-node t.world node s l.there) l.live) in
    record {
      libraries = idle;
      calls = all-map (IsAnsweredOrOpen t.callers t.told) (AnsweredIfLive t) t.asked (λ a k. answered-then z t a opened idle k) opened.asked;
    }

pub quiet-libraries-hold-nothing : QuietLibrariesHoldNothing
quiet-libraries-hold-nothing o journal h run quiet node s lives =
    let z = sizes_of o in
    let w = (run_of o journal).world in
    let n = net z w in
    let all = parts-hold o journal h run in
    let due : AreDue n = calls-are-due o journal h run in
    all-map (IsOf z n s) (IsOfStopped w s) s.locks.pending (of-stopped z w s)
    (all-of-stopped z n all.books node s (grounds o journal h all) all.holds.commit all.holds.placed due (quiet-net z w quiet)
    (brick-node w node s lives.there) lives.live)
