use Rattle.std.proofs.Common.{◌≡◌, ℕ, inl, inr, true, List, sym, subst}
use Rattle.std.specs.List.{AllByRecursion}
use Rattle.dds_base.specs.Op.{the_key}
use Rattle.dds_cluster.proofs.Sizes.{sized-start}
use Rattle.dds_cluster.specs.Trace.{is_run, start}
use Rattle.dds_cluster.specs.declared.step.Step.{Step}
use Rattle.dds_core.proofs.Lists.{all-is}
use Rattle.dds_law_leaf.proofs.Openings.{start-known}
use Rattle.dds_net.proofs.Nodes.{brick-node}
use Rattle.dds_net.proofs.Opening.{IsNew, new_a_brick, new_a_library, no_node, start-channel, start-node}
use Rattle.dds_net.proofs.Runs.{run-keeps}
use Rattle.dds_net.specs.Net.{Node, net, sizes_of}
use Rattle.dds_orders.proofs.Stood.{start-stood}
use Rattle.dds_parents.proofs.Keeps.{Gone}
use Rattle.dds_parents.proofs.Parents.{gone-not}
use Rattle.dds_script.specs.Opening.{IsOpening, OpeningOf}
use Rattle.dds_world.specs.Places.{reached}
use Rattle.dds_pending.proofs.Fits.{AreFitting, Fits, NodeFits, PrepareOk, found-at}
use Rattle.dds_pending.proofs.Keeps.{fitting-kept}
use Rattle.dds_pending.specs.Law.{PendingListsTheLive}

-- The invariant holds along each run, and what it says of a world.

-- the opening: nothing is pending, and nothing is on its way
start-fits : (gone : ℕ → Type 0) (o : OpeningOf) (k : ℕ) (x : Node) → IsNew o k x → NodeFits gone x
start-fits gone o k x (no_node e) = subst (NodeFits gone) (sym e) tt
start-fits gone o k x (new_a_brick e) = subst (NodeFits gone) (sym e) tt
start-fits gone o k x (new_a_library high e) = subst (NodeFits gone) (sym e) tt

pub start-fitting : (o : OpeningOf) → IsOpening o → AreFitting (sizes_of o) (net (sizes_of o) (start o).world)
start-fitting o h =
    let n = net (sizes_of o) (start o).world in
    let known = start-known o h in
    record {
      stood = start-stood o h;
      known = known;
      prepares = λ a b. subst (AllByRecursion (PrepareOk known.book (Gone n))) (sym (start-channel o a b)) tt;
      pending = λ k. start-fits (Gone n) o k _ (start-node o k);
    }

pub run-fitting : (o : OpeningOf) (journal : List Step) → IsOpening o → is_run o journal ≡ true
    → AreFitting (sizes_of o) (net (sizes_of o) (reached o journal))
run-fitting o journal h run =
    let z = sizes_of o in
    (run-keeps z (Unit {0}) (λ h n e u. tt) (λ h n u. AreFitting z n) journal (start o) h.ranges.bricks (fitting-kept z h.ranges.bricks h.ranges.libraries)
    (record { sized = sized-start o; books = tt; is = start-fitting o h }) run).is

pub pending-lists : PendingListsTheLive
pending-lists o journal brick s at p leaf h run is serves other t has_it live =
    let z = sizes_of o in
    let w = reached o journal in
    let gone = Gone (net z w) in
    let all : AllByRecursion (Fits gone s.leaves) s.locks.pending = subst (NodeFits gone) (brick-node w brick s serves.live.there)
    ((run-fitting o journal h run).pending brick) in
    let found = found-at s.leaves (the_key p.op) leaf serves.covers in
    elim (all-is (Fits gone s.leaves) s.locks.pending at p all is found.name leaf found.there found.covers other has_it) [
      | inl i ↦ i
      | inr stopped ↦ absurd (gone-not z w other t live stopped)
    ]
