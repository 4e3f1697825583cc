use Rattle.std.proofs.Common.{◌≡◌, ℕ, inl, inr, true, List, sym, ap, ◌∙◌}
use Rattle.std.proofs.lemmas.Bool.{both_ways}
use Rattle.dds_base.specs.declared.leaf.Leaf.{Leaf}
use Rattle.dds_cluster.proofs.Sizes.{sized-start}
use Rattle.dds_cluster.specs.Trace.{is_run, start}
use Rattle.dds_cluster.specs.World.{World}
use Rattle.dds_cluster.specs.declared.step.Step.{Step}
use Rattle.dds_law_notice.proofs.Views.{view}
use Rattle.dds_net.proofs.Nodes.{brick-node}
use Rattle.dds_net.proofs.Runs.{run-keeps, sized-run}
use Rattle.dds_net.specs.Net.{Sizes, net, sizes_of}
use Rattle.dds_script.specs.Opening.{IsOpening, OpeningOf}
use Rattle.dds_states.specs.declared.brick_state.BrickState.{BrickState}
use Rattle.dds_world.specs.Groups.{HasLeaf}
use Rattle.dds_world.specs.Places.{IsLive, reached}
use Rattle.dds_law_leaf.proofs.Ever.{known-leaf}
use Rattle.dds_parents.proofs.Keeps.{AreListed, Gone, listed-kept}
use Rattle.dds_parents.proofs.Lists.{next-lists}
use Rattle.dds_parents.proofs.Openings.{start-listed}
use Rattle.dds_parents.specs.Law.{LeavesListParents}

-- What leaves list holds along each run, and what it says of the leaves of a world.

pub run-listed : (o : OpeningOf) (journal : List Step) → IsOpening o → is_run o journal ≡ true → AreListed (sizes_of o) (net (sizes_of o) (reached o journal))
run-listed o journal h run =
    let z = sizes_of o in
    (run-keeps z (Unit {0}) (λ h n e u. tt) (λ h n u. AreListed z n) journal (start o) h.ranges.bricks (listed-kept z h.ranges.bricks h.ranges.libraries)
    (record { sized = sized-start o; books = tt; is = start-listed o h }) run).is

-- a live brick hasn't stopped
pub gone-not : (z : Sizes) (w : World) (brick : ℕ) (s : BrickState) → IsLive w brick s → Gone (net z w) brick → ⊥
gone-not z w brick s live gone =
    both_ways s.stopped live.live (ap (λ x. (view x).stopped) (sym (brick-node w brick s live.there)) ∙ gone)

pub leaves-list : LeavesListParents
leaves-list o journal leaf parent h run there also prev brick s has_it live =
    let z = sizes_of o in
    let w = reached o journal in
    let g = run-listed o journal h run in
    let known = (λ (l : Leaf) (t : HasLeaf w l). known-leaf z w l (sized-run o journal) g.known t) in
    elim (next-lists g.known.book (Gone (net z w)) g.lists parent leaf (known parent also) (known leaf there) prev brick has_it) [
      | inl e ↦ e
      | inr gone ↦ absurd (gone-not z w brick s live gone)
    ]
