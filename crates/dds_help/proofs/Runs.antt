use Rattle.std.proofs.Common.{◌≡◌, ℕ, true, None, Some, List, sym, ◌∙◌}
use Rattle.dds_base.specs.Number.{Txn}
use Rattle.dds_base.specs.declared.pending.Pending.{Pending}
use Rattle.dds_books.specs.Books.{Book, booked}
use Rattle.dds_cluster.proofs.Sizes.{sized-start}
use Rattle.dds_cluster.specs.Trace.{is_run, run_of, start}
use Rattle.dds_cluster.specs.declared.step.Step.{Step}
use Rattle.dds_cluster.specs.World.{new_brick}
use Rattle.dds_commit.proofs.Knot.{All, all-kept}
use Rattle.dds_commit.proofs.Start.{start-all}
use Rattle.dds_net.proofs.Nodes.{brick-node}
use Rattle.dds_net.proofs.Opening.{IsNew, no_node, new_a_brick, new_a_library, start-node}
use Rattle.dds_net.proofs.Quiet.{quiet-net}
use Rattle.dds_net.proofs.Rungs.{Both, both_books, kept-over}
use Rattle.dds_net.proofs.Runs.{Books, Claim, Ran, net-built, run-keeps}
use Rattle.dds_net.specs.Net.{Node, nowhere, a_brick, a_library, Sizes, net, sizes_of}
use Rattle.dds_script.specs.Opening.{IsOpening, OpeningOf}
use Rattle.dds_states.specs.declared.brick_state.BrickState.{BrickState}
use Rattle.dds_states.specs.declared.library_state.LibraryState.{LibraryState}
use Rattle.dds_talk.specs.Books as talk
use Rattle.dds_help.proofs.Facts.{for-state}
use Rattle.dds_help.proofs.HelpKeeps.{helped-kept}
use Rattle.dds_help.proofs.Quiet.{Still, nothing-left}
use Rattle.dds_help.proofs.SteadyKeeps.{run-steady}
use Rattle.dds_help.specs.Helped.{AreHelped, Stranded}
use Rattle.dds_help.specs.Law.{QuietIsResolved, StoppedAreHelped}

-- Nothing is pending at the start; so each run keeps who helps, and a quiet world has nothing left.

no-library : (x : LibraryState) (y : BrickState) → a_library x ≡ a_brick y → ⊥
no-library x y e = cc

new-free : (o : OpeningOf) (k : ℕ) (x : Node) (s : BrickState) (t : Txn) (p : Pending) → IsNew o k x → x ≡ a_brick s → Stranded s t p → ⊥
new-free o k x s t p (no_node e) is h = let bad : nowhere ≡ a_brick s = sym e ∙ is in cc
new-free o k x s t p (new_a_brick e) is h =
    for-state (λ s. Stranded s t p → ⊥) (new_brick o.leaves k) s (sym e ∙ is) (λ k. let bad : None ≡ Some p = k.pending in cc) h
new-free o k x s t p (new_a_library high e) is h = no-library _ s (sym e ∙ is)

start-helped : (o : OpeningOf) → AreHelped (net (sizes_of o) (start o).world)
start-helped o =
    record {
      itself = λ m s here t p k first. absurd (new-free o m _ s t p (start-node o m) here k);
      others = λ m f s here t p k first apart. absurd (new-free o m _ s t p (start-node o m) here k);
    }

abbrev AllBooks : Books (Book × talk.Books)
AllBooks h n e b = (booked e b.0, talk.adds h n e b.1)

abbrev WithHelp : Sizes → Claim ((Book × talk.Books) × Unit {0})
WithHelp z = Both (All z) (λ h n a b. AreHelped n)

run-helped : (o : OpeningOf) (journal : List Step) → IsOpening o → is_run o journal ≡ true →
    Ran (sizes_of o) ((Book × talk.Books) × Unit {0}) (WithHelp (sizes_of o)) (run_of o journal)
run-helped o journal h run =
    let z = sizes_of o in
    run-keeps z ((Book × talk.Books) × Unit {0}) (both_books AllBooks (λ h n e a b. tt)) (WithHelp z) journal (start o) h.ranges.bricks
    (kept-over z (Book × talk.Books) AllBooks (All z) (Unit {0}) (λ h n e a b. tt) (λ h n a b. AreHelped n) (all-kept z h.ranges.bricks h.ranges.libraries)
    (helped-kept z h.ranges.bricks h.ranges.libraries))
    (record { sized = sized-start o; books = (((λ t. None), talk.no_books), tt); is = (start-all o h, start-helped o) }) run

pub stopped-are-helped : StoppedAreHelped
stopped-are-helped o journal h run = record { steady = run-steady o journal h.ranges run; helped = (run-helped o journal h run).is.1 }

pub quiet-is-resolved : QuietIsResolved
quiet-is-resolved o journal h run quiet node s live =
    let z = sizes_of o in
    let w = (run_of o journal).world in
    let r = run-helped o journal h run in
    let still : Still z (net z w) r.books.0.1 = record {
      few = h.ranges.bricks;
      built = net-built z w r.sized;
      links = r.is.0.0.0;
      placed = r.is.0.0.2;
      parts = r.is.0.2;
      steady = run-steady o journal h.ranges run;
      helped = r.is.1;
      empty = quiet-net z w quiet;
    } in
    nothing-left still node s (brick-node w node s live.there) live.live
