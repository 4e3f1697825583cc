use Rattle.std.proofs.Common.{◌≡◌, ℕ, ◌-◌, true, false, List, refl, sym, ap, subst}
use Rattle.dds_books.proofs.PlacedFirst.{start-placed}
use Rattle.dds_books.proofs.Placing.{placed-kept}
use Rattle.dds_books.specs.Placed.{ArePlaced}
use Rattle.dds_cluster.proofs.Sizes.{sized-start}
use Rattle.dds_cluster.specs.Trace.{is_run, run_of, start}
use Rattle.dds_cluster.specs.World.{new_library}
use Rattle.dds_cluster.specs.declared.step.Step.{Step}
use Rattle.dds_commit.specs.Holds.{HoldsOf}
use Rattle.dds_core.proofs.Lists.{all-is}
use Rattle.dds_letters.specs.declared.letter.Letter.{Letter}
use Rattle.dds_net.proofs.Opening.{IsNew, new_a_brick, new_a_library, no_node, start-node}
use Rattle.dds_net.proofs.Puts.{Pairs}
use Rattle.dds_net.proofs.Rungs.{kept-over}
use Rattle.dds_net.proofs.Runs.{net-built, run-keeps, sized-run}
use Rattle.dds_net.specs.Net.{Net, Node, nowhere, a_brick, a_library, Sizes, net, sizes_of}
use Rattle.dds_script.specs.Opening.{IsOpening, OpeningOf}
use Rattle.dds_states.specs.declared.brick_state.BrickState.{BrickState}
use Rattle.dds_states.specs.declared.library_state.LibraryState.{LibraryState}
use Rattle.dds_states.specs.declared.library_state.OpenCall.{OpenCall}
use Rattle.dds_states.specs.declared.library_state.Phase.{Phase}
use Rattle.dds_states.specs.declared.library_state.Phase.TheVariants.{Getting, Preparing, Committing, Aborting, Asking}
use Rattle.dds_talk.proofs.Grounds.{Ground}
use Rattle.dds_talk.specs.Books.{Books}
use Rattle.dds_talk.specs.Parts.{Commit}
use Rattle.dds_talk.specs.Seen.{commits_now}
use Rattle.dds_due.proofs.CallSends.{DueTo}
use Rattle.dds_due.proofs.Pairs.{DueAt, PairDue, due-kept}
use Rattle.dds_due.proofs.Talks.{committing-due}
use Rattle.dds_due.specs.Due.{AreDue, IsDue, Waits}

-- What open calls wait for is on its way, in each world of each run.

no-calls : (o : OpeningOf) (m k : ℕ) (x y : Node) (out back : List Letter) → IsNew o k x → PairDue k m x y out back
no-calls o m k x y out back (no_node e) = subst (λ w. PairDue k m w y out back) (sym e) tt
no-calls o m k x y out back (new_a_brick e) = subst (λ w. PairDue k m w y out back) (sym e) tt
no-calls o m k x y out back (new_a_library high e) = subst (λ w. PairDue k m w y out back) (sym e) (none y)
  where
    none : (y : Node) → DueAt m (new_library o (k - 64)) out back y
    none nowhere = tt
    none (a_brick s) = λ lives live. tt
    none (a_library s) = tt

pub run-due : (o : OpeningOf) (journal : List Step) → IsOpening o → is_run o journal ≡ true → Pairs PairDue (net (sizes_of o) (run_of o journal).world)
run-due o journal h run =
    let z = sizes_of o in
    (run-keeps z (Unit {0} × Unit {0}) _ _ journal (start o) h.ranges.bricks
    (kept-over z (Unit {0}) (λ h n e b. tt) (λ h n b. ArePlaced z n) (Unit {0}) (λ h n e a b. tt) (λ h n a b. Pairs PairDue n)
    (placed-kept z h.ranges.bricks h.ranges.libraries) (due-kept z))
    (record {
      sized = sized-start o;
      books = (tt, tt);
      is = (start-placed o h, λ a b. no-calls o b a _ _ _ _ (start-node o a));
    }) run).is.1

going-due : (n : Net) (k m : ℕ) (l : LibraryState) (s : BrickState) (c : OpenCall) → Pairs PairDue n → Waits n k m l s c → commits_now c.phase ≡ false
    → IsDue c (n.channel k m) (n.channel m k)
going-due n k m l s c g w going =
    let out = n.channel k m in
    let back = n.channel m k in
    let pair : DueAt m l out back (n.node m) = subst (λ x. PairDue k m x (n.node m) out back) w.library (g k m) in
    let all = subst (DueAt m l out back) w.member pair in
    all-is (λ x. DueTo m x out back) l.calls w.at c (all w.lives w.live) w.there w.waits going

-- what each open call waits for
pub net-due : (z : Sizes) (n : Net) (b : Books) → Ground z n → Commit z n b → ArePlaced z n → Pairs PairDue n → AreDue n
net-due z n b g parts placed due k m l s c w = by c.phase refl
  where
    by : (p : Phase) → c.phase ≡ p → IsDue c (n.channel k m) (n.channel m k)
    by (Committing leaf list waiting was) e = committing-due z n b k m l s c leaf list waiting was g parts placed w e
    by (Getting leaf brick) e = going-due n k m l s c due w (ap commits_now e)
    by (Preparing leaf list waiting) e = going-due n k m l s c due w (ap commits_now e)
    by (Aborting waiting why brick) e = going-due n k m l s c due w (ap commits_now e)
    by (Asking waiting newest met) e = going-due n k m l s c due w (ap commits_now e)

pub grounds : (o : OpeningOf) (journal : List Step) → IsOpening o → HoldsOf o journal → Ground (sizes_of o) (net (sizes_of o) (run_of o journal).world)
grounds o journal h k =
    record {
      few = h.ranges.bricks;
      some = h.ranges.libraries;
      linked = k.holds.linked;
      built = net-built (sizes_of o) (run_of o journal).world (sized-run o journal);
    }
