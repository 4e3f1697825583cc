use Rattle.std.proofs.Common.{◌≡◌, ℕ, ◌+◌, ◌-◌, ◌≤◌, ◌==◌, true, List, [], ◌∷◌, sym, subst}
use Rattle.std.proofs.lemmas.Bool.{and_parts}
use Rattle.std.specs.Prelude.{filter}
use Rattle.dds_base.specs.declared.leaf.Leaf.{Leaf}
use Rattle.dds_books.proofs.Keeps.{calls-kept, start-booked}
use Rattle.dds_books.specs.Calls.{AreBooked}
use Rattle.dds_cluster.proofs.Sizes.{IsSized, sized-next, sized-start}
use Rattle.dds_cluster.specs.Trace.{is_possible, is_run, is_run_from, next, run_of, start, trace_from}
use Rattle.dds_cluster.specs.Turn.{turn}
use Rattle.dds_cluster.specs.declared.step.Step.{Step}
use Rattle.dds_cluster.specs.declared.trace.Trace.{Trace}
use Rattle.dds_net.proofs.Opening.{IsNew, new_a_brick, new_a_library, no_node, start-node, no-call-open}
use Rattle.dds_net.proofs.Runs.{history-is, net-built, next-is}
use Rattle.dds_net.proofs.Steps.{step-moves}
use Rattle.dds_net.specs.Event.{goes, history_of}
use Rattle.dds_net.specs.Net.{Node, Sizes, net, sizes_of}
use Rattle.dds_script.specs.Opening.{IsOpening, OpeningOf}
use Rattle.dds_due.proofs.Heeded.{heeded}
use Rattle.dds_due.proofs.Maps.{opening-finds}
use Rattle.dds_due.proofs.Opened.{opened-then}
use Rattle.dds_due.specs.Opened.{AreOpened, ListsOpen, NodeFinds}

-- Which calls are open, along each run.

pub record Going (z : Sizes) (t : Trace) : Type 0 where
  pub sized : IsSized z.bricks z.libraries t.world
  pub booked : AreBooked (history_of t) (net z t.world)
  pub opened : AreOpened (history_of t) (net z t.world)

step-going : (z : Sizes) (t : Trace) (x : Step) → z.bricks ≤ 64 → Going z t → is_possible t x ≡ true → Going z (next t x)
step-going z t x few g p =
    let m = step-moves z t x few g.sized p in
    let h = history_of t in
    let n = net z t.world in
    let built = net-built z t.world g.sized in
    let w = heeded z t.steps t.world x m.event m.step m.after m.replies g.opened.finds in
    let booked = calls-kept z h n m.event tt built m.fits g.booked in
    let opened = opened-then z h n g.booked g.opened m.event m.fits w in
    let e = next-is t x p in
    record {
      sized = sized-next z.bricks z.libraries t x g.sized;
      booked = subst (λ (u : Trace). AreBooked (history_of u) (net z u.world)) (sym e)
          (subst (λ i. AreBooked i (net z (turn t.steps t.world x).world)) (sym (history-is z t x m))
          (subst (AreBooked (goes h m.event)) (sym m.after) booked));
      opened = subst (λ (u : Trace). AreOpened (history_of u) (net z u.world)) (sym e)
          (subst (λ i. AreOpened i (net z (turn t.steps t.world x).world)) (sym (history-is z t x m))
          (subst (AreOpened (goes h m.event)) (sym m.after) opened));
    }

going-on : (z : Sizes) (steps : List Step) (t : Trace) → z.bricks ≤ 64 → Going z t → is_run_from t steps ≡ true → Going z (trace_from t steps)
going-on z [] t few g p = g
going-on z (x ∷ steps) t few g p =
    let q = and_parts (is_possible t x) (is_run_from (next t x) steps) p in
    going-on z steps (next t x) few (step-going z t x few g q.0) q.1

new-finds : (o : OpeningOf) (k : ℕ) (x : Node) → IsOpening o → IsNew o k x → NodeFinds x
new-finds o k x h (no_node e) = subst NodeFinds (sym e) tt
new-finds o k x h (new_a_brick e) = subst NodeFinds (sym e) tt
new-finds o k x h (new_a_library high e) = subst NodeFinds (sym e)
    (opening-finds o.bricks o.leaves (filter (λ (l : Leaf). l.stamp.maker == 64 + (k - 64)) o.old) h.leaves h.covered)

new-lists : (o : OpeningOf) (k : ℕ) (x : Node) → IsNew o k x → ListsOpen (start o).callers k x
new-lists o k x (no_node e) = subst (ListsOpen (start o).callers k) (sym e) tt
new-lists o k x (new_a_brick e) = subst (ListsOpen (start o).callers k) (sym e) tt
new-lists o k x (new_a_library high e) =
    subst (ListsOpen (start o).callers k) (sym e)
    (λ live caller who call there library its. absurd (no-call-open o.libraries o.callers 0 caller who call there its))

start-going : (o : OpeningOf) → IsOpening o → Going (sizes_of o) (start o)
start-going o h =
    record {
      sized = sized-start o;
      booked = start-booked o;
      opened = record { finds = λ k. new-finds o k _ h (start-node o k); opened = λ k. new-lists o k _ (start-node o k); asked = tt };
    }

pub run-going : (o : OpeningOf) (journal : List Step) → IsOpening o → is_run o journal ≡ true → Going (sizes_of o) (run_of o journal)
run-going o journal h run = going-on (sizes_of o) journal (start o) h.ranges.bricks (start-going o h) run
