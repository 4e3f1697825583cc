use Rattle.std.proofs.Common.{◌≡◌, ◌≤◌, true, List, [], ◌∷◌, sym, subst}
use Rattle.std.proofs.lemmas.Bool.{and_parts}
use Rattle.dds_cluster.proofs.Sizes.{sized-next}
use Rattle.dds_cluster.specs.Trace.{is_possible, is_run_from, next, trace_from}
use Rattle.dds_cluster.specs.Turn.{turn}
use Rattle.dds_cluster.specs.declared.step.Step.{Step}
use Rattle.dds_cluster.specs.declared.trace.Trace.{Trace}
use Rattle.dds_net.proofs.Prefixes.{Later}
use Rattle.dds_net.proofs.Runs.{Books, Claim, IsBuilt, IsKept, Ran, history-is, net-built, next-is}
use Rattle.dds_net.proofs.Steps.{step-moves}
use Rattle.dds_net.specs.Event.{Event, Fits, History, goes, history_of}
use Rattle.dds_net.specs.Net.{Net, Sizes, net}

-- What books kept since a place of a run. (Beside `run-grows`, whose books grow at any event: here they do at one that fits, where the
-- claim holds.)

pub record Rises (z : Sizes) (B : Type 0) (adds_to : Books B) (says : Claim B) (Within : B → B → Type 0) : Type 0 where
  pub itself : (b : B) → Within b b
  pub through : (a b c : B) → Within a b → Within b c → Within a c
  pub adds : (h : History) (n : Net) (e : Event) (b : B) → IsBuilt z n → Fits z h.callers n e → says h n b → Within b (adds_to h n e b)

step-rises : (z : Sizes) (B : Type 0) (adds_to : Books B) (says : Claim B) (Within : B → B → Type 0) (t : Trace) (x : Step) → z.bricks ≤ 64
    → IsKept z B adds_to says → Rises z B adds_to says Within → (r : Ran z B says t) → is_possible t x ≡ true → Later z B says Within r.books (next t x)
step-rises z B adds_to says Within t x few keeps rises r p =
    let m = step-moves z t x few r.sized p in
    let h = history_of t in
    let n = net z t.world in
    let built = net-built z t.world r.sized in
    let b = adds_to h n m.event r.books in
    record {
      ran = record {
        sized = sized-next z.bricks z.libraries t x r.sized;
        books = b;
        is = subst (λ (u : Trace). says (history_of u) (net z u.world) b) (sym (next-is t x p))
            (subst (λ i. says i (net z (turn t.steps t.world x).world) b) (sym (history-is z t x m))
            (subst (λ w. says (goes h m.event) w b) (sym m.after) (keeps h n m.event r.books built m.fits r.is)));
      };
      within = rises.adds h n m.event r.books built m.fits r.is;
    }

pub run-rises : (z : Sizes) (B : Type 0) (adds_to : Books B) (says : Claim B) (Within : B → B → Type 0) (steps : List Step) (t : Trace) → z.bricks ≤ 64
    → IsKept z B adds_to says → Rises z B adds_to says Within → (r : Ran z B says t) → is_run_from t steps ≡ true
    → Later z B says Within r.books (trace_from t steps)
run-rises z B adds_to says Within [] t few keeps rises r p = record { ran = r; within = rises.itself r.books }
run-rises z B adds_to says Within (x ∷ steps) t few keeps rises r p =
    let q = and_parts (is_possible t x) (is_run_from (next t x) steps) p in
    let s = step-rises z B adds_to says Within t x few keeps rises r q.0 in
    let l = run-rises z B adds_to says Within steps (next t x) few keeps rises s.ran q.1 in
    record { ran = l.ran; within = rises.through r.books s.ran.books l.ran.books s.within l.within }
