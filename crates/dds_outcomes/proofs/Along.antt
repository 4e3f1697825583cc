use Rattle.std.proofs.Common.{◌≡◌, ◌≤◌, true, List, [], ◌∷◌, ◌++◌, refl, sym, ap, ◌∙◌, subst}
use Rattle.std.proofs.lemmas.Bool.{and_parts}
use Rattle.std.proofs.lemmas.List.{append-nil, append_assoc}
use Rattle.std.specs.Prelude.{if◌then◌else◌}
use Rattle.dds_cluster.specs.Trace.{is_possible, is_run, is_run_from, next, run_of, start, trace_from}
use Rattle.dds_cluster.specs.Turn.{turn}
use Rattle.dds_cluster.specs.declared.step.Step.{Step}
use Rattle.dds_cluster.specs.declared.trace.Trace.{Trace}
use Rattle.dds_net.proofs.Journals.{Grown, net_of}
use Rattle.dds_net.proofs.Runs.{Books, Claim, IsBuilt, IsKept, history-is, net-built, next-is, sized-run}
use Rattle.dds_net.proofs.Steps.{step-moves}
use Rattle.dds_net.specs.Event.{Event, Fits, History, goes, history_of, moved}
use Rattle.dds_net.specs.Net.{Net, Sizes, net, sizes_of}
use Rattle.dds_script.specs.Opening.{OpeningOf}
use Rattle.dds_talk.specs.Books as talk
use Rattle.dds_outcomes.specs.Kept.{Holds, Kept, Stays}
use Rattle.dds_outcomes.specs.Kept.Kept.{first, grown}

-- A claim that each event keeps, whose books have those of two-phase commit in them and which gives the parts, gives them along each
-- run.

pub record Rung (z : Sizes) (B : Type 0) (adds_to : Books B) (holds : Claim B) : Type 0 where
  pub kept : IsKept z B adds_to holds
  pub books : B → talk.Books
  pub adds : (h : History) (n : Net) (e : Event) (b : B) → books (adds_to h n e b) ≡ talk.adds h n e (books b)
  pub gives : (h : History) (n : Net) (b : B) → holds h n b → Holds z n (books b)
  pub stays : (h : History) (n : Net) (e : Event) (b : B) → IsBuilt z n → Fits z h.callers n e → holds h n b
      → holds (goes h e) (moved z n e) (adds_to h n e b) → Stays (books b) (talk.adds h n e (books b))

trace-grown : (t : Trace) (journal : List Step) (x : Step) → trace_from t (Grown journal x) ≡ next (trace_from t journal) x
trace-grown t [] x = refl
trace-grown t (y ∷ journal) x = trace-grown (next t y) journal x

pub record Went (o : OpeningOf) (B : Type 0) (holds : Claim B) (books : B → talk.Books) (journal : List Step) : Type 0 where
  pub is : B
  pub holds_now : holds (history_of (run_of o journal)) (net_of o journal) is
  pub kept : Kept o journal (books is)

went-on : (o : OpeningOf) (B : Type 0) (adds_to : Books B) (holds : Claim B) (r : Rung (sizes_of o) B adds_to holds) (journal : List Step) (x : Step)
    → o.bricks ≤ 64 → Went o B holds r.books journal → is_possible (run_of o journal) x ≡ true → Went o B holds r.books (Grown journal x)
went-on o B adds_to holds r journal x few w p =
    let z = sizes_of o in
    let t = run_of o journal in
    let m = step-moves z t x few (sized-run o journal) p in
    let c = adds_to (history_of t) (net_of o journal) m.event w.is in
    let built = net-built z t.world (sized-run o journal) in
    let k = r.kept (history_of t) (net_of o journal) m.event w.is built m.fits w.holds_now in
    let one = trace-grown (start o) journal x ∙ next-is t x p in
    let now : holds (history_of (run_of o (Grown journal x))) (net_of o (Grown journal x)) c =
    subst (λ (u : Trace). holds (history_of u) (net z u.world) c) (sym one)
    (subst (λ h. holds h (net z (turn t.steps t.world x).world) c) (sym (history-is z t x m))
    (subst (λ v. holds (goes (history_of t) m.event) v c) (sym m.after) k)) in
    let is = r.adds (history_of t) (net_of o journal) m.event w.is in
    record {
      is = c;
      holds_now = now;
      kept = grown (Grown journal x) journal x m.event (r.books w.is) (r.books c) w.kept refl is
          (record {
            possible = p;
            step = m.step;
            fits = m.fits;
            replies = ap (λ b. if b then (turn t.steps t.world x).replies else []) p ∙ m.replies;
            after = ap (λ (u : Trace). net z u.world) one ∙ m.after;
          })
          (ap history_of one ∙ history-is z t x m)
          (subst (Stays (r.books w.is)) (sym is) (r.stays (history_of t) (net_of o journal) m.event w.is built m.fits w.holds_now k))
          (r.gives (history_of (run_of o (Grown journal x))) (net_of o (Grown journal x)) c now);
    }

went-all : (o : OpeningOf) (B : Type 0) (adds_to : Books B) (holds : Claim B) (r : Rung (sizes_of o) B adds_to holds) (journal more : List Step)
    → o.bricks ≤ 64 → Went o B holds r.books journal → is_run_from (run_of o journal) more ≡ true → Went o B holds r.books (journal ++ more)
went-all o B adds_to holds r journal [] few w p = subst (Went o B holds r.books) (sym (append-nil journal)) w
went-all o B adds_to holds r journal (x ∷ more) few w p =
    let q = and_parts (is_possible (run_of o journal) x) (is_run_from (next (run_of o journal) x) more) p in
    subst (Went o B holds r.books) (append_assoc journal (x ∷ []) more)
    (went-all o B adds_to holds r (Grown journal x) more few (went-on o B adds_to holds r journal x few w q.0)
    (subst (λ (t : Trace). is_run_from t more ≡ true) (sym (trace-grown (start o) journal x)) q.1))

pub kept-along : (o : OpeningOf) (B : Type 0) (adds_to : Books B) (holds : Claim B) (r : Rung (sizes_of o) B adds_to holds) (b : B) (journal : List Step)
    → o.bricks ≤ 64 → holds (history_of (start o)) (net (sizes_of o) (start o).world) b → r.books b ≡ talk.no_books → is_run o journal ≡ true
    → Went o B holds r.books journal
kept-along o B adds_to holds r b journal few h e run =
    went-all o B adds_to holds r [] journal few (record {
      is = b;
      holds_now = h;
      kept = first [] (r.books b) refl e (r.gives (history_of (start o)) (net (sizes_of o) (start o).world) b h);
    }) run
