use Rattle.std.proofs.Common.{◌≡◌, ℕ, ◌+◌, ◌≤◌, ◌&&◌, Bool, true, false, Option, Some, None, List, [], ◌∷◌, ◌++◌, refl, sym, ap, subst}
use Rattle.std.proofs.lemmas.Bool.{and_parts, both_ways}
use Rattle.std.specs.Prelude.{if◌then◌else◌}
use Rattle.dds_letters.specs.declared.letter.Letter.{Letter}
use Rattle.dds_script.specs.Opening.{OpeningOf}
use Rattle.dds_states.specs.declared.brick_state.BrickState.{BrickState}
use Rattle.dds_states.specs.declared.library_state.LibraryState.{LibraryState}
use Rattle.dds_cluster.proofs.Sizes.{IsSized, sized-next, sized-start}
use Rattle.dds_cluster.specs.Trace.{adds, all_closed, all_kept, is_possible, is_run_from, next, run_of, start, told_at, trace_from}
use Rattle.dds_cluster.specs.Turn.{turn}
use Rattle.dds_cluster.specs.World.{World, brick_at, library_at}
use Rattle.dds_cluster.specs.declared.step.Step.{Step}
use Rattle.dds_cluster.specs.declared.trace.Trace.{Trace}
use Rattle.dds_net.specs.Event.{Event, Fits, History, goes, history_of, moved}
use Rattle.dds_net.specs.Law.{IsMove}
use Rattle.dds_net.specs.Net.{Net, nowhere, Sizes, is_in, net, node_in, when_in}
use Rattle.dds_net.proofs.Nodes.{brick-in, library-in}
use Rattle.dds_net.proofs.Steps.{step-moves}

-- What each event keeps holds along each run.

sized-from : (b l : ℕ) (t : Trace) (journal : List Step) → IsSized b l t.world → IsSized b l (trace_from t journal).world
sized-from b l t [] g = g
sized-from b l t (x ∷ journal) g = sized-from b l (next t x) journal (sized-next b l t x g)

pub sized-run : (o : OpeningOf) (journal : List Step) → IsSized o.bricks o.libraries (run_of o journal).world
sized-run o journal = sized-from o.bricks o.libraries (start o) journal (sized-start o)

-- what is so of each world's nodes and channels
pub record IsBuilt (z : Sizes) (n : Net) : Type 0 where
  pub outside : (k : ℕ) → is_in z k ≡ false → n.node k ≡ nowhere
  pub nothing : (a b : ℕ) → (is_in z a && is_in z b) ≡ false → n.channel a b ≡ []

outside-if : (z : Sizes) (w : World) (k : ℕ) (x : Option BrickState) (y : Option LibraryState) → IsSized z.bricks z.libraries w → is_in z k ≡ false
    → brick_at w k ≡ x → library_at w k ≡ y → node_in x y ≡ nowhere
outside-if z w k None None g h e f = refl
outside-if z w k None (Some s) g h e f = absurd (both_ways (is_in z k) h (library-in z w k s g f))
outside-if z w k (Some s) y g h e f = absurd (both_ways (is_in z k) h (brick-in z w k s g e))

guard-false : (c : Bool) (x : List Letter) → c ≡ false → when_in c x ≡ []
guard-false true x e = cc
guard-false false x e = refl

pub net-built : (z : Sizes) (w : World) → IsSized z.bricks z.libraries w → IsBuilt z (net z w)
net-built z w g =
    record { outside = λ k h. outside-if z w k (brick_at w k) (library_at w k) g h refl refl; nothing = λ a b h. guard-false (is_in z a && is_in z b) _ h }

-- what a law says, of the history, the nodes and channels, and what it keeps of all events so far; what each event adds to
-- that; and that each event keeps it
abbrev pub Claim : Type 0 → Type 1
Claim B = History → Net → B → Type 0

abbrev pub Books : Type 0 → Type 0
Books B = History → Net → Event → B → B

abbrev pub IsKept : Sizes → (B : Type 0) → Books B → Claim B → Type 0
IsKept z B adds_to holds =
    (h : History) (n : Net) (e : Event) (b : B) → IsBuilt z n → Fits z h.callers n e → holds h n b → holds (goes h e) (moved z n e) (adds_to h n e b)

pub record Ran (z : Sizes) (B : Type 0) (holds : Claim B) (t : Trace) : Type 0 where
  pub sized : IsSized z.bricks z.libraries t.world
  pub books : B
  pub is : holds (history_of t) (net z t.world) books

pub next-is : (t : Trace) (x : Step) → is_possible t x ≡ true → next t x ≡ adds t x (turn t.steps t.world x)
next-is t x p = ap (λ b. if b then adds t x (turn t.steps t.world x) else record t { steps = t.steps + 1 }) p

pub history-is : (z : Sizes) (t : Trace) (x : Step) (m : IsMove z t.callers t.steps t.world x (turn t.steps t.world x))
    → history_of (adds t x (turn t.steps t.world x)) ≡ goes (history_of t) m.event
history-is z t x m =
    λ i. record {
      steps = t.steps + 1;
      callers = all_closed (m.opened i) (m.replies i);
      asked = t.asked ++ m.asked i;
      made = t.made ++ all_kept t.made
          (m.points i);
      told = t.told ++ told_at t.steps (m.replies i);
    }

-- one step more, with the event that it was
pub record Stepped (z : Sizes) (B : Type 0) (adds_to : Books B) (holds : Claim B) (t : Trace) (b : B) (u : Trace) : Type 0 where
  pub ran : Ran z B holds u
  pub event : Event
  pub books_are : ran.books ≡ adds_to (history_of t) (net z t.world) event b

pub step-keeps : (z : Sizes) (B : Type 0) (adds_to : Books B) (holds : Claim B) (t : Trace) (x : Step) → z.bricks ≤ 64 → IsKept z B adds_to holds
    → (r : Ran z B holds t) → is_possible t x ≡ true → Stepped z B adds_to holds t r.books (next t x)
step-keeps z B adds_to holds t x few keeps r p =
    let m = step-moves z t x few r.sized p in
    let b = adds_to (history_of t) (net z t.world) m.event r.books in
    let k = keeps (history_of t) (net z t.world) m.event r.books (net-built z t.world r.sized) m.fits r.is in
    let n = next-is t x p in
    record {
      ran = record {
        sized = sized-next z.bricks z.libraries t x r.sized;
        books = b;
        is = subst (λ (u : Trace). holds (history_of u) (net z u.world) b) (sym n)
            (subst (λ h. holds h (net z (turn t.steps t.world x).world) b) (sym (history-is z t x m))
            (subst (λ w. holds (goes (history_of t) m.event) w b) (sym m.after) k));
      };
      event = m.event;
      books_are = refl;
    }

pub run-keeps : (z : Sizes) (B : Type 0) (adds_to : Books B) (holds : Claim B) (steps : List Step) (t : Trace) → z.bricks ≤ 64 → IsKept z B adds_to holds
    → Ran z B holds t → is_run_from t steps ≡ true → Ran z B holds (trace_from t steps)
run-keeps z B adds_to holds [] t few keeps r p = r
run-keeps z B adds_to holds (x ∷ steps) t few keeps r p =
    let q = and_parts (is_possible t x) (is_run_from (next t x) steps) p in
    run-keeps z B adds_to holds steps (next t x) few keeps (step-keeps z B adds_to holds t x few keeps r q.0).ran q.1
