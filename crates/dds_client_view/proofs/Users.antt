-- Each caller has the library that its number says, and a library that no step stops lives.
use Rattle.std.proofs.Common.{◌≡◌, ℕ, ◌+◌, ◌-◌, ◌<◌, Bool, true, false, inl, inr, Option, Some, None, List, [], ◌∷◌, refl, sym, ap, ◌∙◌, arith}
use Rattle.std.proofs.Common.{length, zero, suc}
use Rattle.std.proofs.lemmas.Bool.{cases_eq}
use Rattle.std.proofs.lemmas.Option.{slice_get_within}
use Rattle.std.specs.List.{AllByRecursion}
use Rattle.std.specs.Prelude.{◌%◌, slice_get, slice_set, if◌then◌else◌}
use Rattle.dds_base.specs.declared.number.CallNo.{CallNo}
use Rattle.dds_calls.proofs.Stopped.{stopped-stops}
use Rattle.dds_cluster.specs.Trace.{adds, all_closed, closes, is_possible, is_run, new_callers, next, opened_by, opens, run_of, start, trace_from}
use Rattle.dds_cluster.specs.Turn.{turn}
use Rattle.dds_cluster.specs.World.{World}
use Rattle.dds_cluster.specs.declared.step.Input.TheVariants as input
use Rattle.dds_cluster.specs.declared.step.Step.{Step}
use Rattle.dds_cluster.specs.declared.step.Step.TheVariants as step
use Rattle.dds_cluster.specs.declared.trace.Caller.{Caller}
use Rattle.dds_cluster.specs.declared.trace.Trace.{Trace}
use Rattle.dds_core.proofs.Lists.{all-is}
use Rattle.dds_law_notice.proofs.Views.{view}
use Rattle.dds_net.proofs.Nodes.{get-set-other, get-set-same, library-here, library-node}
use Rattle.dds_net.proofs.Runs.{sized-run}
use Rattle.dds_script.specs.Opening.{IsOpening, OpeningOf}
use Rattle.dds_states.specs.declared.library_state.LibraryState.{LibraryState}
use Rattle.dds_states.specs.declared.turn.Replied.{Replied}
use Rattle.dds_states.specs.declared.turn.Replied.TheVariants as replied
use Rattle.dds_walk.proofs.Stops.{StopIs}
use Rattle.dds_world.specs.Places.{reached}
use Rattle.dds_world.specs.Quiet.{IsLiveLibrary}

-- the caller is there, and has its library
pub record IsUser (libraries : ℕ) (cs : List Caller) (i : ℕ) : Type 0 where
  pub who : Caller
  pub there : slice_get cs i ≡ Some who
  pub library : who.library ≡ 64 + i % libraries

user-set : (libraries : ℕ) (cs : List Caller) (at i : ℕ) (c d : Caller) → slice_get cs at ≡ Some c → d.library ≡ c.library → IsUser libraries cs i
    → IsUser libraries (slice_set cs at d) i
user-set libraries cs at i c d e same u = elim (cases_eq at i) [
  | inl f ↦
      let its : c ≡ u.who = (let two : Some c ≡ Some u.who = sym e ∙ ap (slice_get cs) f ∙ u.there in cc) in
      record {
        who = d;
        there = ap (slice_get (slice_set cs at d)) (sym f) ∙ get-set-same cs at d (slice_get_within cs at c e);
        library = same ∙ ap (λ (y : Caller). y.library) its ∙ u.library;
      }
  | inr ne ↦ record { who = u.who; there = get-set-other cs at i d ne ∙ u.there; library = u.library }
]

user-closes : (libraries : ℕ) (cs : List Caller) (at i : ℕ) (o : Option Caller) → slice_get cs at ≡ o → IsUser libraries cs i
    → IsUser libraries (closes cs at o) i
user-closes libraries cs at i None e u = u
user-closes libraries cs at i (Some c) e u = user-set libraries cs at i c (record c { call = None }) e refl u

user-closed : (libraries : ℕ) (cs : List Caller) (i : ℕ) (rs : List Replied) → IsUser libraries cs i → IsUser libraries (all_closed cs rs) i
user-closed libraries cs i [] u = u
user-closed libraries cs i (replied.Call read caller call reply ∷ rs) u =
    user-closed libraries (closes cs caller (slice_get cs caller)) i rs (user-closes libraries cs caller i (slice_get cs caller) refl u)
user-closed libraries cs i (replied.Order reply ∷ rs) u = user-closed libraries cs i rs u

user-opens : (libraries : ℕ) (cs : List Caller) (at i : ℕ) (call : CallNo) (o : Option Caller) → slice_get cs at ≡ o → IsUser libraries cs i
    → IsUser libraries (opens cs at call o) i
user-opens libraries cs at i call None e u = u
user-opens libraries cs at i call (Some c) e u = user-set libraries cs at i c (record c { call = Some call; least = call.0 + 1 }) e refl u

user-opened : (libraries : ℕ) (cs : List Caller) (i : ℕ) (s : Step) → IsUser libraries cs i → IsUser libraries (opened_by cs s) i
user-opened libraries cs i (step.Input node (input.Call caller call op)) u = user-opens libraries cs caller i call (slice_get cs caller) refl u
user-opened libraries cs i (step.Input node (input.Order o)) u = u
user-opened libraries cs i (step.Handle node from) u = u
user-opened libraries cs i (step.Post node) u = u
user-opened libraries cs i (step.Stop node) u = u

user-if : (libraries : ℕ) (t : Trace) (i : ℕ) (s : Step) (possible : Bool) → IsUser libraries t.callers i
    → IsUser libraries (if possible then adds t s (turn t.steps t.world s) else record t { steps = t.steps + 1 }).callers i
user-if libraries t i s true u =
    user-closed libraries (opened_by t.callers s) i (turn t.steps t.world s).replies (user-opened libraries t.callers i s u)
user-if libraries t i s false u = u

user-from : (libraries : ℕ) (t : Trace) (i : ℕ) (steps : List Step) → IsUser libraries t.callers i → IsUser libraries (trace_from t steps).callers i
user-from libraries t i [] u = u
user-from libraries t i (s ∷ steps) u = user-from libraries (next t s) i steps (user-if libraries t i s (is_possible t s) u)

record IsNew (libraries : ℕ) (cs : List Caller) (n i : ℕ) : Type 0 where
  who : Caller
  there : slice_get cs i ≡ Some who
  library : who.library ≡ 64 + (n + i) % libraries

new-user : (libraries k n i : ℕ) → i < k → IsNew libraries (new_callers libraries k n) n i
new-user libraries zero n i h = absurd (omega (arith, h))
new-user libraries (suc k) n zero h =
    let same : n ≡ n + 0 = omega arith in
    record { who = _; there = refl; library = ap (λ m. 64 + m % libraries) same }
new-user libraries (suc k) n (suc i) h =
    let u = new-user libraries k (n + 1) i (omega (arith, h)) in
    let same : n + 1 + i ≡ n + suc i = omega arith in
    record { who = u.who; there = u.there; library = u.library ∙ ap (λ m. 64 + m % libraries) same }

pub run-user : (o : OpeningOf) (journal : List Step) (i : ℕ) → i < o.callers → IsUser o.libraries (run_of o journal).callers i
run-user o journal i h =
    let u = new-user o.libraries o.callers 0 i h in
    let same : 0 + i ≡ i = omega arith in
    user-from o.libraries (start o) i journal
    (record { who = u.who; there = u.there; library = u.library ∙ ap (λ m. 64 + m % o.libraries) same })

-- a library that lives
there-is : {X : Type 0} (xs : List X) (i : ℕ) → i < length xs → (x : X) × (slice_get xs i ≡ Some x)
there-is [] i h = absurd (omega (arith, h))
there-is (x ∷ xs) zero h = (x, refl)
there-is (x ∷ xs) (suc i) h = there-is xs i (omega (arith, h))

pub record LivesAt (w : World) (node : ℕ) : Type 0 where
  pub state : LibraryState
  pub lives : IsLiveLibrary w node state

pub run-lives : (o : OpeningOf) (journal : List Step) (i : ℕ) → IsOpening o → is_run o journal ≡ true → i < o.libraries
    → AllByRecursion (StopIs (λ n. n ≡ 64 + i → ⊥)) journal → LivesAt (reached o journal) (64 + i)
run-lives o journal i h run inside none =
    let w = reached o journal in
    let size = (sized-run o journal).libraries in
    let less : 64 + i - 64 ≡ i = omega arith in
    let x = there-is w.libraries i (omega (arith, inside, size)) in
    let here = library-here w (64 + i) x.0 (omega arith) (ap (slice_get w.libraries) less ∙ x.1) in
    elim (x.0.stopped) as (λ b. x.0.stopped ≡ b → LivesAt w (64 + i)) [
      | true ↦ λ e.
          let was = stopped-stops o journal (64 + i) h run (ap (λ n. (view n).stopped) (library-node w (64 + i) x.0 here) ∙ e) in
          absurd (all-is (StopIs (λ n. n ≡ 64 + i → ⊥)) journal was.when (step.Stop (64 + i)) none was.step refl)
      | false ↦ λ e. record { state = x.0; lives = record { there = here; live = e } }
    ] refl
