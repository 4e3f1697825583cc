use Rattle.std.proofs.Common.{◌≡◌, ℕ, zero, suc, ◌+◌, Bool, true, false, Some, List, [], ◌∷◌, ◌++◌, length, refl, sym, ap, ◌∙◌}
use Rattle.std.proofs.Common.{subst, arith}
use Rattle.std.proofs.Math.Seq.{take-append_seam}
use Rattle.std.proofs.lemmas.List.{append-nil, append_assoc, take-append-le}
use Rattle.std.proofs.lemmas.Option.{slice_get_within}
use Rattle.std.specs.List.{AllByRecursion}
use Rattle.std.specs.Prelude.{slice_get, take, if◌then◌else◌}
use Rattle.dds_cluster.specs.Trace.{adds, all_kept, asked_by, is_possible, next, replies_in, run_of, start, told_at, told_by, trace_from}
use Rattle.dds_cluster.specs.Turn.{turn}
use Rattle.dds_cluster.specs.declared.step.Step.{Step}
use Rattle.dds_cluster.specs.declared.trace.Told.{Told}
use Rattle.dds_cluster.specs.declared.trace.Trace.{Trace}
use Rattle.dds_core.proofs.Lists.{all-append, all-map}
use Rattle.dds_net.proofs.Journals.{Grown, last-is, step-later}
use Rattle.dds_script.specs.Opening.{OpeningOf}
use Rattle.dds_states.specs.declared.turn.Replied.{Replied}
use Rattle.dds_states.specs.declared.turn.Replied.TheVariants as replied

-- Each answer of a run is one of the answers that the step at its place gives.

pub trace-grown : (t : Trace) (journal : List Step) (x : Step) → trace_from t (Grown journal x) ≡ next (trace_from t journal) x
trace-grown t [] x = refl
trace-grown t (y ∷ journal) x = trace-grown (next t y) journal x

-- what holds of a journal step by step holds of each one
pub each-journal : (P : List Step → Type 0) → P [] → ((journal : List Step) (x : Step) → P journal → P (Grown journal x)) → (journal : List Step) → P journal
each-journal P first grow journal = from [] journal first
  where
    from : (front more : List Step) → P front → P (front ++ more)
    from front [] h = subst P (sym (append-nil front)) h
    from front (x ∷ more) h = subst P (append_assoc front (x ∷ []) more) (from (Grown front x) more (grow front x h))

step-count : (t : Trace) (x : Step) → (next t x).steps ≡ t.steps + 1
step-count t x = by (is_possible t x)
  where
    by : (b : Bool) → (if b then adds t x (turn t.steps t.world x) else record t { steps = t.steps + 1 }).steps ≡ t.steps + 1
    by true = refl
    by false = refl

length-grown : (xs : List Step) (y : Step) → length (Grown xs y) ≡ length xs + 1
length-grown [] y = refl
length-grown (z ∷ xs) y = let rest = length-grown xs y in omega (arith, rest)

-- a run has as many steps as its journal
pub steps-are : (o : OpeningOf) (journal : List Step) → (run_of o journal).steps ≡ length journal
steps-are o journal =
    each-journal (λ j. (run_of o j).steps ≡ length j) refl
    (λ j x h. ap (λ (t : Trace). t.steps) (trace-grown (start o) j x) ∙ step-count (run_of o j) x ∙ ap (λ k. k + 1) h ∙ sym (length-grown j x)) journal

-- a list that each step leaves or makes longer begins, after a longer journal, as it was after a shorter one
pub record GrewBy {X : Type 0} (xs ys : List X) : Type 0 where
  pub more : List X
  pub is : ys ≡ xs ++ more

grown-by : {X : Type 0} (f : Trace → List X) → ((t : Trace) (x : Step) → GrewBy (f t) (f (next t x))) → (t : Trace) (more : List Step)
    → GrewBy (f t) (f (trace_from t more))
grown-by f grows t [] = record { more = []; is = sym (append-nil (f t)) }
grown-by f grows t (x ∷ more) =
    let one = grows t x in
    let rest = grown-by f grows (next t x) more in
    record { more = one.more ++ rest.more; is = rest.is ∙ ap (λ xs. xs ++ rest.more) one.is ∙ append_assoc (f t) one.more rest.more }

grown-from : {X : Type 0} (f : Trace → List X) → ((t : Trace) (x : Step) → GrewBy (f t) (f (next t x))) → (t : Trace) (front more : List Step)
    → GrewBy (f (trace_from t front)) (f (trace_from t (front ++ more)))
grown-from f grows t [] more = grown-by f grows t more
grown-from f grows t (x ∷ front) more = grown-from f grows (next t x) front more

next-asked : (t : Trace) (x : Step) → GrewBy t.asked (next t x).asked
next-asked t x = by (is_possible t x)
  where
    by : (b : Bool) → GrewBy t.asked (if b then adds t x (turn t.steps t.world x) else record t { steps = t.steps + 1 }).asked
    by true = record { more = asked_by t.steps x; is = refl }
    by false = record { more = []; is = sym (append-nil t.asked) }

next-made : (t : Trace) (x : Step) → GrewBy t.made (next t x).made
next-made t x = by (is_possible t x)
  where
    by : (b : Bool) → GrewBy t.made (if b then adds t x (turn t.steps t.world x) else record t { steps = t.steps + 1 }).made
    by true = record { more = all_kept t.made (turn t.steps t.world x).made; is = refl }
    by false = record { more = []; is = sym (append-nil t.made) }

-- so do the calls that were asked, and the points
pub asked-from : (t : Trace) (front more : List Step) → GrewBy (trace_from t front).asked (trace_from t (front ++ more)).asked
asked-from t front more = grown-from (λ (u : Trace). u.asked) next-asked t front more

pub made-from : (t : Trace) (front more : List Step) → GrewBy (trace_from t front).made (trace_from t (front ++ more)).made
made-from t front more = grown-from (λ (u : Trace). u.made) next-made t front more

-- One step's answers

-- an answer is among these
pub record Among (rs : List Replied) (t : Told) : Type 0 where
  pub index : ℕ
  pub is : slice_get rs index ≡ Some (replied.Call t.read t.caller t.call t.reply)

pub record GivenNow (place : ℕ) (rs : List Replied) (t : Told) : Type 0 where
  pub place_is : t.place ≡ place
  pub among : Among rs t

behind-one : (place : ℕ) (r : Replied) (rs : List Replied) (t : Told) → GivenNow place rs t → GivenNow place (r ∷ rs) t
behind-one place r rs t h = record { place_is = h.place_is; among = record { index = suc h.among.index; is = h.among.is } }

one-given : (place : ℕ) (r : Replied) (rs : List Replied) → AllByRecursion (GivenNow place (r ∷ rs)) (told_by place r)
one-given place (replied.Call read caller call reply) rs = (record { place_is = refl; among = record { index = 0; is = refl } }, tt)
one-given place (replied.Order reply) rs = tt

pub all-given : (place : ℕ) (rs : List Replied) → AllByRecursion (GivenNow place rs) (told_at place rs)
all-given place [] = tt
all-given place (r ∷ rs) =
    all-append (GivenNow place (r ∷ rs)) (told_by place r) (told_at place rs) (one-given place r rs)
    (all-map (GivenNow place rs) (GivenNow place (r ∷ rs)) (told_at place rs) (λ t h. behind-one place r rs t h) (all-given place rs))

-- The run's answers

pub record IsGiven (o : OpeningOf) (journal : List Step) (t : Told) : Type 0 where
  pub step : Step
  pub is : slice_get journal t.place ≡ Some step
  pub among : Among (replies_in (run_of o (take t.place journal)) step) t

pub given-later : (o : OpeningOf) (journal more : List Step) (t : Told) → IsGiven o journal t → IsGiven o (journal ++ more) t
given-later o journal more t h =
    let inside = slice_get_within journal t.place h.step h.is in
    record {
      step = h.step;
      is = step-later journal more t.place h.step h.is;
      among = subst (λ j. Among (replies_in (run_of o j) h.step) t) (sym (take-append-le t.place journal more (omega (arith, inside)))) h.among;
    }

given-now : (o : OpeningOf) (journal : List Step) (x : Step) (t : Told) → GivenNow (length journal) (replies_in (run_of o journal) x) t
    → IsGiven o (Grown journal x) t
given-now o journal x t h =
    record {
      step = x;
      is = ap (slice_get (Grown journal x)) h.place_is ∙ last-is journal x;
      among = subst (λ j. Among (replies_in (run_of o j) x) t)
          (sym (ap (λ k. take k (Grown journal x)) h.place_is ∙ take-append_seam journal (x ∷ []))) h.among;
    }

next-told : (t : Trace) (x : Step) → (next t x).told ≡ t.told ++ told_at t.steps (replies_in t x)
next-told t x = by (is_possible t x)
  where
    by : (b : Bool) → (if b then adds t x (turn t.steps t.world x) else record t { steps = t.steps + 1 }).told
        ≡ t.told ++ told_at t.steps (if b then (turn t.steps t.world x).replies else [])
    by true = refl
    by false = sym (append-nil t.told)

pub told-grown : (o : OpeningOf) (journal : List Step) (x : Step)
    → (run_of o (Grown journal x)).told ≡ (run_of o journal).told ++ told_at (length journal) (replies_in (run_of o journal) x)
told-grown o j x =
    let t = run_of o j in
    ap (λ (u : Trace). u.told) (trace-grown (start o) j x) ∙ next-told t x ∙ ap (λ k. t.told ++ told_at k (replies_in t x)) (steps-are o j)

pub told-given : (o : OpeningOf) (journal : List Step) → AllByRecursion (IsGiven o journal) (run_of o journal).told
told-given o journal =
    each-journal (λ j. AllByRecursion (IsGiven o j) (run_of o j).told) tt (λ j x h.
    let t = run_of o j in
    subst (AllByRecursion (IsGiven o (Grown j x))) (sym (told-grown o j x))
    (all-append (IsGiven o (Grown j x)) t.told (told_at (length j) (replies_in t x))
    (all-map (IsGiven o j) (IsGiven o (Grown j x)) t.told (λ u k. given-later o j (x ∷ []) u k) h)
    (all-map (GivenNow (length j) (replies_in t x)) (IsGiven o (Grown j x)) (told_at (length j) (replies_in t x)) (λ u k. given-now o j x u k)
    (all-given (length j) (replies_in t x))))) journal

-- an answer that a step gives is among the run's

pub record At {X : Type 0} (xs : List X) (x : X) : Type 0 where
  pub index : ℕ
  pub there : slice_get xs index ≡ Some x

at-back : {X : Type 0} (xs ys : List X) (y : X) → At ys y → At (xs ++ ys) y
at-back [] ys y h = h
at-back (x ∷ xs) ys y h = let k = at-back xs ys y h in record { index = suc k.index; there = k.there }

at-head : {X : Type 0} (x y : X) (ys : List X) → x ≡ y → At (x ∷ ys) y
at-head x y ys e = record { index = 0; there = ap Some e }

replied-at : (rs : List Replied) (i : ℕ) (t : Told) → slice_get rs i ≡ Some (replied.Call t.read t.caller t.call t.reply) → At (told_at t.place rs) t
replied-at [] i t e = cc
replied-at (r ∷ rs) zero t e =
    let is : r ≡ replied.Call t.read t.caller t.call t.reply = cc in
    subst (λ q. At (told_by t.place q ++ told_at t.place rs) t) (sym is) (at-head t t (told_at t.place rs) refl)
replied-at (r ∷ rs) (suc i) t e = at-back (told_by t.place r) (told_at t.place rs) t (replied-at rs i t e)

pub given-at : (o : OpeningOf) (journal : List Step) (x : Step) (t : Told) → t.place ≡ length journal → Among (replies_in (run_of o journal) x) t
    → At (run_of o (Grown journal x)).told t
given-at o journal x t place h =
    subst (λ ts. At ts t) (sym (told-grown o journal x)) (at-back (run_of o journal).told _ t
    (subst (λ k. At (told_at k (replies_in (run_of o journal) x)) t) place (replied-at (replies_in (run_of o journal) x) h.index t h.is)))
