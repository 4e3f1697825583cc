-- A walk along the steps that a walk alone makes does the same.
use Rattle.std.proofs.Common.{◌≡◌, ℕ, ◌+◌, ◌<◌, ◌≤◌, Bool, true, false, List, [], ◌∷◌, ◌++◌, Option, Some, None, length, zero, suc, refl}
use Rattle.std.proofs.Common.{sym, ap, subst, ◌∙◌, arith, append_assoc}
use Rattle.std.specs.Prelude.{slice_index_or, slice_set, if◌then◌else◌}
use Rattle.std.specs.List.{AllByRecursion}
use Rattle.std.proofs.lemmas.List.{append-nil}
use Rattle.dds_walk.specs.declared.walk.Walk.{Walk}
use Rattle.dds_cluster.specs.Trace.{adds, asked_by, is_possible, next}
use Rattle.dds_cluster.specs.Turn.{turn}
use Rattle.dds_cluster.specs.declared.step.Input.{Input}
use Rattle.dds_cluster.specs.declared.step.Input.TheVariants as input
use Rattle.dds_cluster.specs.declared.step.Step.{Step}
use Rattle.dds_cluster.specs.declared.step.Step.TheVariants as step
use Rattle.dds_cluster.specs.declared.trace.Asked.{Asked}
use Rattle.dds_cluster.specs.declared.trace.Trace.{Trace}

-- the walk, along a journal of which this is left
abbrev pub along : Walk → List Step → Walk
along w rest = record w { rest = Some rest }

-- the call that a step makes is none of those that were counted
abbrev pub IsLaterInput : List ℕ → Input → Type 0
IsLaterInput counts (input.Call caller call op) = slice_index_or counts caller 0 ≤ call.0
IsLaterInput counts (input.Order o) = Unit {0}

abbrev pub IsLater : List ℕ → Step → Type 0
IsLater counts (step.Input node i) = IsLaterInput counts i
IsLater counts (step.Handle node from) = Unit {0}
IsLater counts (step.Post node) = Unit {0}
IsLater counts (step.Stop node) = Unit {0}

abbrev pub AreLater : List ℕ → List Step → Type 0
AreLater counts steps = AllByRecursion (IsLater counts) steps

-- the call was counted
abbrev pub IsCounted : List ℕ → Asked → Type 0
IsCounted counts a = a.call.0 < slice_index_or counts a.caller 0

abbrev pub AreCalls : List ℕ → List Asked → Type 0
AreCalls counts asked = AllByRecursion (IsCounted counts) asked

-- the step makes no call
abbrev pub IsNoCallInput : Input → Type 0
IsNoCallInput (input.Call caller call op) = ⊥
IsNoCallInput (input.Order o) = Unit {0}

abbrev pub IsNoCall : Step → Type 0
IsNoCall (step.Input node i) = IsNoCallInput i
IsNoCall (step.Handle node from) = Unit {0}
IsNoCall (step.Post node) = Unit {0}
IsNoCall (step.Stop node) = Unit {0}

-- so many callers have counts, and the calls that were made are counted
pub record IsNumbered (callers : ℕ) (w : Walk) : Type 0 where
  pub size : length w.counts ≡ callers
  pub asked : AreCalls w.counts w.trace.asked

-- what a walk alone makes on the way to another, whose calls are none of those that were counted; and what is done along
-- these steps and more, which is the same
pub record Goes {X : Type 0} (callers : ℕ) (w v : Walk) (does to : List Step → X) : Type 0 where
  pub made : List Step
  pub steps : v.steps ≡ w.steps ++ made
  pub rest : v.rest ≡ None
  pub numbered : IsNumbered callers v
  pub later : AreLater w.counts made
  pub grows : (tail : List Step) → AreLater v.counts tail → AreLater w.counts tail
  pub same : (tail : List Step) → AreLater v.counts tail → does (made ++ tail) ≡ to tail

-- so with what is done to a walk
abbrev pub GoesBy : ℕ → Walk → (Walk → Walk) → Type 0
GoesBy callers w does = Goes callers w (does w) (λ rest. does (along w rest)) (along (does w))

pub later-both : (counts : List ℕ) (xs ys : List Step) → AreLater counts xs → AreLater counts ys → AreLater counts (xs ++ ys)
later-both counts [] ys a b = b
later-both counts (x ∷ xs) ys a b = (a.0, later-both counts xs ys a.1 b)

pub later-no-call : (counts : List ℕ) (s : Step) → IsNoCall s → IsLater counts s
later-no-call counts (step.Input node (input.Call caller call op)) h = absurd h
later-no-call counts (step.Input node (input.Order o)) h = tt
later-no-call counts (step.Handle node from) h = tt
later-no-call counts (step.Post node) h = tt
later-no-call counts (step.Stop node) h = tt

-- nothing is made
pub goes-nowhere : {X : Type 0} (callers : ℕ) (w v : Walk) (does to : List Step → X) → v.steps ≡ w.steps → v.counts ≡ w.counts → v.rest ≡ None
    → IsNumbered callers v → ((tail : List Step) → does tail ≡ to tail) → Goes callers w v does to
goes-nowhere callers w v does to s c rest n h =
    record {
      made = [];
      steps = s ∙ sym (append-nil w.steps);
      rest = rest;
      numbered = n;
      later = tt;
      grows = λ tail k. subst (λ (counts : List ℕ). AreLater counts tail) c k;
      same = λ tail k. h tail;
    }

-- one step more at the beginning, which is no call
pub goes-step : {X : Type 0} (callers : ℕ) (w x v : Walk) (s : Step) (does : List Step → X) (after : Walk → X) (to : List Step → X)
    → x.steps ≡ w.steps ++ s ∷ [] → x.counts ≡ w.counts → IsNoCall s → ((rest : List Step) → does (s ∷ rest) ≡ after (along x rest))
    → Goes callers x v (λ rest. after (along x rest)) to → Goes callers w v does to
goes-step callers w x v s does after to e c silent h g =
    record {
      made = s ∷ g.made;
      steps = g.steps ∙ ap (λ (l : List Step). l ++ g.made) e ∙ append_assoc w.steps (s ∷ []) g.made;
      rest = g.rest;
      numbered = g.numbered;
      later = (later-no-call w.counts s silent, subst (λ (counts : List ℕ). AreLater counts g.made) c g.later);
      grows = λ tail k. subst (λ (counts : List ℕ). AreLater counts tail) c (g.grows tail k);
      same = λ tail k. h (g.made ++ tail) ∙ g.same tail k;
    }

-- one way after another
pub goes-then : {X : Type 0} (callers : ℕ) (w v x : Walk) (does : List Step → Walk) (after : Walk → X) (to : List Step → X) → Goes callers w v does (along v)
    → Goes callers v x (λ rest. after (along v rest)) to → Goes callers w x (λ rest. after (does rest)) to
goes-then callers w v x does after to a b =
    record {
      made = a.made ++ b.made;
      steps = b.steps ∙ ap (λ (l : List Step). l ++ b.made) a.steps ∙ append_assoc w.steps a.made b.made;
      rest = b.rest;
      numbered = b.numbered;
      later = later-both w.counts a.made b.made a.later (a.grows b.made b.later);
      grows = λ tail k. a.grows tail (b.grows tail k);
      same = λ tail k.
          ap (λ (l : List Step). after (does l)) (append_assoc a.made b.made tail)
          ∙ ap after (a.same (b.made ++ tail) (later-both v.counts b.made tail b.later (b.grows tail k)))
          ∙ b.same tail k;
    }

-- what is done at the end makes nothing
pub goes-after : {X Y : Type 0} (callers : ℕ) (w v x : Walk) (does to : List Step → X) (after : X → Y) (at : List Step → Y) → Goes callers w v does to
    → x.steps ≡ v.steps → x.counts ≡ v.counts → x.rest ≡ v.rest → x.trace ≡ v.trace → ((tail : List Step) → after (to tail) ≡ at tail)
    → Goes callers w x (λ rest. after (does rest)) at
goes-after callers w v x does to after at g s c r t h =
    record {
      made = g.made;
      steps = s ∙ g.steps;
      rest = r ∙ g.rest;
      numbered = record {
        size = ap length c ∙ g.numbered.size;
        asked = subst (λ (counts : List ℕ). AreCalls counts x.trace.asked) (sym c) (subst (λ (y : Trace). AreCalls v.counts y.asked) (sym t) g.numbered.asked);
      };
      later = g.later;
      grows = λ tail k. g.grows tail (subst (λ (counts : List ℕ). AreLater counts tail) c k);
      same = λ tail k. ap after (g.same tail (subst (λ (counts : List ℕ). AreLater counts tail) c k)) ∙ h tail;
    }

-- the calls that were made, after a step
pub asked-both : (counts : List ℕ) (xs ys : List Asked) → AreCalls counts xs → AreCalls counts ys → AreCalls counts (xs ++ ys)
asked-both counts [] ys a b = b
asked-both counts (x ∷ xs) ys a b = (a.0, asked-both counts xs ys a.1 b)

asked-if : (counts : List ℕ) (t : Trace) (s : Step) (possible : Bool) → AreCalls counts t.asked → AreCalls counts (asked_by t.steps s)
    → AreCalls counts (if possible then adds t s (turn t.steps t.world s) else record t { steps = t.steps + 1 }).asked
asked-if counts t s true a b = asked-both counts t.asked (asked_by t.steps s) a b
asked-if counts t s false a b = a

pub asked-next : (counts : List ℕ) (t : Trace) (s : Step) → AreCalls counts t.asked → AreCalls counts (asked_by t.steps s) → AreCalls counts (next t s).asked
asked-next counts t s a b = asked-if counts t s (is_possible t s) a b

pub asked-no-call : (counts : List ℕ) (at : ℕ) (s : Step) → IsNoCall s → AreCalls counts (asked_by at s)
asked-no-call counts at (step.Input node (input.Call caller call op)) h = absurd h
asked-no-call counts at (step.Input node (input.Order o)) h = tt
asked-no-call counts at (step.Handle node from) h = tt
asked-no-call counts at (step.Post node) h = tt
asked-no-call counts at (step.Stop node) h = tt
