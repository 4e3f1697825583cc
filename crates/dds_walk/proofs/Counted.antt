-- No caller's next call has a number below those of its former calls.
use Rattle.std.proofs.Common.{◌≡◌, ℕ, ◌+◌, ◌≤◌, Bool, true, false, List, [], ◌∷◌, Option, Some, None, zero, suc, refl, ap, subst, arith}
use Rattle.std.specs.Prelude.{replicate, slice_get, slice_index_or, slice_set, unwrap_or, if◌then◌else◌}
use Rattle.dds_states.specs.declared.turn.Replied.{Replied}
use Rattle.dds_states.specs.declared.turn.Replied.TheVariants as replied
use Rattle.dds_cluster.specs.Trace.{adds, all_closed, closed_by, closes, is_possible, new_callers, next, opened_by}
use Rattle.dds_cluster.specs.Turn.{turn}
use Rattle.dds_cluster.specs.declared.step.Step.{Step}
use Rattle.dds_cluster.specs.declared.trace.Caller.{Caller}
use Rattle.dds_cluster.specs.declared.trace.Trace.{Trace}

-- each caller has a count of its call lines, and may make a call of this number
abbrev pub AreCounted : List Caller → List ℕ → Type 0
AreCounted [] [] = Unit {0}
AreCounted [] (n ∷ ns) = ⊥
AreCounted (c ∷ cs) [] = ⊥
AreCounted (c ∷ cs) (n ∷ ns) = (c.least ≤ n) × AreCounted cs ns

pub counted-start : (libraries k n : ℕ) → AreCounted (new_callers libraries k n) (replicate k 0)
counted-start libraries zero n = tt
counted-start libraries (suc k) n = (omega arith, counted-start libraries k (n + 1))

-- the caller at a place
pub counted-get : (cs : List Caller) (ns : List ℕ) (i : ℕ) (c : Caller) → AreCounted cs ns → slice_get cs i ≡ Some c → c.least ≤ slice_index_or ns i 0
counted-get [] ns i c a e = absurd (cc)
counted-get (x ∷ cs) [] i c a e = absurd a
counted-get (x ∷ cs) (n ∷ ns) zero c a e = subst (λ (y : Caller). y.least ≤ n) (ap (λ o. unwrap_or o x) e) a.0
counted-get (x ∷ cs) (n ∷ ns) (suc i) c a e = counted-get cs ns i c a.1 e

-- another caller stands at its place
pub counted-set : (cs : List Caller) (ns : List ℕ) (i : ℕ) (c d : Caller) → AreCounted cs ns → slice_get cs i ≡ Some c → d.least ≤ slice_index_or ns i 0 →
    AreCounted (slice_set cs i d) ns
counted-set [] ns i c d a e h = absurd (cc)
counted-set (x ∷ cs) [] i c d a e h = absurd a
counted-set (x ∷ cs) (n ∷ ns) zero c d a e h = (h, a.1)
counted-set (x ∷ cs) (n ∷ ns) (suc i) c d a e h = (a.0, counted-set cs ns i c d a.1 e h)

-- a call line more is counted
pub counted-more : (cs : List Caller) (ns : List ℕ) (i : ℕ) → AreCounted cs ns → AreCounted cs (slice_set ns i (slice_index_or ns i 0 + 1))
counted-more [] [] i a = tt
counted-more [] (n ∷ ns) i a = absurd a
counted-more (c ∷ cs) [] i a = absurd a
counted-more (c ∷ cs) (n ∷ ns) zero a = (omega (arith, a.0), a.1)
counted-more (c ∷ cs) (n ∷ ns) (suc i) a = (a.0, counted-more cs ns i a.1)

-- what is then counted at its place
pub counted-here : (cs : List Caller) (ns : List ℕ) (i : ℕ) (c : Caller) → AreCounted cs ns → slice_get cs i ≡ Some c →
    slice_index_or (slice_set ns i (slice_index_or ns i 0 + 1)) i 0 ≡ slice_index_or ns i 0 + 1
counted-here [] ns i c a e = absurd (cc)
counted-here (x ∷ cs) [] i c a e = absurd a
counted-here (x ∷ cs) (n ∷ ns) zero c a e = refl
counted-here (x ∷ cs) (n ∷ ns) (suc i) c a e = counted-here cs ns i c a.1 e

closed-one : (cs : List Caller) (ns : List ℕ) (i : ℕ) (o : Option Caller) → slice_get cs i ≡ o → AreCounted cs ns → AreCounted (closes cs i o) ns
closed-one cs ns i None e a = a
closed-one cs ns i (Some c) e a = counted-set cs ns i c (record c { call = None }) a e (counted-get cs ns i c a e)

closed-by : (cs : List Caller) (ns : List ℕ) (r : Replied) → AreCounted cs ns → AreCounted (closed_by cs r) ns
closed-by cs ns (replied.Call read caller call reply) a = closed-one cs ns caller (slice_get cs caller) refl a
closed-by cs ns (replied.Order reply) a = a

closed-all : (cs : List Caller) (ns : List ℕ) (rs : List Replied) → AreCounted cs ns → AreCounted (all_closed cs rs) ns
closed-all cs ns [] a = a
closed-all cs ns (r ∷ rs) a = closed-all (closed_by cs r) ns rs (closed-by cs ns r a)

counted-if : (t : Trace) (x : Step) (ns : List ℕ) (possible : Bool) → AreCounted t.callers ns → AreCounted (opened_by t.callers x) ns →
    AreCounted (if possible then adds t x (turn t.steps t.world x) else record t { steps = t.steps + 1 }).callers ns
counted-if t x ns true a opened = closed-all (opened_by t.callers x) ns (turn t.steps t.world x).replies opened
counted-if t x ns false a opened = a

-- a step keeps what is counted, where the call that it makes does
pub counted-next : (t : Trace) (x : Step) (ns : List ℕ) → AreCounted t.callers ns → AreCounted (opened_by t.callers x) ns → AreCounted (next t x).callers ns
counted-next t x ns a opened = counted-if t x ns (is_possible t x) a opened
