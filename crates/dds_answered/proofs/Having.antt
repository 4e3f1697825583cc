use Rattle.std.proofs.Common.{◌≡◌, ℕ, zero, suc, ◌⊎◌, inl, inr, ◌&&◌, ◌||◌, Bool, true, false, not, Some, List, [], ◌∷◌, ◌++◌, length}
use Rattle.std.proofs.Common.{refl, subst, append_assoc}
use Rattle.std.proofs.lemmas.Bool.{and_parts}
use Rattle.std.specs.Prelude.{slice_get, if◌then◌else◌}
use Rattle.dds_base.specs.Number.{Txn, same_txn}
use Rattle.dds_base.specs.Op.{is_get}
use Rattle.dds_base.specs.declared.op.Reply.{Reply}
use Rattle.dds_calls.proofs.Asked.{get-end, get-front}
use Rattle.dds_cluster.specs.Trace.{all_kept, is_applied, kept}
use Rattle.dds_cluster.specs.declared.trace.Made.{Made}
use Rattle.dds_core.proofs.CallTurns.{same-is}

-- What is so of one of the points of a run. The points only grow; of a turn's points each is there, or one of its attempt before it.

pub record Has (made : List Made) (P : Made → Type 0) : Type 0 where
  pub index : ℕ
  pub it : Made
  pub there : slice_get made index ≡ Some it
  pub is : P it

pub has-later : (made more : List Made) (P : Made → Type 0) → Has made P → Has (made ++ more) P
has-later made more P h = record { index = h.index; it = h.it; there = get-front made more h.index h.it h.there; is = h.is }

pub has-map : (made : List Made) (P Q : Made → Type 0) → ((m : Made) → P m → Q m) → Has made P → Has made Q
has-map made P Q f h = record { index = h.index; it = h.it; there = h.there; is = f h.it h.is }

-- a point of this attempt's update, and one of what its get read
abbrev pub IsUpdateOf : Txn → Made → Type 0
IsUpdateOf txn m = (m.txn ≡ txn) × (is_get m.entry.op ≡ false)

abbrev pub IsReadOf : Txn → Reply → Made → Type 0
IsReadOf txn reply m = (m.txn ≡ txn) × (is_get m.entry.op ≡ true) × (m.entry.reply ≡ reply)

-- an attempt that was applied has a point
not-true : (b : Bool) → not b ≡ true → b ≡ false
not-true true e = cc
not-true false e = refl

applied-if : (m : Made) (ms : List Made) (txn : Txn) (c : Bool) → (same_txn m.txn txn && not (is_get m.entry.op)) ≡ c → (c || is_applied ms txn) ≡ true
    → (is_applied ms txn ≡ true → Has ms (IsUpdateOf txn)) → Has (m ∷ ms) (IsUpdateOf txn)
applied-if m ms txn true e f rest =
    let p = and_parts (same_txn m.txn txn) (not (is_get m.entry.op)) e in
    record { index = zero; it = m; there = refl; is = (same-is m.txn txn p.0, not-true (is_get m.entry.op) p.1) }
applied-if m ms txn false e f rest = let k = rest f in record { index = suc k.index; it = k.it; there = k.there; is = k.is }

applied-there : (made : List Made) (txn : Txn) → is_applied made txn ≡ true → Has made (IsUpdateOf txn)
applied-there [] txn e = cc
applied-there (m ∷ ms) txn e = applied-if m ms txn (same_txn m.txn txn && not (is_get m.entry.op)) refl e (applied-there ms txn)

-- the point itself, or an update of its attempt, where it is one
abbrev pub Instead : Made → Made → Type 0
Instead m x = (x ≡ m) ⊎ ((is_get m.entry.op ≡ false) × IsUpdateOf m.txn x)

at-end : (made : List Made) (m : Made) → Has (made ++ m ∷ []) (Instead m)
at-end made m = record { index = length made; it = m; there = get-end made m; is = inl refl }

kept-here : (made : List Made) (m : Made) (b c : Bool) → is_get m.entry.op ≡ b → is_applied made m.txn ≡ c
    → Has (made ++ (if not b && c then [] else m ∷ [])) (Instead m)
kept-here made m false true g e =
    has-later made [] (Instead m) (has-map made (IsUpdateOf m.txn) (Instead m) (λ x h. inr (g, h)) (applied-there made m.txn e))
kept-here made m false false g e = at-end made m
kept-here made m true c g e = at-end made m

pub kept-in : (made ms : List Made) (i : ℕ) (m : Made) → slice_get ms i ≡ Some m → Has (made ++ all_kept made ms) (Instead m)
kept-in made [] i m e = cc
kept-in made (x ∷ ms) zero m e =
    let is : x ≡ m = cc in
    subst (λ y. Has (made ++ all_kept made (x ∷ ms)) (Instead y)) is
    (subst (λ ys. Has ys (Instead x)) (append_assoc made (kept made x) (all_kept (made ++ kept made x) ms))
    (has-later (made ++ kept made x) (all_kept (made ++ kept made x) ms) (Instead x)
    (kept-here made x (is_get x.entry.op) (is_applied made x.txn) refl refl)))
kept-in made (x ∷ ms) (suc i) m e =
    subst (λ ys. Has ys (Instead m)) (append_assoc made (kept made x) (all_kept (made ++ kept made x) ms)) (kept-in (made ++ kept made x) ms i m e)
