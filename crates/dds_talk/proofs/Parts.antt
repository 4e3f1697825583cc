use Rattle.std.proofs.Common.{◌≡◌, ℕ, ◌++◌, ◌==◌, ◌&&◌, ◌||◌, Bool, true, false, not, cond, List, [], ◌∷◌, Option, Some, None, is_some, refl, sym, ap, ◌∙◌}
use Rattle.std.proofs.Common.{arith}
use Rattle.std.proofs.lemmas.Bool.Decides.{nat_tests}
use Rattle.std.specs.Ordering.{eq_by_cmp}
use Rattle.std.specs.Cmp.{Equal-is}
use Rattle.std.specs.FinMap.{get, insert, get-insert}
use Rattle.dds_base.specs.Number.{Txn, same_txn}
use Rattle.dds_base.specs.declared.pending.Pending.{Pending}
use Rattle.dds_locks.proofs.Trims.{get-trimmed}
use Rattle.dds_locks.proofs.Txns.{txn_total, txn_antisymmetric}
use Rattle.dds_locks.specs.Outcomes.{OutcomeMap, is_below, trimmed, txn_cmp}
use Rattle.dds_locks.specs.Pending.{first_of, without}
use Rattle.dds_states.specs.Turn.{first_some}
use Rattle.dds_talk.specs.Seen.{noting, is_pending, Once}

-- Pending updates and outcomes, as one attempt sees them.

pub and-true : (a b : Bool) → (a && b) ≡ true → (a ≡ true) × (b ≡ true)
and-true true b e = (refl, e)
and-true false b e = cc

-- attempts
pub is-same : (a b : Txn) → same_txn a b ≡ true → a ≡ b
is-same a b e =
    let w = and-true (a.library == b.library) (a.number == b.number) e in
    let first = w.0 in
    let second = w.1 in
    let l : a.library ≡ b.library = grind (arith, nat_tests, first) in
    let k : a.number ≡ b.number = grind (arith, nat_tests, second) in
    ap (λ (x : ℕ). record { library = x; number = a.number }) l ∙ ap (λ (x : ℕ). record { library = b.library; number = x }) k

pub same-self : (a : Txn) → same_txn a a ≡ true
same-self a = grind (arith, nat_tests)

pub same-swap : (a b : Txn) → same_txn a b ≡ same_txn b a
same-swap a b = grind (arith, nat_tests)

pub pending-push : (ps : List Pending) (p : Pending) (t : Txn) → is_pending (ps ++ p ∷ []) t ≡ (is_pending ps t || same_txn p.txn t)
pending-push [] p t = elim (same_txn p.txn t) as (λ b. is_some (cond b (Some p) None) ≡ b) [ true ↦ refl | false ↦ refl ]
pending-push (x ∷ ps) p t =
    elim (same_txn x.txn t) as (λ b. is_some (cond b (Some x) (first_of (ps ++ p ∷ []) t)) ≡ (is_some (cond b (Some x)
    (first_of ps t)) || same_txn p.txn t)) [ true ↦ refl | false ↦ pending-push ps p t ]

pub head-none : (b : Bool) (x : Pending) (r : Option Pending) → is_some (cond b (Some x) r) ≡ false → (b ≡ false) × (is_some r ≡ false)
head-none true x r e = cc
head-none false x r e = (refl, e)

pub once-push : (ps : List Pending) (p : Pending) → Once ps → is_pending ps p.txn ≡ false → Once (ps ++ p ∷ [])
once-push [] p o f = (refl, tt)
once-push (x ∷ ps) p o f =
    let w : (same_txn x.txn p.txn ≡ false) × (is_pending ps p.txn ≡ false) = head-none (same_txn x.txn p.txn) x (first_of ps p.txn) f in
    (pending-push ps p x.txn ∙ ap (λ b. b || same_txn p.txn x.txn) o.0 ∙ same-swap p.txn x.txn ∙ w.0, once-push ps p o.1 w.1)

other-head : (b : Bool) (x : Pending) (ps : List Pending) (u t : Txn) → same_txn x.txn u ≡ b → same_txn u t ≡ false
    → is_pending (without ps u) t ≡ is_pending ps t → is_pending (cond b ps (x ∷ without ps u)) t ≡ is_pending (x ∷ ps) t
other-head true x ps u t s e h = let k : same_txn x.txn t ≡ false = ap (λ (a : Txn). same_txn a t) (is-same x.txn u s) ∙ e in rw k refl
other-head false x ps u t s e h = elim (same_txn x.txn t) as (λ b. is_some (cond b (Some x) (first_of (without ps u) t)) ≡ is_some (cond b (Some x)
    (first_of ps t))) [ true ↦ refl | false ↦ h ]

pub pending-other : (ps : List Pending) (u t : Txn) → same_txn u t ≡ false → is_pending (without ps u) t ≡ is_pending ps t
pending-other [] u t e = refl
pending-other (x ∷ ps) u t e = other-head (same_txn x.txn u) x ps u t refl e (pending-other ps u t e)

gone-head : (b : Bool) (x : Pending) (ps : List Pending) (u : Txn) → same_txn x.txn u ≡ b → Once (x ∷ ps) → is_pending (without ps u) u ≡ false
    → is_pending (cond b ps (x ∷ without ps u)) u ≡ false
gone-head true x ps u s o h = ap (is_pending ps) (sym (is-same x.txn u s)) ∙ o.0
gone-head false x ps u s o h = rw s h

pub pending-gone : (ps : List Pending) (u : Txn) → Once ps → is_pending (without ps u) u ≡ false
pending-gone [] u o = refl
pending-gone (x ∷ ps) u o = gone-head (same_txn x.txn u) x ps u refl o (pending-gone ps u o.1)

fewer : (ps : List Pending) (u t : Txn) → is_pending ps t ≡ false → is_pending (without ps u) t ≡ false
fewer [] u t e = refl
fewer (x ∷ ps) u t e =
    let w : (same_txn x.txn t ≡ false) × (is_pending ps t ≡ false) = head-none (same_txn x.txn t) x (first_of ps t) e in
    elim (same_txn x.txn u) as (λ b. is_pending (cond b ps (x ∷ without ps u)) t ≡ false) [ true ↦ w.1 | false ↦ let k = w.0 in rw k (fewer ps u t w.1) ]

pub once-without : (ps : List Pending) (u : Txn) → Once ps → Once (without ps u)
once-without [] u o = tt
once-without (x ∷ ps) u o =
    elim (same_txn x.txn u) as (λ b. Once (cond b ps (x ∷ without ps u))) [ true ↦ o.1 | false ↦ (fewer ps u x.txn o.0, once-without ps u o.1) ]

-- what is noted
abbrev pub Agrees : OutcomeMap → (Txn → Option Bool) → Type 0
Agrees m noted = (t : Txn) → noting m noted t ≡ noted t

cond-agrees : (k : Bool) (g n : Option Bool) → first_some g n ≡ n → first_some (cond k g None) n ≡ n
cond-agrees true g n e = e
cond-agrees false g n e = refl

pub trim-agrees : (m : OutcomeMap) (noted : Txn → Option Bool) (library below : ℕ) → Agrees m noted → Agrees (trimmed m library below) noted
trim-agrees m noted library below a t =
    ap (λ g. first_some g (noted t)) (get-trimmed m library below t) ∙ cond-agrees (not (is_below library below t)) (get m t) (noted t) (a t)

is-equal : (a b : Txn) → eq_by_cmp txn_cmp a b ≡ true → a ≡ b
is-equal a b h = txn_antisymmetric a b ((Equal-is (txn_cmp a b)).0 h)

not-equal : (a b : Txn) → same_txn a b ≡ false → (c : Bool) → eq_by_cmp txn_cmp b a ≡ c → c ≡ false
not-equal a b e true h = let k : true ≡ false = sym (same-self a) ∙ ap (same_txn a) (sym (is-equal b a h)) ∙ e in cc
not-equal a b e false h = refl

pub get-other : (m : OutcomeMap) (u t : Txn) (c : Bool) → same_txn u t ≡ false → get (insert m u c) t ≡ get m t
get-other m u t c e = get-insert txn_total m u c t ∙ ap (λ b. cond b (Some c) (get m t)) (not-equal u t e (eq_by_cmp txn_cmp t u) refl)

pub noted-other : (m : OutcomeMap) (noted : Txn → Option Bool) (u t : Txn) (c : Bool) → Agrees m noted → same_txn u t ≡ false
    → noting (insert m u c) noted t ≡ noted t
noted-other m noted u t c a e =
    ap (λ g. first_some g (noted t)) (get-insert txn_total m u c t ∙ ap (λ b. cond b (Some c) (get m t)) (not-equal u t e (eq_by_cmp txn_cmp t u) refl)) ∙ a t

equal-self : (t : Txn) → eq_by_cmp txn_cmp t t ≡ true
equal-self t = grind (arith, nat_tests)

pub get-this : (m : OutcomeMap) (t : Txn) (c : Bool) → get (insert m t c) t ≡ Some c
get-this m t c = get-insert txn_total m t c t ∙ ap (λ b. cond b (Some c) (get m t)) (equal-self t)

pub noted-this : (m : OutcomeMap) (noted : Txn → Option Bool) (t : Txn) (c : Bool) → noting (insert m t c) noted t ≡ Some c
noted-this m noted t c =
    ap (λ g. first_some g (noted t)) (get-insert txn_total m t c t ∙ ap (λ b. cond b (Some c) (get m t)) (equal-self t))
