use Rattle.std.proofs.Common.{◌≡◌, ℕ, zero, suc, ◌<◌, ◌||◌, Bool, true, false, Some, List, [], ◌∷◌, refl, sym, ap, ◌∙◌, subst}
use Rattle.std.specs.List.{list_any}
use Rattle.std.specs.Prelude.{filter, slice_get, if◌then◌else◌}
use Rattle.dds_calls.proofs.Told.{At}
use Rattle.dds_cluster.specs.declared.trace.Made.{Made}
use Rattle.dds_core.proofs.Lists.{all-is}
use Rattle.dds_net.proofs.Pairwise.{Pairwise}
use Rattle.dds_world.specs.Stands.{AtMostOneAfter}

-- One item of a list: among those that pass a test; found by one; the one of some that are apart.

at-next : {X : Type 0} (y x : X) (xs : List X) → At xs x → At (y ∷ xs) x
at-next y x xs h = record { index = suc h.index; there = h.there }

pub at-filter : {X : Type 0} (p : X → Bool) (xs : List X) (i : ℕ) (x : X) → slice_get xs i ≡ Some x → p x ≡ true → At (filter p xs) x
at-filter p [] i x e h = cc
at-filter p (y ∷ xs) zero x e h =
    let is : y ≡ x = cc in
    subst (λ b. At (if b then y ∷ filter p xs else filter p xs) x) (sym (ap p is ∙ h)) (record { index = zero; there = e })
at-filter p (y ∷ xs) (suc i) x e h = by (p y) (at-filter p xs i x e h)
  where
    by : (b : Bool) → At (filter p xs) x → At (if b then y ∷ filter p xs else filter p xs) x
    by true k = at-next y x (filter p xs) k
    by false k = k

or-right : (x y : Bool) → y ≡ true → (x || y) ≡ true
or-right true y e = refl
or-right false y e = e

pub any-there : {X : Type 0} (p : X → Bool) (xs : List X) (i : ℕ) (x : X) → slice_get xs i ≡ Some x → p x ≡ true → list_any p xs ≡ true
any-there p [] i x e h = cc
any-there p (y ∷ xs) zero x e h =
    let is : y ≡ x = cc in
    ap (λ b. b || list_any p xs) (ap p is ∙ h)
any-there p (y ∷ xs) (suc i) x e h = or-right (p y) (list_any p xs) (any-there p xs i x e h)

pub record Found {X : Type 0} (p : X → Bool) (xs : List X) : Type 0 where
  pub index : ℕ
  pub it : X
  pub there : slice_get xs index ≡ Some it
  pub is : p it ≡ true

pub found : {X : Type 0} (p : X → Bool) (xs : List X) → list_any p xs ≡ true → Found p xs
found p [] e = cc
found p (x ∷ xs) e = by (p x) refl e (found p xs)
  where
    by : (b : Bool) → p x ≡ b → (b || list_any p xs) ≡ true → (list_any p xs ≡ true → Found p xs) → Found p (x ∷ xs)
    by true is f rest = record { index = zero; it = x; there = refl; is = is }
    by false is f rest = let k = rest f in record { index = suc k.index; it = k.it; there = k.there; is = k.is }

-- two items that aren't apart are one
pub one-item : {X : Type 0} (R : X → X → Type 0) (xs : List X) (i j : ℕ) (x y : X) → Pairwise R xs → slice_get xs i ≡ Some x → slice_get xs j ≡ Some y
    → (R x y → ⊥) → (R y x → ⊥) → x ≡ y
one-item R [] i j x y h e f n m = cc
one-item R (a ∷ xs) zero zero x y h e f n m = let same : Some x ≡ Some y = sym e ∙ f in cc
one-item R (a ∷ xs) zero (suc j) x y h e f n m =
    let is : a ≡ x = cc in
    absurd (n (subst (λ b. R b y) is (all-is (R a) xs j y h.0 f)))
one-item R (a ∷ xs) (suc i) zero x y h e f n m =
    let is : a ≡ y = cc in
    absurd (m (subst (λ b. R b x) is (all-is (R a) xs i x h.0 e)))
one-item R (a ∷ xs) (suc i) (suc j) x y h e f n m = one-item R xs i j x y h.1 e f n m

-- of at most one item
pub record Only (at : ℕ) (ms : List Made) (m : Made) : Type 0 where
  pub only : ms ≡ m ∷ []
  pub behind : at < m.place

pub the-only : (at : ℕ) (ms : List Made) (m : Made) → AtMostOneAfter at ms → At ms m → Only at ms m
the-only at [] m h k = let no = k.there in cc
the-only at (x ∷ []) m h k = first k.index k.there
  where
    first : (i : ℕ) → slice_get (x ∷ []) i ≡ Some m → Only at (x ∷ []) m
    first zero e =
        let is : x ≡ m = cc in
        record { only = ap (λ y. y ∷ []) is; behind = subst (λ (y : Made). at < y.place) is h }
    first (suc i) e = cc
the-only at (x ∷ y ∷ ms) m h k = absurd h
