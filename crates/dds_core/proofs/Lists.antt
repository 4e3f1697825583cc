use Rattle.std.proofs.Common.{◌≡◌, ℕ, zero, suc, Bool, true, false, Some, List, [], ◌∷◌, ◌++◌, subst}
use Rattle.std.specs.List.{AllByRecursion, insert, remove}
use Rattle.std.specs.Prelude.{filter, slice_get, if◌then◌else◌}

-- What holds of each item of a list.

pub this-one : {X : Type 0} (P : X → Type 0) (c x : X) → Some c ≡ Some x → P c → P x
this-one P c x e h = let is : c ≡ x = cc in subst P is h

pub all-map : {X : Type 0} (P Q : X → Type 0) (xs : List X) → ((x : X) → P x → Q x) → AllByRecursion P xs → AllByRecursion Q xs
all-map P Q [] f h = tt
all-map P Q (x ∷ xs) f h = (f x h.0, all-map P Q xs f h.1)

pub all-append : {X : Type 0} (P : X → Type 0) (xs ys : List X) → AllByRecursion P xs → AllByRecursion P ys → AllByRecursion P (xs ++ ys)
all-append P [] ys h k = k
all-append P (x ∷ xs) ys h k = (h.0, all-append P xs ys h.1 k)

pub all-front : {X : Type 0} (P : X → Type 0) (xs ys : List X) → AllByRecursion P (xs ++ ys) → AllByRecursion P xs
all-front P [] ys h = tt
all-front P (x ∷ xs) ys h = (h.0, all-front P xs ys h.1)

pub all-both : {X : Type 0} (P Q : X → Type 0) (xs : List X) → AllByRecursion P xs → AllByRecursion Q xs → AllByRecursion (λ x. P x × Q x) xs
all-both P Q [] h k = tt
all-both P Q (x ∷ xs) h k = ((h.0, k.0), all-both P Q xs h.1 k.1)

all-if : {X : Type 0} (P : X → Type 0) (c : Bool) (x : X) (xs : List X) → P x → AllByRecursion P xs → AllByRecursion P (if c then x ∷ xs else xs)
all-if P true x xs h k = (h, k)
all-if P false x xs h k = k

pub all-filter : {X : Type 0} (P : X → Type 0) (p : X → Bool) (xs : List X) → AllByRecursion P xs → AllByRecursion P (filter p xs)
all-filter P p [] h = tt
all-filter P p (x ∷ xs) h = all-if P (p x) x (filter p xs) h.0 (all-filter P p xs h.1)

-- one of them, the others, and one put between them
pub all-is : {X : Type 0} (P : X → Type 0) (xs : List X) (i : ℕ) (x : X) → AllByRecursion P xs → slice_get xs i ≡ Some x → P x
all-is P [] i x h e = cc
all-is P (y ∷ xs) zero x h e = let is : y ≡ x = cc in subst P is h.0
all-is P (y ∷ xs) (suc i) x h e = all-is P xs i x h.1 e

pub all-taken : {X : Type 0} (P : X → Type 0) (xs : List X) (i : ℕ) → AllByRecursion P xs → AllByRecursion P (remove xs i)
all-taken P [] zero h = tt
all-taken P [] (suc i) h = tt
all-taken P (x ∷ xs) zero h = h.1
all-taken P (x ∷ xs) (suc i) h = (h.0, all-taken P xs i h.1)

pub all-put : {X : Type 0} (P : X → Type 0) (xs : List X) (i : ℕ) (x : X) → P x → AllByRecursion P xs → AllByRecursion P (insert xs i x)
all-put P xs zero x h k = (h, k)
all-put P [] (suc i) x h k = (h, tt)
all-put P (y ∷ xs) (suc i) x h k = (k.0, all-put P xs i x h k.1)
