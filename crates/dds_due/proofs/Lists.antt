use Rattle.std.proofs.Common.{◌≡◌, ℕ, zero, suc, ◌⊎◌, inl, inr, Option, Some, None, List, [], ◌∷◌, ◌++◌, subst}
use Rattle.std.specs.List.{insert, remove}
use Rattle.std.specs.Prelude.{option_to_list, slice_get}
use Rattle.dds_core.specs.LibraryTurn.{put_back}
use Rattle.dds_states.specs.declared.library_state.OpenCall.{OpenCall}
use Rattle.dds_due.specs.Opened.{OfOne}

-- What holds of one of a list's items, where one is taken out, put in or added.

pub one-map : {X : Type 0} (P Q : X → Type 0) (xs : List X) → ((x : X) → P x → Q x) → OfOne P xs → OfOne Q xs
one-map P Q [] f h = h
one-map P Q (x ∷ xs) f h = elim h [ inl p ↦ inl (f x p) | inr k ↦ inr (one-map P Q xs f k) ]

pub one-front : {X : Type 0} (P : X → Type 0) (xs ys : List X) → OfOne P xs → OfOne P (xs ++ ys)
one-front P [] ys h = absurd h
one-front P (x ∷ xs) ys h = elim h [ inl p ↦ inl p | inr k ↦ inr (one-front P xs ys k) ]

pub one-end : {X : Type 0} (P : X → Type 0) (xs ys : List X) → OfOne P ys → OfOne P (xs ++ ys)
one-end P [] ys h = h
one-end P (x ∷ xs) ys h = inr (one-end P xs ys h)

pub one-taken : {X : Type 0} (P : X → Type 0) (xs : List X) (i : ℕ) (x : X) → slice_get xs i ≡ Some x → OfOne P xs → P x ⊎ OfOne P (remove xs i)
one-taken P [] i x e h = absurd h
one-taken P (y ∷ xs) zero x e h = let is : y ≡ x = cc in elim h [ inl p ↦ inl (subst P is p) | inr k ↦ inr k ]
one-taken P (y ∷ xs) (suc i) x e h = elim h [
  | inl p ↦ inr (inl p)
  | inr k ↦ elim (one-taken P xs i x e k) [ inl p ↦ inl p | inr m ↦ inr (inr m) ]
]

pub one-put : {X : Type 0} (P : X → Type 0) (xs : List X) (i : ℕ) (x : X) → P x → OfOne P (insert xs i x)
one-put P xs zero x p = inl p
one-put P [] (suc i) x p = inl p
one-put P (y ∷ xs) (suc i) x p = inr (one-put P xs i x p)

pub one-beside : {X : Type 0} (P : X → Type 0) (xs : List X) (i : ℕ) (x : X) → OfOne P xs → OfOne P (insert xs i x)
one-beside P xs zero x h = inr h
one-beside P [] (suc i) x h = absurd h
one-beside P (y ∷ xs) (suc i) x h = elim h [ inl p ↦ inl p | inr k ↦ inr (one-beside P xs i x k) ]

-- the calls with the one at a place after its turn
pub back-beside : (P : OpenCall → Type 0) (xs : List OpenCall) (i : ℕ) (o : Option OpenCall) → OfOne P xs → OfOne P (put_back xs i o)
back-beside P xs i None h = h
back-beside P xs i (Some x) h = one-beside P xs i x h

pub back-put : (P : OpenCall → Type 0) (xs : List OpenCall) (i : ℕ) (o : Option OpenCall) (x : OpenCall) → o ≡ Some x → P x → OfOne P (put_back xs i o)
back-put P xs i None x e p = cc
back-put P xs i (Some y) x e p = let is : x ≡ y = cc in one-put P xs i y (subst P is p)

pub end-put : (P : OpenCall → Type 0) (xs : List OpenCall) (o : Option OpenCall) (x : OpenCall) → o ≡ Some x → P x → OfOne P (xs ++ option_to_list o)
end-put P xs None x e p = cc
end-put P xs (Some y) x e p = let is : x ≡ y = cc in one-end P xs (y ∷ []) (inl (subst P is p))
