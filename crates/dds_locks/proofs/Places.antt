-- Lists without their first item that passes a test.
use Rattle.std.proofs.Common.{◌≡◌, ℕ, ◌+◌, ◌<◌, ◌≤◌, Bool, true, false, not, cond, ltb, List, [], ◌∷◌, ◌++◌, length, drop, Some, None, refl}
use Rattle.std.proofs.Common.{ap, sym, ◌∙◌, zero, suc, arith, slice_get, slice_index_or}
use Rattle.std.proofs.lemmas.Bool.Decides.{nat_tests}
use Rattle.std.proofs.lemmas.List.{append-nil, take_all, drop_all}
use Rattle.std.specs.List.{position, position_or_len, remove, find}
use Rattle.std.proofs.lemmas.List.Folds.{find_at}
use Rattle.dds_locks.specs.First.{without_first}

removed-next : {X : Type 0} (x : X) (xs : List X) (n m : ℕ) → m ≡ suc n → remove (x ∷ xs) m ≡ x ∷ remove xs n
removed-next x xs n m h = ap (remove (x ∷ xs)) h

-- taking out the item at the first place that passes
removed-first : {X : Type 0} (test : X → Bool) (xs : List X) → remove xs (position_or_len test xs) ≡ without_first test xs
removed-first test [] = refl
removed-first test (x ∷ xs) =
    elim (test x) as (λ b. remove (x ∷ xs) (cond (not b) (1 + position_or_len test xs) 0) ≡ cond b xs (x ∷ without_first test xs)) [
      | true ↦ refl
      | false ↦ removed-next x xs (position_or_len test xs) (1 + position_or_len test xs) (omega arith)
          ∙ ap (λ ys. x ∷ ys) (removed-first test xs)
    ]

place-is : (b : Bool) (n i : ℕ) → cond b (Some n) None ≡ Some i → n ≡ i
place-is true n i h = cc
place-is false n i h = cc

no-place : (b : Bool) (n : ℕ) → cond b (Some n) None ≡ None → b ≡ false
no-place true n h = cc
no-place false n h = refl

past : {X : Type 0} (test : X → Bool) (xs : List X) → position test xs ≡ None → length xs ≤ position_or_len test xs
past test xs h =
    let b : ltb (position_or_len test xs) (length xs) ≡ false = no-place (ltb (position_or_len test xs) (length xs)) (position_or_len test xs) h in
    grind (arith, nat_tests, b)

slice_get-past : {X : Type 0} (xs : List X) (i : ℕ) → length xs ≤ i → slice_get xs i ≡ None
slice_get-past [] i h = refl
slice_get-past (x ∷ xs) zero h = absurd (omega (arith, h))
slice_get-past (x ∷ xs) (suc i) h = slice_get-past xs i (omega (arith, h))

-- where `position` gives a place, it is that of the first item that passes
pub removed-at : {X : Type 0} (test : X → Bool) (xs : List X) (i : ℕ) → position test xs ≡ Some i → remove xs i ≡ without_first test xs
removed-at test xs i h =
    ap (remove xs) (sym (place-is (ltb (position_or_len test xs) (length xs)) (position_or_len test xs) i h)) ∙ removed-first test xs

pub found-at : {X : Type 0} (test : X → Bool) (xs : List X) (i : ℕ) → position test xs ≡ Some i → find test xs ≡ slice_get xs i
found-at test xs i h =
    find_at test xs ∙ ap (slice_get xs) (place-is (ltb (position_or_len test xs) (length xs)) (position_or_len test xs) i h)

-- where `position` gives none, no item passes
pub removed-none : {X : Type 0} (test : X → Bool) (xs : List X) → position test xs ≡ None → xs ≡ without_first test xs
removed-none test xs h =
    let p : length xs ≤ position_or_len test xs = past test xs h in
    sym (ap (λ ys. ys ++ drop (suc (position_or_len test xs)) xs) (take_all (position_or_len test xs) xs p)
    ∙ ap (λ ys. xs ++ ys) (drop_all (suc (position_or_len test xs)) xs (omega (arith, p))) ∙ append-nil xs) ∙ removed-first test xs

pub found-none : {X : Type 0} (test : X → Bool) (xs : List X) → position test xs ≡ None → find test xs ≡ None
found-none test xs h = find_at test xs ∙ slice_get-past xs (position_or_len test xs) (past test xs h)

-- an item within the list
pub slice_get-within : {X : Type 0} (xs : List X) (i : ℕ) (x : X) → i < length xs → x ≡ slice_index_or xs i x → slice_get xs i ≡ Some x
slice_get-within [] i x h e = absurd (omega (arith, h))
slice_get-within (y ∷ xs) zero x h e = ap Some (sym e)
slice_get-within (y ∷ xs) (suc i) x h e = slice_get-within xs i x (omega (arith, h)) e
