-- A search by halves tells whether a key is in a list of keys in their order.
use Rattle.std.proofs.Common.{◌≡◌, ℕ, ◌≤◌, ◌<◌, Bool, true, false, ◌||◌, List, [], ◌∷◌, get_or, length, suc, refl, ap, sym, ◌∙◌}
use Rattle.std.proofs.Common.{Result, Ok, Err, arith}
use Rattle.std.specs.Prelude.{is_ok, nat_lt}
use Rattle.std.specs.Cmp.{IsTotalOrder}
use Rattle.std.specs.List.{list_any}
use Rattle.std.specs.List.Sorted.{IsBinarySearchResult, IsSearchInRange, IsSorted}
use Rattle.std.specs.Ordering.{is_eq}
use Rattle.std.specs.declared.cmp.Ordering.{Ordering}
use Rattle.std.specs.declared.cmp.Ordering.TheVariants.{Less, Greater}
use Rattle.std.proofs.lemmas.Bool.Decides.{nat_tests}
use Rattle.std.proofs.lemmas.List.Folds.{list_any_at}
use Rattle.std.proofs.lemmas.List.Sorted.{searchable_from_sorted}

none-any : {K : Type 0} (p : K → Bool) (xs : List K) → ((k : ℕ) (d : K) → k < length xs → p (get_or xs k d) ≡ false) → list_any p xs ≡ false
none-any p [] h = refl
none-any p (x ∷ xs) h = ap (λ b. b || list_any p xs) (h 0 x (omega arith)) ∙ none-any p xs (λ k d l. h (suc k) d (omega (arith, l)))

-- a key before a place is less, and one from there on is greater
neither : {K : Type 0} (ord : K → Ordering) (xs : List K) (i : ℕ) → ((k : ℕ) (d : K) → 0 ≤ k → k < i → ord (get_or xs k d) ≡ Less) →
    ((k : ℕ) (d : K) → i ≤ k → k < length xs → ord (get_or xs k d) ≡ Greater) → list_any (λ x. is_eq (ord x)) xs ≡ false
neither {K} ord xs i low high = none-any (λ x. is_eq (ord x)) xs (λ k d l. at k d l (nat_lt k i) refl)
  where
    at : (k : ℕ) (d : K) → k < length xs → (b : Bool) → nat_lt k i ≡ b → is_eq (ord (get_or xs k d)) ≡ false
    at k d l true e = ap is_eq (low k d (omega arith) (grind (arith, nat_tests, e)))
    at k d l false e = ap is_eq (high k d (grind (arith, nat_tests, e)) l)

pub searched : {K : Type 0} {cmp : K → K → Ordering} (o : IsTotalOrder cmp) (xs : List K) (q : K) (r : Result ℕ ℕ) → IsSorted cmp xs →
    IsSearchInRange r (length xs) → IsBinarySearchResult (λ y. cmp y q) xs r → is_ok r ≡ list_any (λ x. is_eq (cmp x q)) xs
searched {cmp = cmp} o xs q (Ok i) sorted inside found = sym (list_any_at (λ x. is_eq (cmp x q)) xs i q inside (ap is_eq (found q)))
searched {cmp = cmp} o xs q (Err i) sorted inside parted =
    let parts = parted (searchable_from_sorted o (λ x. x) xs q sorted) in
    sym (neither (λ y. cmp y q) xs i parts.0 parts.1)
