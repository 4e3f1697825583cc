use Rattle.std.proofs.Common.{◌≡◌, ℕ, ◌+◌, ◌==◌, ◌&&◌, ◌<◌, ◌≤◌, Bool, true, false, cond, ltb, List, [], ◌∷◌, length, take, drop, get_or, refl, ◌∙◌, sym, arith}
use Rattle.std.proofs.lemmas.Bool.Decides.{nat_tests}
use Rattle.std.proofs.lemmas.List.{drop_all, drop_more, get_or-take, length-take-le}
use Rattle.dds_groups.specs.Leaves.{is_some_of}

-- an empty list is some members of any
pub some-none : (xs : List ℕ) → is_some_of xs [] ≡ true
some-none [] = refl
some-none (x ∷ xs) = refl

-- one member more of the first list, while some of the second are left
some-step : (xs ys : List ℕ) (i j : ℕ) → i < length xs → j < length ys →
    is_some_of (drop i xs) (drop j ys) ≡ cond (get_or xs i 0 == get_or ys j 0) (is_some_of (drop (i + 1) xs) (drop (j + 1) ys))
    (is_some_of (drop (i + 1) xs) (drop j ys))
some-step xs ys i j hi hj =
    let a : drop i xs ≡ get_or xs i 0 ∷ drop (i + 1) xs = drop_more xs i 0 hi in
    let b : drop j ys ≡ get_or ys j 0 ∷ drop (j + 1) ys = drop_more ys j 0 hj in
    rw (a, b) refl

cond-in : (b : Bool) (xs ys : List ℕ) (j : ℕ) →
    cond b (is_some_of xs (drop (j + 1) ys)) (is_some_of xs (drop j ys)) ≡ is_some_of xs (drop (cond b (j + 1) j) ys)
cond-in true xs ys j = refl
cond-in false xs ys j = refl

-- the step of a loop over the first list that looks for the first `n` of the second and has met `j` of them
pub some-more : (xs ys : List ℕ) (i j n : ℕ) → i < length xs → j ≤ n → n ≤ length ys →
    is_some_of (drop i xs) (drop j (take n ys)) ≡ is_some_of (drop (i + 1) xs) (drop (cond (ltb j n && get_or xs i 0 == get_or ys j 0) (j + 1) j) (take n ys))
some-more xs ys i j n hi hj hn =
    elim (ltb j n) as (λ t. ltb j n ≡ t → is_some_of (drop i xs) (drop j (take n ys))
    ≡ is_some_of (drop (i + 1) xs) (drop (cond (t && get_or xs i 0 == get_or ys j 0) (j + 1) j) (take n ys))) [
      | true ↦ λ e. let k : j < n = grind (arith, nat_tests, e) in let len : j < length (take n ys) = omega (arith, length-take-le n ys hn) in
          rw (← get_or-take n ys j 0 k) (some-step xs (take n ys) i j hi len
          ∙ cond-in (get_or xs i 0 == get_or (take n ys) j 0) (drop (i + 1) xs) (take n ys) j)
      | false ↦ λ e. let past : n ≤ j = grind (arith, nat_tests, e) in
          let none : drop j (take n ys) ≡ [] = drop_all j (take n ys) (omega (arith, length-take-le n ys hn)) in
          rw none (some-none (drop i xs) ∙ sym (some-none (drop (i + 1) xs)))
    ] refl

-- the end of that loop
pub some-end : (xs ys : List ℕ) (i j n : ℕ) → length xs ≤ i → j ≤ n → n ≤ length ys → is_some_of (drop i xs) (drop j (take n ys)) ≡ (j == n)
some-end xs ys i j n hi hj hn =
    let none : drop i xs ≡ [] = drop_all i xs hi in
    elim (ltb j n) as (λ t. ltb j n ≡ t → is_some_of (drop i xs) (drop j (take n ys)) ≡ (j == n)) [
      | true ↦ λ e. let k : j < n = grind (arith, nat_tests, e) in let len : j < length (take n ys) = omega (arith, length-take-le n ys hn) in
          let b : drop j (take n ys) ≡ get_or (take n ys) j 0 ∷ drop (j + 1) (take n ys) = drop_more (take n ys) j 0 len in
          let ne : (j == n) ≡ false = grind (arith, nat_tests) in rw (none, b, ne) refl
      | false ↦ λ e. let past : n ≤ j = grind (arith, nat_tests, e) in
          let b : drop j (take n ys) ≡ [] = drop_all j (take n ys) (omega (arith, length-take-le n ys hn)) in
          let eq : (j == n) ≡ true = grind (arith, nat_tests) in rw (none, b, eq) refl
    ] refl
