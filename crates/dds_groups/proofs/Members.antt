-- Laws of the live members of a list, and of some members of it.
use Rattle.std.proofs.Common.{◌≡◌, ℕ, ◌+◌, ◌==◌, ◌&&◌, ◌||◌, ◌<◌, ◌≤◌, Bool, true, false, not, cond, eqb, List, [], ◌∷◌, ◌++◌, length, take}
use Rattle.std.proofs.Common.{get_or, refl, ap, ◌∙◌, sym, IsTrue, arith, zero, suc}
use Rattle.std.proofs.lemmas.Bool.Decides.{nat_tests}
use Rattle.std.proofs.lemmas.List.{take_more}
use Rattle.dds_base.specs.BrickList.{has, are_bricks}
use Rattle.dds_groups.specs.Leaves.{is_some_of, live}

same-number : (x n : ℕ) → eqb x n ≡ true → x ≡ n
same-number x n h = grind (arith, nat_tests, h)

and-false : (b : Bool) → (b && false) ≡ false
and-false true = refl
and-false false = refl

other-number : (xs : List ℕ) (x n : ℕ) → has xs x ≡ false → has xs n ≡ true → eqb x n ≡ false
other-number xs x n new there =
    elim (eqb x n) as (λ t. eqb x n ≡ t → t ≡ false)
    [ true ↦ λ t. let same : x ≡ n = same-number x n t in let off : has xs n ≡ false = rw same at new in cc | false ↦ λ t. refl ] refl

-- the live members of two lists together
pub live-append : (xs ys : List ℕ) (known : ℕ → Bool) → live (xs ++ ys) known ≡ live xs known ++ live ys known
live-append [] ys known = refl
live-append (x ∷ xs) ys known =
    elim (known x) as (λ b. cond b (live (xs ++ ys) known) (x ∷ live (xs ++ ys) known) ≡ cond b (live xs known) (x ∷ live xs known) ++ live ys known)
    [ true ↦ live-append xs ys known | false ↦ ap (λ zs. x ∷ zs) (live-append xs ys known) ]

live-last : (zs : List ℕ) (x : ℕ) (b : Bool) → zs ++ cond b [] (x ∷ []) ≡ cond b zs (zs ++ x ∷ [])
live-last [] x true = refl
live-last [] x false = refl
live-last (z ∷ zs) x true = ap (λ ws. z ∷ ws) (live-last zs x true)
live-last (z ∷ zs) x false = refl

-- the live ones among one member more
pub live-more : (xs : List ℕ) (i : ℕ) (known : ℕ → Bool) → i < length xs →
    live (take (i + 1) xs) known ≡ cond (known (get_or xs i 0)) (live (take i xs) known) (live (take i xs) known ++ get_or xs i 0 ∷ [])
live-more xs i known h =
    rw (take_more xs i 0 h, live-append (take i xs) (get_or xs i 0 ∷ []) known) (live-last (live (take i xs) known) (get_or xs i 0) (known (get_or xs i 0)))

-- no more members are live than there are
pub live-length : (xs : List ℕ) (known : ℕ → Bool) → length (live xs known) ≤ length xs
live-length [] known = omega arith
live-length (x ∷ xs) known =
    let h = live-length xs known in
    elim (known x) as (λ b. length (cond b (live xs known) (x ∷ live xs known)) ≤ suc (length xs)) [ true ↦ omega arith | false ↦ omega arith ]

-- a member is live where it isn't known
pub has-live : (xs : List ℕ) (known : ℕ → Bool) (n : ℕ) → has (live xs known) n ≡ (has xs n && not (known n))
has-live [] known n = refl
has-live (x ∷ xs) known n =
    elim (known x) as (λ b. known x ≡ b → has (cond b (live xs known) (x ∷ live xs known)) n ≡ ((x == n || has xs n) && not (known n))) [
      | true ↦ λ e. elim (eqb x n) as (λ t. eqb x n ≡ t → has (live xs known) n ≡ ((t || has xs n) && not (known n))) [
        | true ↦ λ t. let k : known n ≡ true = ap known (sym (same-number x n t)) ∙ e in rw (has-live xs known n, k) (and-false (has xs n))
        | false ↦ λ t. has-live xs known n
      ] refl
      | false ↦ λ e. elim (eqb x n) as (λ t. eqb x n ≡ t → (t || has (live xs known) n) ≡ ((t || has xs n) && not (known n)))
          [ true ↦ λ t. let k : known n ≡ false = ap known (sym (same-number x n t)) ∙ e in rw k refl | false ↦ λ t. has-live xs known n ] refl
    ] refl

some-skip : (x : ℕ) (xs ys : List ℕ) → has ys x ≡ false → is_some_of xs ys ≡ true → is_some_of (x ∷ xs) ys ≡ true
some-skip x xs [] new h = refl
some-skip x xs (y ∷ ys) new h = let ne : (x == y) ≡ false = grind (arith, nat_tests, new) in rw ne h

-- the live members are some members
pub some-live : (xs : List ℕ) (known : ℕ → Bool) → IsTrue (are_bricks xs) → is_some_of xs (live xs known) ≡ true
some-live [] known h = refl
some-live (x ∷ xs) known h =
    let rest : is_some_of xs (live xs known) ≡ true = some-live xs known (grind (arith, nat_tests, h)) in
    let new : has xs x ≡ false = grind (arith, nat_tests, h) in
    let out : has (live xs known) x ≡ false = rw (has-live xs known x, new) refl in
    elim (known x) as (λ b. is_some_of (x ∷ xs) (cond b (live xs known) (x ∷ live xs known)) ≡ true)
    [ true ↦ some-skip x xs (live xs known) out rest | false ↦ let same : (x == x) ≡ true = grind (arith, nat_tests) in rw same rest ]

-- what isn't in a list isn't among some members of it
pub has-some : (xs ys : List ℕ) (n : ℕ) → IsTrue (is_some_of xs ys) → has xs n ≡ false → has ys n ≡ false
has-some [] [] n h none = refl
has-some [] (y ∷ ys) n h none = cc
has-some (x ∷ xs) [] n h none = refl
has-some (x ∷ xs) (y ∷ ys) n h none =
    elim (eqb x y) as (λ t. eqb x y ≡ t → IsTrue (cond t (is_some_of xs ys) (is_some_of xs (y ∷ ys))) → has (y ∷ ys) n ≡ false) [
      | true ↦ λ t k. let rest : has ys n ≡ false = has-some xs ys n k (grind (arith, nat_tests, none)) in grind (arith, nat_tests, none, rest, t)
      | false ↦ λ t k. has-some xs (y ∷ ys) n k (grind (arith, nat_tests, none))
    ] refl h

-- each member stands in its list
pub has-at : (xs : List ℕ) (i : ℕ) → i < length xs → has xs (get_or xs i 0) ≡ true
has-at [] i h = absurd (omega arith)
has-at (x ∷ xs) zero h = grind (arith, nat_tests)
has-at (x ∷ xs) (suc i) h = grind (arith, nat_tests, has-at xs i (omega arith))

-- a member isn't among the live ones before it
pub live-new : (xs : List ℕ) (i : ℕ) (known : ℕ → Bool) → IsTrue (are_bricks xs) → i < length xs → has (live (take i xs) known) (get_or xs i 0) ≡ false
live-new [] i known h lt = absurd (omega arith)
live-new (x ∷ xs) zero known h lt = refl
live-new (x ∷ xs) (suc i) known h lt =
    let rest : has (live (take i xs) known) (get_or xs i 0) ≡ false = live-new xs i known (grind (arith, nat_tests, h)) (omega (arith, lt)) in
    let there : has xs (get_or xs i 0) ≡ true = has-at xs i (omega (arith, lt)) in
    let new : has xs x ≡ false = grind (arith, nat_tests, h) in
    let other : eqb x (get_or xs i 0) ≡ false = other-number xs x (get_or xs i 0) new there in
    elim (known x) as (λ b. has (cond b (live (take i xs) known) (x ∷ live (take i xs) known)) (get_or xs i 0) ≡ false) [ true ↦ rest | false ↦ rw other rest ]
