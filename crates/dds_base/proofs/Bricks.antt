use Rattle.std.proofs.Common.{◌≡◌, ℕ, ◌<◌, ◌||◌, ◌==◌, false, List, [], ◌∷◌, ◌++◌, zero, suc, length, get_or, IsTrue, arith}
use Rattle.std.proofs.lemmas.Bool.Decides.{nat_tests}
use Rattle.dds_base.specs.BrickList.{are_bricks, has}

-- each member of a list of bricks is below 64
pub brick-at : (xs : List ℕ) (i : ℕ) → IsTrue (are_bricks xs) → i < length xs → get_or xs i 0 < 64
brick-at [] i h lt = absurd (omega arith)
brick-at (x ∷ xs) zero h lt = grind (arith, nat_tests, h)
brick-at (x ∷ xs) (suc i) h lt = brick-at xs i (grind (arith, nat_tests, h)) (omega arith)

-- what stands in a list with one number more
pub has-push : (xs : List ℕ) (x y : ℕ) → has (xs ++ x ∷ []) y ≡ (has xs y || x == y)
has-push [] x y = grind (arith, nat_tests)
has-push (z ∷ xs) x y = grind (arith, nat_tests, has-push xs x y)

-- one brick more that didn't stand in the list
pub bricks-push : (xs : List ℕ) (x : ℕ) → IsTrue (are_bricks xs) → x < 64 → has xs x ≡ false → IsTrue (are_bricks (xs ++ x ∷ []))
bricks-push [] x h lt new = grind (arith, nat_tests, lt)
bricks-push (y ∷ xs) x h lt new =
    let rest : IsTrue (are_bricks (xs ++ x ∷ [])) = bricks-push xs x (grind (arith, nat_tests, h)) lt (grind (arith, nat_tests, new)) in
    let once : has (xs ++ x ∷ []) y ≡ false = grind (arith, nat_tests, h, new, has-push xs x y) in
    grind (arith, nat_tests, h, rest, once)
