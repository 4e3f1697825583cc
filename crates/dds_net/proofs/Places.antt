use Rattle.std.proofs.Common.{◌≡◌, ℕ, ◌+◌, ◌-◌, ◌<◌, ◌≤◌, ◌⊎◌, inl, inr, Bool, true, false, length, refl, ap, ◌∙◌, arith}
use Rattle.std.proofs.lemmas.Bool.Decides.{nat_tests}
use Rattle.std.specs.Prelude.{nat_lt, if◌then◌else◌}
use Rattle.dds_cluster.proofs.Sizes.{IsSized}
use Rattle.dds_cluster.specs.World.{World, is_node, place}
use Rattle.dds_net.specs.Net.{Sizes, is_in, place_in}

-- Numbers of nodes, and their places.

pub is-in : (z : Sizes) (w : World) (n : ℕ) → IsSized z.bricks z.libraries w → is_node w n ≡ is_in z n
is-in z w n s =
    ap (λ k. if nat_lt n 64 then nat_lt n k else nat_lt (n - 64) (length w.libraries)) s.bricks
    ∙ ap (λ k. if nat_lt n 64 then nat_lt n z.bricks else nat_lt (n - 64) k) s.libraries

pub place-is : (z : Sizes) (w : World) (n : ℕ) → IsSized z.bricks z.libraries w → place w n ≡ place_in z.bricks n
place-is z w n s = ap (λ k. place_in k n) s.bricks

-- the cluster's numbers: those below the number of bricks, and so many from 64 on
pub low-in : (z : Sizes) (n : ℕ) → n < 64 → n < z.bricks → is_in z n ≡ true
low-in z n low h =
    let t : nat_lt n 64 ≡ true = grind (arith, nat_tests, low) in
    let u : nat_lt n z.bricks ≡ true = grind (arith, nat_tests, h) in
    rw (t, u) refl

pub high-in : (z : Sizes) (n : ℕ) → 64 ≤ n → n - 64 < z.libraries → is_in z n ≡ true
high-in z n high h =
    let t : nat_lt n 64 ≡ false = grind (arith, nat_tests, high) in
    let u : nat_lt (n - 64) z.libraries ≡ true = grind (arith, nat_tests, h) in
    rw (t, u) refl

parts-if : (z : Sizes) (n : ℕ) (low : Bool) → nat_lt n 64 ≡ low → (if low then nat_lt n z.bricks else nat_lt (n - 64) z.libraries) ≡ true
    → (n < z.bricks) ⊎ ((64 ≤ n) × (n - 64 < z.libraries))
parts-if z n true e h = inl (grind (arith, nat_tests, h))
parts-if z n false e h = inr (grind (arith, nat_tests, e), grind (arith, nat_tests, h))

pub in-parts : (z : Sizes) (n : ℕ) → is_in z n ≡ true → (n < z.bricks) ⊎ ((64 ≤ n) × (n - 64 < z.libraries))
in-parts z n h = parts-if z n (nat_lt n 64) refl h

in-if : (z : Sizes) (n : ℕ) (low : Bool) → nat_lt n 64 ≡ low → (if low then nat_lt n z.bricks else nat_lt (n - 64) z.libraries) ≡ true
    → (if low then n else z.bricks + (n - 64)) < z.bricks + z.libraries
in-if z n true e h = let k : n < z.bricks = grind (arith, nat_tests, h) in omega (arith, k)
in-if z n false e h = let k : n - 64 < z.libraries = grind (arith, nat_tests, h) in omega (arith, k)

pub place-below : (z : Sizes) (n : ℕ) → is_in z n ≡ true → place_in z.bricks n < z.bricks + z.libraries
place-below z n h = in-if z n (nat_lt n 64) refl h

one-if : (z : Sizes) (a b : ℕ) (x y : Bool) → z.bricks ≤ 64 → nat_lt a 64 ≡ x → nat_lt b 64 ≡ y
    → (if x then nat_lt a z.bricks else nat_lt (a - 64) z.libraries) ≡ true → (if y then nat_lt b z.bricks else nat_lt (b - 64) z.libraries) ≡ true
    → (if x then a else z.bricks + (a - 64)) ≡ (if y then b else z.bricks + (b - 64)) → a ≡ b
one-if z a b true true few e f h k is = is
one-if z a b true false few e f h k is = let i : a < z.bricks = grind (arith, nat_tests, h) in absurd (omega (arith, is, i))
one-if z a b false true few e f h k is = let i : b < z.bricks = grind (arith, nat_tests, k) in absurd (omega (arith, is, i))
one-if z a b false false few e f h k is =
    let i : 64 ≤ a = grind (arith, nat_tests, e) in
    let j : 64 ≤ b = grind (arith, nat_tests, f) in
    omega (arith, i, j, is)

-- nodes at one place are one node
pub one-place : (z : Sizes) (a b : ℕ) → z.bricks ≤ 64 → is_in z a ≡ true → is_in z b ≡ true → place_in z.bricks a ≡ place_in z.bricks b → a ≡ b
one-place z a b few h k is = one-if z a b (nat_lt a 64) (nat_lt b 64) few refl refl h k is

below-if : (z : Sizes) (n : ℕ) (low : Bool) → z.bricks ≤ 64 → z.libraries ≤ 16 → nat_lt n 64 ≡ low
    → (if low then nat_lt n z.bricks else nat_lt (n - 64) z.libraries) ≡ true → n < 80
below-if z n true few some e h = let i : n < 64 = grind (arith, nat_tests, e) in omega (arith, i)
below-if z n false few some e h = let i : n - 64 < z.libraries = grind (arith, nat_tests, h) in omega (arith, i, some)

pub node-below : (z : Sizes) (n : ℕ) → z.bricks ≤ 64 → z.libraries ≤ 16 → is_in z n ≡ true → n < 80
node-below z n few some h = below-if z n (nat_lt n 64) few some refl h
