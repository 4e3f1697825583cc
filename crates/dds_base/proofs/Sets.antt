use Rattle.std.proofs.Common.{◌≡◌, ℕ, ◌-◌, ◌*◌, ◌%◌, ◌^◌, ◌<◌, ◌≤◌, ◌≢◌, ◌==◌, ◌||◌, true, false, eqb, ltb, cond, refl, arith}
use Rattle.std.proofs.lemmas.Bool.Decides.{nat_tests}
use Rattle.std.proofs.lemmas.Nat.Bits.{bit_at_set_same, bit_at_set_other}
use Rattle.std.proofs.Math.Nat.{mod-eq_of_lt}
use Rattle.std.proofs.Math.Pow.{pow-lt}
use Rattle.std.specs.Int.{bit_at, w64}
use Rattle.std.specs.Prelude.{bit_or}
use Rattle.dds_base.specs.NodeSet.{has_node, with_node}
use Rattle.dds_base.specs.declared.node_set.NodeSet.{NodeSet}

-- one bit of a word
one-bit : (k : ℕ) → k < 64 → 1 * 2 ^ k % 2 ^ 64 ≡ 2 ^ k
one-bit k h = let e : 1 * 2 ^ k ≡ 2 ^ k = omega arith in rw e (mod-eq_of_lt (pow-lt {i = k} {j = 64} h))

-- a set with a node more, as its words are computed
pub with-brick : (s : NodeSet) (node : ℕ) → node < 64 →
    ◌≡◌ {A = NodeSet} (record { bricks = bit_or s.bricks (1 * 2 ^ node % 2 ^ 64); libraries = s.libraries }) (with_node s node)
with-brick s node h = let t : ltb node 64 ≡ true = grind (arith, nat_tests, h) in rw (t, one-bit node h) refl

pub with-library : (s : NodeSet) (node : ℕ) → 64 ≤ node → node < 80 →
    ◌≡◌ {A = NodeSet} (record { bricks = s.bricks; libraries = bit_or s.libraries (1 * 2 ^ (node - 64) % 2 ^ 64) }) (with_node s node)
with-library s node low high = let t : ltb node 64 ≡ false = grind (arith, nat_tests, low) in let k : node - 64 < 64 = omega arith in
    rw (t, one-bit (node - 64) k) refl

-- a bit after `n | 1 << k`
pub set-bit : (n k i : ℕ) → k < 64 → (bit_at (bit_or n (1 * 2 ^ k % 2 ^ 64)) i == 1) ≡ (i == k || bit_at n i == 1)
set-bit n k i h =
    elim (eqb i k) as (λ b. eqb i k ≡ b → (bit_at (bit_or n (1 * 2 ^ k % 2 ^ 64)) i == 1) ≡ (b || bit_at n i == 1)) [
      | true ↦ λ e. let same : i ≡ k = grind (arith, nat_tests, e) in rw (same, bit_at_set_same w64 n k h) refl
      | false ↦ λ e. let other : i ≢ k = grind (arith, nat_tests, e) in rw (bit_at_set_other w64 n k h i other) refl
    ] refl

pub added-brick : (s : NodeSet) (node other : ℕ) → node < 64 →
    has_node record { bricks = bit_or s.bricks (1 * 2 ^ node % 2 ^ 64); libraries = s.libraries } other ≡ (other == node || has_node s other)
added-brick s node other h =
    elim (ltb other 64) as (λ b. ltb other 64 ≡ b →
    cond b (bit_at (bit_or s.bricks (1 * 2 ^ node % 2 ^ 64)) other == 1) (bit_at s.libraries (other - 64) == 1)
    ≡ (other == node || cond b (bit_at s.bricks other == 1) (bit_at s.libraries (other - 64) == 1)))
    [ true ↦ λ e. set-bit s.bricks node other h | false ↦ λ e. let ne : eqb other node ≡ false = grind (arith, nat_tests, e) in rw ne refl ] refl

pub added-library : (s : NodeSet) (node other : ℕ) → 64 ≤ node → node < 80 →
    has_node record { bricks = s.bricks; libraries = bit_or s.libraries (1 * 2 ^ (node - 64) % 2 ^ 64) } other ≡ (other == node || has_node s other)
added-library s node other low high =
    elim (ltb other 64) as (λ b. ltb other 64 ≡ b →
    cond b (bit_at s.bricks other == 1) (bit_at (bit_or s.libraries (1 * 2 ^ (node - 64) % 2 ^ 64)) (other - 64) == 1)
    ≡ (other == node || cond b (bit_at s.bricks other == 1) (bit_at s.libraries (other - 64) == 1))) [
      | true ↦ λ e. let ne : eqb other node ≡ false = grind (arith, nat_tests, e) in rw ne refl
      | false ↦ λ e. let k : node - 64 < 64 = omega arith in
          let at : (other - 64 == node - 64) ≡ (other == node) = grind (arith, nat_tests, e) in rw (← at) (set-bit s.libraries (node - 64) (other - 64) k)
    ]
    refl
