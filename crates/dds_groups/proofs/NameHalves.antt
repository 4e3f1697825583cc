-- A name's two halves part its keys, and each is the other half of the other.
use Rattle.std.proofs.Common.{◌≡◌, ℕ, ◌+◌, ◌-◌, ◌*◌, ◌/◌, ◌%◌, ◌^◌, ◌||◌, ◌&&◌, ◌<◌, ◌⊎◌, inl, inr, true, false, cond, eqb, ltb, refl, ap, ◌∙◌, arith}
use Rattle.std.proofs.lemmas.Bool.Decides.{nat_tests}
use Rattle.std.proofs.lemmas.Nat.{mod-pow-add, pow_pos}
use Rattle.std.proofs.Math.Nat.{mod-eq_of_lt, add-mod_right}
use Rattle.dds_base.specs.Name.{Name, covers}
use Rattle.dds_groups.specs.Names.{low_half, high_half, is_half, other_half}

digit : (t p r whole : ℕ) → t < 2 → whole ≡ t * p + r → (whole ≡ r) ⊎ (whole ≡ r + p)
digit t p r whole h e =
    elim (eqb t 0) as (λ b. eqb t 0 ≡ b → (whole ≡ r) ⊎ (whole ≡ r + p)) [
      | true ↦ λ k. let z : t ≡ 0 = grind (arith, nat_tests, k) in inl (e ∙ rw z (omega arith))
      | false ↦ λ k. let one : t ≡ 1 = grind (arith, nat_tests, k) in inr (e ∙ rw one (omega arith))
    ] refl

-- one bit more of a key
next-bit : (key d : ℕ) → (key % 2 ^ (d + 1) ≡ key % 2 ^ d) ⊎ (key % 2 ^ (d + 1) ≡ key % 2 ^ d + 2 ^ d)
next-bit key d =
    let e : d + 1 ≡ 1 + d = omega arith in
    digit (key / 2 ^ d % 2 ^ 1) (2 ^ d) (key % 2 ^ d) (key % 2 ^ (d + 1)) (omega arith) (rw e (mod-pow-add key 1 d))

-- each key of a name is in one of its halves, and the halves' keys are the name's
pub halves-cover : (n : Name) (key : ℕ) → n.bits < 2 ^ n.depth → covers n key ≡ (covers (low_half n) key || covers (high_half n) key)
halves-cover n key h =
    let below : key % 2 ^ n.depth < 2 ^ n.depth = omega arith in
    elim (next-bit key n.depth) [ inl e ↦ grind (arith, nat_tests, e, below, h) | inr e ↦ grind (arith, nat_tests, e, below, h) ]

-- no key is in both halves
pub halves-apart : (n : Name) (key : ℕ) → (covers (low_half n) key && covers (high_half n) key) ≡ false
halves-apart n key =
    let some : 0 < 2 ^ n.depth = pow_pos n.depth in
    grind (arith, nat_tests, some)

other-bits : (bits d e new : ℕ) → e ≡ d → cond (ltb bits (2 ^ d)) (bits + 2 ^ d) (bits - 2 ^ d) ≡ new →
    cond (ltb bits (2 ^ e)) (bits + 2 ^ e) (bits - 2 ^ e) ≡ new
other-bits bits d e new same h = rw same h

named : (a b d : ℕ) → a ≡ b → let x : Name = record { bits = a; depth = d } in let y : Name = record { bits = b; depth = d } in x ≡ y
named a b d e = ap (λ (bits : ℕ). let x : Name = record { bits = bits; depth = d } in x) e

-- each half is the other half of the other
pub other-low : (n : Name) → n.bits < 2 ^ n.depth → other_half (low_half n) ≡ high_half n
other-low n h =
    let low : ltb n.bits (2 ^ n.depth) ≡ true = grind (arith, nat_tests, h) in
    named _ _ (n.depth + 1) (other-bits n.bits n.depth (n.depth + 1 - 1) (n.bits + 2 ^ n.depth) (omega arith) (rw low refl))

pub other-high : (n : Name) → n.bits < 2 ^ n.depth → other_half (high_half n) ≡ low_half n
other-high n h =
    let high : ltb (n.bits + 2 ^ n.depth) (2 ^ n.depth) ≡ false = grind (arith, nat_tests, h) in
    named _ _ (n.depth + 1) (other-bits (n.bits + 2 ^ n.depth) n.depth (n.depth + 1 - 1) n.bits (omega arith) (rw high (omega arith)))

-- the halves are the names one deeper that the name covers
pub low-is-half : (n : Name) → n.bits < 2 ^ n.depth → is_half n (low_half n) ≡ true
low-is-half n h =
    let e : n.bits % 2 ^ n.depth ≡ n.bits = mod-eq_of_lt h in
    grind (arith, nat_tests, e)

pub high-is-half : (n : Name) → n.bits < 2 ^ n.depth → is_half n (high_half n) ≡ true
high-is-half n h =
    let e : (n.bits + 2 ^ n.depth) % 2 ^ n.depth ≡ n.bits = add-mod_right n.bits (2 ^ n.depth) ∙ mod-eq_of_lt h in
    grind (arith, nat_tests, e)
