use Rattle.std.proofs.Common.{◌≡◌, ℕ, suc, ◌+◌, ◌-◌, ◌%◌, ◌^◌, ◌<◌, ◌≤◌, ◌==◌, inl, inr, Bool, true, false, min, refl, sym, ap, ◌∙◌, subst, arith}
use Rattle.std.proofs.Math.Nat.{add-mod_right, mod-add-mod, mod-eq-sub-mod, mod-eq_of_lt, mod-lt, two-pow-succ}
use Rattle.std.proofs.lemmas.Bool.{and_from, cases_Bool, cases_lt, eq-eqb, eqb-true}
use Rattle.std.proofs.lemmas.Bool.Decides.{nat_tests}
use Rattle.std.proofs.lemmas.Nat.{pow_pos}
use Rattle.std.specs.Prelude.{nat_le, nat_lt, if◌then◌else◌}
use Rattle.dds_base.proofs.Names.{mod-mod-le}
use Rattle.dds_base.specs.Name.{Name, covers, overlaps}
use Rattle.dds_groups.specs.Names.{low_half, other_half}
use Rattle.dds_maps.specs.Own.{whole}
use Rattle.dds_trie.specs.Trie.{is_under}

-- Which names overlap: a name with a name over it, and with its other half. Names may have more bits than their depth; those
-- above it count for nothing.

-- the bits that two names have in common
bits-agree : (a b : Name) (j : ℕ) → j ≤ a.depth → j ≤ b.depth → overlaps a b ≡ true → a.bits % 2 ^ j ≡ b.bits % 2 ^ j
bits-agree a b j ja jb h =
    let m = min a.depth b.depth in
    let le : j ≤ m = omega (arith, ja, jb) in
    sym (mod-mod-le a.bits j m le) ∙ ap (λ x. x % 2 ^ j) (eqb-true (a.bits % 2 ^ m) (b.bits % 2 ^ m) h) ∙ mod-mod-le b.bits j m le

agree-overlap : (a b : Name) (j : ℕ) → min a.depth b.depth ≡ j → a.bits % 2 ^ j ≡ b.bits % 2 ^ j → overlaps a b ≡ true
agree-overlap a b j e h = subst (λ i. (a.bits % 2 ^ i == b.bits % 2 ^ i) ≡ true) (sym e) (eq-eqb (a.bits % 2 ^ j) (b.bits % 2 ^ j) h)

pub overlap-sym : (a b : Name) → overlaps a b ≡ true → overlaps b a ≡ true
overlap-sym a b h =
    let j = min a.depth b.depth in
    agree-overlap b a j (omega arith) (sym (eqb-true (a.bits % 2 ^ j) (b.bits % 2 ^ j) h))

-- what overlaps a name overlaps one over it
over-it : (q n w : Name) → w.depth ≤ n.depth → n.bits % 2 ^ w.depth ≡ w.bits % 2 ^ w.depth → overlaps q n ≡ true → overlaps q w ≡ true
over-it q n w short e h =
    let j = min q.depth w.depth in
    let jq : j ≤ q.depth = omega arith in
    let jw : j ≤ w.depth = omega arith in
    let jn : j ≤ n.depth = omega (arith, jw, short) in
    agree-overlap q w j refl
    (bits-agree q n j jq jn h ∙ sym (mod-mod-le n.bits j w.depth jw) ∙ ap (λ x. x % 2 ^ j) e ∙ mod-mod-le w.bits j w.depth jw)

pub over-whole : (q n : Name) → overlaps q n ≡ true → overlaps q (whole n) ≡ true
over-whole q n h =
    let short : n.depth - 1 ≤ n.depth = omega arith in
    let same : n.depth - 1 ≤ n.depth - 1 = omega arith in
    over-it q n (whole n) short (sym (mod-mod-le n.bits (n.depth - 1) (n.depth - 1) same)) h

other-if : (c : Bool) (x p : ℕ) → nat_lt x p ≡ c → (if c then x + p else x - p) % p ≡ x % p
other-if true x p e = add-mod_right x p
other-if false x p e = let le : p ≤ x = grind (arith, nat_tests, e) in sym (mod-eq-sub-mod le)

other-bits : (n : Name) → (other_half n).bits % 2 ^ (n.depth - 1) ≡ n.bits % 2 ^ (n.depth - 1)
other-bits n = other-if (nat_lt n.bits (2 ^ (n.depth - 1))) n.bits (2 ^ (n.depth - 1)) refl

pub over-other : (q n : Name) → overlaps q (other_half n) ≡ true → overlaps q (whole n) ≡ true
over-other q n h =
    let short : n.depth - 1 ≤ n.depth = omega arith in
    let same : n.depth - 1 ≤ n.depth - 1 = omega arith in
    over-it q (other_half n) (whole n) short (other-bits n ∙ sym (mod-mod-le n.bits (n.depth - 1) (n.depth - 1) same)) h

pub over-low : (q w : Name) → overlaps q (low_half w) ≡ true → overlaps q w ≡ true
over-low q w h = let short : w.depth ≤ w.depth + 1 = omega arith in over-it q (low_half w) w short refl h

pub over-high : (q w : Name) → overlaps q (other_half (low_half w)) ≡ true → overlaps q w ≡ true
over-high q w h =
    let same : w.depth + 1 - 1 ≡ w.depth = omega arith in
    let short : w.depth ≤ w.depth + 1 = omega arith in
    over-it q (other_half (low_half w)) w short
    (subst (λ i. (other_half (low_half w)).bits % 2 ^ i ≡ w.bits % 2 ^ i) same (other-bits (low_half w))) h

-- two halves
small : (x p : ℕ) → 0 < p → x < p → x % (p + p) ≡ (x + p) % (p + p) → ⊥
small x p pos lt e =
    let a : x % (p + p) ≡ x = mod-eq_of_lt (omega (arith, lt)) in
    let b : (x + p) % (p + p) ≡ x + p = mod-eq_of_lt (omega (arith, lt)) in
    let k : x ≡ x + p = sym a ∙ e ∙ b in
    omega (arith, pos, k)

large : (r p : ℕ) → 0 < p → r < p + p → p ≤ r → (r + p) % (p + p) ≡ r → ⊥
large r p pos lt le e =
    let more : p + p ≤ r + p = omega (arith, le) in
    let less : r + p - (p + p) ≡ r - p = omega (arith, le) in
    let a : (r + p) % (p + p) ≡ (r + p - (p + p)) % (p + p) = mod-eq-sub-mod more in
    let b : (r + p - (p + p)) % (p + p) ≡ r - p = ap (λ x. x % (p + p)) less ∙ mod-eq_of_lt (omega (arith, lt, le)) in
    let k : r - p ≡ r = sym b ∙ sym a ∙ e in
    omega (arith, pos, k, le)

shifted : (y p : ℕ) → 0 < p → (y + p) % (p + p) ≡ y % (p + p) → ⊥
shifted y p pos e =
    let r = y % (p + p) in
    let lt : r < p + p = mod-lt y (omega (arith, pos)) in
    let m : (r + p) % (p + p) ≡ (y + p) % (p + p) = mod-add-mod y (p + p) p in
    elim (cases_lt r p) [
      | inl h ↦ small r p pos h (mod-eq_of_lt lt ∙ sym (m ∙ e))
      | inr h ↦ large r p pos lt h (m ∙ e)
    ]

differ : (c : Bool) (x p : ℕ) → 0 < p → nat_lt x p ≡ c → x % (p + p) ≡ (if c then x + p else x - p) % (p + p) → ⊥
differ true x p pos t e = small x p pos (grind (arith, nat_tests, t)) e
differ false x p pos t e =
    let le : p ≤ x = grind (arith, nat_tests, t) in
    let back : x - p + p ≡ x = omega (arith, le) in
    shifted (x - p) p pos (ap (λ i. i % (p + p)) back ∙ e)

pub twice : (d : ℕ) → 1 ≤ d → 2 ^ d ≡ 2 ^ (d - 1) + 2 ^ (d - 1)
twice d h =
    let e : d ≡ suc (d - 1) = omega (arith, h) in
    let t : 2 ^ suc (d - 1) ≡ 2 ^ (d - 1) + 2 ^ (d - 1) = two-pow-succ (d - 1) in
    ap (λ i. 2 ^ i) e ∙ t

pub halves-apart : (n : Name) → 1 ≤ n.depth → overlaps n (other_half n) ≡ false
halves-apart n h = elim (cases_Bool (overlaps n (other_half n))) [
  | inl e ↦
      let self : n.depth ≤ n.depth = omega arith in
      let p = 2 ^ (n.depth - 1) in
      let same = bits-agree n (other_half n) n.depth self self e in
      absurd (differ (nat_lt n.bits p) n.bits p (pow_pos (n.depth - 1)) refl (subst (λ i. n.bits % i ≡ (other_half n).bits % i) (twice n.depth h) same))
  | inr e ↦ e
]

-- a name under one that has no more bits than its depth
pub overlap-under : (n q : Name) → n.bits < 2 ^ n.depth → n.depth ≤ q.depth → overlaps q n ≡ true → is_under n q ≡ true
overlap-under n q few le h =
    let self : n.depth ≤ n.depth = omega arith in
    let e : q.bits % 2 ^ n.depth ≡ n.bits = bits-agree q n n.depth le self h ∙ mod-eq_of_lt few in
    let deep : nat_le n.depth q.depth ≡ true = grind (arith, nat_tests, le) in
    and_from (nat_le n.depth q.depth) (covers n q.bits) deep (eq-eqb (q.bits % 2 ^ n.depth) n.bits e)

pub whole-few : (n : Name) → (whole n).bits < 2 ^ (whole n).depth
whole-few n = mod-lt n.bits (pow_pos (n.depth - 1))

pub low-few : (w : Name) → w.bits < 2 ^ w.depth → (low_half w).bits < 2 ^ (low_half w).depth
low-few w h =
    let e : w.depth + 1 ≡ suc w.depth = omega arith in
    let t : 2 ^ suc w.depth ≡ 2 ^ w.depth + 2 ^ w.depth = two-pow-succ w.depth in
    let u : 2 ^ (w.depth + 1) ≡ 2 ^ w.depth + 2 ^ w.depth = ap (λ i. 2 ^ i) e ∙ t in
    let few : w.bits < 2 ^ (w.depth + 1) = omega (arith, h, u) in
    few

high-if : (c : Bool) (x p : ℕ) → x < p → nat_lt x p ≡ c → (if c then x + p else x - p) < p + p
high-if true x p h e = omega (arith, h)
high-if false x p h e = omega (arith, h)

pub high-few : (w : Name) → w.bits < 2 ^ w.depth → (other_half (low_half w)).bits < 2 ^ (w.depth + 1)
high-few w h =
    let same : w.depth + 1 - 1 ≡ w.depth = omega arith in
    let deep : 1 ≤ w.depth + 1 = omega arith in
    let p = 2 ^ (w.depth + 1 - 1) in
    let few : w.bits < p = subst (λ i. w.bits < 2 ^ i) (sym same) h in
    subst (λ x. (other_half (low_half w)).bits < x) (sym (twice (w.depth + 1) deep)) (high-if (nat_lt w.bits p) w.bits p few refl)
