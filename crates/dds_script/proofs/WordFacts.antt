-- What the words for numbers and names spell, they spell alone.
use Rattle.std.proofs.Common.{◌≡◌, ℕ, ◌+◌, ◌^◌, ◌<◌, ◌≤◌, ◌⊎◌, inl, inr, ◌&&◌, Bool, true, false, nat_le, nat_lt, List, ◌∷◌, ◌++◌, take}
use Rattle.std.proofs.Common.{drop, Option, Some, None, refl, sym, ◌∙◌, subst, arith, lit<, if◌then◌else◌}
use Rattle.std.proofs.lemmas.Bool.Decides.{nat_tests}
use Rattle.std.proofs.Math.Pow.{pow_mono}
use Rattle.std.proofs.lemmas.Fmt.{decimal_injective}
use Rattle.std.specs.Fmt.{decimal}
use Rattle.dds_base.specs.Name.{Name}
use Rattle.dds_script.proofs.Marks.{cut-one, cut-none}
use Rattle.dds_script.proofs.Numbers.{decimal-hasno}
use Rattle.dds_script.specs.Fields.{IsBelow, IsWithin, AreNameParts, IsNameWord}
use Rattle.dds_script.specs.Ranges.{IsName}
use Rattle.dds_script.specs.Reading.{IsNumber, IsRead}
use Rattle.dds_script.specs.Words.{HasNo, IsFound}

-- a word is one number
pub same-number : (word : List ℕ) (n x : ℕ) → IsNumber word n → word ≡ decimal x → x < 2 ^ 64 → x ≡ n
same-number word n x is e small = decimal_injective x n small is.1 (sym e ∙ is.0)

pub no-below : (word : List ℕ) (n limit : ℕ) → IsNumber word n → limit ≤ n → limit < 2 ^ 64 → (x : ℕ) → IsBelow limit word x → ⊥
no-below word n limit is above small x b =
    let e = same-number word n x is b.spelled (omega (arith, b.below, small)) in
    omega (arith, e, b.below, above)

pub no-within : (word : List ℕ) (n from to : ℕ) → IsNumber word n → (n < from) ⊎ (to < n) → to < 2 ^ 64 → (x : ℕ) → IsWithin from to word x → ⊥
no-within word n from to is out small x w =
    let e = same-number word n x is w.spelled (omega (arith, w.most, small)) in
    elim out [ inl a ↦ omega (arith, e, a, w.least) | inr a ↦ omega (arith, e, a, w.most) ]

pow-top : (d : ℕ) → d ≤ 16 → 2 ^ d ≤ 65536
pow-top d h = pow_mono h

pub name-bits : (name : Name) → IsName name → name.bits < 65536
name-bits name is = omega (arith, pow-top name.depth is.depth, is.bits)

-- the parts are the name that is made of their numbers, or of no name
pub parts-name : (bits depth : List ℕ) (b d : ℕ) (made : Option Name) → IsNumber bits b → IsBelow 17 depth d →
    made ≡ (if nat_le d 16 && nat_lt b (2 ^ d) then Some record { bits = b; depth = d } else None) → IsRead (AreNameParts bits depth) made
parts-name bits depth b d made isb isd e =
    subst (λ (m : Option Name). IsRead (AreNameParts bits depth) m) (sym e) (by-test (nat_le d 16 && nat_lt b (2 ^ d)) refl)
  where
    by-test : (t : Bool) → (nat_le d 16 && nat_lt b (2 ^ d)) ≡ t → IsRead (AreNameParts bits depth) (if t then Some record { bits = b; depth = d } else None)
    by-test true h =
        let low : nat_le d 16 ≡ true = grind (arith, nat_tests, h) in
        let bit : nat_lt b (2 ^ d) ≡ true = grind (arith, nat_tests, h) in
        (isb.0, isd.spelled, record { depth = omega (arith, isd.below); bits = grind (arith, nat_tests, bit) })
    by-test false h = λ name is.
        let eb = same-number bits b name.bits isb is.0 (omega (arith, name-bits name is.2)) in
        let ed = same-number depth d name.depth (isd.spelled, omega (arith, isd.below)) is.1 (omega (arith, is.2.depth)) in
        let lt : b < 2 ^ d = rw (← eb, ← ed) is.2.bits in
        let low = isd.below in
        grind (arith, nat_tests, h, lt, low)

-- bits that are too many
pub no-parts : (bits depth : List ℕ) (b : ℕ) → IsNumber bits b → 65536 ≤ b → (name : Name) → AreNameParts bits depth name → ⊥
no-parts bits depth b isb large name is =
    let eb = same-number bits b name.bits isb is.0 (omega (arith, name-bits name is.2)) in
    omega (arith, eb, large, name-bits name is.2)

pub bits-hasno : (name : Name) → IsName name → HasNo 47 (decimal name.bits)
bits-hasno name is = decimal-hasno 47 name.bits (inl (lit< tt)) (omega (arith, name-bits name is))

-- the parts on both sides of the mark
pub name-found : (word bits depth : List ℕ) (place : ℕ) (found : Option Name) → IsFound word 47 (Some place) → bits ≡ take place word →
    depth ≡ drop (place + 1) word → IsRead (AreNameParts bits depth) found → IsRead (IsNameWord word) found
name-found word bits depth place (Some name) f a b is =
    let e : word ≡ bits ++ 47 ∷ depth = rw (a, b) f.1 in
    (e ∙ rw (is.0, is.1) refl, is.2)
name-found word bits depth place None f a b n = λ name is.
    let e : bits ++ 47 ∷ depth ≡ decimal name.bits ++ 47 ∷ decimal name.depth = rw (a, b) (sym f.1 ∙ is.0) in
    let c = cut-one 47 bits (decimal name.bits) depth (decimal name.depth) (rw a f.2) (bits-hasno name is.1) e in
    n name (c.0, c.1, is.1)

pub no-name : (word : List ℕ) → HasNo 47 word → (name : Name) → IsNameWord word name → ⊥
no-name word h name is = cut-none 47 (decimal name.bits) (decimal name.depth) (subst (λ (t : List ℕ). HasNo 47 t) is.0 h)
