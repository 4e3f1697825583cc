-- Words spell one line.
use Rattle.std.proofs.Common.{◌≡◌, ℕ, ◌-◌, ◌/◌, ◌%◌, ◌^◌, ◌<◌, ◌≤◌, inl, inr, Bool, true, false, nat_lt, List, [], ◌∷◌, refl, ap, sym, ◌∙◌}
use Rattle.std.proofs.Common.{arith, if◌then◌else◌}
use Rattle.std.proofs.lemmas.Bool.Decides.{nat_tests}
use Rattle.std.proofs.lemmas.Fmt.{decimal_injective}
use Rattle.std.specs.Char.{digit_char}
use Rattle.std.specs.Fmt.{decimal}
use Rattle.dds_script.specs.Fields.{node_text}
use Rattle.dds_script.specs.Ranges.{IsNode, IsRanges}
use Rattle.dds_script.specs.Words.{AreBytes, IsValue, hex_text, value_text}
use Rattle.dds_script.specs.declared.ranges.Ranges.{Ranges}

same-digit : (m n : ℕ) → m < 16 → n < 16 → digit_char m ≡ digit_char n → m ≡ n
same-digit m n a b e = grind (arith, nat_tests, a, b, e)

same-byte : (x y : ℕ) → x < 256 → y < 256 → digit_char (x / 16) ≡ digit_char (y / 16) → digit_char (x % 16) ≡ digit_char (y % 16) → x ≡ y
same-byte x y a b e f =
    let h = same-digit (x / 16) (y / 16) (omega (arith, a)) (omega (arith, b)) e in
    let l = same-digit (x % 16) (y % 16) (omega arith) (omega arith) f in
    omega (arith, h, l)

same-hex : (xs ys : List ℕ) → AreBytes xs → AreBytes ys → hex_text xs ≡ hex_text ys → xs ≡ ys
same-hex [] [] a b e = refl
same-hex [] (y ∷ ys) a b e = absurd cc
same-hex (x ∷ xs) [] a b e = absurd cc
same-hex (x ∷ xs) (y ∷ ys) a b e =
    let high : digit_char (x / 16) ≡ digit_char (y / 16) = cc in
    let low : digit_char (x % 16) ≡ digit_char (y % 16) = cc in
    let rest : hex_text xs ≡ hex_text ys = cc in
    let head : x ≡ y = same-byte x y a.0 b.0 high low in
    let tail : xs ≡ ys = same-hex xs ys a.1 b.1 rest in
    cc

digit-dash : (n : ℕ) → digit_char n ≡ 45 → ⊥
digit-dash n e = grind (arith, nat_tests, e)

pub same-value : (xs ys : List ℕ) → IsValue xs → IsValue ys → value_text xs ≡ value_text ys → xs ≡ ys
same-value [] [] a b e = refl
same-value [] (y ∷ ys) a b e = absurd (digit-dash (y / 16) (let h : 45 ≡ digit_char (y / 16) = cc in sym h))
same-value (x ∷ xs) [] a b e = absurd (digit-dash (x / 16) (let h : digit_char (x / 16) ≡ 45 = cc in h))
same-value (x ∷ xs) (y ∷ ys) a b e = same-hex (x ∷ xs) (y ∷ ys) a.1 b.1 e

pub same-decimal : (m n : ℕ) → m < 2 ^ 64 → n < 2 ^ 64 → decimal m ≡ decimal n → m ≡ n
same-decimal m n a b e = decimal_injective m n a b e

brick-node : (n : ℕ) → n < 64 → node_text n ≡ 98 ∷ decimal n
brick-node n h =
    let t : nat_lt n 64 ≡ true = grind (arith, nat_tests, h) in
    ap (λ (b : Bool). if b then 98 ∷ decimal n else 108 ∷ decimal (n - 64)) t

library-node : (n : ℕ) → 64 ≤ n → node_text n ≡ 108 ∷ decimal (n - 64)
library-node n h =
    let t : nat_lt n 64 ≡ false = grind (arith, nat_tests, h) in
    ap (λ (b : Bool). if b then 98 ∷ decimal n else 108 ∷ decimal (n - 64)) t

tails : (x y : ℕ) (xs ys : List ℕ) → x ∷ xs ≡ y ∷ ys → (x ≡ y) × (xs ≡ ys)
tails x y xs ys e = (cc, cc)

pub same-node : (r : Ranges) (m n : ℕ) → IsRanges r → IsNode r m → IsNode r n → node_text m ≡ node_text n → m ≡ n
same-node r m n is a b e = elim a [
  | inl x ↦ elim b [
    | inl y ↦ let t = tails 98 98 _ _ (sym (brick-node m (omega (arith, x, is.bricks))) ∙ (e ∙ brick-node n (omega (arith, y, is.bricks)))) in
        decimal_injective m n (omega (arith, x, is.bricks)) (omega (arith, y, is.bricks)) t.1
    | inr y ↦ absurd (let t = tails 98 108 _ _ (sym (brick-node m (omega (arith, x, is.bricks))) ∙ (e ∙ library-node n y.0)) in let q = t.0 in omega (arith, q))
  ]
  | inr x ↦ elim b [
    | inl y ↦ absurd (let t = tails 108 98 _ _ (sym (library-node m x.0) ∙ (e ∙ brick-node n (omega (arith, y, is.bricks)))) in let q = t.0 in omega (arith, q))
    | inr y ↦ let t = tails 108 108 _ _ (sym (library-node m x.0) ∙ (e ∙ library-node n y.0)) in
        let q = decimal_injective (m - 64) (n - 64) (omega (arith, x.1, is.libraries)) (omega (arith, y.1, is.libraries)) t.1 in omega (arith, q, x.0, y.0)
  ]
]
