-- The digits of a number.
use Rattle.std.proofs.Common.{◌≡◌, ◌≢◌, ℕ, ◌^◌, ◌<◌, ◌≤◌, List, [], ◌∷◌, length, get_or, refl, sym, ◌∙◌, subst, arith, lit<, suc, zero, Ok, Err, ◌⊎◌, inl, inr}
use Rattle.std.proofs.lemmas.Fmt.{IsAscii-decimal, decimal_is_IsNumeral, decimal_digit, first_decimal, decimal-digits_value, parse-decimal, decimal_nonempty}
use Rattle.std.proofs.lemmas.Str.Parse.{IsNumeralModel, numerals_by_value, tells_digits, parse_plain, digit_from_value}
use Rattle.std.proofs.lemmas.Str.{IsUtf8-from_ascii}
use Rattle.std.specs.Str.{IsUtf8}
use Rattle.std.specs.Fmt.{decimal}
use Rattle.std.specs.Str.Parse.{AllDigits, digits_value, ParsesUnsigned}
use Rattle.dds_script.specs.Reading.{IsNumber}
use Rattle.dds_script.specs.Words.{HasNo}

own : IsNumeralModel (AllDigits 10) (digits_value 10)
own = numerals_by_value (AllDigits 10) tells_digits

apart : (mark d : ℕ) → (mark < 48) ⊎ (57 < mark) → d ≡ mark → 48 ≤ d → d ≤ 57 → ⊥
apart mark d m e low high = elim m [ inl a ↦ omega (arith, a) | inr a ↦ omega (arith, a) ]

-- a numeral has no byte that isn't a digit
pub digits-hasno : (mark : ℕ) (ds : List ℕ) → (mark < 48) ⊎ (57 < mark) → AllDigits 10 ds → HasNo mark ds
digits-hasno mark [] m h = tt
digits-hasno mark (d ∷ ds) m h = (λ e. let r = digit_from_value d h.0 in apart mark d m e r.0 r.1, digits-hasno mark ds m h.1)

pub decimal-hasno : (mark n : ℕ) → (mark < 48) ⊎ (57 < mark) → n < 2 ^ 64 → HasNo mark (decimal n)
decimal-hasno mark n m h = digits-hasno mark (decimal n) m (decimal_is_IsNumeral n h).0.1

begins : (n : ℕ) → n < 2 ^ 64 → (0 < length (decimal n)) × (get_or (decimal n) 0 0 ≢ 43) × (get_or (decimal n) 0 0 ≡ 48 → length (decimal n) ≡ 1)
begins zero h = let e = decimal_digit 0 (lit< tt) in rw e (lit< tt, λ x. absurd (omega (arith, x)), λ x. refl)
begins (suc n) h =
    let f = first_decimal (suc n) (omega arith) h in
    (decimal_nonempty (suc n) h, λ x. absurd (omega (arith, x)), λ x. absurd (omega (arith, x)))

-- how a number's word begins
pub begins-number : (word : List ℕ) (n : ℕ) → IsNumber word n → (0 < length word) × (get_or word 0 0 ≢ 43) × (get_or word 0 0 ≡ 48 → length word ≡ 1)
begins-number word n h = rw h.0 (begins n h.1)

-- digits that begin well are their number's word
pub number-word : (word text : List ℕ) (n : ℕ) → text ≡ word → get_or word 0 0 ≢ 43 → (get_or word 0 0 ≡ 48 → length word ≡ 1) →
    ParsesUnsigned {E = ℕ} 64 10 text (Ok n) → IsNumber word n
number-word word text n e plus lone h =
    let p = parse_plain own {E = ℕ} 64 word (Ok n) (subst (λ (t : List ℕ). ParsesUnsigned {E = ℕ} 64 10 t (Ok n)) e h) plus in
    let w = decimal-digits_value own word p.0.0 p.0.1 lone p.0.2 in
    rw p.1 (sym w, p.0.2)

-- what doesn't parse is no number's word
pub no-number : (word text : List ℕ) → text ≡ word → ParsesUnsigned {E = ℕ} 64 10 text (Err 0) → (n : ℕ) → IsNumber word n → ⊥
no-number word text e h n is =
    let r = parse-decimal {E = ℕ} 64 n text (Err 0) is.1 is.1 (e ∙ is.0) h in
    absurd cc

-- a number's word is text
pub number-utf8 : (word : List ℕ) (n : ℕ) → IsNumber word n → IsUtf8 word
number-utf8 word n is = subst (λ (t : List ℕ). IsUtf8 t) (sym is.0) (IsUtf8-from_ascii (decimal n) (IsAscii-decimal n is.1))
