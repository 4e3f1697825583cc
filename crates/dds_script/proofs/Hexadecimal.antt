-- Two hexadecimal digits for each byte.
use Rattle.std.proofs.Common.{◌≡◌, ◌≢◌, ℕ, ◌+◌, ◌*◌, ◌/◌, ◌%◌, ◌<◌, ◌≤◌, List, [], ◌∷◌, ◌++◌, length, get_or, take, codes, refl, ap, sym}
use Rattle.std.proofs.Common.{◌∙◌, arith, suc, zero, append_assoc, Bool, true, Option, Some, None, nat_le, subst, if◌then◌else◌}
use Rattle.std.proofs.lemmas.Bool.Decides.{nat_tests}
use Rattle.std.proofs.lemmas.Grind.{common_steps}
use Rattle.std.specs.Char.{digit_char}
use Rattle.dds_script.specs.Reading.{IsByte, IsHexText, IsRead, IsValueWord}
use Rattle.dds_script.specs.Words.{hex_text, AreBytes}

pub hex-length : (bytes : List ℕ) → length (hex_text bytes) ≡ 2 * length bytes
hex-length [] = refl
hex-length (byte ∷ bytes) = omega (arith, hex-length bytes)

pub hex-push : (bytes : List ℕ) (byte : ℕ) → hex_text (bytes ++ byte ∷ []) ≡ hex_text bytes ++ digit_char (byte / 16) ∷ digit_char (byte % 16) ∷ []
hex-push [] byte = refl
hex-push (b ∷ bytes) byte = ap (λ (l : List ℕ). digit_char (b / 16) ∷ digit_char (b % 16) ∷ l) (hex-push bytes byte)

pub bytes-push : (bytes : List ℕ) (byte : ℕ) → AreBytes bytes → byte < 256 → AreBytes (bytes ++ byte ∷ [])
bytes-push [] byte h b = (b, tt)
bytes-push (x ∷ bytes) byte h b = (h.0, bytes-push bytes byte h.1 b)

pub bytes-at : (bytes : List ℕ) (place : ℕ) → AreBytes bytes → place < length bytes → get_or bytes place 0 < 256
bytes-at [] place h p = absurd (omega arith)
bytes-at (x ∷ bytes) zero h p = h.0
bytes-at (x ∷ bytes) (suc place) h p = bytes-at bytes place h.1 (omega arith)

-- the digits of one byte
pub hex-at : (bytes : List ℕ) (place : ℕ) → place < length bytes → (get_or (hex_text bytes) (2 * place) 0 ≡ digit_char (get_or bytes place 0 / 16))
    × (get_or (hex_text bytes) (2 * place + 1) 0 ≡ digit_char (get_or bytes place 0 % 16))
hex-at [] place p = absurd (omega arith)
hex-at (x ∷ bytes) zero p = (refl, refl)
hex-at (x ∷ bytes) (suc place) p =
    let r = hex-at bytes place (omega arith) in
    let a : 2 * suc place ≡ suc (suc (2 * place)) = omega arith in
    let b : suc (suc (2 * place)) + 1 ≡ suc (suc (2 * place + 1)) = omega arith in
    rw (a, b) (r.0, r.1)

-- no byte's digits stand there
pub no-hex : (word : List ℕ) (place : ℕ) → 2 * place + 1 < length word →
    ((byte : ℕ) → IsByte (get_or word (2 * place) 0) (get_or word (2 * place + 1) 0) byte → ⊥) → (bytes : List ℕ) → IsHexText word bytes → ⊥
no-hex word place p h bytes is =
    let n : place < length bytes = omega (arith, hex-length bytes, ap length is.0) in
    let d = hex-at bytes place n in
    h (get_or bytes place 0) (rw is.0 d.0, rw is.0 d.1, bytes-at bytes place is.1 n)

one-more : (xs : List ℕ) (i : ℕ) → i < length xs → take (i + 1) xs ≡ take i xs ++ get_or xs i 0 ∷ []
one-more xs i h = grind (arith, common_steps)

two-more : (xs : List ℕ) (i j : ℕ) → j ≡ i + 1 + 1 → i + 1 < length xs → take j xs ≡ take i xs ++ get_or xs i 0 ∷ get_or xs (i + 1) 0 ∷ []
two-more xs i j e h = rw (e, one-more xs (i + 1) h, one-more xs i (omega arith)) (append_assoc (take i xs) (get_or xs i 0 ∷ []) (get_or xs (i + 1) 0 ∷ []))

-- one byte more
pub hex-more : (word bytes : List ℕ) (place byte : ℕ) → 2 * place + 1 < length word → take (2 * place) word ≡ hex_text bytes →
    IsByte (get_or word (2 * place) 0) (get_or word (2 * place + 1) 0) byte → take (2 * (place + 1)) word ≡ hex_text (bytes ++ byte ∷ [])
hex-more word bytes place byte p so_far is =
    let e : take (2 * (place + 1)) word ≡ take (2 * place) word ++ get_or word (2 * place) 0 ∷ get_or word (2 * place + 1) 0
    ∷ [] = two-more word (2 * place) (2 * (place + 1)) (omega arith) p in
    e ∙ rw (so_far, is.0, is.1) (sym (hex-push bytes byte))

-- an odd number of digits
pub odd-hex : (word bytes : List ℕ) → length word % 2 ≡ 1 → IsHexText word bytes → ⊥
odd-hex word bytes odd is = omega (arith, hex-length bytes, ap length is.0)

-- a value's word that isn't `-`
pub value-hex : (word value : List ℕ) → word ≢ codes "-" → IsValueWord word value → IsHexText word value × (0 < length word) × (length word ≤ 120000)
value-hex word [] dash is = absurd (dash is.0)
value-hex word (byte ∷ bytes) dash is = (
  (is.0, is.1.1),
  omega (arith, hex-length (byte ∷ bytes), ap length is.0),
  omega (arith, hex-length (byte ∷ bytes), ap length is.0),
)

-- a hexadecimal digit isn't the mark

-- the bytes of a value's word are the value
pub hex-value : (word bytes : List ℕ) (made : Option (List ℕ)) → IsHexText word bytes → 0 < length word → length word ≤ 120000 →
    made ≡ (if nat_le (length bytes) 60000 then Some bytes else None) → IsRead (IsValueWord word) made
hex-value word [] made is some few e = absurd (omega (arith, some, ap length is.0))
hex-value word (byte ∷ bytes) made is some few e =
    let n : length (byte ∷ bytes) ≤ 60000 = omega (arith, few, hex-length (byte ∷ bytes), ap length is.0) in
    let t : nat_le (length (byte ∷ bytes)) 60000 ≡ true = grind (arith, nat_tests, n) in
    let m : made ≡ Some (byte ∷ bytes) = e ∙ ap (λ (b : Bool). if b then Some (byte ∷ bytes) else None) t in
    subst (λ (r : Option (List ℕ)). IsRead (IsValueWord word) r) (sym m) (is.0, (n, is.1))
