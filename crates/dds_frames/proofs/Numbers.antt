-- A number in some bytes has these bytes, and is read from them again.
use Rattle.std.proofs.Common.{ℕ, zero, suc, ◌≡◌, ◌+◌, ◌*◌, ◌/◌, ◌%◌, ◌^◌, ◌<◌, ◌≤◌, List, [], ◌∷◌, ◌++◌, length, take, refl, sym, ◌∙◌, ap, arith}
use Rattle.std.specs.Int.{byte_at, bytes_high_first}
use Rattle.std.proofs.Math.Nat.{mod-eq_of_lt, div-one, pow-succ', mul-add-mod_self_right, mul-add-div, one-le-pow}
use Rattle.std.proofs.lemmas.Nat.{div-mul-add}
use Rattle.byteorder.specs.Endian.{big_from, big_number}
use Rattle.byteorder.specs.Numbers.{big_from-cons, big_from-lt, length-bytes_high_first, big_number-reads_back}
use Rattle.dds_frames.specs.Spelling.{AreBytes, number_bytes}

byte-is : (k x : ℕ) → byte_at k x ≡ x / 256 ^ k % 256
byte-is zero x = ap (λ (y : ℕ). y % 256) (sym (div-one x))
byte-is (suc k) x = refl

above-zero : (n : ℕ) → 0 < 256 ^ n
above-zero n = let h = one-le-pow n 256 (omega arith) in omega arith

shuffle : (q p : ℕ) → q * (256 * p) ≡ p * (q * 256)
shuffle q p = grind arith

shuffle-more : (q p : ℕ) → q * (256 * p) ≡ q * 256 * p
shuffle-more q p = grind arith

-- the low bytes of a number don't see what stands above them
bytes-below : (n q r : ℕ) → bytes_high_first n (q * 256 ^ n + r) ≡ bytes_high_first n r
bytes-below zero q r = refl
bytes-below (suc n) q r =
    let e : q * 256 ^ suc n ≡ 256 ^ n * (q * 256) = ap (λ (p : ℕ). q * p) (pow-succ' 256 n) ∙ shuffle q (256 ^ n) in
    let f : q * 256 ^ suc n ≡ q * 256 * 256 ^ n = ap (λ (p : ℕ). q * p) (pow-succ' 256 n) ∙ shuffle-more q (256 ^ n) in
    let d = mul-add-div (above-zero n) (q * 256) r in
    let head : byte_at n (q * 256 ^ suc n + r) ≡ byte_at n r =
    byte-is n (q * 256 ^ suc n + r) ∙ ap (λ (y : ℕ). (y + r) / 256 ^ n % 256) e ∙ ap (λ (y : ℕ). y % 256) d ∙ mul-add-mod_self_right q 256 (r / 256 ^ n)
    ∙ sym (byte-is n r) in
    let tail : bytes_high_first n (q * 256 ^ suc n + r) ≡ bytes_high_first n r = ap (λ (y : ℕ). bytes_high_first n (y + r)) f ∙ bytes-below n (q * 256) r in
    λ i. head i ∷ tail i

-- the bytes of the number in some bytes are those bytes
pub bytes-of-number : (n : ℕ) (xs : List ℕ) → n ≤ length xs → AreBytes xs → bytes_high_first n (big_from 0 n xs) ≡ take n xs
bytes-of-number zero xs h b = refl
bytes-of-number (suc n) [] h b = absurd (omega arith)
bytes-of-number (suc n) (x ∷ xs) h b =
    let moved : big_from 1 n (x ∷ xs) ≡ big_from 0 n xs = big_from-cons 0 n x xs in
    let rest : AreBytes xs = λ k. b (suc k) in
    let small : big_from 0 n xs < 256 ^ n = big_from-lt 0 n xs rest in
    let whole : big_from 0 (suc n) (x ∷ xs) ≡ x * 256 ^ n + big_from 0 n xs = ap (λ (y : ℕ). x * 256 ^ n + y) moved in
    let head : byte_at n (x * 256 ^ n + big_from 0 n xs) ≡ x =
    byte-is n (x * 256 ^ n + big_from 0 n xs) ∙ ap (λ (y : ℕ). y % 256) (div-mul-add x (256 ^ n) (big_from 0 n xs) small) ∙ mod-eq_of_lt (b 0) in
    let tail : bytes_high_first n (x * 256 ^ n + big_from 0 n xs) ≡ take n xs = bytes-below n x (big_from 0 n xs) ∙ bytes-of-number n xs (omega arith) rest in
    ap (bytes_high_first (suc n)) whole ∙ (λ i. head i ∷ tail i)

pub length-number : (n x : ℕ) → length (number_bytes n x) ≡ n
unfolding number_bytes
length-number n x = length-bytes_high_first n x

pub number-below : (n : ℕ) (bytes : List ℕ) → AreBytes bytes → big_number n bytes < 256 ^ n
number-below n bytes b = big_from-lt 0 n bytes b

pub number-back : (n x : ℕ) (rest : List ℕ) → x < 256 ^ n → big_number n (number_bytes n x ++ rest) ≡ x
unfolding number_bytes
number-back n x rest h = big_number-reads_back n x rest h

pub number-again : (n : ℕ) (bytes : List ℕ) → n ≤ length bytes → AreBytes bytes → number_bytes n (big_number n bytes) ≡ take n bytes
unfolding number_bytes
number-again n bytes h b = bytes-of-number n bytes h b
