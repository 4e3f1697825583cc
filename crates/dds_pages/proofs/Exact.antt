-- Numbers and root pages are exact: what is read was spelled so.
use Rattle.std.proofs.Common.{ℕ, zero, suc, ◌≡◌, ◌+◌, ◌-◌, ◌*◌, ◌/◌, ◌%◌, ◌^◌, ◌<◌, ◌≤◌, ◌==◌, ◌&&◌, if◌then◌else◌, Bool, true, false, not}
use Rattle.std.proofs.Common.{List, [], ◌∷◌, ◌++◌, length, take, drop, slice_index, replicate, nat_eq, nat_lt, Option, Some, None, refl}
use Rattle.std.proofs.Common.{sym, ◌∙◌, ap, subst, arith, append_assoc, length-append, length-drop}
use Rattle.std.specs.Int.{byte_at, bytes_high_first}
use Rattle.std.specs.List.{list_all, flat_map}
use Rattle.std.proofs.Math.Nat.{mod-eq_of_lt, div-one, pow-succ', mul-add-mod_self_right, mul-add-div, one-le-pow}
use Rattle.std.proofs.lemmas.Nat.{div-mul-add}
use Rattle.std.proofs.lemmas.List.{take-append-drop, drop-drop, get_or-drop}
use Rattle.std.proofs.lemmas.Bool.Decides.{nat_tests}
use Rattle.byteorder.specs.Endian.{big_from}
use Rattle.byteorder.specs.Numbers.{big_from-cons, big_from-lt}
use Rattle.dds_pages.specs.Fields.{number_at, spelled, zero_from, padded}
use Rattle.dds_pages.specs.Root.{numbers_at, root_fault, root_of, root_bytes}
use Rattle.dds_pages.proofs.Numbers.{length-spelled}
use Rattle.dds_pages.proofs.RootPages.{length-all-spelled}

-- each item is a byte
abbrev pub AreBytes : List ℕ → Type 0
AreBytes bytes = (k : ℕ) → slice_index bytes k < 256

byte-is : (k x : ℕ) → byte_at k x ≡ x / 256 ^ k % 256
byte-is zero x = ap (λ (y : ℕ). y % 256) (sym (div-one x))
byte-is (suc k) x = refl

above-zero : (n : ℕ) → 0 < 256 ^ n
above-zero n = let h = one-le-pow n 256 (omega arith) in omega arith

shuffle : (q p : ℕ) → q * (256 * p) ≡ p * (q * 256)
shuffle q p = grind arith

shuffle-more : (q p : ℕ) → q * (256 * p) ≡ q * 256 * p
shuffle-more q p = grind arith

-- the low bytes of a number don't see what stands above them
bytes-below : (n q r : ℕ) → bytes_high_first n (q * 256 ^ n + r) ≡ bytes_high_first n r
bytes-below zero q r = refl
bytes-below (suc n) q r =
    let e : q * 256 ^ suc n ≡ 256 ^ n * (q * 256) = ap (λ (p : ℕ). q * p) (pow-succ' 256 n) ∙ shuffle q (256 ^ n) in
    let f : q * 256 ^ suc n ≡ q * 256 * 256 ^ n = ap (λ (p : ℕ). q * p) (pow-succ' 256 n) ∙ shuffle-more q (256 ^ n) in
    let d = mul-add-div (above-zero n) (q * 256) r in
    let head : byte_at n (q * 256 ^ suc n + r) ≡ byte_at n r =
    byte-is n (q * 256 ^ suc n + r) ∙ ap (λ (y : ℕ). (y + r) / 256 ^ n % 256) e ∙ ap (λ (y : ℕ). y % 256) d ∙ mul-add-mod_self_right q 256 (r / 256 ^ n)
    ∙ sym (byte-is n r) in
    let tail : bytes_high_first n (q * 256 ^ suc n + r) ≡ bytes_high_first n r = ap (λ (y : ℕ). bytes_high_first n (y + r)) f ∙ bytes-below n (q * 256) r in
    λ i. head i ∷ tail i

-- the bytes of the number in some bytes are those bytes
bytes-of-number : (n : ℕ) (xs : List ℕ) → n ≤ length xs → AreBytes xs → bytes_high_first n (big_from 0 n xs) ≡ take n xs
bytes-of-number zero xs h b = refl
bytes-of-number (suc n) [] h b = absurd (omega arith)
bytes-of-number (suc n) (x ∷ xs) h b =
    let r : ℕ = big_from 0 n xs in
    let moved : big_from 1 n (x ∷ xs) ≡ big_from 0 n xs = big_from-cons 0 n x xs in
    let rest : AreBytes xs = λ k. b (suc k) in
    let small : big_from 0 n xs < 256 ^ n = big_from-lt 0 n xs rest in
    let whole : big_from 0 (suc n) (x ∷ xs) ≡ x * 256 ^ n + big_from 0 n xs = ap (λ (y : ℕ). x * 256 ^ n + y) moved in
    let head : byte_at n (x * 256 ^ n + big_from 0 n xs) ≡ x =
    byte-is n (x * 256 ^ n + big_from 0 n xs) ∙ ap (λ (y : ℕ). y % 256) (div-mul-add x (256 ^ n) (big_from 0 n xs) small) ∙ mod-eq_of_lt (b 0) in
    let tail : bytes_high_first n (x * 256 ^ n + big_from 0 n xs) ≡ take n xs = bytes-below n x (big_from 0 n xs) ∙ bytes-of-number n xs (omega arith) rest in
    ap (bytes_high_first (suc n)) whole ∙ (λ i. head i ∷ tail i)

pub bytes-drop : (bytes : List ℕ) (at : ℕ) → AreBytes bytes → AreBytes (drop at bytes)
bytes-drop bytes at b = λ k. subst (λ (x : ℕ). x < 256) (sym (get_or-drop at bytes k 0)) (b (at + k))

-- a field of a page is spelled by its number
pub field-spelled : (bytes : List ℕ) (at n x : ℕ) → at + n ≤ length bytes → AreBytes bytes → number_at bytes at n ≡ x →
    spelled n x ++ drop (at + n) bytes ≡ drop at bytes
unfolding number_at spelled
field-spelled bytes at n x h b e =
    let l = length-drop at bytes in
    ap (λ (y : ℕ). bytes_high_first n y ++ drop (at + n) bytes) (sym e)
    ∙ ap (λ (f : List ℕ). f ++ drop (at + n) bytes) (bytes-of-number n (drop at bytes) (omega arith) (bytes-drop bytes at b))
    ∙ ap (λ (f : List ℕ). take n (drop at bytes) ++ f) (sym (drop-drop n at bytes)) ∙ take-append-drop n (drop at bytes)

-- so are the numbers of 8 bytes from a place on
pub numbers-spelled : (bytes : List ℕ) (at n : ℕ) → at + 8 * n ≤ length bytes → AreBytes bytes →
    flat_map (spelled 8) (numbers_at bytes at n) ++ drop (at + 8 * n) bytes ≡ drop at bytes
unfolding numbers_at
numbers-spelled bytes at zero h b = ap (λ (i : ℕ). drop i bytes) (omega arith)
numbers-spelled bytes at (suc n) h b =
    let e : at + 8 * suc n ≡ at + 8 + 8 * n = omega arith in
    append_assoc (spelled 8 (number_at bytes at 8)) (flat_map (spelled 8) (numbers_at bytes (at + 8) n)) (drop (at + 8 * suc n) bytes)
    ∙ ap (λ (f : List ℕ). spelled 8 (number_at bytes at 8) ++ f) (ap (λ (i : ℕ). flat_map (spelled 8) (numbers_at bytes (at + 8) n) ++ drop i bytes) e
    ∙ numbers-spelled bytes (at + 8) n (omega arith) b)
    ∙ field-spelled bytes at 8 (number_at bytes at 8) (omega arith) b refl

length-numbers : (bytes : List ℕ) (at n : ℕ) → length (numbers_at bytes at n) ≡ n
unfolding numbers_at
length-numbers bytes at zero = refl
length-numbers bytes at (suc n) = let h = length-numbers bytes (at + 8) n in omega (arith, h)

is-zero : (x : ℕ) (b : Bool) → (nat_eq x 0 && b) ≡ true → (x ≡ 0) × (b ≡ true)
is-zero x true h = (grind (arith, nat_tests), refl)
is-zero x false h = (elim (nat_eq x 0) as (λ t. (t && false) ≡ true → (x ≡ 0) × (false ≡ true)) [ true ↦ λ k. cc | false ↦ λ k. cc ]) h

-- bytes that are all zero
zeros-are : (xs : List ℕ) → list_all (λ byte. nat_eq byte 0) xs ≡ true → xs ≡ replicate (length xs) 0
zeros-are [] h = refl
zeros-are (x ∷ xs) h = let k = is-zero x (list_all (λ byte. nat_eq byte 0) xs) h in λ i. k.0 i ∷ zeros-are xs k.1 i

head-long : (version pairs : ℕ) (firsts : List ℕ) → length firsts ≡ 256 →
    length (spelled 1 1 ++ (spelled 1 version ++ (spelled 2 0 ++ (spelled 4 pairs ++ (spelled 8 0 ++ flat_map (spelled 8) firsts))))) ≡ 2064
head-long version pairs firsts h =
    let a = length-spelled 1 1 in
    let b = length-spelled 1 version in
    let c = length-spelled 2 0 in
    let d = length-spelled 4 pairs in
    let e = length-spelled 8 0 in
    let f = length-all-spelled firsts in
    simp length-append (omega arith)

-- a page is its first bytes, padded, where the others are zero
pub padded-whole : (first bytes : List ℕ) (at : ℕ) → first ++ drop at bytes ≡ bytes → length bytes ≡ 4096 → length first ≡ at → zero_from bytes at ≡ true →
    padded first ≡ bytes
unfolding padded
padded-whole first bytes at whole long l z =
    let d = length-drop at bytes in
    let e : length (drop at bytes) ≡ 4096 - length first = omega arith in
    ap (λ (r : List ℕ). first ++ r) (sym (zeros-are (drop at bytes) z ∙ ap (λ (n : ℕ). replicate n 0) e)) ∙ whole

pub joined : (a x r s all : List ℕ) → x ++ r ≡ s → a ++ s ≡ all → (a ++ x) ++ r ≡ all
joined a x r s all p q = append_assoc a x r ∙ ap (λ (t : List ℕ). a ++ t) p ∙ q

-- a field that is accepted, and the fields after it
pub accepted : (b : Bool) (at : ℕ) (rest : Option ℕ) → (if b then Some at else rest) ≡ None → (b ≡ false) × (rest ≡ None)
accepted true at rest h = cc
accepted false at rest h = (refl, h)

pub equal-from : (x n : ℕ) → not (x == n) ≡ false → x ≡ n
equal-from x n h = grind (arith, nat_tests)

pub true-from : (b : Bool) → not b ≡ false → b ≡ true
true-from true h = refl
true-from false h = cc

-- an accepted root page is spelled by what it says
pub root-spelled : (version : ℕ) (bytes : List ℕ) → length bytes ≡ 4096 → AreBytes bytes → root_fault version bytes ≡ None →
    root_bytes version (root_of bytes) ≡ bytes
root-spelled version bytes long b h =
    let f0 = accepted (not (number_at bytes 0 1 == 1)) 0 _ h in
    let f1 = accepted (not (number_at bytes 1 1 == version)) 1 _ f0.1 in
    let f2 = accepted (not (number_at bytes 2 2 == 0)) 2 _ f1.1 in
    let f4 = accepted (nat_lt 16384 (number_at bytes 4 4)) 4 _ f2.1 in
    let f8 = accepted (not (number_at bytes 8 8 == 0)) 8 _ f4.1 in
    let f9 = accepted (not (zero_from bytes 2064)) 2064 _ f8.1 in
    let s0 = field-spelled bytes 0 1 1 (omega arith) b (equal-from _ _ f0.0) in
    let s1 = field-spelled bytes 1 1 version (omega arith) b (equal-from _ _ f1.0) in
    let s2 = field-spelled bytes 2 2 0 (omega arith) b (equal-from _ _ f2.0) in
    let s4 = field-spelled bytes 4 4 (number_at bytes 4 4) (omega arith) b refl in
    let s8 = field-spelled bytes 8 8 0 (omega arith) b (equal-from _ _ f8.0) in
    let s16 = numbers-spelled bytes 16 256 (omega arith) b in
    padded-whole _ bytes 2064
    (joined _ _ _ _ _ (joined _ _ _ _ _ (joined _ _ _ _ _ (joined _ _ _ _ _ (joined _ _ _ _ _ s16 s8) s4) s2) s1) s0) long
    (head-long version (number_at bytes 4 4) (numbers_at bytes 16 256) (length-numbers bytes 16 256)) (true-from _ f9.0)
