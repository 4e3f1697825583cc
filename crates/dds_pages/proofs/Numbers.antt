-- Laws of the fields of a page.
use Rattle.std.proofs.Common.{ℕ, zero, suc, nat_eq, ◌&&◌, Bool, [], ◌∷◌, refl, ◌≡◌, ◌+◌, ◌-◌, ◌^◌, ◌<◌, ◌≤◌, List, ◌++◌, length, take, drop}
use Rattle.std.proofs.Common.{slice_index_or, replicate, sym, ◌∙◌, ap, arith, length-append, length-drop}
use lib.Pointwise.{pointwise}
use Rattle.std.specs.List.{list_all}
use Rattle.std.proofs.lemmas.List.{get_or-drop, drop-replicate, take-append-drop, length-take, length-replicate, replicate-append-replicate}
use Rattle.std.proofs.Math.Seq.{drop-append_seam, drop-append-add}
use Rattle.byteorder.specs.Endian.{big_number}
use Rattle.byteorder.specs.Numbers.{length-bytes_high_first, big_number-reads_back}
use Rattle.std.proofs.lemmas.Grind.{common_steps}
use Rattle.dds_pages.specs.Fields.{number_at, spelled, padded, zero_from, IsWritten}

-- a byte is the number of one byte
pub byte-number : (bytes : List ℕ) (at : ℕ) → at < length bytes → slice_index_or bytes at 0 ≡ number_at bytes at 1
unfolding number_at
byte-number bytes at h = let e = get_or-drop at bytes 0 0 in grind (arith, common_steps)

-- a page's end stays zero where bytes are written before it
pub write-rest : (page bytes : List ℕ) (at k size : ℕ) → k ≡ length bytes → length page ≡ size → at + length bytes ≤ size →
    drop at page ≡ replicate (size - at) 0 →
    drop (at + length bytes) (take at page ++ (bytes ++ drop k (drop at page))) ≡ replicate (size - (at + length bytes)) 0
write-rest page bytes at k size same long within zeros =
    let l = length-take at page in
    let n : length (take at page) ≡ at = omega arith in
    let m = drop-append-add (take at page) (bytes ++ drop k (drop at page)) (length bytes) in
    let e : size - at - k ≡ size - (at + length bytes) = omega arith in
    ap (λ (i : ℕ). drop (i + length bytes) (take at page ++ (bytes ++ drop k (drop at page)))) (sym n) ∙ m ∙ drop-append_seam bytes (drop k (drop at page))
    ∙ ap (drop k) zeros ∙ drop-replicate k (size - at) 0 ∙ ap (λ (i : ℕ). replicate i 0) e

-- writing some bytes behind those that were written
pub write-more : (page new bytes was : List ℕ) (at k end : ℕ) → IsWritten page at → take at page ≡ was → new ≡ bytes → k ≡ length bytes →
    end ≡ at + length bytes → length was + length bytes ≤ 4096 →
    IsWritten (take at page ++ (new ++ drop k (drop at page))) end
write-more page new bytes was at k end w v same long e fits =
    let l = length-take at page in
    let n : length (take at page) ≡ at = omega (arith, w.long, w.within) in
    let f : at + length bytes ≤ 4096 = omega (arith, ap length v) in
    let d = length-drop at page in
    let dd = length-drop k (drop at page) in
    let whole : length (take at page ++ (bytes ++ drop k (drop at page))) ≡ 4096 = simp length-append (omega (arith, w.long)) in
    rw (same, e) record { long = whole; within = f; zeros = write-rest page bytes at k 4096 long w.long f w.zeros }

-- a page that is zero from a place on is its first bytes, padded
pub page-padded : (page : List ℕ) (at : ℕ) → IsWritten page at → page ≡ padded (take at page)
unfolding padded
page-padded page at w =
    let l = length-take at page in
    let n : length (take at page) ≡ at = omega (arith, w.long, w.within) in
    sym (take-append-drop at page) ∙ ap (λ (r : List ℕ). take at page ++ r) (w.zeros ∙ ap (λ (i : ℕ). replicate (4096 - i) 0) (sym n))

-- what numbers are spelled by
pub length-spelled : (n x : ℕ) → length (spelled n x) ≡ n
unfolding spelled
length-spelled n x = length-bytes_high_first n x

-- a number that fits is read as it was spelled
pub reads-spelled : (n x : ℕ) (rest : List ℕ) → x < 256 ^ n → number_at (spelled n x ++ rest) 0 n ≡ x
unfolding spelled number_at
reads-spelled n x rest h = big_number-reads_back n x rest h

-- a place behind some bytes is one in what follows them
pub number-behind : (xs ys : List ℕ) (at n : ℕ) → number_at (xs ++ ys) (length xs + at) n ≡ number_at ys at n
unfolding number_at
number-behind xs ys at n = ap (big_number n) (drop-append-add xs ys at)

-- zeros in place of the first bytes make a page of zeros
pub cleared : (page new : List ℕ) (at k : ℕ) → IsWritten page at → k ≡ at → new ≡ replicate k 0 → IsWritten (new ++ drop at page) 0
cleared page new at k w e is =
    let whole : at + (4096 - at) ≡ 4096 = omega (arith, w.within) in
    let all : replicate at 0 ++ replicate (4096 - at) 0 ≡ replicate 4096 0 = replicate-append-replicate at (4096 - at) 0
    ∙ ap (λ (i : ℕ). replicate i 0) whole in
    let zeros : new ++ drop at page ≡ replicate 4096 0 = ap (λ (xs : List ℕ). xs ++ drop at page) (is ∙ ap (λ (i : ℕ). replicate i 0) e)
    ∙ ap (λ (xs : List ℕ). replicate at 0 ++ xs) w.zeros ∙ all in
    record { long = ap length zeros ∙ length-replicate {A = ℕ} 4096 0; within = omega arith; zeros = zeros }

-- as many bytes as there are zeros are equal to them where each is zero
zeros-as-long : (n : ℕ) (xs : List ℕ) → length xs ≡ n → pointwise nat_eq xs (replicate n 0) ≡ list_all (λ byte. nat_eq byte 0) xs
zeros-as-long zero [] h = refl
zeros-as-long zero (x ∷ xs) h = absurd (omega (arith, h))
zeros-as-long (suc n) [] h = absurd (omega (arith, h))
zeros-as-long (suc n) (x ∷ xs) h = ap (λ (b : Bool). nat_eq x 0 && b) (zeros-as-long n xs (omega (arith, h)))

pub zeros-equal : (bytes tail zeros : List ℕ) (at : ℕ) (same : Bool) → length tail + at ≡ 4096 → tail ≡ drop at bytes → zeros ≡ drop at (replicate 4096 0) →
    same ≡ pointwise nat_eq tail zeros → same ≡ zero_from bytes at
zeros-equal bytes tail zeros at same long t z e =
    let l : length (drop at bytes) ≡ 4096 - at = ap length (sym t) ∙ omega (arith, long) in
    e ∙ ap (λ (xs : List ℕ). pointwise nat_eq xs zeros) t ∙ ap (pointwise nat_eq (drop at bytes)) (z ∙ drop-replicate at 4096 0)
    ∙ zeros-as-long (4096 - at) (drop at bytes) l
