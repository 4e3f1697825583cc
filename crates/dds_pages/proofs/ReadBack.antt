-- A page that was written is read again.
use Rattle.std.proofs.Common.{ℕ, zero, suc, ◌≡◌, ◌+◌, ◌-◌, ◌*◌, ◌^◌, ◌<◌, ◌≤◌, ◌==◌, ◌||◌, Bool, true, false, List, [], ◌∷◌, ◌++◌, length}
use Rattle.std.proofs.Common.{take, drop, replicate, nat_eq, nat_lt, Some, None, refl, sym, ap, ◌∙◌, arith, append_assoc, length-append}
use Rattle.std.specs.List.{list_all, flat_map}
use Rattle.std.proofs.lemmas.List.{drop-drop}
use Rattle.std.proofs.Math.Seq.{drop-append_seam}
use Rattle.std.proofs.lemmas.Bool.Decides.{nat_tests}
use Rattle.dds_pages.specs.Fields.{number_at, spelled, padded, zero_from, form_2, first_fault}
use Rattle.dds_pages.specs.Root.{Root, root_fault, root_of, root_bytes, numbers_at}
use Rattle.dds_pages.specs.Overflow.{Overflow, overflow_fault, overflow_of, overflow_bytes}
use Rattle.dds_pages.specs.Bucket.{Bucket, IsHeld, bucket_fault, bucket_of, bucket_bytes, held_bytes, pair_fault, pair_at, after_pair, pairs_fault, head_fault}
use Rattle.dds_pages.specs.declared.bucket.Held.{Held}
use Rattle.dds_pages.specs.declared.bucket.Held.TheVariants.{Here, Chain}
use Rattle.dds_pages.specs.declared.bucket.PagePair.{PagePair}
use Rattle.dds_pages.proofs.Numbers.{length-spelled, reads-spelled}
use Rattle.dds_pages.specs.Said.{root_in, bucket_in, overflow_in}

-- a field is read, and what stands behind it
number-here : (page : List ℕ) (at n : ℕ) → number_at page at n ≡ number_at (drop at page) 0 n
unfolding number_at
number-here page at n = refl

field-number : (page rest : List ℕ) (at n x : ℕ) → drop at page ≡ spelled n x ++ rest → x < 256 ^ n → number_at page at n ≡ x
field-number page rest at n x e h = number-here page at n ∙ ap (λ (b : List ℕ). number_at b 0 n) e ∙ reads-spelled n x rest h

behind : (page first rest : List ℕ) (at n : ℕ) → drop at page ≡ first ++ rest → length first ≡ n → drop (at + n) page ≡ rest
behind page first rest at n e l = sym (drop-drop n at page) ∙ ap (drop n) e ∙ ap (λ (m : ℕ). drop m (first ++ rest)) (sym l) ∙ drop-append_seam first rest

field-behind : (page rest : List ℕ) (at n x : ℕ) → drop at page ≡ spelled n x ++ rest → drop (at + n) page ≡ rest
field-behind page rest at n x e = behind page (spelled n x) rest at n e (length-spelled n x)

zeros-all : (n : ℕ) → list_all (λ byte. nat_eq byte 0) (replicate n 0) ≡ true
zeros-all zero = refl
zeros-all (suc n) = zeros-all n

taken : (xs ys : List ℕ) → take (length xs) (xs ++ ys) ≡ xs
taken [] ys = refl
taken (x ∷ xs) ys = ap (λ (r : List ℕ). x ∷ r) (taken xs ys)

not-less : (n m : ℕ) → m ≤ n → nat_lt n m ≡ false
not-less n m h = grind (arith, nat_tests)

not-last : (n : ℕ) → n < 2 ^ 64 - 1 → (n == 2 ^ 64 - 1) ≡ false
not-last n h = grind (arith, nat_tests)

is-less : (n m : ℕ) → n < m → nat_lt n m ≡ true
is-less n m h = grind (arith, nat_tests)

-- what one pair's bytes at byte 16 are read as
record ReadsPair (page : List ℕ) (used : ℕ) (pair : PagePair) (rest : List ℕ) : Type 0 where
  pub fault : pair_fault form_2 page used 16 ≡ None
  pub same : pair_at form_2 page 16 ≡ pair
  pub after : after_pair form_2 page 16 ≡ used
  pub end : drop used page ≡ rest

four-none : (a b c d : Bool) (i j k m : ℕ) → a ≡ false → b ≡ false → c ≡ false → d ≡ false → first_fault ((a, i) ∷ (b, j) ∷ (c, k) ∷ (d, m) ∷ []) ≡ None
four-none a b c d i j k m p q r s = rw (p, q, r, s) refl

pair-here : (page v rest : List ℕ) (key used : ℕ) → drop 16 page ≡ spelled 8 key ++ (spelled 2 (length v) ++ (v ++ rest)) → key < 2 ^ 64 → length v ≤ 4000 →
    used ≡ 26 + length v →
    ReadsPair page used (record { key = key; held = Here v }) rest
pair-here page v rest key used e k short u =
    let nk : number_at page 16 8 ≡ key = field-number page _ 16 8 key e (omega arith) in
    let d24 : drop 24 page ≡ spelled 2 (length v) ++ (v ++ rest) = field-behind page _ 16 8 key e in
    let nl : number_at page 24 2 ≡ length v = field-number page _ 24 2 (length v) d24 (omega arith) in
    let d26 : drop 26 page ≡ v ++ rest = field-behind page _ 24 2 (length v) d24 in
    let long : nat_lt 4000 (length v) ≡ false = not-less 4000 (length v) short in
    let most : nat_lt 60000 (length v) ≡ false = not-less 60000 (length v) (omega arith) in
    let head : nat_lt used 26 ≡ false = not-less used 26 (omega arith) in
    let room : nat_lt used (26 + length v) ≡ false = not-less used (26 + length v) (omega arith) in
    let sum : 16 + (10 + length v) ≡ 26 + length v = omega arith in
    record {
      fault = rw (nl, long, head, sum, room, most) refl;
      same = rw (nk, nl, long, d26, taken v rest) refl;
      after = rw (nl, long) (omega arith);
      end = ap (λ (n : ℕ). drop n page) u ∙ behind page v rest 26 (length v) d26 refl;
    }

pair-chain : (page rest : List ℕ) (key len first used : ℕ) → drop 16 page ≡ spelled 8 key ++ (spelled 2 len ++ (spelled 8 first ++ rest)) → key < 2 ^ 64 →
    4000 < len → len ≤ 60000 → first < 2 ^ 64 - 1 → used ≡ 34 →
    ReadsPair page used (record { key = key; held = Chain len first }) rest
pair-chain page rest key len first used e k some few f u =
    let nk : number_at page 16 8 ≡ key = field-number page _ 16 8 key e (omega arith) in
    let d24 : drop 24 page ≡ spelled 2 len ++ (spelled 8 first ++ rest) = field-behind page _ 16 8 key e in
    let nl : number_at page 24 2 ≡ len = field-number page _ 24 2 len d24 (omega arith) in
    let d26 : drop 26 page ≡ spelled 8 first ++ rest = field-behind page _ 24 2 len d24 in
    let nf : number_at page 26 8 ≡ first = field-number page _ 26 8 first d26 (omega arith) in
    let long : nat_lt 4000 len ≡ true = is-less 4000 len some in
    let most : nat_lt 60000 len ≡ false = not-less 60000 len few in
    let last : (first == 2 ^ 64 - 1) ≡ false = not-last first f in
    let d34 : drop 34 page ≡ rest = field-behind page _ 26 8 first d26 in
    record {
      fault = rw (u, nl, long, most, nf, last) refl;
      same = rw (nk, nl, long, nf) refl;
      after = rw (nl, long) (sym u);
      end = ap (λ (n : ℕ). drop n page) u ∙ d34;
    }

head-none : (page : List ℕ) (used : ℕ) → number_at page 0 1 ≡ 2 → number_at page 1 1 ≡ 2 → number_at page 12 2 ≡ used → 16 ≤ used → used ≤ 4096 →
    number_at page 14 2 ≡ 0 → head_fault form_2 page ≡ None
head-none page used a b c low high d =
    let l : nat_lt used 16 ≡ false = not-less used 16 low in
    let h : nat_lt 4096 used ≡ false = not-less 4096 used high in
    rw (a, b, c, l, h, d) refl

-- a page of one pair is accepted, and says the pair
one-pair : (page : List ℕ) (used next k : ℕ) (pair : PagePair) → number_at page 0 1 ≡ 2 → number_at page 1 1 ≡ 2 → number_at page 2 2 ≡ 1 →
    number_at page 4 8 ≡ next → number_at page 12 2 ≡ used → number_at page 14 2 ≡ 0 →
    16 ≤ used → used ≤ 4096 → ReadsPair page used pair (replicate k 0) → bucket_in page ≡ Some (record { pairs = pair ∷ []; next = next })
unfolding bucket_in
one-pair page used next k pair a b n e c d low high r =
    let head = head-none page used a b c low high d in
    let end : nat_lt used used ≡ false = not-less used used (omega arith) in
    let zeros : zero_from page used ≡ true = ap (list_all (λ byte. nat_eq byte 0)) r.end ∙ zeros-all k in
    let pairs : pairs_fault form_2 page used 16 1 ≡ None = rw (r.fault, r.after, end) refl in
    let fault : bucket_fault form_2 page ≡ None = rw (head, c, n, pairs, zeros) refl in
    let says : bucket_of form_2 page ≡ record { pairs = pair ∷ []; next = next } = rw (n, r.same, e) refl in
    rw fault (ap (λ (x : Bucket). Some x) says)

-- the fields before the pairs
heads : (pairs zeros : List ℕ) (next count used : ℕ) →
    (spelled 1 2 ++ (spelled 1 2 ++ (spelled 2 count ++ (spelled 8 next ++ (spelled 2 used ++ (spelled 2 0 ++ pairs)))))) ++ zeros ≡
    spelled 1 2 ++ (spelled 1 2 ++ (spelled 2 count ++ (spelled 8 next ++ (spelled 2 used ++ (spelled 2 0 ++ (pairs ++ zeros))))))
heads pairs zeros next count used = simp append_assoc

record Heads (page : List ℕ) (next count used : ℕ) (pairs : List ℕ) : Type 0 where
  pub kind : number_at page 0 1 ≡ 2
  pub version : number_at page 1 1 ≡ 2
  pub count_is : number_at page 2 2 ≡ count
  pub next_is : number_at page 4 8 ≡ next
  pub used_is : number_at page 12 2 ≡ used
  pub zero_is : number_at page 14 2 ≡ 0
  pub rest : drop 16 page ≡ pairs

heads-read : (page pairs : List ℕ) (next count used : ℕ) →
    page ≡ spelled 1 2 ++ (spelled 1 2 ++ (spelled 2 count ++ (spelled 8 next ++ (spelled 2 used ++ (spelled 2 0 ++ pairs))))) →
    next < 2 ^ 64 → count < 2 ^ 16 → used < 2 ^ 16 → Heads page next count used pairs
heads-read page pairs next count used e n c u =
    let d1 = field-behind page _ 0 1 2 e in
    let d2 = field-behind page _ 1 1 2 d1 in
    let d4 = field-behind page _ 2 2 count d2 in
    let d12 = field-behind page _ 4 8 next d4 in
    let d14 = field-behind page _ 12 2 used d12 in
    record {
      kind = field-number page _ 0 1 2 e (omega arith);
      version = field-number page _ 1 1 2 d1 (omega arith);
      count_is = field-number page _ 2 2 count d2 (omega arith);
      next_is = field-number page _ 4 8 next d4 (omega arith);
      used_is = field-number page _ 12 2 used d12 (omega arith);
      zero_is = field-number page _ 14 2 0 d14 (omega arith);
      rest = field-behind page _ 14 2 0 d14;
    }

-- how many bytes a pair takes
pub width-of : (key : ℕ) (held : List ℕ) → length ((spelled 8 key ++ held) ++ []) ≡ 8 + length held
width-of key held = let l = length-spelled 8 key in simp length-append (omega arith)

pub held-width : (held : Held) → IsHeld held → length (held_bytes held) ≤ 4002
held-width (Here v) h = let l = length-spelled 2 (length v) in simp length-append (omega arith)
held-width (Chain len first) h = let l = length-spelled 2 len in let m = length-spelled 8 first in simp length-append (omega arith)

regroup : (a b zeros : List ℕ) → ((a ++ b) ++ []) ++ zeros ≡ a ++ (b ++ zeros)
regroup a b zeros = simp append_assoc

reads-held : (page zeros : List ℕ) (key used : ℕ) (held : Held) → drop 16 page ≡ spelled 8 key ++ (held_bytes held ++ zeros) → key < 2 ^ 64 → IsHeld held →
    used ≡ 16 + (8 + length (held_bytes held)) →
    ReadsPair page used (record { key = key; held = held }) zeros
reads-held page zeros key used (Here v) e k h u =
    let l = length-spelled 2 (length v) in
    let w : length (spelled 2 (length v) ++ v) ≡ 2 + length v = simp length-append (omega arith) in
    pair-here page v zeros key used (e ∙ ap (λ (r : List ℕ). spelled 8 key ++ r) (append_assoc (spelled 2 (length v)) v zeros)) k h (omega (arith, u, w))
reads-held page zeros key used (Chain len first) e k h u =
    let l = length-spelled 2 len in
    let m = length-spelled 8 first in
    let w : length (spelled 2 len ++ spelled 8 first) ≡ 10 = simp length-append (omega arith) in
    pair-chain page zeros key len first used (e ∙ ap (λ (r : List ℕ). spelled 8 key ++ r) (append_assoc (spelled 2 len) (spelled 8 first) zeros)) k h.0 h.1
    h.2 (omega (arith, u, w))

-- a page of one pair that was written says the pair
pub bucket-back : (key next : ℕ) (held : Held) → key < 2 ^ 64 → next < 2 ^ 64 → IsHeld held →
    bucket_in (bucket_bytes (record { pairs = record { key = key; held = held } ∷ []; next = next }))
    ≡ Some (record { pairs = record { key = key; held = held } ∷ []; next = next })
unfolding padded
bucket-back key next held k n h =
    let bytes : List ℕ = (spelled 8 key ++ held_bytes held) ++ [] in
    let used : ℕ = 16 + length bytes in
    let first : List ℕ = spelled 1 2 ++ (spelled 1 2 ++ (spelled 2 1 ++ (spelled 8 next ++ (spelled 2 used ++ (spelled 2 0 ++ bytes))))) in
    let zeros : ℕ = 4096 - length first in
    let w : length ((spelled 8 key ++ held_bytes held) ++ []) ≡ 8 + length (held_bytes held) = width-of key (held_bytes held) in
    let most = held-width held h in
    let hs : Heads (first ++ replicate zeros 0) next 1 used (bytes ++ replicate zeros 0) =
    heads-read _ _ next 1 used (heads bytes (replicate zeros 0) next 1 used) n (omega arith) (omega (arith, w, most)) in
    let pair = reads-held _ (replicate zeros 0) key used held (hs.rest ∙ regroup (spelled 8 key) (held_bytes held) (replicate zeros 0)) k h
    (ap (λ (m : ℕ). 16 + m) w) in
    one-pair _ used next zeros _ hs.kind hs.version hs.count_is hs.next_is hs.used_is hs.zero_is (omega arith) (omega (arith, w, most)) pair

-- an overflow page that was written says its bytes
over-heads : (bytes zeros : List ℕ) (count next : ℕ) →
    (spelled 1 3 ++ (spelled 1 2 ++ (spelled 2 count ++ (spelled 8 next ++ (spelled 4 0 ++ bytes))))) ++ zeros ≡
    spelled 1 3 ++ (spelled 1 2 ++ (spelled 2 count ++ (spelled 8 next ++ (spelled 4 0 ++ (bytes ++ zeros)))))
over-heads bytes zeros count next = simp append_assoc

some-few : (n : ℕ) → 0 < n → n ≤ 4080 → (n == 0 || nat_lt 4080 n) ≡ false
some-few n h k = grind (arith, nat_tests)

over-read : (page bytes : List ℕ) (next k : ℕ) →
    page ≡ spelled 1 3 ++ (spelled 1 2 ++ (spelled 2 (length bytes) ++ (spelled 8 next ++ (spelled 4 0 ++ (bytes ++ replicate k 0))))) → next < 2 ^ 64 →
    0 < length bytes → length bytes ≤ 4080 →
    overflow_in page ≡ Some (record { bytes = bytes; next = next })
unfolding overflow_in
over-read page bytes next k e n some few =
    let d1 = field-behind page _ 0 1 3 e in
    let d2 = field-behind page _ 1 1 2 d1 in
    let d4 = field-behind page _ 2 2 (length bytes) d2 in
    let d12 = field-behind page _ 4 8 next d4 in
    let d16 : drop 16 page ≡ bytes ++ replicate k 0 = field-behind page _ 12 4 0 d12 in
    let f0 : number_at page 0 1 ≡ 3 = field-number page _ 0 1 3 e (omega arith) in
    let f1 : number_at page 1 1 ≡ 2 = field-number page _ 1 1 2 d1 (omega arith) in
    let f2 : number_at page 2 2 ≡ length bytes = field-number page _ 2 2 (length bytes) d2 (omega arith) in
    let f4 : number_at page 4 8 ≡ next = field-number page _ 4 8 next d4 (omega arith) in
    let f12 : number_at page 12 4 ≡ 0 = field-number page _ 12 4 0 d12 (omega arith) in
    let end : drop (16 + length bytes) page ≡ replicate k 0 = behind page bytes (replicate k 0) 16 (length bytes) d16 refl in
    let zeros : zero_from page (16 + length bytes) ≡ true = ap (list_all (λ byte. nat_eq byte 0)) end ∙ zeros-all k in
    let fault : overflow_fault page ≡ None = rw (f0, f1, f2, some-few (length bytes) some few, f12, zeros) refl in
    let says : overflow_of page ≡ record { bytes = bytes; next = next } = rw (f2, d16, taken bytes (replicate k 0), f4) refl in
    rw fault (ap (λ (x : Overflow). Some x) says)

pub overflow-back : (bytes : List ℕ) (next : ℕ) → next < 2 ^ 64 → 0 < length bytes → length bytes ≤ 4080 →
    overflow_in (overflow_bytes (record { bytes = bytes; next = next })) ≡ Some (record { bytes = bytes; next = next })
unfolding padded
overflow-back bytes next n some few = over-read _ bytes next _ (over-heads bytes (replicate _ 0) (length bytes) next) n some few

-- a root page that was written says its numbers
abbrev pub AreSmall : List ℕ → Type 0
AreSmall [] = Unit {0}
AreSmall (x ∷ xs) = (x < 2 ^ 64) × AreSmall xs

numbers-read : (page rest : List ℕ) (at : ℕ) (xs : List ℕ) → drop at page ≡ flat_map (spelled 8) xs ++ rest → AreSmall xs →
    (numbers_at page at (length xs) ≡ xs) × (drop (at + 8 * length xs) page ≡ rest)
unfolding numbers_at
numbers-read page rest at [] e s = (refl, ap (λ (n : ℕ). drop n page) (omega arith) ∙ e)
numbers-read page rest at (x ∷ xs) e s =
    let e2 : drop at page ≡ spelled 8 x ++ (flat_map (spelled 8) xs ++ rest) = e ∙ append_assoc (spelled 8 x) (flat_map (spelled 8) xs) rest in
    let d = field-behind page _ at 8 x e2 in
    let n = field-number page _ at 8 x e2 (omega (arith, s.0)) in
    let r = numbers-read page rest (at + 8) xs d s.1 in
    let i : at + 8 * suc (length xs) ≡ at + 8 + 8 * length xs = omega arith in
    (λ i. n i ∷ r.0 i, ap (λ (m : ℕ). drop m page) i ∙ r.1)

root-heads : (numbers zeros : List ℕ) (pairs : ℕ) →
    (spelled 1 1 ++ (spelled 1 2 ++ (spelled 2 0 ++ (spelled 4 pairs ++ (spelled 8 0 ++ numbers))))) ++ zeros ≡
    spelled 1 1 ++ (spelled 1 2 ++ (spelled 2 0 ++ (spelled 4 pairs ++ (spelled 8 0 ++ (numbers ++ zeros)))))
root-heads numbers zeros pairs = simp append_assoc

root-read : (page firsts : List ℕ) (pairs k : ℕ) →
    page ≡ spelled 1 1 ++ (spelled 1 2 ++ (spelled 2 0 ++ (spelled 4 pairs ++ (spelled 8 0 ++ (flat_map (spelled 8) firsts ++ replicate k 0))))) →
    pairs ≤ 16384 → length firsts ≡ 256 → AreSmall firsts →
    root_in page ≡ Some (record { pairs = pairs; firsts = firsts })
unfolding root_in
root-read page firsts pairs k e few l s =
    let d1 = field-behind page _ 0 1 1 e in
    let d2 = field-behind page _ 1 1 2 d1 in
    let d4 = field-behind page _ 2 2 0 d2 in
    let d8 = field-behind page _ 4 4 pairs d4 in
    let d16 : drop 16 page ≡ flat_map (spelled 8) firsts ++ replicate k 0 = field-behind page _ 8 8 0 d8 in
    let f0 : number_at page 0 1 ≡ 1 = field-number page _ 0 1 1 e (omega arith) in
    let f1 : number_at page 1 1 ≡ 2 = field-number page _ 1 1 2 d1 (omega arith) in
    let f2 : number_at page 2 2 ≡ 0 = field-number page _ 2 2 0 d2 (omega arith) in
    let f4 : number_at page 4 4 ≡ pairs = field-number page _ 4 4 pairs d4 (omega arith) in
    let f8 : number_at page 8 8 ≡ 0 = field-number page _ 8 8 0 d8 (omega arith) in
    let ns = numbers-read page (replicate k 0) 16 firsts d16 s in
    let numbers : numbers_at page 16 256 ≡ firsts = ap (numbers_at page 16) (sym l) ∙ ns.0 in
    let end : drop 2064 page ≡ replicate k 0 = ap (λ (n : ℕ). drop (16 + 8 * n) page) (sym l) ∙ ns.1 in
    let zeros : zero_from page 2064 ≡ true = ap (list_all (λ byte. nat_eq byte 0)) end ∙ zeros-all k in
    let most : nat_lt 16384 pairs ≡ false = not-less 16384 pairs few in
    let fault : root_fault 2 page ≡ None = rw (f0, f1, f2, f4, most, f8, zeros) refl in
    let says : root_of page ≡ record { pairs = pairs; firsts = firsts } = rw (f4, numbers) refl in
    rw fault (ap (λ (x : Root). Some x) says)

pub root-back : (firsts : List ℕ) (pairs : ℕ) → pairs ≤ 16384 → length firsts ≡ 256 → AreSmall firsts →
    root_in (root_bytes 2 (record { pairs = pairs; firsts = firsts })) ≡ Some (record { pairs = pairs; firsts = firsts })
unfolding padded
root-back firsts pairs few l s = root-read _ firsts pairs _ (root-heads (flat_map (spelled 8) firsts) (replicate _ 0) pairs) few l s
