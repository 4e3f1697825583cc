-- Overflow and bucket pages are exact: what is read was spelled so.
use Rattle.std.proofs.Common.{ℕ, zero, suc, ◌≡◌, ◌+◌, ◌≤◌, ◌==◌, ◌||◌, Bool, true, false, not, if◌then◌else◌, List, ◌++◌, length, take}
use Rattle.std.proofs.Common.{drop, nat_lt, Option, Some, None, refl, sym, ◌∙◌, ap, arith, Result, Ok, Err, IfOk, length-append}
use Rattle.std.proofs.Common.{length-drop}
use Rattle.std.specs.List.{flat_map}
use Rattle.std.proofs.lemmas.List.{take-append-drop, drop-drop, length-take}
use Rattle.std.proofs.lemmas.Bool.Decides.{nat_tests}
use Rattle.dds_pages.specs.declared.fields.Form.{Form}
use Rattle.dds_pages.specs.declared.bucket.Held.TheVariants.{Here, Chain}
use Rattle.dds_pages.specs.Fields.{number_at, spelled, zero_from, form_2}
use Rattle.dds_pages.specs.declared.fault.PageFault.{PageFault}
use Rattle.dds_pages.specs.Root.{Root, IsRootRead, root_bytes}
use Rattle.dds_pages.specs.Overflow.{Overflow, IsOverflowRead, overflow_fault, overflow_of, overflow_bytes}
use Rattle.dds_pages.specs.Bucket.{Bucket, IsBucketRead, is_long, extent, pair_fault, pair_at, held_at, or_else, pairs_fault, pairs_at}
use Rattle.dds_pages.specs.Bucket.{after_pair, head_fault, bucket_fault, bucket_of, bucket_bytes, held_bytes, pair_bytes}
use Rattle.dds_pages.proofs.Numbers.{length-spelled}
use Rattle.dds_pages.proofs.Exact.{AreBytes, field-spelled, padded-whole, joined, accepted, root-spelled, equal-from, true-from}

few-from : (n : ℕ) → (n == 0 || nat_lt 4080 n) ≡ false → n ≤ 4080
few-from n h = grind (arith, nat_tests)

-- some bytes of a page, and those behind them
some-bytes : (page : List ℕ) (at n : ℕ) → take n (drop at page) ++ drop (at + n) page ≡ drop at page
some-bytes page at n = ap (λ (r : List ℕ). take n (drop at page) ++ r) (sym (drop-drop n at page)) ∙ take-append-drop n (drop at page)

length-some : (page : List ℕ) (at n : ℕ) → at + n ≤ length page → length (take n (drop at page)) ≡ n
length-some page at n h = let d = length-drop at page in let t = length-take n (drop at page) in omega arith

over-long : (bytes : List ℕ) (n next : ℕ) →
    length (spelled 1 3 ++ (spelled 1 2 ++ (spelled 2 n ++ (spelled 8 next ++ (spelled 4 0 ++ bytes))))) ≡ 16 + length bytes
over-long bytes n next =
    let a = length-spelled 1 3 in
    let b = length-spelled 1 2 in
    let c = length-spelled 2 n in
    let d = length-spelled 8 next in
    let e = length-spelled 4 0 in
    simp length-append (omega arith)

-- an accepted overflow page is spelled by what it says
pub overflow-spelled : (page : List ℕ) → length page ≡ 4096 → AreBytes page → overflow_fault page ≡ None → overflow_bytes (overflow_of page) ≡ page
overflow-spelled page long b h =
    let f0 = accepted (not (number_at page 0 1 == 3)) 0 _ h in
    let f1 = accepted (not (number_at page 1 1 == 2)) 1 _ f0.1 in
    let f2 = accepted (number_at page 2 2 == 0 || nat_lt 4080 (number_at page 2 2)) 2 _ f1.1 in
    let f4 = accepted (not (number_at page 12 4 == 0)) 12 _ f2.1 in
    let f9 = accepted (not (zero_from page (16 + number_at page 2 2))) (16 + number_at page 2 2) _ f4.1 in
    let few = few-from (number_at page 2 2) f2.0 in
    let l = length-some page 16 (number_at page 2 2) (omega (arith, few, long)) in
    let s0 = field-spelled page 0 1 3 (omega (arith, long)) b (equal-from _ _ f0.0) in
    let s1 = field-spelled page 1 1 2 (omega (arith, long)) b (equal-from _ _ f1.0) in
    let s2 = field-spelled page 2 2 (length (take (number_at page 2 2) (drop 16 page))) (omega (arith, long)) b (sym l) in
    let s4 = field-spelled page 4 8 (number_at page 4 8) (omega (arith, long)) b refl in
    let s12 = field-spelled page 12 4 0 (omega (arith, long)) b (equal-from _ _ f4.0) in
    let o = over-long (take (number_at page 2 2) (drop 16 page)) (length (take (number_at page 2 2) (drop 16 page))) (number_at page 4 8) in
    padded-whole _ page (16 + number_at page 2 2)
    (joined _ _ _ _ _ (joined _ _ _ _ _ (joined _ _ _ _ _ (joined _ _ _ _ _ (joined _ _ _ _ _ (some-bytes page 16 (number_at page 2 2)) s12) s4) s2) s1) s0)
    long
    (o ∙ ap (λ (n : ℕ). 16 + n) l) (true-from _ f9.0)

both-none : (a b : Option ℕ) → or_else a b ≡ None → (a ≡ None) × (b ≡ None)
both-none None b h = (refl, h)
both-none (Some x) b h = cc

not-less : (n m : ℕ) → nat_lt n m ≡ false → m ≤ n
not-less n m h = grind (arith, nat_tests)

-- where a value stands is spelled so
held-spelled : (bytes : List ℕ) (at len first : ℕ) (long : Bool) → AreBytes bytes → number_at bytes (at + 8) 2 ≡ len → number_at bytes (at + 10) 8 ≡ first →
    at + 10 ≤ length bytes → at + (if long then 18 else 10 + len) ≤ length bytes →
    held_bytes (if long then Chain len first else Here (take len (drop (at + 10) bytes)))
    ++ drop (at + (if long then 18 else 10 + len)) bytes ≡ drop (at + 8) bytes
held-spelled bytes at len first true b e f head room =
    let s = field-spelled bytes (at + 8) 2 len (omega arith) b e in
    let t = field-spelled bytes (at + 10) 8 first (omega arith) b f in
    let i : at + 8 + 2 ≡ at + 10 = omega arith in
    let j : at + 10 + 8 ≡ at + 18 = omega arith in
    joined _ _ _ _ _ (rw j at t) (rw i at s)
held-spelled bytes at len first false b e f head room =
    let l = length-some bytes (at + 10) len (omega arith) in
    let s = field-spelled bytes (at + 8) 2 (length (take len (drop (at + 10) bytes))) (omega arith) b (e ∙ sym l) in
    let t = some-bytes bytes (at + 10) len in
    let i : at + 8 + 2 ≡ at + 10 = omega arith in
    let j : at + 10 + len ≡ at + (10 + len) = omega arith in
    joined _ _ _ _ _ (rw j at t) (rw i at s)

-- a pair is spelled so
pair-spelled : (form : Form) (bytes : List ℕ) (used at : ℕ) → AreBytes bytes → used ≤ length bytes → pair_fault form bytes used at ≡ None →
    pair_bytes (pair_at form bytes at) ++ drop (after_pair form bytes at) bytes ≡ drop at bytes
pair-spelled form bytes used at b within h =
    let f0 = accepted (nat_lt used (at + 10)) at _ h in
    let f1 = accepted (nat_lt used (at + extent form (number_at bytes (at + 8) 2))) at _ f0.1 in
    let head = not-less used (at + 10) f0.0 in
    let room = not-less used (at + extent form (number_at bytes (at + 8) 2)) f1.0 in
    let s = field-spelled bytes at 8 (number_at bytes at 8) (omega arith) b refl in
    let t = held-spelled bytes at (number_at bytes (at + 8) 2) (number_at bytes (at + 10) 8) (is_long form (number_at bytes (at + 8) 2)) b refl refl
    (omega arith) (omega arith) in
    joined (spelled 8 (number_at bytes at 8)) (held_bytes (held_at form bytes at)) (drop (after_pair form bytes at) bytes) (drop (at + 8) bytes)
    (drop at bytes) t s

room-after : (form : Form) (bytes : List ℕ) (used at : ℕ) → pair_fault form bytes used at ≡ None → after_pair form bytes at ≤ used
room-after form bytes used at h =
    let f0 = accepted (nat_lt used (at + 10)) at _ h in
    let f1 = accepted (nat_lt used (at + extent form (number_at bytes (at + 8) 2))) at _ f0.1 in
    not-less used (at + extent form (number_at bytes (at + 8) 2)) f1.0

-- some pairs are spelled so
pub pairs-spelled : (form : Form) (bytes : List ℕ) (used at n : ℕ) → AreBytes bytes → used ≤ length bytes → at ≤ used →
    pairs_fault form bytes used at n ≡ None →
    flat_map pair_bytes (pairs_at form bytes at n) ++ drop used bytes ≡ drop at bytes
pairs-spelled form bytes used at zero b within under h =
    let f = accepted (nat_lt at used) at None h in
    let e : used ≡ at = let g = not-less at used f.0 in omega arith in
    ap (λ (i : ℕ). drop i bytes) e
pairs-spelled form bytes used at (suc n) b within under h =
    let f = both-none (pair_fault form bytes used at) (pairs_fault form bytes used (after_pair form bytes at) n) h in
    joined (pair_bytes (pair_at form bytes at)) (flat_map pair_bytes (pairs_at form bytes (after_pair form bytes at) n)) (drop used bytes)
    (drop (after_pair form bytes at) bytes) (drop at bytes)
    (pairs-spelled form bytes used (after_pair form bytes at) n b within (room-after form bytes used at f.0) f.1) (pair-spelled form bytes used at b within f.0)

length-pairs : (form : Form) (bytes : List ℕ) (at n : ℕ) → length (pairs_at form bytes at n) ≡ n
length-pairs form bytes at zero = refl
length-pairs form bytes at (suc n) = let h = length-pairs form bytes (after_pair form bytes at) n in omega (arith, h)

within-page : (used : ℕ) → (nat_lt used 16 || nat_lt 4096 used) ≡ false → (16 ≤ used) × (used ≤ 4096)
within-page used h = (grind (arith, nat_tests), grind (arith, nat_tests))

bucket-long : (bytes : List ℕ) (n next used : ℕ) →
    length (spelled 1 2 ++ (spelled 1 2 ++ (spelled 2 n ++ (spelled 8 next ++ (spelled 2 used ++ (spelled 2 0 ++ bytes)))))) ≡ 16 + length bytes
bucket-long bytes n next used =
    let a = length-spelled 1 2 in
    let c = length-spelled 2 n in
    let d = length-spelled 8 next in
    let e = length-spelled 2 used in
    let f = length-spelled 2 0 in
    simp length-append (omega arith)

-- an accepted bucket page is spelled by what it says
pub bucket-spelled : (page : List ℕ) → length page ≡ 4096 → AreBytes page → bucket_fault form_2 page ≡ None → bucket_bytes (bucket_of form_2 page) ≡ page
bucket-spelled page long b h =
    let g = both-none (head_fault form_2 page) _ h in
    let f0 = accepted (not (number_at page 0 1 == 2)) 0 _ g.0 in
    let f1 = accepted (not (number_at page 1 1 == 2)) 1 _ f0.1 in
    let f12 = accepted (nat_lt (number_at page 12 2) 16 || nat_lt 4096 (number_at page 12 2)) 12 _ f1.1 in
    let f14 = accepted (not (number_at page 14 2 == 0)) 14 _ f12.1 in
    let within = within-page (number_at page 12 2) f12.0 in
    let p = both-none (pairs_fault form_2 page (number_at page 12 2) 16 (number_at page 2 2)) _ g.1 in
    let f9 = accepted (not (zero_from page (number_at page 12 2))) (number_at page 12 2) None p.1 in
    let s16 = pairs-spelled form_2 page (number_at page 12 2) 16 (number_at page 2 2) b (omega (arith, long, within.1)) within.0 p.0 in
    let t : length (flat_map pair_bytes (pairs_at form_2 page 16 (number_at page 2 2))) + length (drop (number_at page 12 2) page) ≡ length (drop 16 page) =
    sym (length-append (flat_map pair_bytes (pairs_at form_2 page 16 (number_at page 2 2))) (drop (number_at page 12 2) page)) ∙ ap length s16 in
    let d = length-drop (number_at page 12 2) page in
    let e = length-drop 16 page in
    let total : 16 + length (flat_map pair_bytes (pairs_at form_2 page 16 (number_at page 2 2))) ≡ number_at page 12 2 =
    omega (arith, t, d, e, long, within.0, within.1) in
    let s0 = field-spelled page 0 1 2 (omega (arith, long)) b (equal-from _ _ f0.0) in
    let s1 = field-spelled page 1 1 2 (omega (arith, long)) b (equal-from _ _ f1.0) in
    let s2 = field-spelled page 2 2 (length (pairs_at form_2 page 16 (number_at page 2 2))) (omega (arith, long)) b
    (sym (length-pairs form_2 page 16 (number_at page 2 2))) in
    let s4 = field-spelled page 4 8 (number_at page 4 8) (omega (arith, long)) b refl in
    let s12 = field-spelled page 12 2 (16 + length (flat_map pair_bytes (pairs_at form_2 page 16 (number_at page 2 2)))) (omega (arith, long)) b (sym total) in
    let s14 = field-spelled page 14 2 0 (omega (arith, long)) b (equal-from _ _ f14.0) in
    padded-whole _ page (number_at page 12 2)
    (joined _ _ _ _ _ (joined _ _ _ _ _ (joined _ _ _ _ _ (joined _ _ _ _ _ (joined _ _ _ _ _ (joined _ _ _ _ _ s16 s14) s12) s4) s2) s1) s0) long
    (bucket-long _ _ _ _ ∙ total) (true-from _ f9.0)

-- what was read was spelled so
pub root-read-spelled : (r : Result Root PageFault) (page : List ℕ) → length page ≡ 4096 → AreBytes page → IsRootRead 2 page r →
    IfOk r (λ root. root_bytes 2 root ≡ page)
root-read-spelled (Ok root) page long b h = ap (root_bytes 2) h.1 ∙ root-spelled 2 page long b h.0
root-read-spelled (Err e) page long b h = tt

pub overflow-read-spelled : (r : Result Overflow PageFault) (page : List ℕ) → length page ≡ 4096 → AreBytes page → IsOverflowRead page r →
    IfOk r (λ over. overflow_bytes over ≡ page)
overflow-read-spelled (Ok over) page long b h = ap overflow_bytes h.1 ∙ overflow-spelled page long b h.0
overflow-read-spelled (Err e) page long b h = tt

pub bucket-read-spelled : (r : Result Bucket PageFault) (page : List ℕ) → length page ≡ 4096 → AreBytes page → IsBucketRead form_2 page r →
    IfOk r (λ bucket. bucket_bytes bucket ≡ page)
bucket-read-spelled (Ok bucket) page long b h = ap bucket_bytes h.1 ∙ bucket-spelled page long b h.0
bucket-read-spelled (Err e) page long b h = tt
