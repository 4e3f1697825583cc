-- Laws of the pairs of a bucket page.
use Rattle.std.proofs.Common.{ℕ, zero, suc, ◌≡◌, ◌≢◌, ◌+◌, ◌-◌, ◌^◌, ◌<◌, ◌≤◌, ◌==◌, ◌&&◌, Bool, true, false, List, [], ◌∷◌, ◌++◌, length}
use Rattle.std.proofs.Common.{take, drop, nat_lt, Some, None, Ok, refl, sym, ◌∙◌, ap, subst, arith, append_assoc, length-append}
use Rattle.std.proofs.Common.{if◌then◌else◌, get_or}
use Rattle.std.specs.List.{flat_map}
use Rattle.std.proofs.lemmas.Bool.Decides.{nat_tests}
use Rattle.std.proofs.lemmas.Grind.{flat_map-append}
use Rattle.dds_pages.specs.declared.fields.Form.{Form}
use Rattle.dds_pages.specs.declared.bucket.Held.{Held}
use Rattle.dds_pages.specs.declared.bucket.Held.TheVariants.{Here, Chain}
use Rattle.dds_pages.specs.declared.bucket.PagePair.{PagePair}
use Rattle.dds_pages.specs.Fields.{number_at, spelled, first_fault, form_1}
use Rattle.dds_pages.specs.Bucket.{Bucket, bucket_of, is_long, extent, most, pair_fault, held_at, pair_at, IsHeldRead, IsPairRead, IsHeld}
use Rattle.dds_pages.specs.Bucket.{AreHeld, ArePairsRead, pairs_fault, pairs_at, after_pair, AreHere, held_bytes, pair_bytes, pair_width}
use Rattle.dds_pages.proofs.Numbers.{length-spelled}
use Rattle.std.proofs.lemmas.List.{append-nil, take_more}
use Rattle.std.proofs.lemmas.List.Folds.{length-flat_map-take}

-- what a long value's length is
long-is : (b : Bool) (len : ℕ) → (b && nat_lt 4000 len) ≡ true → len ≤ (if b then 60000 else 4000) → (4000 < len) × (len ≤ 60000)
long-is true len h s = (grind (arith, nat_tests), s)
long-is false len h s = cc

-- and a short one's
short-is : (b : Bool) (len : ℕ) → (b && nat_lt 4000 len) ≡ false → len ≤ (if b then 60000 else 4000) → len ≤ 4000
short-is true len h s = grind (arith, nat_tests)
short-is false len h s = s

not-last : (n : ℕ) → n ≢ 2 ^ 64 - 1 → (n == 2 ^ 64 - 1) ≡ false
not-last n h = grind (arith, nat_tests)

and-false : (b c : Bool) → c ≡ false → (b && c) ≡ false
and-false true c h = h
and-false false c h = refl

length-chain : (len first : ℕ) → length (spelled 2 len ++ spelled 8 first) ≡ 10
length-chain len first = let a = length-spelled 2 len in let b = length-spelled 8 first in simp length-append (omega arith)

length-here : (value : List ℕ) → length (spelled 2 (length value) ++ value) ≡ 2 + length value
length-here value = let a = length-spelled 2 (length value) in simp length-append (omega arith)

-- the place of a long value was read
pub chain-read : (form : Form) (bytes : List ℕ) (at len first : ℕ) → len ≡ number_at bytes (at + 8) 2 → first ≡ number_at bytes (at + 10) 8 →
    is_long form len ≡ true → len ≤ most form → first ≢ 2 ^ 64 - 1 → first < 2 ^ 64 →
    IsHeldRead form bytes at (Ok (Chain len first))
chain-read form bytes at len first e f long short some fits =
    let h = long-is form.chained len long short in
    let there : is_long form (number_at bytes (at + 8) 2) ≡ true = rw (← e) long in
    let last : (number_at bytes (at + 10) 8 == 2 ^ 64 - 1) ≡ false = rw (← f) (not-last first some) in
    let value : Chain len first ≡ held_at form bytes at = rw (there, e, f) refl in
    let width : 10 + length (held_bytes (Chain len first)) ≡ 2 + extent form (number_at bytes (at + 8) 2) = let l = length-chain len first in
    rw there (omega arith) in
    (and-false _ _ last, value, width, (h.0, h.1, omega arith))

-- the bytes of a short value were read
pub here-read : (form : Form) (bytes : List ℕ) (at len n : ℕ) (value : List ℕ) → len ≡ number_at bytes (at + 8) 2 → n ≡ len →
    value ≡ take n (drop (at + 10) bytes) → length value ≡ n → is_long form len ≡ false → len ≤ most form →
    IsHeldRead form bytes at (Ok (Here value))
here-read form bytes at len n value e f v l long short =
    let there : is_long form (number_at bytes (at + 8) 2) ≡ false = rw (← e) long in
    let fault : (is_long form (number_at bytes (at + 8) 2) && number_at bytes (at + 10) 8 == 2 ^ 64 - 1) ≡ false = rw there refl in
    let same : Here value ≡ held_at form bytes at = rw there (ap Here (v ∙ ap (λ (m : ℕ). take m (drop (at + 10) bytes)) (f ∙ e))) in
    let width : 10 + length (held_bytes (Here value)) ≡ 2 + extent form (number_at bytes (at + 8) 2) = let k = length-here value in
    rw there (omega (arith, l, e, f)) in
    (fault, same, width, omega (arith, l, f, short-is form.chained len long short))

four : (a b c d : Bool) (i j k m : ℕ) → a ≡ false → b ≡ false → c ≡ false → d ≡ false → first_fault ((a, i) ∷ (b, j) ∷ (c, k) ∷ (d, m) ∷ []) ≡ None
four a b c d i j k m p q r s = rw (p, q, r, s) refl

not-below : (n m : ℕ) → m ≤ n → nat_lt n m ≡ false
not-below n m h = grind (arith, nat_tests)

-- a pair was read
pub pair-read : (form : Form) (bytes : List ℕ) (used at key : ℕ) (held : Held) → at + 10 ≤ used → at + extent form (number_at bytes (at + 8) 2) ≤ used →
    number_at bytes (at + 8) 2 ≤ most form → key ≡ number_at bytes at 8 →
    IsHeldRead form bytes at (Ok held) → IsPairRead form bytes used at (Ok record { key = key; held = held })
pair-read form bytes used at key held head room short e h =
    let none = four _ _ _ _ at at (at + 8) (at + 10) (not-below used (at + 10) head) (not-below used _ room) (not-below (most form) _ short) h.0 in
    let same : record { key = key; held = held } ≡ pair_at form bytes at = λ i. record { key = e i; held = h.1 i } in
    let l = length-spelled 8 key in
    let width : length (spelled 8 key ++ held_bytes held) ≡ extent form (number_at bytes (at + 8) 2) = simp length-append (omega (arith, h.2)) in
    (none, same, omega arith, width, h.3)

-- how many bytes a pair takes, by where its value stands
pub width-here : (pair : PagePair) (value bytes : List ℕ) → pair.held ≡ Here value → bytes ≡ value → 10 + length bytes ≡ pair_width pair
width-here pair value bytes h e =
    let l = length-spelled 8 pair.key in
    let m = length-here value in
    let n : length (held_bytes pair.held) ≡ 2 + length value = rw h m in
    let t : pair_width pair ≡ length (spelled 8 pair.key) + length (held_bytes pair.held) = length-append (spelled 8 pair.key) (held_bytes pair.held) in
    omega (arith, l, n, t, ap length e)

pub width-chain : (pair : PagePair) (len first : ℕ) → pair.held ≡ Chain len first → 18 ≡ pair_width pair
width-chain pair len first h =
    let l = length-spelled 8 pair.key in
    let n : length (held_bytes pair.held) ≡ 10 = rw h (length-chain len first) in
    let t : pair_width pair ≡ length (spelled 8 pair.key) + length (held_bytes pair.held) = length-append (spelled 8 pair.key) (held_bytes pair.held) in
    omega (arith, l, n, t)

-- what is known of the pairs while they are read
pub record IsReading (form : Form) (bytes : List ℕ) (used count : ℕ) (pairs : List PagePair) (at i : ℕ) : Type 0 where
  pub within : at ≤ used
  pub faults : pairs_fault form bytes used 16 count ≡ pairs_fault form bytes used at (count - i)
  pub read : pairs_at form bytes 16 count ≡ pairs ++ pairs_at form bytes at (count - i)
  pub place : at ≡ 16 + length (flat_map pair_bytes pairs)
  pub held : AreHeld pairs

AreHeld-push : (pairs : List PagePair) (pair : PagePair) → AreHeld pairs → IsHeld pair.held → AreHeld (pairs ++ pair ∷ [])
AreHeld-push [] pair h k = (k, tt)
AreHeld-push (p ∷ pairs) pair h k = (h.0, AreHeld-push pairs pair h.1 k)

pub reading-start : (form : Form) (bytes : List ℕ) (used count : ℕ) → 16 ≤ used → IsReading form bytes used count [] 16 0
reading-start form bytes used count h =
    let e : count ≡ count - 0 = omega arith in
    record {
      within = h;
      faults = ap (pairs_fault form bytes used 16) e;
      read = ap (pairs_at form bytes 16) e;
      place = omega arith;
      held = tt;
    }

-- one pair more
pub reading-more : (form : Form) (bytes : List ℕ) (used count : ℕ) (pairs now : List PagePair) (at next i : ℕ) (pair : PagePair) →
    IsReading form bytes used count pairs at i → i < count →
    IsPairRead form bytes used at (Ok pair) → now ≡ pairs ++ pair ∷ [] → next ≡ at + pair_width pair → IsReading form bytes used count now next (i + 1)
reading-more form bytes used count pairs now at next i pair r below h e f =
    let n : count - i ≡ suc (count - (i + 1)) = omega arith in
    let step : at + extent form (number_at bytes (at + 8) 2) ≡ at + pair_width pair = omega (arith, h.3) in
    let faults : pairs_fault form bytes used at (count - i) ≡ pairs_fault form bytes used (at + pair_width pair) (count - (i + 1)) = rw (n, h.0, step) refl in
    let read : pairs_at form bytes at (count - i) ≡ pair ∷ pairs_at form bytes (at + pair_width pair) (count - (i + 1)) = rw (n, ← h.1, step) refl in
    let bytes_of : flat_map pair_bytes (pairs ++ pair ∷ []) ≡ flat_map pair_bytes pairs
    ++ (pair_bytes pair ++ []) = flat_map-append pair_bytes pairs (pair ∷ []) in
    let l : length (flat_map pair_bytes (pairs ++ pair ∷ [])) ≡ length (flat_map pair_bytes pairs) + pair_width pair = ap length bytes_of
    ∙ length-append (flat_map pair_bytes pairs) (pair_bytes pair ++ [])
    ∙ ap (λ (b : List ℕ). length (flat_map pair_bytes pairs) + length b) (append-nil (pair_bytes pair)) in
    rw (e, f) record {
      within = h.2;
      faults = r.faults ∙ faults;
      read = r.read ∙ ap (λ (ps : List PagePair). pairs ++ ps) read
          ∙ sym (append_assoc pairs (pair ∷ []) (pairs_at form bytes (at + pair_width pair) (count - (i + 1))));
      place = omega (arith, r.place, l);
      held = AreHeld-push pairs pair r.held h.4;
    }

-- a pair that isn't accepted is the first fault
pub reading-fault : (form : Form) (bytes : List ℕ) (used count : ℕ) (pairs : List PagePair) (at i fault : ℕ) → IsReading form bytes used count pairs at i →
    i < count →
    pair_fault form bytes used at ≡ Some fault → pairs_fault form bytes used 16 count ≡ Some fault
reading-fault form bytes used count pairs at i fault r below h =
    let n : count - i ≡ suc (count - (i + 1)) = omega arith in
    let e : pairs_fault form bytes used at (count - i) ≡ Some fault = rw (n, h) refl in
    r.faults ∙ e

below : (n m : ℕ) → n < m → nat_lt n m ≡ true
below n m h = grind (arith, nat_tests)

-- bytes that are used stand behind the last pair
pub reading-short : (form : Form) (bytes : List ℕ) (used count : ℕ) (pairs : List PagePair) (at i : ℕ) → IsReading form bytes used count pairs at i →
    i ≡ count → at < used → pairs_fault form bytes used 16 count ≡ Some at
reading-short form bytes used count pairs at i r e h =
    let n : count - i ≡ 0 = omega arith in
    let f : pairs_fault form bytes used at (count - i) ≡ Some at = rw (n, below at used h) refl in
    r.faults ∙ f

-- all pairs were read
pub reading-done : (form : Form) (bytes : List ℕ) (used count : ℕ) (pairs : List PagePair) (at i : ℕ) → IsReading form bytes used count pairs at i →
    i ≡ count → used ≤ at → ArePairsRead form bytes used 16 count (Ok pairs)
reading-done form bytes used count pairs at i r e h =
    let n : count - i ≡ 0 = omega arith in
    let f : pairs_fault form bytes used at (count - i) ≡ None = rw (n, not-below at used h) refl in
    let g : pairs ++ pairs_at form bytes at (count - i) ≡ pairs = rw n (append-nil pairs) in
    (r.faults ∙ f, sym (r.read ∙ g), omega (arith, r.place, r.within), r.held)

-- a pair has a key
pub width-least : (pair : PagePair) → 8 ≤ pair_width pair
width-least pair =
    let l = length-spelled 8 pair.key in
    let t : pair_width pair ≡ length (spelled 8 pair.key) + length (held_bytes pair.held) = length-append (spelled 8 pair.key) (held_bytes pair.held) in
    omega (arith, l, t)

-- each pair of lawful ones is lawful
pub held-in : (pairs : List PagePair) (i : ℕ) (pair : PagePair) → AreHeld pairs → i < length pairs → pair ≡ get_or pairs i pair → IsHeld pair.held
held-in [] i pair h below e = absurd (omega arith)
held-in (p ∷ pairs) zero pair h below e = subst (λ (q : PagePair). IsHeld q.held) (sym e) h.0
held-in (p ∷ pairs) (suc i) pair h below e = held-in pairs i pair h.1 (omega arith) e

-- the bytes of one pair more
pub pairs-more : (pairs : List PagePair) (i : ℕ) (pair : PagePair) → i < length pairs → pair ≡ get_or pairs i pair →
    flat_map pair_bytes (take (i + 1) pairs) ≡ flat_map pair_bytes (take i pairs) ++ pair_bytes pair
pairs-more pairs i pair below e =
    ap (flat_map pair_bytes) (take_more pairs i pair below ∙ ap (λ (p : PagePair). take i pairs ++ p ∷ []) (sym e))
    ∙ flat_map-append pair_bytes (take i pairs) (pair ∷ [])
    ∙ ap (λ (b : List ℕ). flat_map pair_bytes (take i pairs) ++ b) (append-nil (pair_bytes pair))

pub total-more : (pairs : List PagePair) (i total width : ℕ) (pair : PagePair) → total ≡ length (flat_map pair_bytes (take i pairs)) →
    width ≡ pair_width pair → i < length pairs → pair ≡ get_or pairs i pair →
    total + width ≡ length (flat_map pair_bytes (take (i + 1) pairs))
total-more pairs i total width pair t w below e =
    let h = ap length (pairs-more pairs i pair below e) ∙ length-append (flat_map pair_bytes (take i pairs)) (pair_bytes pair) in omega arith

-- there is room for each pair where there is for all
pub total-within : (pairs : List PagePair) (i : ℕ) (pair : PagePair) → i < length pairs → pair ≡ get_or pairs i pair →
    length (flat_map pair_bytes (take i pairs)) + pair_width pair ≤ length (flat_map pair_bytes pairs)
total-within pairs i pair below e =
    subst (λ (p : PagePair). length (flat_map pair_bytes (take i pairs)) + pair_width p ≤ length (flat_map pair_bytes pairs)) (sym e)
    (length-flat_map-take pair_bytes pairs i pair below)

-- what was written before some pairs and behind a start
pub put-within : (start was : List ℕ) (pairs : List PagePair) (i : ℕ) (pair : PagePair) → was ≡ start ++ flat_map pair_bytes (take i pairs) →
    i < length pairs → pair ≡ get_or pairs i pair → length start + length (flat_map pair_bytes pairs) ≤ 4096 →
    length was + pair_width pair ≤ 4096
put-within start was pairs i pair w below e room =
    let h = total-within pairs i pair below e in
    let l = ap length w ∙ length-append start (flat_map pair_bytes (take i pairs)) in
    omega arith

pub put-more : (start was now : List ℕ) (pairs : List PagePair) (i : ℕ) (pair : PagePair) → was ≡ start ++ flat_map pair_bytes (take i pairs) →
    now ≡ was ++ pair_bytes pair → i < length pairs → pair ≡ get_or pairs i pair →
    now ≡ start ++ flat_map pair_bytes (take (i + 1) pairs)
put-more start was now pairs i pair w n below e =
    n ∙ ap (λ (b : List ℕ). b ++ pair_bytes pair) w ∙ append_assoc start (flat_map pair_bytes (take i pairs)) (pair_bytes pair)
    ∙ ap (λ (b : List ℕ). start ++ b) (sym (pairs-more pairs i pair below e))

-- each pair takes a byte at least
pub pairs-few : (pairs : List PagePair) → length pairs ≤ length (flat_map pair_bytes pairs)
pairs-few [] = omega arith
pairs-few (p ∷ pairs) =
    let h = pairs-few pairs in
    let w = width-least p in
    let l : length (flat_map pair_bytes (p ∷ pairs)) ≡ pair_width p + length (flat_map pair_bytes pairs) =
    length-append (pair_bytes p) (flat_map pair_bytes pairs) in
    omega (arith, h, w, l)

-- the values of the older form stand in their pages
pub old-here : (bytes : List ℕ) (at n : ℕ) → AreHere (pairs_at form_1 bytes at n)
old-here bytes at zero = tt
old-here bytes at (suc n) = (tt, old-here bytes (after_pair form_1 bytes at) n)

pub old-page-here : (bucket : Bucket) (bytes : List ℕ) → bucket ≡ bucket_of form_1 bytes → AreHere bucket.pairs
old-page-here bucket bytes e = subst (λ (b : Bucket). AreHere b.pairs) (sym e) (old-here bytes 16 (number_at bytes 2 2))
