-- What the pages of a chain say.
use Rattle.std.proofs.Common.{ℕ, zero, suc, ◌≡◌, ◌-◌, ◌^◌, ◌<◌, ◌≤◌, ◌==◌, cond, Bool, true, false, List, [], ◌∷◌, ◌++◌, length, map, take}
use Rattle.std.proofs.Common.{drop, Option, Some, refl, sym, ap, ◌∙◌, arith}
use Rattle.std.proofs.lemmas.List.{take-append-drop, length-take}
use Rattle.std.proofs.lemmas.Bool.Decides.{nat_tests}
use Rattle.dds_disk.specs.Pages.{Pages, page_at}
use Rattle.dds_pages.specs.Bucket.{Bucket}
use Rattle.dds_pages.specs.Overflow.{Overflow}
use Rattle.dds_pages.specs.declared.bucket.Held.{Held}
use Rattle.dds_pages.specs.declared.bucket.Held.TheVariants.{Here, Chain}
use Rattle.dds_chains.specs.Content.{bytes_then, chain_bytes, whole, value_in, pairs_then, chain_pairs}
use Rattle.dds_pages.specs.Said.{bucket_in, overflow_in}
use Rattle.dds_chains.specs.Index.{times, slot_uses, chain_uses, first_page, first_number, IsSpread, IsPlaced, IsStored, IsChain}
use Rattle.dds_chains.specs.Index.{first_value, slot_value, found}
use Rattle.dds_chains.specs.declared.table.Slot.{Slot}
use Rattle.dds_chains.proofs.Uses.{same-self}
use Rattle.dds_pages.proofs.ReadBack.{bucket-back, overflow-back}

-- pages that are used didn't change
abbrev pub Kept : Pages → Pages → (ℕ → ℕ) → Type 0
Kept a b uses = (n : ℕ) → 0 < uses n → page_at b n ≡ page_at a n

pub spread-kept : (a b : Pages) (over bytes : List ℕ) → IsSpread a over bytes → Kept a b (λ n. times n over) → IsSpread b over bytes
spread-kept a b [] bytes h k = h
spread-kept a b (p ∷ ps) bytes h k =
    let s = same-self p in
    (k p (omega (arith, s)) ∙ h.0, h.1, h.2, spread-kept a b ps (drop 4080 bytes) h.3 (λ n used. k n (omega arith)))

pub placed-kept : (a b : Pages) (held : Held) (over bytes : List ℕ) → IsPlaced a held over bytes → Kept a b (λ n. times n over) → IsPlaced b held over bytes
placed-kept a b (Here v) over bytes h k = h
placed-kept a b (Chain len first) over bytes h k = (h.0, h.1, h.2, spread-kept a b over bytes h.3 k)

pub stored-kept : (a b : Pages) (slot : Slot) (next : ℕ) → IsStored a slot next → Kept a b (λ n. slot_uses n slot) → IsStored b slot next
stored-kept a b slot next h k =
    let s = same-self slot.page in
    record {
      value = h.value;
      held = h.held;
      page = k slot.page (omega (arith, s)) ∙ h.page;
      placed = placed-kept a b h.held slot.overflow h.value h.placed (λ n used. k n (omega arith));
      lawful = h.lawful;
      len = h.len;
      key = h.key;
      number = h.number;
    }

pub chain-kept : (a b : Pages) (slots : List Slot) → IsChain a slots → Kept a b (λ n. chain_uses n slots) → IsChain b slots
chain-kept a b [] h k = tt
chain-kept a b (s ∷ ss) h k = (stored-kept a b s (first_page ss) h.0 (λ n used. k n (omega arith)), chain-kept a b ss h.1 (λ n used. k n (omega arith)))

pub first-number-small : (a : Pages) (over bytes : List ℕ) → IsSpread a over bytes → first_number over < 2 ^ 64
first-number-small a [] bytes h = omega arith
first-number-small a (p ∷ ps) bytes h = omega (arith, h.2)

pub first-page-small : (a : Pages) (slots : List Slot) → IsChain a slots → first_page slots < 2 ^ 64
first-page-small a [] h = omega arith
first-page-small a (s ∷ ss) h = omega (arith, h.0.number)

last-is : (n : ℕ) → n ≡ 2 ^ 64 - 1 → (n == 2 ^ 64 - 1) ≡ true
last-is n h = grind (arith, nat_tests)

not-last : (n : ℕ) → n < 2 ^ 64 - 1 → (n == 2 ^ 64 - 1) ≡ false
not-last n h = grind (arith, nat_tests)

-- the bytes of an overflow chain
pub spread-bytes : (a : Pages) (over bytes : List ℕ) (k : ℕ) → IsSpread a over bytes → length over ≤ k → chain_bytes k a (first_number over) ≡ bytes
spread-bytes a [] bytes zero h l = sym h
spread-bytes a [] bytes (suc k) h l = sym h
spread-bytes a (p ∷ ps) bytes zero h l = absurd (omega arith)
spread-bytes a (p ∷ ps) bytes (suc k) h l =
    let t = not-last p h.2 in
    let m = length-take 4080 bytes in
    let back = overflow-back (take 4080 bytes) (first_number ps) (first-number-small a ps (drop 4080 bytes) h.3) (omega (arith, h.1, m)) (omega (arith, m)) in
    let rest = spread-bytes a ps (drop 4080 bytes) k h.3 (omega arith) in
    let said : bytes_then (overflow_in (page_at a p)) (chain_bytes k a) ≡ bytes =
    ap (λ (x : List ℕ). bytes_then (overflow_in x) (chain_bytes k a)) h.0 ∙ ap (λ (x : Option Overflow). bytes_then x (chain_bytes k a)) back
    ∙ ap (λ (x : List ℕ). take 4080 bytes ++ x) rest ∙ take-append-drop 4080 bytes in
    rw t said

same-length : (n : ℕ) → (n == n) ≡ true
same-length n = grind (arith, nat_tests)

pub placed-value : (a : Pages) (held : Held) (over bytes : List ℕ) → IsPlaced a held over bytes → value_in a held ≡ bytes
unfolding value_in
placed-value a (Here v) over bytes h = h.0
placed-value a (Chain len first) over bytes h =
    let c : chain_bytes 15 a first ≡ bytes = ap (chain_bytes 15 a) h.1 ∙ spread-bytes a over bytes 15 h.3 h.2 in
    ap (λ (x : List ℕ). whole len x) c ∙ ap (λ (n : ℕ). whole n bytes) h.0 ∙ ap (λ (t : Bool). cond t bytes []) (same-length (length bytes))

-- what a slot's page says
pub stored-page : (a : Pages) (slot : Slot) (next : ℕ) (h : IsStored a slot next) → next < 2 ^ 64 →
    bucket_in (page_at a slot.page) ≡ Some (record { pairs = record { key = slot.key; held = h.held } ∷ []; next = next })
stored-page a slot next h n = ap bucket_in h.page ∙ bucket-back slot.key next h.held h.key n h.lawful

pub stored-value : (a : Pages) (slot : Slot) (next : ℕ) (h : IsStored a slot next) → next < 2 ^ 64 → slot_value a slot ≡ h.value
unfolding slot_value
stored-value a slot next h n = ap (first_value a) (stored-page a slot next h n) ∙ placed-value a h.held slot.overflow h.value h.placed

abbrev pub slot_pairs : Pages → List Slot → List (ℕ × List ℕ)
slot_pairs a slots = map (λ slot. (slot.key, slot_value a slot)) slots

pub chain-pairs : (a : Pages) (slots : List Slot) (k : ℕ) → IsChain a slots → length slots ≤ k → chain_pairs k a (first_page slots) ≡ slot_pairs a slots
chain-pairs a [] zero h l = refl
chain-pairs a [] (suc k) h l = refl
chain-pairs a (s ∷ ss) zero h l = absurd (omega arith)
chain-pairs a (s ∷ ss) (suc k) h l =
    let t = not-last s.page h.0.number in
    let n = first-page-small a ss h.1 in
    let p = stored-page a s (first_page ss) h.0 n in
    let v = stored-value a s (first_page ss) h.0 n in
    let w = placed-value a h.0.held s.overflow h.0.value h.0.placed in
    let rest = chain-pairs a ss k h.1 (omega arith) in
    let value : value_in a h.0.held ≡ slot_value a s = w ∙ sym v in
    let said : pairs_then a (bucket_in (page_at a s.page)) (chain_pairs k a) ≡ slot_pairs a (s ∷ ss) =
    ap (λ (x : Option Bucket). pairs_then a x (chain_pairs k a)) p ∙ (λ i. (s.key, value i) ∷ rest i) in
    rw t said

-- the values of pages that didn't change
pub value-kept : (a b : Pages) (slot : Slot) (next : ℕ) → IsStored a slot next → next < 2 ^ 64 → Kept a b (λ n. slot_uses n slot) →
    slot_value b slot ≡ slot_value a slot
unfolding stored-kept
value-kept a b slot next h n k = stored-value b slot next (stored-kept a b slot next h k) n ∙ sym (stored-value a slot next h n)

pub found-kept : (a b : Pages) (slots : List Slot) (q : ℕ) → IsChain a slots → Kept a b (λ n. chain_uses n slots) → found b slots q ≡ found a slots q
found-kept a b [] q h k = refl
found-kept a b (s ∷ ss) q h k =
    let v = value-kept a b s (first_page ss) h.0 (first-page-small a ss h.1) (λ n used. k n (omega arith)) in
    let r = found-kept a b ss q h.1 (λ n used. k n (omega arith)) in
    λ i. cond (s.key == q) (Some (v i)) (r i)
