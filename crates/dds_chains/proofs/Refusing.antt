-- What is known of a page that was refused.
use Rattle.std.proofs.Common.{ℕ, ◌≡◌, ◌≢◌, ◌+◌, ◌-◌, ◌*◌, ◌/◌, ◌<◌, ◌≤◌, ◌==◌, ◌&&◌, Bool, true, false, min, inl, inr, List, [], ◌∷◌}
use Rattle.std.proofs.Common.{length, drop, get_or, slice_get, Option, Some, Result, Ok, Err, IfErr, refl, sym, ap, subst, ◌∙◌, arith}
use Rattle.std.proofs.Common.{length-drop}
use Rattle.std.proofs.lemmas.Bool.Decides.{nat_tests}
use Rattle.std.proofs.lemmas.Option.{slice_get_read}
use Rattle.dds_disk.specs.Pages.{Pages}
use Rattle.dds_cache.specs.Kept.{Kept, held as held_in}
use Rattle.dds_pages.specs.Bucket.{Bucket, IsHeld}
use Rattle.dds_pages.specs.Overflow.{Overflow}
use Rattle.dds_pages.specs.Said.{bucket_in, overflow_in}
use Rattle.dds_pages.specs.declared.bucket.Held.{Held}
use Rattle.dds_pages.specs.declared.bucket.Held.TheVariants.{Here, Chain}
use Rattle.dds_pages.specs.declared.bucket.PagePair.{PagePair}
use Rattle.dds_chains.specs.Index.{IsSpread, IsPlaced, IsStored}
use Rattle.dds_chains.specs.Answers.{IsReadAs, IsNoPage}
use Rattle.dds_chains.specs.Lawful.{is_place_of, is_first_of, is_pair_of, is_bucket_of, is_piece_of, IsGiven, IsGivenAs, IsSilent}
use Rattle.dds_chains.specs.Lawful.{IsPieceRefused, IsSlotRefused, Refused, IsChainRefused, IsTableRefused}
use Rattle.dds_chains.specs.declared.fault.TableFault.{TableFault}
use Rattle.dds_chains.specs.declared.fault.TableFault.TheVariants.{Disk, Page, Memory}
use Rattle.dds_chains.specs.declared.table.Slot.{Slot}

-- what a page that was read said as it was given
pub given-read : {X : Type 0} (said : List ℕ → Option X) (kept : Kept) (page : ℕ) (bytes : List ℕ) (r : Result X TableFault) →
    held_in kept page ≡ Some bytes → IsReadAs (said bytes) page r → IsGivenAs said kept page r
given-read said kept page bytes (Ok x) h i = (bytes, h, i)
given-read said kept page bytes (Err (Page p)) h i = (i.0, (bytes, h, i.1))
given-read said kept page bytes (Err Disk) h i = tt
given-read said kept page bytes (Err Memory) h i = tt

pub given-none : {X : Type 0} (said : List ℕ → Option X) (kept : Kept) (page : ℕ) (e : TableFault) → IsNoPage e → IsGivenAs said kept page (Err e)
given-none said kept page Disk h = tt
given-none said kept page (Page p) h = absurd h
given-none said kept page Memory h = tt

pub silent : {X : Type 0} (said : List ℕ → Option X) (kept : Kept) (page : ℕ) (e : TableFault) → IsGivenAs said kept page (Err e) → IsSilent said kept page e
silent said kept page Disk h = tt
silent said kept page (Page p) h = h
silent said kept page Memory h = tt

pub silent-none : {X : Type 0} (said : List ℕ → Option X) (kept : Kept) (page : ℕ) (e : TableFault) → IsNoPage e → IsSilent said kept page e
silent-none said kept page Disk h = tt
silent-none said kept page (Page p) h = absurd h
silent-none said kept page Memory h = tt

-- a slot's page that said nothing, or not the slot's pair
pub slot-silent : (kept : Kept) (slot : Slot) (e : TableFault) → IsGivenAs bucket_in kept slot.page (Err e) → IsSlotRefused kept slot e
slot-silent kept slot Disk h = tt
slot-silent kept slot (Page p) h = inl (h.0, record { bytes = h.1.0; given = h.1.1; differs = ap (is_bucket_of slot) h.1.2 })
slot-silent kept slot Memory h = tt

pub slot-other : (kept : Kept) (slot : Slot) (bucket : Bucket) (pairs : List PagePair) → IsGiven bucket_in kept slot.page (Some bucket) →
    pairs ≡ bucket.pairs → is_pair_of slot pairs ≡ false → IsSlotRefused kept slot (Page slot.page)
slot-other kept slot bucket pairs g e differs =
    inl (refl, record { bytes = g.0; given = g.1; differs = ap (is_bucket_of slot) g.2 ∙ ap (is_pair_of slot) (sym e) ∙ differs })

-- an overflow page that said nothing, or not so many bytes
pub piece-silent : (kept : Kept) (overflow : List ℕ) (len place page : ℕ) (e : TableFault) → slice_get overflow place ≡ Some page →
    IsGivenAs overflow_in kept page (Err e) → IsPieceRefused kept overflow len e
piece-silent kept overflow len place page Disk s h = tt
piece-silent kept overflow len place page (Page p) s h = record {
  place = place;
  stands = s ∙ ap (λ (n : ℕ). Some n) (sym h.0);
  bytes = h.1.0;
  given = subst (λ (n : ℕ). held_in kept n ≡ Some h.1.0) (sym h.0) h.1.1;
  differs = ap (is_piece_of len place) h.1.2;
}
piece-silent kept overflow len place page Memory s h = tt

piece-differs : (len place n done m : ℕ) → done ≡ min len (4080 * place) → m ≡ min 4080 (len - done) → n ≢ m → (n == min 4080 (len - 4080 * place)) ≡ false
piece-differs len place n done m d e ne =
    let k : min 4080 (len - 4080 * place) ≡ m = omega (arith, d, e) in
    let f : n ≢ min 4080 (len - 4080 * place) = λ is. ne (is ∙ k) in
    grind (arith, nat_tests, f)

pub piece-wrong : (kept : Kept) (overflow : List ℕ) (len place page : ℕ) (over : Overflow) (piece : List ℕ) (done m : ℕ) →
    slice_get overflow place ≡ Some page → IsGiven overflow_in kept page (Some over) → piece ≡ over.bytes → done ≡ min len (4080 * place) →
    m ≡ min 4080 (len - done) → length piece ≢ m → IsPieceRefused kept overflow len (Page page)
piece-wrong kept overflow len place page over piece done m s g e d k ne = record {
  place = place;
  stands = s;
  bytes = g.0;
  given = g.1;
  differs = ap (is_piece_of len place) g.2 ∙ ap (λ (b : List ℕ). length b == min 4080 (len - 4080 * place)) (sym e)
      ∙ piece-differs len place (length piece) done m d k ne;
}

-- the place of a long value
pub chain-len : (slot : Slot) (len first : ℕ) → is_place_of slot (Chain len first) ≡ true → (len ≡ slot.len) × (len ≤ 60000)
chain-len slot len first h = (grind (arith, nat_tests, h), grind (arith, nat_tests, h))

pub slot-piece : (kept : Kept) (slot : Slot) (overflow : List ℕ) (len : ℕ) (e : TableFault) → overflow ≡ slot.overflow → len ≡ slot.len →
    IsPieceRefused kept overflow len e → IsSlotRefused kept slot e
slot-piece kept slot overflow len Disk o l h = tt
slot-piece kept slot overflow len (Page p) o l h =
    inr record {
      place = h.place;
      stands = ap (λ (ps : List ℕ). slice_get ps h.place) (sym o) ∙ h.stands;
      bytes = h.bytes;
      given = h.given;
      differs = ap (λ (n : ℕ). is_piece_of n h.place (overflow_in h.bytes)) (sym l) ∙ h.differs;
    }
slot-piece kept slot overflow len Memory o l h = tt

-- from a slot to its chain, its table and its store
pub chain-slot : (kept : Kept) (slots : List Slot) (place : ℕ) (slot : Slot) (e : TableFault) → place < length slots → slot ≡ get_or slots place slot →
    IsSlotRefused kept slot e → IsChainRefused kept slots e
chain-slot kept slots place slot Disk below is h = tt
chain-slot kept slots place slot (Page p) below is h =
    record { slot = slot; place = place; stands = slice_get_read slots (length slots) place slot refl below is; refused = h }
chain-slot kept slots place slot Memory below is h = tt

pub chain-silent : (kept : Kept) (slots : List Slot) (place : ℕ) (slot : Slot) (e : TableFault) → place < length slots → slot ≡ get_or slots place slot →
    IsSilent bucket_in kept slot.page e → IsChainRefused kept slots e
chain-silent kept slots place slot Disk below is h = tt
chain-silent kept slots place slot (Page p) below is h = chain-slot kept slots place slot (Page p) below is (slot-silent kept slot (Page p) h)
chain-silent kept slots place slot Memory below is h = tt

pub table-chain : (kept : Kept) (buckets : List (List Slot)) (bucket : ℕ) (slots : List Slot) (e : TableFault) → slots ≡ get_or buckets bucket [] →
    IsChainRefused kept slots e → IsTableRefused kept buckets e
table-chain kept buckets bucket slots Disk is h = tt
table-chain kept buckets bucket slots (Page p) is h = (bucket, subst (λ (ss : List Slot). Refused kept ss p) is h)
table-chain kept buckets bucket slots Memory is h = tt

pub table-none : (kept : Kept) (buckets : List (List Slot)) (e : TableFault) → IsNoPage e → IsTableRefused kept buckets e
table-none kept buckets Disk h = tt
table-none kept buckets (Page p) h = absurd h
table-none kept buckets Memory h = tt

pub if-err : {X : Type 0} (P Q : TableFault → Type 0) (r : Result X TableFault) → ((e : TableFault) → P e → Q e) → IfErr r P → IfErr r Q
if-err P Q (Ok x) f h = tt
if-err P Q (Err e) f h = f e h

-- a slot's page as the store wrote it is the slot's
spread-room : (a : Pages) (overflow bytes : List ℕ) → IsSpread a overflow bytes → length bytes ≤ 4080 * length overflow
spread-room a [] bytes h = let e = ap length h in omega (arith, e)
spread-room a (p ∷ ps) bytes h = let r = spread-room a ps (drop 4080 bytes) h.3 in let l = length-drop 4080 bytes in omega (arith, r, l)

placed-fits : (a : Pages) (slot : Slot) (held : Held) (value : List ℕ) → IsHeld held → IsPlaced a held slot.overflow value → slot.len ≡ length value →
    is_place_of slot held ≡ true
placed-fits a slot (Here v) value x h l = let e : length v ≡ slot.len = ap length h.0 ∙ sym l in grind (arith, nat_tests, e)
placed-fits a slot (Chain len first) value x h l =
    let r = spread-room a slot.overflow value h.3 in
    let e : len ≡ slot.len = h.0 ∙ sym l in
    let most : len ≤ 60000 = x.1 in
    let room : (len + 4080 - 1) / 4080 ≤ length slot.overflow = omega (arith, r, h.0) in
    grind (arith, nat_tests, e, most, room)

pub stored-fits : (a : Pages) (slot : Slot) (next : ℕ) (h : IsStored a slot next) → is_place_of slot h.held ≡ true
stored-fits a slot next h = placed-fits a slot h.held h.value h.lawful h.placed h.len

same-key : (key : ℕ) → (key == key) ≡ true
same-key key = grind (arith, nat_tests)

pub stored-is : (a : Pages) (slot : Slot) (next : ℕ) (h : IsStored a slot next) (pairs : List PagePair) →
    pairs ≡ record { key = slot.key; held = h.held } ∷ [] → is_pair_of slot pairs ≡ true
stored-is a slot next h pairs e = ap (is_pair_of slot) e ∙ ap (λ (b : Bool). b && is_place_of slot h.held) (same-key slot.key) ∙ stored-fits a slot next h

-- the code's test of a page's pairs
pub first-is : (slot : Slot) (pairs : List PagePair) (pair : PagePair) → 0 < length pairs → pair ≡ get_or pairs 0 pair →
    is_first_of slot pairs ≡ (pair.key == slot.key && is_place_of slot pair.held)
first-is slot [] pair below e = absurd (omega arith)
first-is slot (x ∷ xs) pair below e = ap (λ (p : PagePair). p.key == slot.key && is_place_of slot p.held) (sym e)

pub one-pair : (slot : Slot) (pairs : List PagePair) → is_pair_of slot pairs ≡ true → 0 < length pairs
one-pair slot [] h = cc
one-pair slot (x ∷ xs) h = omega arith

and-second : (a b c : Bool) → (a && (b && c)) ≡ true → c ≡ true
and-second true true c h = h
and-second true false c h = cc
and-second false b c h = cc

pub pair-fits : (slot : Slot) (pairs : List PagePair) (pair : PagePair) → is_pair_of slot pairs ≡ true → pair ≡ get_or pairs 0 pair →
    is_place_of slot pair.held ≡ true
pair-fits slot pairs pair h e = and-second (length pairs == 1) (pair.key == slot.key) (is_place_of slot pair.held)
    (ap (λ (b : Bool). length pairs == 1 && b) (sym (first-is slot pairs pair (one-pair slot pairs h) e)) ∙ h)

pub first-held : (pairs : List PagePair) (pair : PagePair) (key : ℕ) (held : Held) → pairs ≡ record { key = key; held = held } ∷ [] →
    pair ≡ get_or pairs 0 pair → Some pair.held ≡ Some held
first-held pairs pair key held e is = ap (λ (p : PagePair). Some p.held) (is ∙ ap (λ (ps : List PagePair). get_or ps 0 pair) e)
