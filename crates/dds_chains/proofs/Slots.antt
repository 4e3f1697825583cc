-- The places of a chain's slots.
use Rattle.std.proofs.Common.{ℕ, zero, suc, ◌≡◌, ◌+◌, ◌^◌, ◌<◌, ◌==◌, cond, true, false, List, [], ◌∷◌, length, drop, get_or, Option, Some}
use Rattle.std.proofs.Common.{None, refl, sym, ap, subst, ◌∙◌, arith}
use Rattle.std.specs.Option.{option_map}
use Rattle.dds_disk.specs.Pages.{Pages, page_at}
use Rattle.dds_chains.specs.Index.{first_page, place_of, found, slot_value, IsStored, IsChain}
use Rattle.dds_pages.specs.Bucket.{Bucket, IsHeld}
use Rattle.dds_pages.specs.declared.bucket.Held.{Held}
use Rattle.dds_pages.specs.Said.{bucket_in}
use Rattle.dds_base.specs.Place.{bucket as bucket_no}
use Rattle.dds_chains.specs.Index.{IsPlaced}
use Rattle.dds_chains.specs.declared.table.Slot.{Slot}
use Rattle.std.proofs.Common.{Result, Ok, Err, IfOk}
use Rattle.std.specs.FinMap.{get}
use Rattle.dds_chains.specs.Content.{content}
use Rattle.dds_chains.specs.Index.{IsIndex, IsTable}
use Rattle.dds_chains.specs.declared.table.Chains.{Chains}
use Rattle.dds_chains.specs.declared.fault.TableFault.{TableFault}
use Rattle.dds_chains.proofs.Contents.{content-found}
use Rattle.dds_chains.proofs.Chains.{stored-page, first-page-small}

abbrev pub shifted : ℕ → Option ℕ → Option ℕ
shifted i None = None
shifted i (Some n) = Some (i + n)

pub none-before : (o : Option ℕ) → option_map suc o ≡ None → o ≡ None
none-before None h = refl
none-before (Some n) h = cc

pub before : (o : Option ℕ) (i : ℕ) → option_map suc o ≡ Some (suc i) → o ≡ Some i
before None i h = cc
before (Some n) i h = let e : suc n ≡ suc i = cc in ap (λ (m : ℕ). Some m) (omega arith)

pub later : (o : Option ℕ) → option_map suc o ≡ Some 0 → ⊥
later None h = cc
later (Some n) h = let e : suc n ≡ 0 = cc in omega arith

pub first-not : {i : ℕ} → Some 0 ≡ Some (suc i) → ⊥
first-not {i = i} h = let e : 0 ≡ suc i = cc in omega arith

-- a key without a slot has no value
pub found-none : (a : Pages) (slots : List Slot) (key : ℕ) → place_of slots key ≡ None → found a slots key ≡ None
found-none a [] key h = refl
found-none a (s ∷ ss) key h = (elim (s.key == key) as (λ t. (s.key == key) ≡ t → cond t (Some 0) (option_map suc (place_of ss key)) ≡ None →
    cond t (Some (slot_value a s)) (found a ss key) ≡ None) [
      | true ↦ λ t e. cc
      | false ↦ λ t e. found-none a ss key (none-before (place_of ss key) e)
    ]) refl h

-- and one that has, that of its slot
pub found-some : (a : Pages) (slots : List Slot) (key i : ℕ) (slot : Slot) → place_of slots key ≡ Some i → slot ≡ get_or slots i slot →
    found a slots key ≡ Some (slot_value a slot)
found-some a [] key i slot h e = cc
found-some a (s ∷ ss) key zero slot h e =
    (elim (s.key == key) as (λ t. (s.key == key) ≡ t → cond t (Some 0) (option_map suc (place_of ss key)) ≡ Some 0 →
    cond t (Some (slot_value a s)) (found a ss key) ≡ Some (slot_value a slot)) [
      | true ↦ λ t h. ap (λ (x : Slot). Some (slot_value a x)) (sym e)
      | false ↦ λ t h. absurd (later (place_of ss key) h)
    ]) refl h
found-some a (s ∷ ss) key (suc i) slot h e =
    (elim (s.key == key) as (λ t. (s.key == key) ≡ t → cond t (Some 0) (option_map suc (place_of ss key)) ≡ Some (suc i) →
    cond t (Some (slot_value a s)) (found a ss key) ≡ Some (slot_value a slot)) [
      | true ↦ λ t h. absurd (first-not h)
      | false ↦ λ t h. found-some a ss key i slot (before (place_of ss key) i h) e
    ]) refl h

-- a slot of a chain is stored with the page of the next one
pub stored-at : (a : Pages) (slots : List Slot) (i : ℕ) (slot : Slot) → IsChain a slots → i < length slots → slot ≡ get_or slots i slot →
    IsStored a slot (first_page (drop (suc i) slots)) × IsChain a (drop (suc i) slots)
stored-at a [] i slot h below e = absurd (omega arith)
stored-at a (s ∷ ss) zero slot h below e = (subst (λ (x : Slot). IsStored a x (first_page ss)) (sym e) h.0, h.1)
stored-at a (s ∷ ss) (suc i) slot h below e = stored-at a ss i slot h.1 (omega arith) e

same-some : {X : Type 0} (o : Option X) (x y : X) → o ≡ Some x → o ≡ Some y → x ≡ y
same-some o x y e f = cc

-- the pair that a slot's page says
pub stored-pairs : (a : Pages) (slot : Slot) (next : ℕ) (h : IsStored a slot next) → next < 2 ^ 64 → (bucket : Bucket) →
    bucket_in (page_at a slot.page) ≡ Some bucket → bucket.pairs ≡ record { key = slot.key; held = h.held } ∷ []
stored-pairs a slot next h n bucket said = ap (λ (b : Bucket). b.pairs) (same-some _ bucket _ said (stored-page a slot next h n))

pub stored-place : (a : Pages) (slot : Slot) (next : ℕ) (h : IsStored a slot next) (held : Held) (overflow : List ℕ) → Some held ≡ Some h.held →
    overflow ≡ slot.overflow → IsHeld held × IsPlaced a held overflow h.value
stored-place a slot next h held overflow e f =
    let is : held ≡ h.held = same-some (Some held) held h.held refl e in (
      subst IsHeld (sym is) h.lawful,
      subst (λ (o : List ℕ). IsPlaced a held o h.value) (sym f)
          (subst (λ (x : Held). IsPlaced a x slot.overflow h.value) (sym is) h.placed),
    )

-- what a table's pages bind a key to that has no slot
pub get-none : (a : Pages) (table : Chains) (slots : List Slot) (key : ℕ) → IsIndex table → IsTable a table →
    slots ≡ get_or table.buckets.items (bucket_no key) [] → place_of slots key ≡ None → None ≡ get (content a table.root) key
get-none a table slots key x t e p = sym (content-found a table key x t ∙ ap (λ (ss : List Slot). found a ss key) (sym e) ∙ found-none a slots key p)

-- and to one that has
pub get-some : (a : Pages) (table : Chains) (slots : List Slot) (key i : ℕ) (slot : Slot) → IsIndex table → IsTable a table →
    slots ≡ get_or table.buckets.items (bucket_no key) [] → place_of slots key ≡ Some i → slot ≡ get_or slots i slot →
    (r : Result (Option (List ℕ)) TableFault) → IfOk r (λ value. value ≡ Some (slot_value a slot)) → IfOk r (λ value. value ≡ get (content a table.root) key)
get-some a table slots key i slot x t e p is (Ok value) h = h
    ∙ sym (content-found a table key x t ∙ ap (λ (ss : List Slot). found a ss key) (sym e) ∙ found-some a slots key i slot p is)
get-some a table slots key i slot x t e p is (Err fault) h = tt

pub slot-stored : (a : Pages) (table : Chains) (slots : List Slot) (key i : ℕ) (slot : Slot) → IsTable a table →
    slots ≡ get_or table.buckets.items (bucket_no key) [] → i < length slots → slot ≡ get_or slots i slot →
    IsStored a slot (first_page (drop (suc i) slots)) × (first_page (drop (suc i) slots) < 2 ^ 64)
slot-stored a table slots key i slot t e below is =
    let s = stored-at a slots i slot (subst (IsChain a) (sym e) (t.chains (bucket_no key))) below is in
    (s.0, first-page-small a (drop (suc i) slots) s.1)
