-- The pages that a store has handed out, and what they must say.
use Rattle.std.specs.Prelude.{ℕ, suc, ◌≡◌, ◌<◌, ◌≤◌, ◌+◌, ◌-◌, ◌^◌, ◌==◌, IsTrue, false, if◌then◌else◌, Option, None, Some, List, [], ◌∷◌}
use Rattle.std.specs.Prelude.{length, map, take, drop, get_or, nat_le, option_map}
use Rattle.dds_disk.specs.Pages.{Pages, page_at}
use Rattle.dds_base.specs.Name.{Name, covers}
use Rattle.dds_pages.specs.Root.{root_bytes}
use Rattle.dds_pages.specs.Bucket.{Bucket, IsHeld, bucket_bytes}
use Rattle.dds_pages.specs.Overflow.{overflow_bytes}
use Rattle.dds_pages.specs.declared.bucket.Held.{Held}
use Rattle.dds_pages.specs.declared.bucket.Held.TheVariants.{Here, Chain}
use Rattle.dds_pages.specs.declared.bucket.PagePair.{PagePair}
use Rattle.dds_chains.specs.Content.{value_in}
use Rattle.dds_pages.specs.Said.{bucket_in}
use Rattle.dds_base.specs.Place.{bucket as bucket_no}
use Rattle.dds_chains.specs.declared.table.Slot.{Slot}
use Rattle.dds_chains.specs.declared.table.Chains.{Chains}

-- how many times a number stands
abbrev pub same : ℕ → ℕ → ℕ
same q p = if q == p then 1 else 0

abbrev pub times : ℕ → List ℕ → ℕ
times q [] = 0
times q (p ∷ ps) = same q p + times q ps

-- how many times a page is used
abbrev pub slot_uses : ℕ → Slot → ℕ
slot_uses q slot = same q slot.page + times q slot.overflow

abbrev pub chain_uses : ℕ → List Slot → ℕ
chain_uses q [] = 0
chain_uses q (slot ∷ slots) = slot_uses q slot + chain_uses q slots

abbrev pub buckets_use : ℕ → List (List Slot) → ℕ
buckets_use q [] = 0
buckets_use q (slots ∷ buckets) = chain_uses q slots + buckets_use q buckets

abbrev pub table_uses : ℕ → Chains → ℕ
table_uses q table = same q table.root + buckets_use q table.buckets.items

abbrev pub tables_use : ℕ → List Chains → ℕ
tables_use q [] = 0
tables_use q (table ∷ tables) = table_uses q table + tables_use q tables

-- how many times a page may be handed out: pages from `fresh` on never were, and the free ones were taken back
abbrev pub vacant : ℕ → List ℕ → ℕ → ℕ
vacant q free fresh = times q free + (if nat_le fresh q then 1 else 0)

-- the first page of a chain
abbrev pub first_page : List Slot → ℕ
first_page [] = 2 ^ 64 - 1
first_page (slot ∷ slots) = slot.page

abbrev pub first_number : List ℕ → ℕ
first_number [] = 2 ^ 64 - 1
first_number (page ∷ pages) = page

-- these overflow pages have these bytes
abbrev pub IsSpread : Pages → List ℕ → List ℕ → Type 0
IsSpread pages [] bytes = bytes ≡ []
IsSpread pages (page ∷ more) bytes =
    (page_at pages page ≡ overflow_bytes (record { bytes = take 4080 bytes; next = first_number more })) × (0 < length bytes) × (page < 2 ^ 64 - 1)
    × IsSpread pages more (drop 4080 bytes)

-- the value stands in this place, and these are its overflow pages
abbrev pub IsPlaced : Pages → Held → List ℕ → List ℕ → Type 0
IsPlaced pages (Here value) overflow bytes = (value ≡ bytes) × (overflow ≡ [])
IsPlaced pages (Chain len first) overflow bytes =
    (len ≡ length bytes) × (first ≡ first_number overflow) × (length overflow ≤ 15) × IsSpread pages overflow bytes

-- the slot's page has a pair of its key and a value, and the page of the chain's next pair
pub record IsStored (pages : Pages) (slot : Slot) (next : ℕ) : Type 0 where
  pub value : List ℕ
  pub held : Held
  pub page : page_at pages slot.page ≡ bucket_bytes (record { pairs = record { key = slot.key; held = held } ∷ []; next = next })
  pub placed : IsPlaced pages held slot.overflow value
  pub lawful : IsHeld held
  pub len : slot.len ≡ length value
  pub key : slot.key < 2 ^ 64
  pub number : slot.page < 2 ^ 64 - 1

abbrev pub IsChain : Pages → List Slot → Type 0
IsChain pages [] = Unit {0}
IsChain pages (slot ∷ slots) = IsStored pages slot (first_page slots) × IsChain pages slots

abbrev pub first_of : Pages → List PagePair → List ℕ
first_of pages [] = []
first_of pages (pair ∷ pairs) = value_in pages pair.held

abbrev pub first_value : Pages → Option Bucket → List ℕ
first_value pages None = []
first_value pages (Some bucket) = first_of pages bucket.pairs

-- the value that the slot's page gives
unfoldable pub slot_value : Pages → Slot → List ℕ
slot_value pages slot = first_value pages (bucket_in (page_at pages slot.page))

-- the value of a key in a chain
abbrev pub found : Pages → List Slot → ℕ → Option (List ℕ)
found pages [] key = None
found pages (slot ∷ slots) key = if slot.key == key then Some (slot_value pages slot) else found pages slots key

-- the place of a key's slot
abbrev pub place_of : List Slot → ℕ → Option ℕ
place_of [] key = None
place_of (slot ∷ slots) key = if slot.key == key then Some 0 else option_map suc (place_of slots key)

-- no slot has the key
abbrev pub Misses : ℕ → List Slot → Type 0
Misses key [] = Unit {0}
Misses key (slot ∷ slots) = ((slot.key == key) ≡ false) × Misses key slots

-- the keys are of this bucket of this table, each once
abbrev pub AreKeysOf : Name → ℕ → List Slot → Type 0
AreKeysOf name bucket [] = Unit {0}
AreKeysOf name bucket (slot ∷ slots) =
    (bucket_no slot.key ≡ bucket) × IsTrue (covers name slot.key) × Misses slot.key slots × AreKeysOf name bucket slots

abbrev pub total : List (List Slot) → ℕ
total [] = 0
total (slots ∷ buckets) = length slots + total buckets

-- what is true of a table in memory
pub record IsIndex (table : Chains) : Type 0 where
  pub long : length table.buckets.items ≡ 256
  pub few : table.len ≤ 16384
  pub keys : (bucket : ℕ) → AreKeysOf table.name bucket (get_or table.buckets.items bucket [])

-- the pages that a disk tells are the table's
pub record IsTable (pages : Pages) (table : Chains) : Type 0 where
  pub root : page_at pages table.root ≡ root_bytes 2 (record { pairs = table.len; firsts = map first_page table.buckets.items })
  pub chains : (bucket : ℕ) → IsChain pages (get_or table.buckets.items bucket [])
  pub len : table.len ≡ total table.buckets.items
