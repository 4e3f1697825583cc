-- What a page must say to which a slot leads, and what was given for a page that was refused.
use Rattle.std.specs.Prelude.{ℕ, ◌≡◌, ◌+◌, ◌-◌, ◌*◌, ◌/◌, ◌==◌, ◌&&◌, Bool, false, min, nat_le, List, [], ◌∷◌, length, get_or, slice_get}
use Rattle.std.specs.Prelude.{Option, Some, None, Result, Ok, Err, ◌⊎◌}
use Rattle.dds_cache.specs.Kept.{Kept, held}
use Rattle.dds_pages.specs.Bucket.{Bucket}
use Rattle.dds_pages.specs.Overflow.{Overflow}
use Rattle.dds_pages.specs.Said.{bucket_in, overflow_in}
use Rattle.dds_pages.specs.declared.bucket.Held.{Held}
use Rattle.dds_pages.specs.declared.bucket.Held.TheVariants.{Here, Chain}
use Rattle.dds_pages.specs.declared.bucket.PagePair.{PagePair}
use Rattle.dds_chains.specs.declared.fault.TableFault.{TableFault}
use Rattle.dds_chains.specs.declared.fault.TableFault.TheVariants.{Disk, Page, Memory}
use Rattle.dds_chains.specs.declared.table.Slot.{Slot}

-- a value stands there that is as long as the slot's, in as many overflow pages as the slot has or fewer
abbrev pub is_place_of : Slot → Held → Bool
is_place_of slot (Here value) = length value == slot.len
is_place_of slot (Chain len first) = len == slot.len && nat_le len 60000 && nat_le ((len + 4080 - 1) / 4080) (length slot.overflow)

abbrev pub is_first_of : Slot → List PagePair → Bool
is_first_of slot [] = false
is_first_of slot (pair ∷ more) = pair.key == slot.key && is_place_of slot pair.held

-- there is just one pair, the slot's
abbrev pub is_pair_of : Slot → List PagePair → Bool
is_pair_of slot pairs = length pairs == 1 && is_first_of slot pairs

-- what a bucket page says is the slot's pair
abbrev pub is_bucket_of : Slot → Option Bucket → Bool
is_bucket_of slot None = false
is_bucket_of slot (Some bucket) = is_pair_of slot bucket.pairs

-- what an overflow page says is as many bytes as the length of a value asks at this place of its chain
abbrev pub is_piece_of : ℕ → ℕ → Option Overflow → Bool
is_piece_of len place None = false
is_piece_of len place (Some over) = length over.bytes == min 4080 (len - 4080 * place)

-- what the page said that the cache holds under a number, as the disk gave it or as it was written
abbrev pub IsGiven : {X : Type 0} → (List ℕ → Option X) → Kept → ℕ → Option X → Type 0
IsGiven said kept page what = (bytes : List ℕ) × (held kept page ≡ Some bytes) × (said bytes ≡ what)

-- what reading a page answers: what it said as it was given; it is refused where it said nothing
abbrev pub IsGivenAs : {X : Type 0} → (List ℕ → Option X) → Kept → ℕ → Result X TableFault → Type 0
IsGivenAs said kept page (Ok x) = IsGiven said kept page (Some x)
IsGivenAs said kept page (Err (Page refused)) = (refused ≡ page) × IsGiven said kept page None
IsGivenAs said kept page (Err Disk) = Unit {0}
IsGivenAs said kept page (Err Memory) = Unit {0}

-- the page that is refused said nothing
abbrev pub IsSilent : {X : Type 0} → (List ℕ → Option X) → Kept → ℕ → TableFault → Type 0
IsSilent said kept page (Page refused) = (refused ≡ page) × IsGiven said kept page None
IsSilent said kept page Disk = Unit {0}
IsSilent said kept page Memory = Unit {0}

-- as it was given, the slot's page isn't a bucket page with just the slot's pair
pub record NoPair (kept : Kept) (slot : Slot) : Type 0 where
  pub bytes : List ℕ
  pub given : held kept slot.page ≡ Some bytes
  pub differs : is_bucket_of slot (bucket_in bytes) ≡ false

-- as it was given, this overflow page isn't one with the bytes that its place in the chain asks
pub record NoPiece (kept : Kept) (overflow : List ℕ) (len page : ℕ) : Type 0 where
  pub place : ℕ
  pub stands : slice_get overflow place ≡ Some page
  pub bytes : List ℕ
  pub given : held kept page ≡ Some bytes
  pub differs : is_piece_of len place (overflow_in bytes) ≡ false

abbrev pub IsPieceRefused : Kept → List ℕ → ℕ → TableFault → Type 0
IsPieceRefused kept overflow len (Page page) = NoPiece kept overflow len page
IsPieceRefused kept overflow len Disk = Unit {0}
IsPieceRefused kept overflow len Memory = Unit {0}

-- a page of the slot is refused
abbrev pub IsSlotRefused : Kept → Slot → TableFault → Type 0
IsSlotRefused kept slot (Page page) = ((page ≡ slot.page) × NoPair kept slot) ⊎ NoPiece kept slot.overflow slot.len page
IsSlotRefused kept slot Disk = Unit {0}
IsSlotRefused kept slot Memory = Unit {0}

-- a page of one of these slots is refused
pub record Refused (kept : Kept) (slots : List Slot) (page : ℕ) : Type 0 where
  pub slot : Slot
  pub place : ℕ
  pub stands : slice_get slots place ≡ Some slot
  pub refused : IsSlotRefused kept slot (Page page)

abbrev pub IsChainRefused : Kept → List Slot → TableFault → Type 0
IsChainRefused kept slots (Page page) = Refused kept slots page
IsChainRefused kept slots Disk = Unit {0}
IsChainRefused kept slots Memory = Unit {0}

-- a page of a table with these buckets is refused
abbrev pub IsTableRefused : Kept → List (List Slot) → TableFault → Type 0
IsTableRefused kept buckets (Page page) = (bucket : ℕ) × Refused kept (get_or buckets bucket []) page
IsTableRefused kept buckets Disk = Unit {0}
IsTableRefused kept buckets Memory = Unit {0}

-- what is so where a page is refused
abbrev pub WherePage : Type 0 → TableFault → Type 0
WherePage fact (Page page) = fact
WherePage fact Disk = Unit {0}
WherePage fact Memory = Unit {0}
