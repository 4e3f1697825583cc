-- A page of a bucket's pairs.
use Rattle.std.specs.Prelude.{ℕ, suc, zero, ◌+◌, ◌-◌, ◌^◌, ◌<◌, ◌≤◌, ◌==◌, ◌≡◌, ◌&&◌, ◌||◌, Bool, true, false, not, List, [], ◌∷◌, ◌++◌}
use Rattle.std.specs.Prelude.{length, drop, take, flat_map, nat_lt, if◌then◌else◌, Option, Some, None, Result, Ok, Err}
use Rattle.dds_pages.specs.declared.fault.PageFault.{PageFault}
use Rattle.dds_pages.specs.declared.fault.PageFault.TheVariants.{NotAPage, Memory}
use Rattle.dds_pages.specs.declared.bucket.Held.{Held}
use Rattle.dds_pages.specs.declared.bucket.Held.TheVariants.{Here, Chain}
use Rattle.dds_pages.specs.declared.bucket.PagePair.{PagePair}
use Rattle.dds_pages.specs.declared.fields.Form.{Form}
use Rattle.dds_pages.specs.Fields.{number_at, spelled, zero_from, padded, first_fault}

-- some pairs of a bucket, and the page of the next ones
pub record Bucket : Type 0 where
  pub pairs : List PagePair
  pub next : ℕ

-- whether a value of this length stands in a chain of overflow pages
abbrev pub is_long : Form → ℕ → Bool
is_long form len = form.chained && nat_lt 4000 len

-- how many bytes a pair of this value's length takes
abbrev pub extent : Form → ℕ → ℕ
extent form len = if is_long form len then 18 else 10 + len

-- the most bytes of a value
abbrev pub most : Form → ℕ
most form = if form.chained then 60000 else 4000

-- the first field of the pair at a place that isn't accepted: a pair that passes the bytes used is refused at its key
abbrev pub pair_fault : Form → List ℕ → ℕ → ℕ → Option ℕ
pair_fault form bytes used at =
    first_fault
    ((nat_lt used (at + 10), at) ∷ (nat_lt used (at + extent form (number_at bytes (at + 8) 2)), at) ∷ (nat_lt (most form) (number_at bytes (at + 8) 2), at + 8)
    ∷ (is_long form (number_at bytes (at + 8) 2) && number_at bytes (at + 10) 8 == 2 ^ 64 - 1, at + 10) ∷ [])

-- where the value of the pair at a place stands
abbrev pub held_at : Form → List ℕ → ℕ → Held
held_at form bytes at =
    if is_long form (number_at bytes (at + 8) 2) then
    Chain (number_at bytes (at + 8) 2) (number_at bytes (at + 10) 8)
    else
    Here (take (number_at bytes (at + 8) 2) (drop (at + 10) bytes))

-- the pair at a place
abbrev pub pair_at : Form → List ℕ → ℕ → PagePair
pair_at form bytes at = record { key = number_at bytes at 8; held = held_at form bytes at }

-- the place behind the pair at a place
abbrev pub after_pair : Form → List ℕ → ℕ → ℕ
after_pair form bytes at = at + extent form (number_at bytes (at + 8) 2)

abbrev pub or_else : Option ℕ → Option ℕ → Option ℕ
or_else None later = later
or_else (Some at) later = Some at

-- the first fault of a number of pairs from a place; bytes used that stand behind them are one
abbrev pub pairs_fault : Form → List ℕ → ℕ → ℕ → ℕ → Option ℕ
pairs_fault form bytes used at zero = if nat_lt at used then Some at else None
pairs_fault form bytes used at (suc n) = or_else (pair_fault form bytes used at) (pairs_fault form bytes used (after_pair form bytes at) n)

-- a number of pairs from a place
abbrev pub pairs_at : Form → List ℕ → ℕ → ℕ → List PagePair
pairs_at form bytes at zero = []
pairs_at form bytes at (suc n) = pair_at form bytes at ∷ pairs_at form bytes (after_pair form bytes at) n

-- the first field before the pairs that isn't accepted
abbrev pub head_fault : Form → List ℕ → Option ℕ
head_fault form bytes =
    first_fault
    ((not (number_at bytes 0 1 == 2), 0) ∷ (not (number_at bytes 1 1 == form.version), 1)
    ∷ (nat_lt (number_at bytes 12 2) 16 || nat_lt 4096 (number_at bytes 12 2), 12)
    ∷ (not (number_at bytes 14 2 == 0), 14) ∷ [])

-- the first field of a bucket page that isn't accepted
abbrev pub bucket_fault : Form → List ℕ → Option ℕ
bucket_fault form bytes =
    or_else (head_fault form bytes)
    (or_else (pairs_fault form bytes (number_at bytes 12 2) 16 (number_at bytes 2 2))
    (first_fault ((not (zero_from bytes (number_at bytes 12 2)), number_at bytes 12 2) ∷ [])))

-- what an accepted bucket page says
abbrev pub bucket_of : Form → List ℕ → Bucket
bucket_of form bytes = record { pairs = pairs_at form bytes 16 (number_at bytes 2 2); next = number_at bytes 4 8 }

-- the bytes of a value's place
abbrev pub held_bytes : Held → List ℕ
held_bytes (Here value) = spelled 2 (length value) ++ value
held_bytes (Chain len first) = spelled 2 len ++ spelled 8 first

-- the bytes of a pair
abbrev pub pair_bytes : PagePair → List ℕ
pair_bytes pair = spelled 8 pair.key ++ held_bytes pair.held

-- how many bytes a pair takes
abbrev pub pair_width : PagePair → ℕ
pair_width pair = length (pair_bytes pair)

-- a value stands in the page up to 4,000 bytes, and else in a chain, whose first page has a number that pages have
abbrev pub IsHeld : Held → Type 0
IsHeld (Here value) = length value ≤ 4000
IsHeld (Chain len first) = (4000 < len) × (len ≤ 60000) × (first < 2 ^ 64 - 1)

abbrev pub AreHeld : List PagePair → Type 0
AreHeld [] = Unit {0}
AreHeld (pair ∷ pairs) = IsHeld pair.held × AreHeld pairs

-- the value stands in the page
abbrev pub IsHere : Held → Type 0
IsHere (Here value) = Unit {0}
IsHere (Chain len first) = ⊥

abbrev pub AreHere : List PagePair → Type 0
AreHere [] = Unit {0}
AreHere (pair ∷ pairs) = IsHere pair.held × AreHere pairs

-- what reading the place of a pair's value answers, where the pair's length is in range and the pair passes nothing
abbrev pub IsHeldRead : Form → List ℕ → ℕ → Result Held PageFault → Type 0
IsHeldRead form bytes at (Ok held) =
    ((is_long form (number_at bytes (at + 8) 2) && number_at bytes (at + 10) 8 == 2 ^ 64 - 1) ≡ false) × (held ≡ held_at form bytes at)
    × (10 + length (held_bytes held) ≡ 2 + extent form (number_at bytes (at + 8) 2)) × IsHeld held
IsHeldRead form bytes at (Err (NotAPage fault)) =
    ((is_long form (number_at bytes (at + 8) 2) && number_at bytes (at + 10) 8 == 2 ^ 64 - 1) ≡ true) × (fault ≡ at + 10)
IsHeldRead form bytes at (Err Memory) = Unit {0}

-- what reading the pair at a place answers
abbrev pub IsPairRead : Form → List ℕ → ℕ → ℕ → Result PagePair PageFault → Type 0
IsPairRead form bytes used at (Ok pair) =
    (pair_fault form bytes used at ≡ None) × (pair ≡ pair_at form bytes at) × (at + pair_width pair ≤ used)
    × (pair_width pair ≡ extent form (number_at bytes (at + 8) 2)) × IsHeld pair.held
IsPairRead form bytes used at (Err (NotAPage fault)) = pair_fault form bytes used at ≡ Some fault
IsPairRead form bytes used at (Err Memory) = Unit {0}

-- what reading a number of pairs from a place answers
abbrev pub ArePairsRead : Form → List ℕ → ℕ → ℕ → ℕ → Result (List PagePair) PageFault → Type 0
ArePairsRead form bytes used at count (Ok pairs) =
    (pairs_fault form bytes used at count ≡ None) × (pairs ≡ pairs_at form bytes at count) × (at + length (flat_map pair_bytes pairs) ≡ used) × AreHeld pairs
ArePairsRead form bytes used at count (Err (NotAPage fault)) = pairs_fault form bytes used at count ≡ Some fault
ArePairsRead form bytes used at count (Err Memory) = Unit {0}

-- the pairs are lawful, and a page has room for them
pub record FitsAPage (pairs : List PagePair) : Type 0 where
  pub held : AreHeld pairs
  pub room : 16 + length (flat_map pair_bytes pairs) ≤ 4096

-- the bytes of a bucket page
abbrev pub bucket_bytes : Bucket → List ℕ
bucket_bytes bucket =
    padded (spelled 1 2 ++ (spelled 1 2 ++ (spelled 2 (length bucket.pairs) ++ (spelled 8 bucket.next
    ++ (spelled 2 (16 + length (flat_map pair_bytes bucket.pairs)) ++ (spelled 2 0 ++ flat_map pair_bytes bucket.pairs))))))

-- what reading a bucket page answers; want of memory may come before the fault of a later pair
abbrev pub IsBucketRead : Form → List ℕ → Result Bucket PageFault → Type 0
IsBucketRead form bytes (Ok bucket) = (bucket_fault form bytes ≡ None) × (bucket ≡ bucket_of form bytes)
IsBucketRead form bytes (Err (NotAPage at)) = bucket_fault form bytes ≡ Some at
IsBucketRead form bytes (Err Memory) = Unit {0}
