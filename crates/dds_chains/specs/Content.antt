-- What the pages of a table say.
use Rattle.std.specs.Prelude.{ℕ, zero, suc, ◌-◌, ◌^◌, ◌==◌, if◌then◌else◌, Option, None, Some, List, [], ◌++◌, length, map, flat_map}
use Rattle.std.specs.Ordering.{nat_cmp}
use Rattle.std.specs.FinMap.{FinMap, from_entries}
use Rattle.dds_disk.specs.Pages.{Pages, page_at}
use Rattle.dds_pages.specs.Said.{root_in, bucket_in, overflow_in}
use Rattle.dds_pages.specs.Root.{Root}
use Rattle.dds_pages.specs.Bucket.{Bucket}
use Rattle.dds_pages.specs.Overflow.{Overflow}
use Rattle.dds_pages.specs.declared.bucket.Held.{Held}
use Rattle.dds_pages.specs.declared.bucket.Held.TheVariants.{Here, Chain}
use Rattle.dds_pages.specs.declared.bucket.PagePair.{PagePair}

-- the pairs of a table
abbrev pub Map : Type 0
Map = FinMap nat_cmp (List ℕ)

abbrev pub bytes_then : Option Overflow → (ℕ → List ℕ) → List ℕ
bytes_then None rest = []
bytes_then (Some over) rest = over.bytes ++ rest over.next

-- the joined bytes of the overflow chain from a page, of n pages at most
abbrev pub chain_bytes : ℕ → Pages → ℕ → List ℕ
chain_bytes zero pages page = []
chain_bytes (suc n) pages page =
    if page == 2 ^ 64 - 1 then
    []
    else
    bytes_then (overflow_in (page_at pages page)) (chain_bytes n pages)

-- the bytes, where they have this length
abbrev pub whole : ℕ → List ℕ → List ℕ
whole len bytes = if length bytes == len then bytes else []

-- the value that stands in this place; a value has 15 overflow pages at most
unfoldable pub value_in : Pages → Held → List ℕ
value_in pages (Here value) = value
value_in pages (Chain len first) = whole len (chain_bytes 15 pages first)

abbrev pub pair_in : Pages → PagePair → ℕ × List ℕ
pair_in pages pair = (pair.key, value_in pages pair.held)

abbrev pub pairs_then : Pages → Option Bucket → (ℕ → List (ℕ × List ℕ)) → List (ℕ × List ℕ)
pairs_then pages None rest = []
pairs_then pages (Some bucket) rest = map (pair_in pages) bucket.pairs ++ rest bucket.next

-- the pairs of the bucket's chain from a page, of n pages at most
abbrev pub chain_pairs : ℕ → Pages → ℕ → List (ℕ × List ℕ)
chain_pairs zero pages page = []
chain_pairs (suc n) pages page =
    if page == 2 ^ 64 - 1 then
    []
    else
    pairs_then pages (bucket_in (page_at pages page)) (chain_pairs n pages)

abbrev pub firsts_in : Option Root → List ℕ
firsts_in None = []
firsts_in (Some root) = root.firsts

-- the pairs of all chains from a root page; a table has 16,384 pairs at most
unfoldable pub content : Pages → ℕ → Map
content pages root = from_entries (flat_map (chain_pairs 16384 pages) (firsts_in (root_in (page_at pages root))))
