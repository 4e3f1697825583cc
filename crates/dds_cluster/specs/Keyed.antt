-- Lists with their items' keys.
use Rattle.std.specs.Prelude.{◌≡◌, ◌-◌, ◌<◌, ◌||◌, Bool, false, List, length, Option, Some, None, slice_index_or}
use Rattle.std.specs.BTreeSet.{BTreeSet, contains}
use Rattle.std.specs.List.{list_any}
use Rattle.std.specs.List.Sorted.{IsSorted}
use Rattle.std.specs.Ordering.{is_eq}
use Rattle.std.specs.declared.cmp.Ordering.{Ordering}
use Rattle.std.specs.declared.cmp.Ordering.TheVariants.{Less}

-- an item's key, if it has one, is q
abbrev pub is_key : {K : Type 0} → (K → K → Ordering) → Option K → K → Bool
is_key cmp None q = false
is_key cmp (Some key) q = is_eq (cmp key q)

-- q is among the keys, which lie in a list and in a set
abbrev pub has : {K : Type 0} → (K → K → Ordering) → List K → BTreeSet K → K → Bool
has cmp rising others q = list_any (λ x. is_eq (cmp x q)) rising || contains cmp others q

-- the last of these keys, where there is one, precedes this key
abbrev pub IsBehind : {K : Type 0} → (K → K → Ordering) → List K → K → Type 0
IsBehind {K} cmp keys key = (d : K) → 0 < length keys → cmp (slice_index_or keys (length keys - 1) d) key ≡ Less

-- the list is in its order, and it and the set have the keys of the items, each of which has the keys that the test tells
abbrev pub AreKeys : {K X : Type 0} → (K → K → Ordering) → (K → X → Bool) → List X → List K → BTreeSet K → Type 0
AreKeys {K} cmp test items rising others = IsSorted cmp rising × ((q : K) → has cmp rising others q ≡ list_any (test q) items)
