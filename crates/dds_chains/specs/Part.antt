-- The pairs of a table in the order of their places.
use Rattle.std.specs.Prelude.{ℕ, zero, suc, ◌≡◌, if◌then◌else◌, Bool, true, false, List, [], ◌∷◌, Option, Some, None, is_some, get_or}
use Rattle.std.specs.FinMap.{get, contains_key}
use Rattle.dds_chains.specs.Content.{Map}
use Rattle.dds_base.specs.Place.{bucket as bucket_no, is_before, is_after}
use Rattle.dds_chains.specs.Index.{place_of}
use Rattle.dds_chains.specs.declared.table.Slot.{Slot}
use Rattle.dds_chains.specs.declared.table.Chains.{Chains}
use Rattle.dds_base.specs.declared.pair.Pair.{Pair}

-- of the keys that pass a test, the first in place after another
abbrev pub IsNext : (ℕ → Bool) → Option ℕ → Option ℕ → Type 0
IsNext has after None = (q : ℕ) → has q ≡ true → is_after after q ≡ false
IsNext has after (Some key) = (has key ≡ true) × (is_after after key ≡ true) × ((q : ℕ) → has q ≡ true → is_after after q ≡ true → is_before q key ≡ false)

-- whether a chain has a key, and whether a table has
abbrev pub in_chain : List Slot → ℕ → Bool
in_chain slots q = is_some (place_of slots q)

abbrev pub has_key : Chains → ℕ → Bool
has_key table q = in_chain (get_or table.buckets.items (bucket_no q) []) q

-- the pairs next in place, at most so many, and whether none follow
abbrev pub IsPart : Map → Option ℕ → ℕ → List Pair → Bool → Type 0
IsPart m after most [] true = IsNext (λ q. contains_key m q) after None
IsPart m after zero [] false = (key : ℕ) × IsNext (λ q. contains_key m q) after (Some key)
IsPart m after (suc n) [] false = ⊥
IsPart m after zero (pair ∷ pairs) last = ⊥
IsPart m after (suc n) (pair ∷ pairs) last =
    IsNext (λ q. contains_key m q) after (Some pair.key) × (get m pair.key ≡ Some pair.value) × IsPart m (Some pair.key) n pairs last

-- the first of two keys in place, of which the first may be missing, after another
abbrev pub earlier : Option ℕ → Option ℕ → ℕ → Option ℕ
earlier None after key = if is_after after key then Some key else None
earlier (Some old) after key = if is_after after key then Some (if is_before key old then key else old) else Some old
