-- How a table becomes the tables of its name's two halves.
use Rattle.std.specs.Prelude.{ℕ, ◌≡◌, ◌+◌, ◌≤◌, Bool, true, false, List, [], ◌∷◌, ◌++◌, Option, Some, None, ◌⊎◌, IsTrue, if◌then◌else◌}
use Rattle.std.specs.FinMap.{get, insert, remove, retain_keys, contains_key, len}
use Rattle.dds_disk.specs.Pages.{Pages}
use Rattle.dds_base.specs.Name.{Name, covers, same_name}
use Rattle.dds_groups.specs.Names.{low_half, high_half}
use Rattle.dds_chains.specs.Content.{Map}
use Rattle.dds_table.specs.Store.{Named, maps_of, map_named, with_map, Holds}

-- the pairs of a map whose keys a name covers
abbrev pub covered : Map → Name → Map
covered m name = retain_keys m (λ key. covers name key)

-- the name covers each key of the map
abbrev pub KeysAreOf : Name → Map → Type 0
KeysAreOf name m = (key : ℕ) → contains_key m key ≡ true → IsTrue (covers name key)

-- each pair of the whole map is in just one of two maps, and these have no other pairs
pub record IsParted (whole low high : Map) : Type 0 where
  pub once : (key : ℕ) (value : List ℕ) → get whole key ≡ Some value →
      ((get low key ≡ Some value) × (get high key ≡ None)) ⊎ ((get low key ≡ None) × (get high key ≡ Some value))
  pub of_low : (key : ℕ) (value : List ℕ) → get low key ≡ Some value → get whole key ≡ Some value
  pub of_high : (key : ℕ) (value : List ℕ) → get high key ≡ Some value → get whole key ≡ Some value

-- the tables of the two halves of a name
abbrev pub halves_of : Name → Map → Map → List (Name × Map)
halves_of name low high = (low_half name, low) ∷ (high_half name, high) ∷ []

-- whether one of the names is this one
abbrev pub is_among : List Name → Name → Bool
is_among [] name = false
is_among (other ∷ others) name = if same_name other name then true else is_among others name

-- the tables after a key was bound in the table of a name, if the name covers the key
abbrev pub put_covered : List (Name × Map) → Name → ℕ → List ℕ → List (Name × Map)
put_covered maps name key value =
    if covers name key then
    with_map maps name (insert (map_named maps name) key value)
    else
    maps

-- the tables after a key was unbound in the table of a name and bound in that of the half that covers it
abbrev pub moved : List (Name × Map) → Name → ℕ → List ℕ → List (Name × Map)
moved maps name key value =
    put_covered (put_covered (with_map maps name (remove (map_named maps name) key)) (low_half name) key value) (high_half name) key value

-- a value, if the name covers the key
abbrev pub if_covered : Name → ℕ → Option (List ℕ) → Option (List ℕ)
if_covered name key value = if covers name key then value else None

-- the first value, if there is one, and else the second
abbrev pub either_of : Option (List ℕ) → Option (List ℕ) → Option (List ℕ)
either_of None other = other
either_of (Some value) other = Some value

-- what a half's map and the rest of the whole map have of the keys that the half covers is what the whole map had
abbrev pub IsParting : Map → Map → Name → Map → Type 0
IsParting whole rest half m =
    (key : ℕ) → either_of (if_covered half key (get rest key)) (get m key) ≡ if_covered half key (get whole key)

-- the tables while the pairs of a name are moved to its halves: at most so many are left
pub record IsMoving (maps : List (Name × Map)) (name : Name) (left : ℕ) (now : List (Name × Map)) : Type 0 where
  pub rest : Map
  pub low : Map
  pub high : Map
  pub are : now ≡ with_map maps name rest ++ halves_of name low high
  pub of_low : IsParting (map_named maps name) rest (low_half name) low
  pub of_high : IsParting (map_named maps name) rest (high_half name) high
  pub few_low : len rest + len low ≤ 16384
  pub few_high : len rest + len high ≤ 16384
  pub few : len rest ≤ left

-- the pages told after a call, over which the pairs are being moved
pub record Moves (told : Option Pages) (tables : List Named) (maps : List (Name × Map)) (name : Name) (left : ℕ) : Type 0 where
  pub pages : Pages
  pub is_told : told ≡ Some pages
  pub moving : IsMoving maps name left (maps_of pages tables)

-- a table and either half's table have no more pairs together than one table may have
pub record HasRoom (maps : List (Name × Map)) (name : Name) : Type 0 where
  pub low : len (map_named maps name) + len (map_named maps (low_half name)) ≤ 16384
  pub high : len (map_named maps name) + len (map_named maps (high_half name)) ≤ 16384

-- a pair of the table of a name was moved to its half
pub record Moved (told : Option Pages) (tables : List Named) (before : List (Name × Map)) (name : Name) : Type 0 where
  pub key : ℕ
  pub value : List ℕ
  pub bound : get (map_named before name) key ≡ Some value
  pub after : Holds told tables (moved before name key value)

-- nothing was left to be moved, or a pair was
abbrev pub IsTurn : Option Pages → List Named → List (Name × Map) → Name → Type 0
IsTurn told tables before name =
    (((key : ℕ) → get (map_named before name) key ≡ None) × Holds told tables before) ⊎ Moved told tables before name
