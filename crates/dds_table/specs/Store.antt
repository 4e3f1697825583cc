-- A store of tables, and what its calls do.
use Rattle.std.specs.Prelude.{ℕ, suc, ◌≡◌, ◌+◌, ◌≤◌, Bool, true, false, List, [], ◌∷◌, length, map, Option, Some, None, is_some, option_map}
use Rattle.std.specs.Prelude.{if◌then◌else◌, refl}
use Rattle.std.specs.Coded.{Coded, code_by, coded×, coded_ℕ, coded_bool, coded_list}
use Rattle.std.specs.FinMap.{empty}
use Rattle.dds_disk.specs.Pages.{Pages}
use Rattle.dds_base.specs.Name.{Name, same_name}
use Rattle.dds_cache.specs.Kept.{CacheState, cache_code}
use Rattle.dds_chains.specs.Content.{Map, content}
use Rattle.dds_chains.specs.Index.{vacant, tables_use, IsIndex, IsTable}
use Rattle.dds_chains.specs.declared.table.Slot.{Slot}
use Rattle.dds_chains.specs.declared.table.Chains.{Chains}

-- a table's name and its root page
abbrev pub Named : Type 0
Named = Name × ℕ

-- a store: its cache, the name and root page of each table, the slots in memory of each table's buckets, and whether a
-- call failed
pub record StoreState (D : Type 0) : Type 0 where
  pub cache : CacheState D
  pub tables : List Named
  pub slots : List (List (List Slot))
  pub failed : Bool

abbrev pub name_code : Coded Name
name_code = code_by (ℕ × ℕ) (coded× coded_ℕ coded_ℕ) (λ n. (n.bits, n.depth)) (λ p. record { bits = p.0; depth = p.1 }) (λ _. refl)

abbrev pub slot_code : Coded Slot
slot_code = code_by (ℕ × (ℕ × (ℕ × List ℕ))) (coded× coded_ℕ (coded× coded_ℕ (coded× coded_ℕ (coded_list coded_ℕ))))
    (λ s. (s.key, (s.page, (s.len, s.overflow)))) (λ p. record { key = p.0; page = p.1.0; len = p.1.1.0; overflow = p.1.1.1 }) (λ _. refl)

abbrev pub store_code : {D : Type 0} → Coded D → Coded (StoreState D)
store_code {D = D} d =
    code_by (CacheState D × (List (Name × ℕ) × (List (List (List Slot)) × Bool)))
    (coded× (cache_code d) (coded× (coded_list (coded× name_code coded_ℕ)) (coded× (coded_list (coded_list (coded_list slot_code))) coded_bool)))
    (λ s. (s.cache, (s.tables, (s.slots, s.failed)))) (λ p. record { cache = p.0; tables = p.1.0; slots = p.1.1.0; failed = p.1.1.1 }) (λ _. refl)

abbrev pub named : List Chains → List Named
named tables = map (λ table. (table.name, table.root)) tables

-- the slots of the buckets of each table
abbrev pub slots_of : List Chains → List (List (List Slot))
slots_of tables = map (λ table. table.buckets.items) tables

abbrev pub names : List Named → List Name
names tables = map (λ table. table.0) tables

-- the tables with the maps that their pages say
abbrev pub maps_of : Pages → List Named → List (Name × Map)
maps_of pages tables = map (λ table. (table.0, content pages table.1)) tables

-- the place of a name
abbrev pub place_named : List Named → Name → Option ℕ
place_named [] name = None
place_named (table ∷ tables) name = if same_name table.0 name then Some 0 else option_map suc (place_named tables name)

abbrev pub has_table : List Named → Name → Bool
has_table tables name = is_some (place_named tables name)

-- the map of a name
abbrev pub map_named : List (Name × Map) → Name → Map
map_named [] name = empty
map_named (table ∷ tables) name = if same_name table.0 name then table.1 else map_named tables name

-- the tables after the map of a name became another
abbrev pub with_map : List (Name × Map) → Name → Map → List (Name × Map)
with_map [] name m = []
with_map (table ∷ tables) name m = if same_name table.0 name then (table.0, m) ∷ tables else table ∷ with_map tables name m

-- the tables without the first of a name
abbrev pub without_table : List Named → Name → List Named
without_table [] name = []
without_table (table ∷ tables) name = if same_name table.0 name then tables else table ∷ without_table tables name

-- the slots of those tables
abbrev pub without_slots : List Named → List (List (List Slot)) → Name → List (List (List Slot))
without_slots [] slots name = slots
without_slots (table ∷ tables) [] name = []
without_slots (table ∷ tables) (buckets ∷ slots) name = if same_name table.0 name then slots else buckets ∷ without_slots tables slots name

abbrev pub AllIndex : List Chains → Type 0
AllIndex [] = Unit {0}
AllIndex (table ∷ tables) = IsIndex table × AllIndex tables

abbrev pub AllTables : Pages → List Chains → Type 0
AllTables pages [] = Unit {0}
AllTables pages (table ∷ tables) = IsTable pages table × AllTables pages tables

-- what is true of a store of which no call failed: each page is vacant or in one use, and no other; and each table may
-- be dropped without taking memory
pub record IsStore (told : Option Pages) (free : List ℕ) (fresh : ℕ) (tables dropped : List Chains) (capacity : ℕ) : Type 0 where
  pub balance : (n : ℕ) → vacant n free fresh + tables_use n tables + tables_use n dropped ≡ 1
  pub room : length tables + length dropped ≤ capacity
  pub index : AllIndex tables
  pub stored : (pages : Pages) → told ≡ Some pages → AllTables pages tables

abbrev pub Unless : Bool → Type 0 → Type 0
Unless true fact = Unit {0}
Unless false fact = fact

-- the pages told after a call, of which the tables' maps are these
pub record Holds (told : Option Pages) (tables : List Named) (maps : List (Name × Map)) : Type 0 where
  pub pages : Pages
  pub is_told : told ≡ Some pages
  pub are : maps_of pages tables ≡ maps
