-- What lifting a table of version 1 answers.
use Rattle.std.specs.Prelude.{ℕ, ◌≡◌, Bool, true, Option, Result, Ok, Err, List, [], ◌∷◌, length}
use Rattle.std.specs.FinMap.{empty, insert}
use Rattle.dds_disk.specs.Pages.{Pages, page_at}
use Rattle.dds_base.specs.Name.{Name}
use Rattle.dds_base.specs.declared.pair.Pair.{Pair}
use Rattle.dds_chains.specs.Content.{Map}
use Rattle.dds_table.specs.Store.{Named, with_map, Holds}
use Rattle.dds_table.specs.Old.{IsWalked}
use Rattle.dds_pages.specs.Said.{old_root_in}
use Rattle.dds_chains.specs.declared.fault.TableFault.{TableFault}
use Rattle.dds_table.specs.declared.fault.LiftFault.{LiftFault}
use Rattle.dds_table.specs.declared.fault.LiftFault.TheVariants.{Old, Page, Store, Memory}

-- a map with pairs more, one after another
abbrev pub bind_all : Map → List Pair → Map
bind_all m [] = m
bind_all m (pair ∷ pairs) = bind_all (insert m pair.key pair.value) pairs

abbrev pub map_of : List Pair → Map
map_of pairs = bind_all empty pairs

-- the walk over these pages came to its end, and its pairs, so many, are the map of the name now
pub record Lifted (p : Pages) (name : Name) (root count : ℕ) (told : Option Pages) (tables : List Named) (before : List (Name × Map)) : Type 0 where
  pub pairs : List Pair
  pub walked : IsWalked p name root (old_root_in (page_at p root)) (Ok pairs)
  pub number : count ≡ length pairs
  pub holds : Holds told tables (with_map before name (map_of pairs))

-- a page is refused where the walk over these pages comes to it
abbrev pub IsRefused : Pages → Name → ℕ → Result ℕ LiftFault → Type 0
IsRefused p name root (Ok count) = Unit {0}
IsRefused p name root (Err (Page refused)) = IsWalked p name root (old_root_in (page_at p root)) (Err refused)
IsRefused p name root (Err Old) = Unit {0}
IsRefused p name root (Err (Store fault)) = Unit {0}
IsRefused p name root (Err Memory) = Unit {0}

-- a fact of the store's own fault
abbrev pub IsStores : (TableFault → Type 0) → LiftFault → Type 0
IsStores fact (Store fault) = fact fault
IsStores fact Old = Unit {0}
IsStores fact (Page refused) = Unit {0}
IsStores fact Memory = Unit {0}

-- a fault of the store's own is a failed call; after another the store is as it was
abbrev pub Keeps : LiftFault → Bool → Type 0 → Type 0
Keeps (Store fault) failed same = failed ≡ true
Keeps Old failed same = same
Keeps (Page refused) failed same = same
Keeps Memory failed same = same
