-- What a store knows of its keys, and which pages it refuses.
use Rattle.std.specs.Prelude.{ℕ, if◌then◌else◌, Bool, List, [], ◌∷◌, get_or}
use Rattle.dds_base.specs.Name.{Name, same_name}
use Rattle.dds_base.specs.Place.{bucket as bucket_no}
use Rattle.dds_cache.specs.Kept.{Kept}
use Rattle.dds_chains.specs.Lawful.{Refused}
use Rattle.dds_chains.specs.declared.fault.TableFault.{TableFault}
use Rattle.dds_chains.specs.declared.fault.TableFault.TheVariants.{Disk, Page, Memory}
use Rattle.dds_chains.specs.declared.table.Slot.{Slot}
use Rattle.dds_chains.specs.Part.{in_chain}
use Rattle.dds_table.specs.Store.{Named}

-- the slots in memory of the buckets of a name's table
abbrev pub slots_named : List Named → List (List (List Slot)) → Name → List (List Slot)
slots_named [] slots name = []
slots_named (table ∷ tables) [] name = []
slots_named (table ∷ tables) (buckets ∷ slots) name = if same_name table.0 name then buckets else slots_named tables slots name

-- whether a name's table has a slot of the key; over any disk this is what a store knows of its keys
abbrev pub knows : List Named → List (List (List Slot)) → Name → ℕ → Bool
knows tables slots name key = in_chain (get_or (slots_named tables slots name) (bucket_no key) []) key

-- a page is refused only where a slot of some table leads to it, and where as it was given it isn't what that slot asks
abbrev pub IsRefused : Kept → List (List (List Slot)) → TableFault → Type 0
IsRefused kept tables (Page page) = (table : ℕ) × (bucket : ℕ) × Refused kept (get_or (get_or tables table []) bucket []) page
IsRefused kept tables Disk = Unit {0}
IsRefused kept tables Memory = Unit {0}
