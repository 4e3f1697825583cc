-- What reading and writing pages answers.
use Rattle.std.specs.Prelude.{ℕ, ◌≡◌, List, Option, None, Some, Result, Ok, Err}
use Rattle.dds_disk.specs.Pages.{Pages, page_at}
use Rattle.dds_pages.specs.declared.bucket.Held.{Held}
use Rattle.std.specs.FinMap.{empty}
use Rattle.std.specs.List.{remove}
use Rattle.dds_chains.specs.Index.{IsChain, found, chain_uses}
use Rattle.dds_chains.specs.declared.table.Slot.{Slot}
use Rattle.dds_chains.specs.Content.{Map, content}
use Rattle.dds_chains.specs.Index.{IsSpread, IsPlaced, IsTable, vacant, table_uses}
use Rattle.dds_chains.specs.declared.table.Chains.{Chains}
use Rattle.dds_chains.specs.declared.fault.TableFault.{TableFault}
use Rattle.dds_chains.specs.declared.fault.TableFault.TheVariants.{Disk, Page, Memory}

-- a page of which this is known was read; one that says nothing is refused
abbrev pub IsReadAs : {X : Type 0} → Option X → ℕ → Result X TableFault → Type 0
IsReadAs said page (Ok x) = said ≡ Some x
IsReadAs said page (Err (Page refused)) = (refused ≡ page) × (said ≡ None)
IsReadAs said page (Err Disk) = Unit {0}
IsReadAs said page (Err Memory) = Unit {0}

-- the fault is no page's
abbrev pub IsNoPage : TableFault → Type 0
IsNoPage Disk = Unit {0}
IsNoPage (Page refused) = ⊥
IsNoPage Memory = Unit {0}

-- pages that were in use are as before
abbrev pub KeepsUsed : Pages → Pages → List ℕ → ℕ → Type 0
KeepsUsed a b free fresh = (n : ℕ) → vacant n free fresh ≡ 0 → page_at b n ≡ page_at a n

-- a value's bytes were written to these overflow pages, which were in no use
pub record WroteChain (a : Pages) (free : List ℕ) (fresh : ℕ) (told : Option Pages) (overflow bytes : List ℕ) : Type 0 where
  pub b : Pages
  pub is_told : told ≡ Some b
  pub spread : IsSpread b overflow bytes
  pub kept : KeepsUsed a b free fresh

-- a value was written, and stands in this place
pub record WroteValue (a : Pages) (free : List ℕ) (fresh : ℕ) (told : Option Pages) (held : Held) (overflow bytes : List ℕ) : Type 0 where
  pub b : Pages
  pub is_told : told ≡ Some b
  pub placed : IsPlaced b held overflow bytes
  pub kept : KeepsUsed a b free fresh

-- a table's pages were changed, and no page that was in another use
pub record Changed (a : Pages) (free : List ℕ) (fresh : ℕ) (was : Chains) (told : Option Pages) (now : Chains) (bound : Map) : Type 0 where
  pub b : Pages
  pub is_told : told ≡ Some b
  pub table : IsTable b now
  pub kept : (n : ℕ) → vacant n free fresh ≡ 0 → table_uses n was ≡ 0 → page_at b n ≡ page_at a n
  pub binds : content b now.root ≡ bound

-- a table was made of a page that was in no use
pub record Made (a : Pages) (free : List ℕ) (fresh : ℕ) (told : Option Pages) (now : Chains) : Type 0 where
  pub b : Pages
  pub is_told : told ≡ Some b
  pub table : IsTable b now
  pub kept : KeepsUsed a b free fresh
  pub binds : content b now.root ≡ empty

-- a slot was taken out of a chain: the chain without it is right
pub record Bridged (a : Pages) (slots : List Slot) (place : ℕ) (told : Option Pages) : Type 0 where
  pub b : Pages
  pub is_told : told ≡ Some b
  pub chain : IsChain b (remove slots place)
  pub values : (q : ℕ) → found b (remove slots place) q ≡ found a (remove slots place) q
  pub kept : (n : ℕ) → chain_uses n slots ≡ 0 → page_at b n ≡ page_at a n
