-- The ranges of what a script names.
use Rattle.std.specs.Prelude.{ℕ, ◌+◌, ◌^◌, ◌<◌, ◌≤◌, ◌⊎◌, List, IsTrue}
use Rattle.std.specs.List.{AllByRecursion}
use Rattle.dds_base.specs.BrickList.{is_brick_list}
use Rattle.dds_base.specs.Name.{Name}
use Rattle.dds_base.specs.declared.op.Op.{Op}
use Rattle.dds_base.specs.declared.op.Op.TheVariants.{Get, Put, Remove, Swap}
use Rattle.dds_script.specs.Words.{IsValue}
use Rattle.dds_script.specs.declared.line.Line.{Line}
use Rattle.dds_script.specs.declared.line.Line.TheVariants.{Call, Stop, Join, Split, Pick, Events, Quiet, Post, Take, Show, Nothing}
use Rattle.dds_script.specs.declared.line.Picker.{Picker}
use Rattle.dds_script.specs.declared.line.Picker.TheVariants.{Fifo, Newest, Seed}
use Rattle.dds_script.specs.declared.ranges.Ranges.{Ranges}

-- a cluster may have so many bricks, libraries and callers
pub record IsRanges (r : Ranges) : Type 0 where
  pub some_brick : 1 ≤ r.bricks
  pub bricks : r.bricks ≤ 64
  pub some_library : 1 ≤ r.libraries
  pub libraries : r.libraries ≤ 16
  pub some_caller : 1 ≤ r.callers
  pub callers : r.callers ≤ 64

-- the name is a partition's
pub record IsName (name : Name) : Type 0 where
  pub depth : name.depth ≤ 16
  pub bits : name.bits < 2 ^ name.depth

-- the node is one of the bricks or one of the libraries
abbrev pub IsNode : Ranges → ℕ → Type 0
IsNode r node = (node < r.bricks) ⊎ ((64 ≤ node) × (node < 64 + r.libraries))

-- each number is one of the bricks
abbrev pub AreBelow : ℕ → List ℕ → Type 0
AreBelow bricks list = AllByRecursion (λ brick. brick < bricks) list

-- the list is a group of some of the bricks
pub record IsGroup (bricks : ℕ) (list : List ℕ) : Type 0 where
  pub below : AreBelow bricks list
  pub group : IsTrue (is_brick_list list)

-- the key and the values of an operation are in range
abbrev pub IsOpInRange : Op → Type 0
IsOpInRange (Get key) = key < 2 ^ 64
IsOpInRange (Put key value) = (key < 2 ^ 64) × IsValue value
IsOpInRange (Remove key) = key < 2 ^ 64
IsOpInRange (Swap key expected value) = (key < 2 ^ 64) × IsValue expected × IsValue value

abbrev pub IsPickerInRange : Picker → Type 0
IsPickerInRange Fifo = Unit {0}
IsPickerInRange Newest = Unit {0}
IsPickerInRange (Seed seed) = seed < 2 ^ 64

-- what the line names is there, and its numbers and values are in range
abbrev pub IsInRanges : Ranges → Line → Type 0
IsInRanges r (Call caller op) = (caller < r.callers) × IsOpInRange op
IsInRanges r (Stop node) = IsNode r node
IsInRanges r (Join brick name via) = (brick < r.bricks) × IsName name × (via < r.bricks)
IsInRanges r (Split brick name) = (brick < r.bricks) × IsName name
IsInRanges r (Pick picker) = IsPickerInRange picker
IsInRanges r (Events count) = count ≤ 1000000
IsInRanges r Quiet = Unit {0}
IsInRanges r (Post node) = IsNode r node
IsInRanges r (Take node from) = IsNode r node × IsNode r from
IsInRanges r (Show brick) = brick < r.bricks
IsInRanges r Nothing = Unit {0}
