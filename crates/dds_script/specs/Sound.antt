-- What a reader keeps while it reads.
use Rattle.std.specs.Prelude.{ℕ, ◌≡◌, Bool, true, List, [], Option, None, Some}
use Rattle.std.specs.Fmt.{decimal}
use Rattle.std.specs.List.{AllByRecursion}
use Rattle.dds_script.specs.Fields.{IsListWord, IsSpelled, IsWithin}
use Rattle.dds_script.specs.Forms.{is_body}
use Rattle.dds_script.specs.Grammar.{IsRepeating}
use Rattle.dds_script.specs.Opening.{AreApart, AreOpeningLeaves, AreStaleLeaves, CoverAll, IsPlaced}
use Rattle.dds_script.specs.Ranges.{IsGroup, IsInRanges, IsRanges}
use Rattle.dds_script.specs.declared.form.Form.{Form}
use Rattle.dds_script.specs.declared.line.Line.{Line}
use Rattle.dds_script.specs.declared.script_error.ScriptKind.{ScriptKind}
use Rattle.dds_script.specs.declared.script_error.ScriptKind.TheVariants as kinds
use Rattle.dds_script.specs.declared.place.Place.{Place}
use Rattle.dds_script.specs.declared.place.Place.TheVariants as places
use Rattle.dds_script.specs.declared.group_word.Group.{Group}
use Rattle.dds_script.specs.declared.group_word.Group.TheVariants.{Wrong, Twice, Bricks}
use Rattle.dds_script.specs.declared.ranges.Ranges.{Ranges}
use Rattle.dds_script.specs.declared.reader.Reader.{Reader}

-- before the cluster line nothing was read
abbrev pub IsFresh : Place → Reader → Type 0
IsFresh places.BeforeCluster s = (s.leaves ≡ []) × (s.stale ≡ []) × (s.lines ≡ [])
IsFresh places.Leaves s = (s.stale ≡ []) × (s.lines ≡ [])
IsFresh places.Old s = CoverAll s.leaves
IsFresh places.Body s = CoverAll s.leaves

pub record IsSound (s : Reader) : Type 0 where
  pub ranges : IsRanges s.ranges
  pub leaves : AllByRecursion (IsPlaced s.ranges.bricks) s.leaves
  pub numbers : AreOpeningLeaves 0 s.leaves
  pub apart : AreApart s.leaves
  pub old : AllByRecursion (IsPlaced s.ranges.bricks) s.stale
  pub old_numbers : AreStaleLeaves s.ranges.libraries [] s.stale
  pub lines : AllByRecursion (IsInRanges s.ranges) s.lines
  pub fresh : IsFresh s.place s

-- what reading a word as a group answers
abbrev pub IsGroupRead : ℕ → List ℕ → Group → Type 0
IsGroupRead bricks word Wrong = (list : List ℕ) → IsListWord bricks word list → ⊥
IsGroupRead bricks word Twice = IsRepeating bricks word
IsGroupRead bricks word (Bricks list) = IsListWord bricks word list × IsGroup bricks list

-- what reading three words as ranges answers
abbrev pub AreRangesRead : List ℕ → List ℕ → List ℕ → Option Ranges → Type 0
AreRangesRead bricks libraries callers None = IsSpelled (IsWithin 1 64) bricks → IsSpelled (IsWithin 1 16) libraries → IsSpelled (IsWithin 1 64) callers → ⊥
AreRangesRead bricks libraries callers (Some r) = (bricks ≡ decimal r.bricks) × (libraries ≡ decimal r.libraries) × (callers ≡ decimal r.callers) × IsRanges r

-- the form, if there is one, is one behind the opening
abbrev pub IsBehind : Option Form → Type 0
IsBehind None = Unit {0}
IsBehind (Some f) = is_body f ≡ true

-- before the cluster line a wrong word counts for nothing
abbrev pub late : Place → ScriptKind → ScriptKind
late places.BeforeCluster kind = kinds.Place
late places.Leaves kind = kind
late places.Old kind = kind
late places.Body kind = kind
