-- How a command ends, and what it finds and leaves outside.
use Rattle.std.specs.Prelude.{ℕ, ◌≡◌, ◌≤◌, String, List, [], ◌∷◌, length, codes, Option}
use Rattle.std.specs.String.{string_bytes}
use Rattle.dds_base.specs.Outside.{Took, IsEnded, Added, AddedPart, Rose, line_ends}
use Rattle.dds_transcript.specs.Text.{report_text}
use Rattle.dds_transcript.specs.declared.report_line.ReportLine.{ReportLine}
use Rattle.dds_ends.specs.declared.end.End.{End}
use Rattle.dds_ends.specs.declared.end.End.TheVariants.{Finished, Usage, TooLong, ReadFault, Script, WriteFault, Memory}
use Rattle.dds_ends.specs.declared.command.TheConstants.{BYTES, LINES}

-- the status of each end
abbrev pub status_of : End → ℕ
status_of Finished = 0
status_of Usage = 1
status_of (Script fault) = 2
status_of ReadFault = 3
status_of WriteFault = 4
status_of Memory = 5
status_of TooLong = 7

-- the words are the one word `step`
abbrev pub IsStepCommand : {A : Type 0} → List (String A) → Type 0
IsStepCommand [] = ⊥
IsStepCommand (word ∷ []) = string_bytes word ≡ codes "step"
IsStepCommand (word ∷ other ∷ words) = ⊥

-- a source and a sink as the command finds or leaves them: what is left to read and what was written, where they tell
-- it, and their counts of faults
pub record Outside : Type 0 where
  pub left : Option (List ℕ)
  pub source_faults : ℕ
  pub written : Option (List ℕ)
  pub sink_faults : ℕ

-- nothing was read
abbrev pub IsUnread : Outside → Outside → Type 0
IsUnread before after = (after.left ≡ before.left) × (after.source_faults ≡ before.source_faults)

-- nothing was written
abbrev pub IsUnwritten : Outside → Outside → Type 0
IsUnwritten before after = (after.written ≡ before.written) × (after.sink_faults ≡ before.sink_faults)

-- the source was read to its end and gave these bytes, which are within the limits
pub record IsReadWhole (bytes : List ℕ) (before after : Outside) : Type 0 where
  pub taken : Took before.left bytes after.left
  pub ended : IsEnded after.left
  pub short : length bytes ≤ BYTES
  pub few : line_ends bytes ≤ LINES

-- the sink is as it was
abbrev pub IsSame : Option (List ℕ) → ℕ → Option (List ℕ) → ℕ → Type 0
IsSame written faults later now = (later ≡ written) × (now ≡ faults)

-- lines were written
abbrev pub IsWritten : List ReportLine → Option (List ℕ) → ℕ → Option (List ℕ) → ℕ → End → Type 0
IsWritten lines written faults later now Finished = Added written (report_text lines) later
IsWritten lines written faults later now Usage = ⊥
IsWritten lines written faults later now (Script fault) = ⊥
IsWritten lines written faults later now ReadFault = ⊥
IsWritten lines written faults later now WriteFault = Rose faults now × AddedPart written (report_text lines) later
IsWritten lines written faults later now Memory = AddedPart written (report_text lines) later
IsWritten lines written faults later now TooLong = ⊥
