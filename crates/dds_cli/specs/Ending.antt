-- What the parts of the command end with, from the inside out.
use Rattle.std.specs.Prelude.{ℕ, ◌≡◌, ◌⊎◌, List, [], Option}
use Rattle.dds_base.specs.Outside.{Added, AddedPart, Rose}
use Rattle.dds_script.specs.Grammar.{IsFirstFault}
use Rattle.dds_script.specs.Opening.{ScriptOf as Script}
use Rattle.dds_transcript.specs.Text.{report_text}
use Rattle.dds_cluster.specs.declared.step.Step.{Step}
use Rattle.dds_walk.specs.Walk.{transcript}
use Rattle.dds_cli.specs.Ended.{IsRunOf, IsScriptRun}
use Rattle.dds_ends.specs.End.{IsSame}
use Rattle.dds_ends.specs.declared.end.End.{End}
use Rattle.dds_ends.specs.declared.end.End.TheVariants.{Finished, Usage, TooLong, ReadFault, Script as ScriptEnd, WriteFault, Memory}

-- a script was run
abbrev pub IsEndOfScript : Script → Option (List ℕ) → ℕ → Option (List ℕ) → ℕ → List Step → End → Type 0
IsEndOfScript script written faults later now journal Finished = IsRunOf script journal × Added written (report_text (transcript script journal)) later
IsEndOfScript script written faults later now journal Usage = ⊥
IsEndOfScript script written faults later now journal (ScriptEnd fault) = ⊥
IsEndOfScript script written faults later now journal ReadFault = ⊥
IsEndOfScript script written faults later now journal WriteFault =
    IsRunOf script journal × Rose faults now × AddedPart written (report_text (transcript script journal)) later
IsEndOfScript script written faults later now journal Memory =
    IsSame written faults later now ⊎ (IsRunOf script journal × AddedPart written (report_text (transcript script journal)) later)
IsEndOfScript script written faults later now journal TooLong = ⊥

-- bytes were read as a script
pub record IsDone (bytes : List ℕ) (written : Option (List ℕ)) (later : Option (List ℕ)) (journal : List Step) : Type 0 where
  pub script : Script
  pub ran : IsScriptRun bytes script journal
  pub added : Added written (report_text (transcript script journal)) later

pub record IsBegun (bytes : List ℕ) (written : Option (List ℕ)) (later : Option (List ℕ)) (journal : List Step) : Type 0 where
  pub script : Script
  pub ran : IsScriptRun bytes script journal
  pub added : AddedPart written (report_text (transcript script journal)) later

abbrev pub IsEndOfBytes : List ℕ → Option (List ℕ) → ℕ → Option (List ℕ) → ℕ → List Step → End → Type 0
IsEndOfBytes bytes written faults later now journal Finished = IsDone bytes written later journal
IsEndOfBytes bytes written faults later now journal Usage = ⊥
IsEndOfBytes bytes written faults later now journal (ScriptEnd fault) = IsFirstFault bytes fault × IsSame written faults later now × (journal ≡ [])
IsEndOfBytes bytes written faults later now journal ReadFault = ⊥
IsEndOfBytes bytes written faults later now journal WriteFault = Rose faults now × IsBegun bytes written later journal
IsEndOfBytes bytes written faults later now journal Memory = IsSame written faults later now ⊎ IsBegun bytes written later journal
IsEndOfBytes bytes written faults later now journal TooLong = ⊥
