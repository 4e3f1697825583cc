-- What `dds step` promises at each of its ends.
use Rattle.std.specs.Prelude.{ℕ, ◌≡◌, ◌≤◌, ◌⊎◌, true, String, List, [], Some, length}
use Rattle.dds_base.specs.Outside.{Added, AddedPart, Rose, TookPast, TookWithin, line_ends}
use Rattle.dds_script.specs.Grammar.{Accepts, IsFirstFault}
use Rattle.dds_script.specs.Opening.{ScriptOf as Script}
use Rattle.dds_transcript.specs.Text.{report_text}
use Rattle.dds_client_view.specs.Law.{IsShown, QuietLinesAnswer}
use Rattle.dds_cluster.specs.Trace.{is_run, run_of}
use Rattle.dds_world.specs.Stands.{Stands}
use Rattle.dds_cluster.specs.declared.step.Step.{Step}
use Rattle.dds_law_commit.specs.Law.{AreCaused}
use Rattle.dds_walk.specs.Walk.{steps, transcript}
use Rattle.dds_ends.specs.End.{IsStepCommand, Outside, IsUnread, IsUnwritten, IsReadWhole}
use Rattle.dds_ends.specs.declared.end.End.{End}
use Rattle.dds_ends.specs.declared.end.End.TheVariants.{Finished, Usage, TooLong, ReadFault, Script as ScriptEnd, WriteFault, Memory}
use Rattle.dds_ends.specs.declared.command.TheConstants.{BYTES, LINES}

-- the journal is the one that the script determines, and a run; each Again, Full and Lost has its cause in it; its calls stand in one legal
-- history of one map; what the script's lines printed shows one, to somebody who knows nothing of the cluster; and behind each line `quiet`
-- that isn't loud nothing is on its way, and everybody is answered whose library lives
pub record IsRunOf (script : Script) (journal : List Step) : Type 0 where
  pub follows : journal ≡ steps script
  pub run : is_run script.opening journal ≡ true
  pub caused : AreCaused script.opening journal
  pub stands : Stands (run_of script.opening journal)
  pub shown : IsShown script
  pub quiet : QuietLinesAnswer script

-- the script is what the bytes spell, and the journal is its run
pub record IsScriptRun (bytes : List ℕ) (script : Script) (journal : List Step) : Type 0 where
  pub accepted : Accepts bytes script
  pub ran : IsRunOf script journal

-- a script was read and run, and its transcript written, nothing else
pub record IsFinished (before after : Outside) (journal : List Step) : Type 0 where
  pub bytes : List ℕ
  pub script : Script
  pub read : IsReadWhole bytes before after
  pub ran : IsScriptRun bytes script journal
  pub written : Added before.written (report_text (transcript script journal)) after.written

-- a script was read and run, and a beginning of its transcript written
pub record IsCutShort (before after : Outside) (journal : List Step) : Type 0 where
  pub bytes : List ℕ
  pub script : Script
  pub read : IsReadWhole bytes before after
  pub ran : IsScriptRun bytes script journal
  pub written : AddedPart before.written (report_text (transcript script journal)) after.written

-- the source was read to its end, and this is the first line that isn't accepted
pub record IsRefusedScript (bytes : List ℕ) (before after : Outside) (journal : List Step) : Type 0 where
  pub read : IsReadWhole bytes before after
  pub unwritten : IsUnwritten before after
  pub no_step : journal ≡ []

-- what holds at each end of `dds step`
abbrev pub IsEndOf : {A : Type 0} → List (String A) → Outside → Outside → List Step → End → Type 0
IsEndOf words before after journal Finished = IsStepCommand words × IsFinished before after journal
IsEndOf words before after journal Usage = ¬ IsStepCommand words × IsUnread before after × IsUnwritten before after × (journal ≡ [])
IsEndOf words before after journal (ScriptEnd fault) =
    IsStepCommand words × ((bytes : List ℕ) × IsRefusedScript bytes before after journal × IsFirstFault bytes fault)
IsEndOf words before after journal ReadFault =
    IsStepCommand words × Rose before.source_faults after.source_faults × TookWithin before.left BYTES LINES after.left
    × IsUnwritten before after × (journal ≡ [])
IsEndOf words before after journal WriteFault =
    IsStepCommand words × Rose before.sink_faults after.sink_faults × IsCutShort before after journal
IsEndOf words before after journal Memory =
    IsStepCommand words × (IsUnwritten before after ⊎ IsCutShort before after journal)
IsEndOf words before after journal TooLong =
    IsStepCommand words × TookPast before.left BYTES LINES after.left × IsUnwritten before after × (journal ≡ [])

-- the command is to run what its source tells, which is a script within the limits, and neither source nor sink has a fault
pub record IsGivenScript {A : Type 0} (words : List (String A)) (before after : Outside) : Type 0 where
  pub command : IsStepCommand words
  pub bytes : List ℕ
  pub script : Script
  pub told : before.left ≡ Some bytes
  pub accepted : Accepts bytes script
  pub short : length bytes ≤ BYTES
  pub few : line_ends bytes ≤ LINES
  pub read : Rose before.source_faults after.source_faults → ⊥
  pub wrote : Rose before.sink_faults after.sink_faults → ⊥

-- then it is run to its end, unless memory is missing
abbrev pub IsRunWhole : {A : Type 0} → List (String A) → Outside → Outside → End → Type 0
IsRunWhole words before after end = IsGivenScript words before after → (end ≡ Finished) ⊎ (end ≡ Memory)
