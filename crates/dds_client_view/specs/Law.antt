-- The laws: what a run that stands shows to its clients, and what its lines `quiet` come to.
use Rattle.std.specs.Prelude.{ℕ, ◌+◌, ◌≡◌, true, List, Some, drop, length, slice_get, take}
use Rattle.std.specs.List.{list_any}
use Rattle.dds_script.specs.Opening.{IsOpening, IsScript, OpeningOf, ScriptOf}
use Rattle.dds_script.specs.declared.line.Line.{Line}
use Rattle.dds_script.specs.declared.line.Line.TheVariants as line
use Rattle.dds_transcript.specs.declared.report_line.ReportLine.{ReportLine}
use Rattle.dds_client_view.specs.Client.{AnswersFit, ClientSees}
use Rattle.dds_client_view.specs.Quiet.{QuietMeansAnswered, is_quiet}
use Rattle.dds_client_view.specs.Seen.{IsSeen, SeenLine, body}
use Rattle.dds_cluster.specs.Trace.{run_of}
use Rattle.dds_cluster.specs.declared.step.Step.{Step}
use Rattle.dds_walk.specs.Walk.{steps, transcript}
use Rattle.dds_world.specs.Places.{reached}
use Rattle.dds_world.specs.Quiet.{AllAnswered, Quiet}
use Rattle.dds_world.specs.Stands.{Stands}

-- the transcript of lines behind an opening
abbrev pub prints : OpeningOf → List Line → List ReportLine
prints o lines = let script : ScriptOf = record { opening = o; lines = lines } in transcript script (steps script)

-- the lines of a script with what they printed show one history, and behind `quiet` the calls are answered
pub record IsShown (script : ScriptOf) : Type 0 where
  pub seen : List SeenLine
  pub is_seen : IsSeen (prints script.opening) script.lines seen
  pub sees : ClientSees seen
  pub fits : AnswersFit seen
  pub quiet : QuietMeansAnswered script.opening seen

-- the journal of a script's first lines
abbrev pub steps_to : ScriptOf → ℕ → List Step
steps_to script n = let first : ScriptOf = record { opening = script.opening; lines = take n script.lines } in steps first

-- where the first lines of a script come to a world in which nothing is on its way, everybody is answered
abbrev pub AnswersWhereQuiet : ScriptOf → Type 0
AnswersWhereQuiet script =
    (n : ℕ) → Quiet (reached script.opening (steps_to script n)) → AllAnswered (run_of script.opening (steps_to script n))

-- of each script whose run stands
abbrev pub ClientsSeeOneHistory : Type 0
ClientsSeeOneHistory =
    (script : ScriptOf) → IsOpening script.opening → IsScript script → Stands (run_of script.opening (steps script)) → AnswersWhereQuiet script
    → IsShown script

-- what a line printed: what the transcript up to it has more than the one up to the line before
abbrev pub printed_at : ScriptOf → ℕ → List ReportLine
printed_at script n =
    drop (length (body (prints script.opening (take n script.lines)))) (body (prints script.opening (take (n + 1) script.lines)))

-- a line `quiet` of a script that printed so, and not that it is loud
pub record IsQuietAt (script : ScriptOf) (n : ℕ) : Type 0 where
  pub line : slice_get script.lines n ≡ Some line.Quiet
  pub printed : list_any is_quiet (printed_at script n) ≡ true

-- behind so many lines nothing is on its way, and everybody is answered
pub record IsAnsweredAt (script : ScriptOf) (n : ℕ) : Type 0 where
  pub quiet : Quiet (reached script.opening (steps_to script n))
  pub answered : AllAnswered (run_of script.opening (steps_to script n))

-- so it is behind each such line
abbrev pub QuietLinesAnswer : ScriptOf → Type 0
QuietLinesAnswer script = (n : ℕ) → IsQuietAt script n → IsAnsweredAt script (n + 1)

abbrev pub QuietLinesAreAnswered : Type 0
QuietLinesAreAnswered = (script : ScriptOf) → IsOpening script.opening → IsScript script → AnswersWhereQuiet script → QuietLinesAnswer script
