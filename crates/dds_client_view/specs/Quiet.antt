-- What the lines `quiet` promise to somebody who only uses the table.
use Rattle.std.specs.Prelude.{ℕ, ◌+◌, ◌%◌, ◌≡◌, ◌==◌, Bool, true, false, List, Some, slice_get, take}
use Rattle.std.specs.List.{AllByRecursion, list_any}
use Rattle.dds_client_view.specs.Client.{Open, fate}
use Rattle.dds_client_view.specs.Seen.{SeenCall, SeenLine, calls_in}
use Rattle.dds_script.specs.Opening.{OpeningOf}
use Rattle.dds_script.specs.declared.line.Line.{Line}
use Rattle.dds_script.specs.declared.line.Line.TheVariants as line
use Rattle.dds_transcript.specs.declared.report_line.ReportLine.{ReportLine}
use Rattle.dds_transcript.specs.declared.report_line.ReportLine.TheVariants as report

-- the line of the transcript says that no event is possible any more
abbrev pub is_quiet : ReportLine → Bool
is_quiet (report.Quiet events) = true
is_quiet other = false

-- a line `quiet` of the script that printed so, and not that it is loud
pub record IsQuiet (s : SeenLine) : Type 0 where
  pub line : s.line ≡ line.Quiet
  pub printed : list_any is_quiet s.printed ≡ true

-- the library that takes a caller's calls: the callers come to the libraries, which are numbered from 64 on, in turn
abbrev pub library_of : OpeningOf → ℕ → ℕ
library_of o caller = 64 + caller % o.libraries

-- a line of the script stops this node
abbrev pub is_stop_of : ℕ → Line → Bool
is_stop_of node (line.Stop at) = at == node
is_stop_of node other = false

-- a call that is still open behind these lines is of a library that one of them stops
abbrev pub IsOpenAtStopped : OpeningOf → List SeenLine → SeenCall → Type 0
IsOpenAtStopped o seen c = fate seen c ≡ Open → list_any (λ s. is_stop_of (library_of o c.caller) s.line) seen ≡ true

-- behind each line that printed `quiet`, each call above it was answered, or its caller was busy, or its library is one that a line above
-- stops
pub record QuietMeansAnswered (o : OpeningOf) (seen : List SeenLine) : Type 0 where
  pub answered : (n : ℕ) (s : SeenLine) → slice_get seen n ≡ Some s → IsQuiet s
      → AllByRecursion (IsOpenAtStopped o (take (n + 1) seen)) (calls_in (take (n + 1) seen))
