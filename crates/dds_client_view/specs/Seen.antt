-- A script beside what it printed, and the calls that somebody who only uses the table reads there.
use Rattle.std.specs.Prelude.{◌≡◌, map, take, not, ℕ, Bool, true, false, ◌&&◌, ◌==◌, List, [], ◌∷◌, ◌++◌, Option, Some, None, filter, length, if◌then◌else◌}
use Rattle.std.specs.List.{flat_map, list_any}
use Rattle.dds_base.specs.declared.number.CallNo.{CallNo}
use Rattle.dds_base.specs.declared.op.Op.{Op}
use Rattle.dds_base.specs.declared.op.Reply.{Reply}
use Rattle.dds_script.specs.declared.line.Line.{Line}
use Rattle.dds_script.specs.declared.line.Line.TheVariants as line
use Rattle.dds_transcript.specs.declared.report_line.ReportLine.{ReportLine}
use Rattle.dds_transcript.specs.declared.report_line.ReportLine.TheVariants as report

-- a line of the script, with the lines of the transcript that it printed
pub record SeenLine : Type 0 where
  pub line : Line
  pub printed : List ReportLine

-- all that these lines printed
abbrev pub printed_by : List SeenLine → List ReportLine
printed_by seen = flat_map (λ s. s.printed) seen

-- a line of those that end a transcript: no line of the script prints it
abbrev pub is_last : ReportLine → Bool
is_last (report.OpenCall caller call) = true
is_last (report.OpenOrder kind brick) = true
is_last (report.History entries) = true
is_last (report.Count what number) = true
is_last report.End = true
is_last other = false

-- a transcript without its last lines
abbrev pub body : List ReportLine → List ReportLine
body lines = filter (λ l. not (is_last l)) lines

-- each line of the script with what it printed, where this is the transcript of any lines: the transcript of so many of the
-- lines, its last lines aside, is what these lines printed. So what a line printed is what the transcript up to it has more than
-- the one up to the line before.
pub record IsSeen (prints : List Line → List ReportLine) (lines : List Line) (seen : List SeenLine) : Type 0 where
  pub same : map (λ s. s.line) seen ≡ lines
  pub printed : (n : ℕ) → body (prints (take n lines)) ≡ printed_by (take n seen)

-- the line is one of the caller's call lines
abbrev pub is_line_of : ℕ → Line → Bool
is_line_of caller (line.Call c op) = c == caller
is_line_of caller other = false

-- how many call lines of the caller these lines are. A caller's calls are numbered by it, from 0: a call's number is how many
-- call lines of its caller stand before its own, and those that were busy count
abbrev pub lines_of : ℕ → List SeenLine → ℕ
lines_of caller seen = length (filter (λ s. is_line_of caller s.line) seen)

-- a line says that the caller was busy
abbrev pub is_busy : ReportLine → Bool
is_busy (report.Busy caller call) = true
is_busy other = false

-- a call: its caller, its number and its operation; whether its line printed that the caller was busy; and all that was
-- printed before its line stood
pub record SeenCall : Type 0 where
  pub caller : ℕ
  pub call : CallNo
  pub op : Op
  pub busy : Bool
  pub before : List ReportLine

-- the call of a line that stands behind others, if it is a call line
abbrev pub call_of : List SeenLine → List ReportLine → Line → List SeenCall
call_of before printed (line.Call caller op) =
    record {
      caller = caller;
      call = record { 0 = lines_of caller before };
      op = op;
      busy = list_any is_busy printed;
      before = printed_by before;
    } ∷ []
call_of before printed other = []

-- the calls of lines that stand behind others
abbrev pub calls_behind : List SeenLine → List SeenLine → List SeenCall
calls_behind before [] = []
calls_behind before (s ∷ seen) = call_of before s.printed s.line ++ calls_behind (before ++ s ∷ []) seen

-- all calls, in the order of their lines
abbrev pub calls_in : List SeenLine → List SeenCall
calls_in seen = calls_behind [] seen

-- an answer: whose call it is of, the call's number, and the reply
pub record SeenAnswer : Type 0 where
  pub caller : ℕ
  pub call : CallNo
  pub reply : Reply

-- the answer that a line of the transcript says, if it says one
abbrev pub answer_on : ReportLine → List SeenAnswer
answer_on (report.Answer caller call reply) = record { caller = caller; call = call; reply = reply } ∷ []
answer_on other = []

abbrev pub answers_in : List ReportLine → List SeenAnswer
answers_in lines = flat_map answer_on lines

-- the first of the answers to a caller's call of this number, if there is one
abbrev pub first_answer : List SeenAnswer → ℕ → CallNo → Option Reply
first_answer [] caller call = None
first_answer (r ∷ rs) caller call = if r.caller == caller && r.call.0 == call.0 then Some r.reply else first_answer rs caller call

-- what a call was answered in these lines of the transcript
abbrev pub answer_in : List ReportLine → SeenCall → Option Reply
answer_in lines c = first_answer (answers_in lines) c.caller c.call

-- the answer is to this call, whose caller wasn't busy
abbrev pub is_answer_to : SeenAnswer → SeenCall → Bool
is_answer_to r c = not c.busy && (c.caller == r.caller && c.call.0 == r.call.0)
