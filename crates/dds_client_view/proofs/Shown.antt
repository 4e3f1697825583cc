-- The lines of a script with what they printed, and its lines `quiet`.
use Rattle.std.proofs.Common.{◌≡◌, ℕ, ◌+◌, ◌≤◌, true, List, [], ◌∷◌, ◌++◌, Option, Some, None, zero, suc, refl}
use Rattle.std.proofs.Common.{sym, ap, subst, ◌∙◌, append_assoc, length}
use Rattle.std.specs.Prelude.{drop, map, not, replicate, slice_get, slice_index_or, take}
use Rattle.std.specs.List.{AllByRecursion, list_any}
use Rattle.std.proofs.lemmas.List.{append-nil, length-replicate}
use Rattle.std.proofs.lemmas.List.Elements.{filter-append}
use Rattle.dds_base.specs.declared.number.CallNo.{CallNo}
use Rattle.dds_client_view.proofs.Client.{answers-fit, client-sees}
use Rattle.dds_client_view.proofs.Lines.{all-told, walk-ended, seen_between, shows-lines}
use Rattle.dds_client_view.proofs.Over.{are-over}
use Rattle.dds_client_view.proofs.Sees.{have-ops}
use Rattle.dds_client_view.proofs.Order.{IsInOrder, run-in-order}
use Rattle.dds_client_view.proofs.Shows.{Shows}
use Rattle.dds_client_view.proofs.Quiet.{AreStopped, calls-over, lines-stop, range-seen, replies-silent, seen-at}
use Rattle.dds_client_view.specs.Law.{AnswersWhereQuiet, IsShown, QuietLinesAreAnswered, prints, printed_at, steps_to}
use Rattle.dds_client_view.specs.Quiet.{IsOpenAtStopped, QuietMeansAnswered, is_quiet}
use Rattle.dds_client_view.specs.Seen.{body, is_last}
use Rattle.dds_client_view.proofs.Printed.{seen_from}
use Rattle.dds_client_view.specs.Seen.{SeenLine, calls_in, printed_by}
use Rattle.dds_cluster.specs.Trace.{run_of}
use Rattle.dds_cluster.specs.declared.step.TheConstants.{EVENTS}
use Rattle.dds_cluster.specs.declared.trace.Caller.{Caller}
use Rattle.dds_cluster.specs.declared.trace.Trace.{Trace}
use Rattle.dds_script.specs.Opening.{IsOpening, IsScript, OpeningOf, ScriptOf, ranges_of}
use Rattle.dds_script.specs.Ranges.{IsInRanges}
use Rattle.dds_script.specs.declared.line.Line.{Line}
use Rattle.dds_script.specs.declared.line.Line.TheVariants as line
use Rattle.dds_transcript.specs.declared.report_line.OrderKind.{OrderKind}
use Rattle.dds_transcript.specs.declared.report_line.ReportLine.{ReportLine}
use Rattle.dds_transcript.specs.declared.report_line.ReportLine.TheVariants as report
use Rattle.dds_walk.proofs.AlongLines.{lines-alone}
use Rattle.dds_walk.proofs.Quiet.{quiet-world}
use Rattle.dds_walk.proofs.Stops.{stops-said}
use Rattle.dds_walk.proofs.Walked.{IsWalked, steps-run, walked-first, walked-line}
use Rattle.dds_walk.specs.Walk.{ended, first_walk, last_lines, line_done, lines_done, open_call_of, open_calls, open_order_of, open_orders, steps}
use Rattle.dds_walk.specs.declared.walk.Walk.{Walk}
use Rattle.dds_world.specs.Places.{reached}
use Rattle.dds_world.specs.Quiet.{Quiet, QuietAnswers}
use Rattle.dds_world.specs.Stands.{Stands, history}

-- nothing was printed yet
no-count : (n i : ℕ) → ◌≡◌ {A = ℕ} (slice_index_or (replicate n 0) i 0) 0
no-count zero i = refl
no-count (suc n) zero = refl
no-count (suc n) (suc i) = no-count n i

shows-first : (script : ScriptOf) → Shows [] (first_walk script None)
shows-first script =
    record {
      printed = refl;
      answers = refl;
      places = tt;
      counts = λ caller small. no-count script.opening.callers caller;
      below = tt;
      old = tt;
      apart = tt;
      plain = refl;
      made = tt;
      busy = tt;
      fresh = tt;
      waits = tt;
    }

walked-all : (o : OpeningOf) (limit : ℕ) (w : Walk) (ls : List Line) → o.bricks ≤ 64 → AllByRecursion (IsInRanges (ranges_of o)) ls → IsWalked o w
    → IsWalked o (lines_done limit w ls)
walked-all o limit w [] few h g = g
walked-all o limit w (l ∷ ls) few h g = walked-all o limit (line_done limit w l) ls few h.1 (walked-line o limit w l few h.0 g)

shows-all : (limit : ℕ) (script : ScriptOf) → IsOpening script.opening → AllByRecursion (IsInRanges (ranges_of script.opening)) script.lines
    → Shows (seen_from limit (first_walk script None) script.lines) (lines_done limit (first_walk script None) script.lines)
shows-all limit script opening h =
    shows-lines script.opening limit [] (first_walk script None) script.lines opening h (walked-first script) (length-replicate script.opening.callers 0)
    (shows-first script)

-- the script's lines and beginnings of them
same-lines : (limit : ℕ) (w : Walk) (ls : List Line) → map (λ (s : SeenLine). s.line) (seen_from limit w ls) ≡ ls
same-lines limit w [] = refl
same-lines limit w (l ∷ ls) = ap (λ (x : List Line). l ∷ x) (same-lines limit (line_done limit w l) ls)

seen-take : (limit : ℕ) (w : Walk) (n : ℕ) (ls : List Line) → seen_from limit w (take n ls) ≡ take n (seen_from limit w ls)
seen-take limit w zero ls = refl
seen-take limit w (suc n) [] = refl
seen-take limit w (suc n) (l ∷ ls) = ap (λ (x : List SeenLine). seen_between l w (line_done limit w l) ∷ x) (seen-take limit (line_done limit w l) n ls)

all-take : {X : Type 0} (P : X → Type 0) (n : ℕ) (xs : List X) → AllByRecursion P xs → AllByRecursion P (take n xs)
all-take P zero xs h = tt
all-take P (suc n) [] h = tt
all-take P (suc n) (x ∷ xs) h = (h.0, all-take P n xs h.1)

-- the last lines of a transcript
last-call : (n : ℕ) (call : Option CallNo) (ls : List ReportLine) → body (open_call_of n call ++ ls) ≡ body ls
last-call n None ls = refl
last-call n (Some call) ls = refl

last-calls : (n : ℕ) (cs : List Caller) (ls : List ReportLine) → body (open_calls n cs ++ ls) ≡ body ls
last-calls n [] ls = refl
last-calls n (c ∷ cs) ls =
    ap body (append_assoc (open_call_of n c.call) (open_calls (n + 1) cs) ls) ∙ last-call n c.call (open_calls (n + 1) cs ++ ls) ∙ last-calls (n + 1) cs ls

last-order : (n : ℕ) (o : Option OrderKind) (ls : List ReportLine) → body (open_order_of n o ++ ls) ≡ body ls
last-order n None ls = refl
last-order n (Some o) ls = refl

last-orders : (n : ℕ) (os : List (Option OrderKind)) (ls : List ReportLine) → body (open_orders n os ++ ls) ≡ body ls
last-orders n [] ls = refl
last-orders n (o ∷ os) ls =
    ap body (append_assoc (open_order_of n o) (open_orders (n + 1) os) ls) ∙ last-order n o (open_orders (n + 1) os ++ ls) ∙ last-orders (n + 1) os ls

no-last : (w : Walk) → body (last_lines w) ≡ []
no-last w =
    let end : List ReportLine = report.History (length (history w.trace)) ∷ report.End ∷ [] in
    last-calls 0 w.trace.callers (open_orders 0 w.orders ++ end) ∙ last-orders 0 w.orders end

body-ended : (w : Walk) → body w.lines ≡ w.lines → body (ended w) ≡ w.lines
body-ended w plain =
    filter-append (λ l. not (is_last l)) w.lines (last_lines w)
    ∙ ap (λ (l : List ReportLine). l ++ body (last_lines w)) plain
    ∙ ap (λ (l : List ReportLine). w.lines ++ l) (no-last w)
    ∙ append-nil w.lines

-- what lines print
body-printed : (script : ScriptOf) → IsOpening script.opening → AllByRecursion (IsInRanges (ranges_of script.opening)) script.lines
    → body (prints script.opening script.lines) ≡ printed_by (seen_from EVENTS (first_walk script None) script.lines)
body-printed script opening h =
    let v = lines_done EVENTS (first_walk script None) script.lines in
    let shows = shows-all EVENTS script opening h in
    ap body (sym (lines-alone EVENTS script opening.ranges h)) ∙ body-ended v shows.plain ∙ sym shows.printed

-- so many of a script's lines, and the walk behind them
abbrev first_lines : ScriptOf → ℕ → ScriptOf
first_lines script n = record { opening = script.opening; lines = take n script.lines }

abbrev walk_to : ScriptOf → ℕ → Walk
walk_to script n = lines_done EVENTS (first_walk script None) (take n script.lines)

walked-to : (script : ScriptOf) (n : ℕ) → IsOpening script.opening → AllByRecursion (IsInRanges (ranges_of script.opening)) script.lines
    → IsWalked script.opening (walk_to script n)
walked-to script n opening h =
    let o = script.opening in
    walked-all o EVENTS (first_walk script None) (take n script.lines) opening.ranges.bricks (all-take (IsInRanges (ranges_of o)) n script.lines h)
    (walked-first script)

-- behind a line `quiet` that printed so nothing is on its way
quiet-at : (script : ScriptOf) (n : ℕ) → IsOpening script.opening → AllByRecursion (IsInRanges (ranges_of script.opening)) script.lines
    → slice_get script.lines n ≡ Some line.Quiet → list_any is_quiet (drop (length (walk_to script n).lines) (walk_to script (n + 1)).lines) ≡ true
    → Quiet (reached script.opening (steps_to script (n + 1)))
quiet-at script n opening h at printed =
    subst (λ (t : Trace). Quiet t.world) (walked-to script (n + 1) opening h).trace
    (quiet-world EVENTS is_quiet script n replies-silent refl at printed)

-- and each call above it that is still open is of a library that a line stopped
quiet-answered : (script : ScriptOf) → IsOpening script.opening → AllByRecursion (IsInRanges (ranges_of script.opening)) script.lines
    → AnswersWhereQuiet script → QuietMeansAnswered script.opening (seen_from EVENTS (first_walk script None) script.lines)
quiet-answered script opening h answers = record {
  answered = λ n s at quiet.
      let o = script.opening in
      let first = first_walk script None in
      let some = first_lines script (n + 1) in
      let ls = take (n + 1) script.lines in
      let seen = seen_from EVENTS first ls in
      let here = seen-at EVENTS first script.lines n s at in
      let ranges = all-take (IsInRanges (ranges_of o)) (n + 1) script.lines h in
      let walked = walked-to script (n + 1) opening h in
      let still = quiet-at script n opening h (here.0 ∙ ap Some quiet.line)
      (subst (λ (l : List ReportLine). list_any is_quiet l ≡ true) here.1 quiet.printed) in
      let stops = stops-said (AreStopped seen) EVENTS some (lines-stop seen ls (same-lines EVENTS first ls)) in
      subst (λ (x : List SeenLine). AllByRecursion (IsOpenAtStopped o x) (calls_in x)) (seen-take EVENTS first (n + 1) script.lines)
      (calls-over o seen (walk_to script (n + 1)) opening walked.run walked.trace stops (range-seen o EVENTS first ls ranges)
      (shows-all EVENTS some opening ranges) (answers (n + 1) still));
}

-- of a script whose run stands
pub is-shown : (script : ScriptOf) → IsOpening script.opening → IsScript script → Stands (run_of script.opening (steps script)) → AnswersWhereQuiet script
    → IsShown script
is-shown script opening h stands answers =
    let o = script.opening in
    let r = opening.ranges in
    let first = first_walk script None in
    let v = lines_done EVENTS first script.lines in
    let seen = seen_from EVENTS first script.lines in
    let walked = walked-all o EVENTS first script.lines r.bricks h.lines (walked-first script) in
    let in_order : IsInOrder v.trace = subst IsInOrder (sym walked.trace) (run-in-order o v.steps) in
    let ended = walk-ended o v opening walked in
    let shows = shows-all EVENTS script opening h.lines in
    let stand : Stands v.trace = subst Stands (sym walked.trace) stands in
    record {
      seen = seen;
      is_seen = record {
        same = same-lines EVENTS first script.lines;
        printed = λ n.
            body-printed (record { opening = o; lines = take n script.lines }) opening (all-take (IsInRanges (ranges_of o)) n script.lines h.lines)
            ∙ ap printed_by (seen-take EVENTS first n script.lines);
      };
      sees = client-sees seen v shows in_order stand (are-over v.trace ended stand.entries_are_calls (have-ops v.trace.asked shows.apart));
      fits = answers-fit seen v shows (all-told v ended) ended.apart;
      quiet = quiet-answered script opening h.lines answers;
    }

-- what a script's lines `quiet` come to
body-lines : (script : ScriptOf) → IsOpening script.opening → AllByRecursion (IsInRanges (ranges_of script.opening)) script.lines
    → body (prints script.opening script.lines) ≡ (lines_done EVENTS (first_walk script None) script.lines).lines
body-lines script opening h = body-printed script opening h ∙ (shows-all EVENTS script opening h).printed

pub quiet-lines : QuietLinesAreAnswered
quiet-lines script opening h answers = λ n at.
    let o = script.opening in
    let lines_to = λ (k : ℕ). body-lines (first_lines script k) opening (all-take (IsInRanges (ranges_of o)) k script.lines h.lines) in
    let printed : printed_at script n ≡ drop (length (walk_to script n).lines) (walk_to script (n + 1)).lines =
    ap (λ (l : List ReportLine). drop (length l) (body (prints o (take (n + 1) script.lines)))) (lines_to n)
    ∙ ap (drop (length (walk_to script n).lines)) (lines_to (n + 1)) in
    let still = quiet-at script n opening h.lines at.line (subst (λ (l : List ReportLine). list_any is_quiet l ≡ true) printed at.printed) in
    record { quiet = still; answered = answers (n + 1) still }

-- where each quiet world of a run is answered, those of a script are
pub where-quiet : QuietAnswers → (script : ScriptOf) → IsOpening script.opening → IsScript script → AnswersWhereQuiet script
where-quiet quiet script opening h = λ n.
    quiet script.opening (steps_to script n) opening
    (steps-run EVENTS (first_lines script n) opening.ranges (all-take (IsInRanges (ranges_of script.opening)) n script.lines h.lines))
