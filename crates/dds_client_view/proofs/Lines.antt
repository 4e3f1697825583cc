-- What all lines of a script show of the run that they make.
use Rattle.std.proofs.Common.{◌≡◌, ℕ, ◌+◌, ◌<◌, ◌≤◌, Bool, true, false, List, [], ◌∷◌, ◌++◌, Option, Some, None, refl}
use Rattle.std.proofs.Common.{sym, ap, subst, ◌∙◌, arith, append_assoc, length}
use Rattle.std.specs.Prelude.{drop, is_some, slice_get, slice_index_or, if◌then◌else◌}
use Rattle.std.specs.List.{AllByRecursion}
use Rattle.std.proofs.lemmas.List.{append-nil, length-set}
use Rattle.std.proofs.Math.Seq.{drop-append_seam}
use Rattle.dds_base.specs.declared.number.CallNo.{CallNo}
use Rattle.dds_base.specs.declared.number.CallerNo.{CallerNo}
use Rattle.dds_base.specs.declared.op.Op.{Op}
use Rattle.dds_client_view.proofs.Prints.{IsAside, Prints, prints-line, prints-played}
use Rattle.dds_client_view.proofs.CallLines.{IsWaiting, shows-busy, shows-made}
use Rattle.dds_client_view.proofs.Ended.{run-ended}
use Rattle.dds_client_view.proofs.Ends.{AreEnded, Ends}
use Rattle.dds_core.proofs.Lists.{all-map}
use Rattle.dds_net.specs.Event.{history_of}
use Rattle.dds_client_view.proofs.Shows.{IsAsked, Shows, shows-aside}
use Rattle.dds_client_view.proofs.Printed.{seen_from}
use Rattle.dds_client_view.specs.Seen.{SeenLine}
use Rattle.dds_cluster.specs.Trace.{adds, is_possible, may_call, next}
use Rattle.dds_cluster.specs.Turn.{turn}
use Rattle.dds_cluster.specs.declared.step.Input.TheVariants as input
use Rattle.dds_cluster.specs.declared.step.Step.{Step}
use Rattle.dds_cluster.specs.declared.step.Step.TheVariants as step
use Rattle.dds_cluster.specs.declared.trace.Asked.{Asked}
use Rattle.dds_cluster.specs.declared.trace.Caller.{Caller}
use Rattle.dds_cluster.specs.declared.trace.Trace.{Trace}
use Rattle.dds_script.specs.Opening.{IsOpening, OpeningOf, ranges_of}
use Rattle.dds_script.specs.Ranges.{IsInRanges}
use Rattle.dds_script.specs.declared.line.Line.{Line}
use Rattle.dds_script.specs.declared.line.Line.TheVariants as line
use Rattle.dds_transcript.specs.declared.report_line.ReportLine.{ReportLine}
use Rattle.dds_transcript.specs.declared.report_line.ReportLine.TheVariants as report
use Rattle.dds_walk.proofs.Counted.{counted-get}
use Rattle.dds_walk.proofs.Walked.{IsWalked, call-possible, walked-line}
use Rattle.dds_walk.specs.Walk.{call_alone, call_with, counted, line_done, lines_done, played, says}
use Rattle.dds_walk.specs.declared.walk.Walk.{Walk}
use Rattle.dds_walk.proofs.AlongLines.{caller-there}

-- a line with what it printed between two walks
abbrev pub seen_between : Line → Walk → Walk → SeenLine
seen_between l w v = record { line = l; printed = drop (length w.lines) v.lines }

printed-is : (w v : Walk) (more : List ReportLine) → v.lines ≡ w.lines ++ more → drop (length w.lines) v.lines ≡ more
printed-is w v more e = ap (drop (length w.lines)) e ∙ drop-append_seam w.lines more

-- the number of a caller's next call, and the walk behind its line
abbrev next_call : Walk → CallerNo → CallNo
next_call w caller = record { 0 = slice_index_or w.counts caller 0 }

abbrev called : Walk → CallerNo → Op → Caller → Bool → Walk
called w caller op c busy =
    if busy then says (counted w caller) (report.Busy caller (next_call w caller))
    else played (counted w caller) (step.Input c.library (input.Call caller (next_call w caller) op))

asked-one : (t : Trace) (s : Step) (asks : List Asked) → is_possible t s ≡ true → (adds t s (turn t.steps t.world s)).asked ≡ t.asked ++ asks
    → (next t s).asked ≡ t.asked ++ asks
asked-one t s asks p e =
    ap (λ (b : Bool). (if b then adds t s (turn t.steps t.world s) else record t { steps = t.steps + 1 }).asked) p ∙ e

-- what is so of the answers so far
abbrev pub IsEnded : Walk → Type 0
IsEnded w = AreEnded (history_of w.trace)

pub walk-ended : (o : OpeningOf) (w : Walk) → IsOpening o → IsWalked o w → IsEnded w
walk-ended o w opening g = subst (λ (t : Trace). AreEnded (history_of t)) (sym g.trace) (run-ended o w.steps opening g.run)

-- each is to a call that was asked
pub all-told : (w : Walk) → IsEnded w → AllByRecursion (IsAsked w.trace.asked) w.trace.told
all-told w ended =
    let t = w.trace in
    all-map (Ends t.callers t.asked t.made) (IsAsked t.asked) t.told (λ r k. k.was_asked) ended.ends

-- a caller whose call is open waits for its answer
waiting : (w : Walk) (caller : CallerNo) (c : Caller) (o : Option CallNo) → slice_get w.trace.callers caller ≡ Some c → c.call ≡ o → is_some o ≡ true
    → IsEnded w
    → IsWaiting w caller
waiting w caller c None e f is ended = absurd (cc)
waiting w caller c (Some x) e f is ended =
    let t = w.trace in
    record {
      call = x;
      asked = ended.open_calls caller c x e f;
      none = all-map (Ends t.callers t.asked t.made) (λ r. r.caller ≡ caller → r.call ≡ x → ⊥) t.told
          (λ r k same number.
          let who : c ≡ k.shut.who =
          (let two : Some c ≡ Some k.shut.who = sym e ∙ ap (slice_get t.callers) (sym same) ∙ k.shut.there in cc) in
          k.shut.shut (ap (λ (y : Caller). y.call) (sym who) ∙ f ∙ ap Some (sym number))) ended.ends;
    }

-- what is so behind a line
abbrev IsNext : List SeenLine → Line → Walk → Walk → Type 0
IsNext before l w v = Shows (before ++ seen_between l w v ∷ []) v × (length v.counts ≡ length w.counts)

shows-called : (o : OpeningOf) (before : List SeenLine) (w : Walk) (caller : CallerNo) (op : Op) (c : Caller) (busy : Bool)
    → IsWalked o w → slice_get w.trace.callers caller ≡ Some c → is_some c.call ≡ busy → caller < length w.counts → IsEnded w → Shows before w
    → IsNext before (line.Call caller op) w (called w caller op c busy)
shows-called o before w caller op c true g e is there ended h =
    let v = called w caller op c true in
    let call = next_call w caller in (
      shows-busy before w v (seen_between (line.Call caller op) w v) caller call op refl (printed-is w v (report.Busy caller call ∷ []) refl) refl there
          (all-told w ended)
          (waiting w caller c c.call e refl is ended) h,
      length-set w.counts caller _,
    )
shows-called o before w caller op c false g e is there ended h =
    let v = called w caller op c false in
    let call = next_call w caller in
    let u = counted w caller in
    let s : Step = step.Input c.library (input.Call caller call op) in
    let a : Asked = record { place = w.trace.steps; caller = caller; call = call; op = op } in
    let low : c.least ≤ slice_index_or w.counts caller 0 = counted-get w.trace.callers w.counts caller c g.counted e in
    let possible : is_possible w.trace s ≡ true = ap (λ x. may_call x c.library call) e ∙ call-possible c call is low in
    let p = prints-played (a ∷ []) u s g.rest (asked-one w.trace s (a ∷ []) possible refl) in (
      shows-made before w v (seen_between (line.Call caller op) w v) caller call op a p refl (printed-is w v p.more p.lines) refl
          (h.counts caller there) there (all-told w ended) h,
      ap length p.counts ∙ length-set w.counts caller _,
    )

shows-there : (o : OpeningOf) (before : List SeenLine) (w : Walk) (caller : CallerNo) (op : Op) (c : Option Caller)
    → IsWalked o w → slice_get w.trace.callers caller ≡ c → caller < length w.counts → IsEnded w → Shows before w
    → IsNext before (line.Call caller op) w (call_alone (counted w caller) caller (next_call w caller) op c)
shows-there o before w caller op None g e there ended h = absurd (caller-there w.trace.callers w.counts caller g.counted there e)
shows-there o before w caller op (Some c) g e there ended h = shows-called o before w caller op c (is_some c.call) g e refl there ended h

shows-call : (o : OpeningOf) (limit : ℕ) (before : List SeenLine) (w : Walk) (caller : CallerNo) (op : Op)
    → IsWalked o w → caller < length w.counts → IsEnded w → Shows before w → IsNext before (line.Call caller op) w (line_done limit w (line.Call caller op))
shows-call o limit before w caller op g there ended h =
    subst (λ (r : Option (List Step)). IsNext before (line.Call caller op) w (call_with (counted w caller) caller (next_call w caller) op r)) (sym g.rest)
    (shows-there o before w caller op (slice_get w.trace.callers caller) g refl there ended h)

shows-other : (before : List SeenLine) (l : Line) (w v : Walk) → Prints [] w v → IsAside l → Shows before w → IsNext before l w v
shows-other before l w v p aside h =
    (shows-aside before w v (seen_between l w v) p (printed-is w v p.more p.lines) aside h, ap length p.counts)

shows-line : (o : OpeningOf) (limit : ℕ) (before : List SeenLine) (w : Walk) (l : Line) → IsInRanges (ranges_of o) l → IsWalked o w
    → length w.counts ≡ o.callers → IsEnded w → Shows before w → IsNext before l w (line_done limit w l)
shows-line o limit before w (line.Call caller op) r g size ended h = shows-call o limit before w caller op g (omega (arith, r.0, size)) ended h
shows-line o limit before w other r g size ended h = shows-other before other w (line_done limit w other) (prints-line limit w other tt g.rest) tt h

-- all lines
pub shows-lines : (o : OpeningOf) (limit : ℕ) (before : List SeenLine) (w : Walk) (ls : List Line)
    → IsOpening o → AllByRecursion (IsInRanges (ranges_of o)) ls → IsWalked o w → length w.counts ≡ o.callers → Shows before w
    → Shows (before ++ seen_from limit w ls) (lines_done limit w ls)
shows-lines o limit before w [] opening r g size h = subst (λ (l : List SeenLine). Shows l w) (sym (append-nil before)) h
shows-lines o limit before w (l ∷ ls) opening r g size h =
    let v = line_done limit w l in
    let s = seen_between l w v in
    let n = shows-line o limit before w l r.0 g size (walk-ended o w opening g) h in
    subst (λ (x : List SeenLine). Shows x (lines_done limit v ls)) (append_assoc before (s ∷ []) (seen_from limit v ls))
    (shows-lines o limit (before ++ s ∷ []) v ls opening r.1 (walked-line o limit w l opening.ranges.bricks r.0 g) (n.1 ∙ size) n.0)
