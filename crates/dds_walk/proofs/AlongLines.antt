-- The lines of a script along the steps that a walk alone makes: both walks are the same.
use Rattle.std.proofs.Common.{◌≡◌, ℕ, ◌+◌, ◌<◌, ◌≤◌, ◌&&◌, ◌||◌, Bool, true, false, List, [], ◌∷◌, ◌++◌, Option, Some, None, length, zero}
use Rattle.std.proofs.Common.{suc, refl, sym, ap, subst, ◌∙◌, arith}
use Rattle.std.specs.Prelude.{◌==◌, is_some, slice_get, slice_index_or, slice_set, if◌then◌else◌}
use Rattle.std.specs.List.{AllByRecursion, list_any}
use Rattle.std.proofs.lemmas.Bool.Decides.{nat_tests}
use Rattle.std.proofs.lemmas.List.{append-nil, length-replicate, length-set}
use Rattle.dds_base.specs.declared.number.CallNo.{CallNo}
use Rattle.dds_base.specs.declared.number.CallerNo.{CallerNo}
use Rattle.dds_base.specs.declared.number.NodeNo.{NodeNo}
use Rattle.dds_base.specs.declared.op.Op.{Op}
use Rattle.dds_base.specs.declared.op.Order.TheVariants as order
use Rattle.dds_script.specs.Opening.{OpeningOf, ScriptOf, ranges_of}
use Rattle.dds_script.specs.Ranges.{IsInRanges, IsRanges}
use Rattle.dds_script.specs.declared.line.Line.{Line}
use Rattle.dds_script.specs.declared.line.Line.TheVariants as line
use Rattle.dds_transcript.specs.declared.report_line.ReportLine.{ReportLine}
use Rattle.dds_transcript.specs.declared.report_line.ReportLine.TheVariants as report
use Rattle.dds_walk.proofs.Along.{AreCalls, AreLater, Goes, GoesBy, IsLater, IsNoCall, IsNumbered, along, asked-next, goes-after, goes-nowhere, goes-then}
use Rattle.dds_walk.proofs.AlongSteps.{goes-moves, goes-tries, moved_along, self}
use Rattle.dds_walk.proofs.Counted.{AreCounted, counted-here}
use Rattle.dds_walk.proofs.Picked.{both-true}
use Rattle.dds_walk.proofs.Walked.{IsWalked, walked-first, walked-line}
use Rattle.dds_walk.specs.Picking.{begun}
use Rattle.dds_walk.specs.Walk.{Moved, call_alone, call_along, call_line, call_with, counted, ended, events_said, first_walk, has_event}
use Rattle.dds_walk.specs.Walk.{is_asked, line_done, lines_done, makes_call, moves, played, plays_rest, plays_to, quiet_said, says}
use Rattle.dds_walk.specs.Walk.{show_line, step_line, stop_line, transcript, tries}
use Rattle.dds_walk.specs.declared.walk.Walk.{Walk}
use Rattle.dds_cluster.specs.Trace.{is_possible}
use Rattle.dds_cluster.specs.declared.step.Input.TheVariants as input
use Rattle.dds_cluster.specs.declared.step.Step.{Step}
use Rattle.dds_cluster.specs.declared.step.Step.TheVariants as step
use Rattle.dds_cluster.specs.declared.trace.Asked.{Asked}
use Rattle.dds_cluster.specs.declared.trace.Caller.{Caller}

-- a call line more is counted: no count falls
grown : (ns : List ℕ) (i k : ℕ) → slice_index_or ns k 0 ≤ slice_index_or (slice_set ns i (slice_index_or ns i 0 + 1)) k 0
grown [] i k = omega arith
grown (n ∷ ns) zero zero = omega arith
grown (n ∷ ns) zero (suc k) = omega arith
grown (n ∷ ns) (suc i) zero = omega arith
grown (n ∷ ns) (suc i) (suc k) = grown ns i k

grown-asked : (ns : List ℕ) (i : ℕ) (asked : List Asked) → AreCalls ns asked → AreCalls (slice_set ns i (slice_index_or ns i 0 + 1)) asked
grown-asked ns i [] h = tt
grown-asked ns i (a ∷ asked) h = (omega (arith, h.0, grown ns i a.caller), grown-asked ns i asked h.1)

grown-step : (ns : List ℕ) (i : ℕ) (s : Step) → IsLater (slice_set ns i (slice_index_or ns i 0 + 1)) s → IsLater ns s
grown-step ns i (step.Input node (input.Call caller call op)) h = omega (arith, h, grown ns i caller)
grown-step ns i (step.Input node (input.Order o)) h = tt
grown-step ns i (step.Handle node from) h = tt
grown-step ns i (step.Post node) h = tt
grown-step ns i (step.Stop node) h = tt

grown-later : (ns : List ℕ) (i : ℕ) (xs : List Step) → AreLater (slice_set ns i (slice_index_or ns i 0 + 1)) xs → AreLater ns xs
grown-later ns i [] h = tt
grown-later ns i (x ∷ xs) h = (grown-step ns i x h.0, grown-later ns i xs h.1)

numbered-counted : (callers : ℕ) (w : Walk) (caller : ℕ) → IsNumbered callers w → IsNumbered callers (counted w caller)
numbered-counted callers w caller k =
    record { size = length-set w.counts caller _ ∙ k.size; asked = grown-asked w.counts caller w.trace.asked k.asked }

-- a call that isn't counted wasn't made
other-call : (a b m n : ℕ) (ns : List ℕ) → m < slice_index_or ns a 0 → n ≡ slice_index_or ns b 0 → (a == b && m == n) ≡ false
other-call a b m n ns h e = elim (a == b) as (λ c. (a == b) ≡ c → (c && m == n) ≡ false) [
  | true ↦ λ same.
      let at : a ≡ b = grind (arith, nat_tests, same) in
      let less : m < n = omega (arith, h, e, ap (λ i. slice_index_or ns i 0) at) in
      grind (arith, nat_tests, less)
  | false ↦ λ same. refl
] refl

not-asked : (ns : List ℕ) (caller : ℕ) (call : CallNo) (asked : List Asked) → call.0 ≡ slice_index_or ns caller 0 → AreCalls ns asked
    → is_asked asked caller call ≡ false
not-asked ns caller call [] e h = refl
not-asked ns caller call (a ∷ asked) e h =
    ap (λ b. b || is_asked asked caller call) (other-call a.caller caller a.call.0 call.0 ns h.0 e) ∙ not-asked ns caller call asked e h.1

-- a call that is counted isn't made later
no-call-again : (c b m n : ℕ) (ns : List ℕ) → n < slice_index_or ns b 0 → slice_index_or ns c 0 ≤ m → (c == b && m == n) ≡ false
no-call-again c b m n ns below from = elim (c == b) as (λ x. (c == b) ≡ x → (x && m == n) ≡ false) [
  | true ↦ λ same.
      let at : c ≡ b = grind (arith, nat_tests, same) in
      let less : n < m = omega (arith, below, from, ap (λ i. slice_index_or ns i 0) at) in
      grind (arith, nat_tests, less)
  | false ↦ λ same. refl
] refl

none-again : (ns : List ℕ) (caller : ℕ) (call : CallNo) (s : Step) → call.0 < slice_index_or ns caller 0 → IsLater ns s → makes_call caller call s ≡ false
none-again ns caller call (step.Input node (input.Call c n op)) below h = no-call-again c caller n.0 call.0 ns below h
none-again ns caller call (step.Input node (input.Order o)) below h = refl
none-again ns caller call (step.Handle node from) below h = refl
none-again ns caller call (step.Post node) below h = refl
none-again ns caller call (step.Stop node) below h = refl

not-later : (ns : List ℕ) (caller : ℕ) (call : CallNo) (xs : List Step) → call.0 < slice_index_or ns caller 0 → AreLater ns xs
    → list_any (makes_call caller call) xs ≡ false
not-later ns caller call [] below h = refl
not-later ns caller call (x ∷ xs) below h =
    ap (λ b. b || list_any (makes_call caller call) xs) (none-again ns caller call x below h.0) ∙ not-later ns caller call xs below h.1

-- a call line along a journal, by whether the call was made, and by whether it is among the journal's
abbrev by_asked : Walk → CallerNo → CallNo → List Step → Bool → Bool → Walk
by_asked w caller call rest was is =
    if was then w else (if is then plays_to caller call rest (record w { rest = None }) else says w (report.Busy caller call))

call-busy : (w : Walk) (caller : CallerNo) (call : CallNo) (rest : List Step) → is_asked w.trace.asked caller call ≡ false
    → list_any (makes_call caller call) rest ≡ false → call_along w caller call rest ≡ says w (report.Busy caller call)
call-busy w caller call rest a b =
    ap (λ x. by_asked w caller call rest x (list_any (makes_call caller call) rest)) a ∙ ap (by_asked w caller call rest false) b

call-made : (w : Walk) (caller : CallerNo) (call : CallNo) (s : Step) (rest : List Step) → is_asked w.trace.asked caller call ≡ false
    → makes_call caller call s ≡ true → call_along w caller call (s ∷ rest) ≡ along (played w s) rest
call-made w caller call s rest a b =
    ap (λ x. by_asked w caller call (s ∷ rest) x (list_any (makes_call caller call) (s ∷ rest))) a
    ∙ ap (λ x. by_asked w caller call (s ∷ rest) false (x || list_any (makes_call caller call) rest)) b
    ∙ ap
    (λ (x : Bool). if x then record (played (record w { rest = None }) s) { rest = Some rest } else plays_to caller call rest
    (played (record w { rest = None }) s))
    b

-- a caller is there
pub caller-there : (cs : List Caller) (ns : List ℕ) (i : ℕ) → AreCounted cs ns → i < length ns → slice_get cs i ≡ None → ⊥
caller-there [] [] i a l e = omega (arith, l)
caller-there [] (n ∷ ns) i a l e = a
caller-there (c ∷ cs) [] i a l e = a
caller-there (c ∷ cs) (n ∷ ns) zero a l e = cc e
caller-there (c ∷ cs) (n ∷ ns) (suc i) a l e = caller-there cs ns i a.1 (omega (arith, l)) e

-- the number of a caller's next call, and the walk behind its line
abbrev next_call : Walk → CallerNo → CallNo
next_call w caller = record { 0 = slice_index_or w.counts caller 0 }

abbrev called : Walk → CallerNo → Op → Caller → Bool → Walk
called w caller op c open_call =
    if open_call then says (counted w caller) (report.Busy caller (next_call w caller))
    else played (counted w caller) (step.Input c.library (input.Call caller (next_call w caller) op))

goes-caller : (o : OpeningOf) (w : Walk) (caller : CallerNo) (op : Op) (c : Caller) (open_call : Bool)
    → IsWalked o w → IsNumbered o.callers w → slice_get w.trace.callers caller ≡ Some c
    → Goes o.callers w (called w caller op c open_call) (λ rest. call_line (along w rest) caller op) (along (called w caller op c open_call))
goes-caller o w caller op c true g k e =
    let call = next_call w caller in
    let u = counted w caller in
    let here = counted-here w.trace.callers w.counts caller c g.counted e in
    let n = numbered-counted o.callers w caller k in
    let new = not-asked w.counts caller call w.trace.asked refl k.asked in
    record {
      made = [];
      steps = sym (append-nil w.steps);
      rest = g.rest;
      numbered = record { size = n.size; asked = n.asked };
      later = tt;
      grows = λ tail h. grown-later w.counts caller tail h;
      same = λ tail h. call-busy (along u tail) caller call tail new (not-later u.counts caller call tail (omega (arith, here)) h);
    }
goes-caller o w caller op c false g k e =
    let call = next_call w caller in
    let u = counted w caller in
    let s : Step = step.Input c.library (input.Call caller call op) in
    let here = counted-here w.trace.callers w.counts caller c g.counted e in
    let n = numbered-counted o.callers w caller k in
    let new = not-asked w.counts caller call w.trace.asked refl k.asked in
    let its = both-true (caller == caller) (call.0 == call.0) (self caller) (self call.0) in
    record {
      made = s ∷ [];
      steps = refl;
      rest = g.rest;
      numbered = record { size = n.size; asked = asked-next u.counts u.trace s n.asked (omega (arith, here), tt) };
      later = (omega arith, tt);
      grows = λ tail h. grown-later w.counts caller tail h;
      same = λ tail h. call-made (along u (s ∷ tail)) caller call s tail new its;
    }

goes-there : (o : OpeningOf) (w : Walk) (caller : CallerNo) (op : Op) (c : Option Caller)
    → caller < o.callers → IsWalked o w → IsNumbered o.callers w → slice_get w.trace.callers caller ≡ c
    → Goes o.callers w (call_alone (counted w caller) caller (next_call w caller) op c) (λ rest. call_line (along w rest) caller op)
    (along (call_alone (counted w caller) caller (next_call w caller) op c))
goes-there o w caller op None there g k e =
    absurd (caller-there w.trace.callers w.counts caller g.counted (omega (arith, there, k.size)) e)
goes-there o w caller op (Some c) there g k e = goes-caller o w caller op c (is_some c.call) g k e

goes-call : (o : OpeningOf) (w : Walk) (caller : CallerNo) (op : Op)
    → caller < o.callers → IsWalked o w → IsNumbered o.callers w → GoesBy o.callers w (λ x. call_line x caller op)
goes-call o w caller op there g k =
    let led : Option (List Step) → Walk = λ r. call_with (counted w caller) caller (next_call w caller) op r in
    subst (λ (r : Option (List Step)). Goes o.callers w (led r) (λ rest. call_line (along w rest) caller op) (along (led r))) (sym g.rest)
    (goes-there o w caller op (slice_get w.trace.callers caller) there g k refl)

-- lines of which each is tested before its step
goes-stop : (callers : ℕ) (w : Walk) (node : NodeNo) (possible : Bool)
    → w.rest ≡ None → IsNumbered callers w → GoesBy callers w (λ x. if possible then tries x (step.Stop node) else x)
goes-stop callers w node true e k = goes-tries callers w (step.Stop node) e tt k
goes-stop callers w node false e k = goes-nowhere callers w w (along w) (along w) refl refl e k (λ tail. refl)

goes-step-line : (callers : ℕ) (w : Walk) (s : Step) (refusal : ReportLine) (possible : Bool)
    → IsNoCall s → w.rest ≡ None → IsNumbered callers w → GoesBy callers w (λ x. if possible then tries x s else says x refusal)
goes-step-line callers w s refusal true silent e k = goes-tries callers w s e silent k
goes-step-line callers w s refusal false silent e k =
    goes-nowhere callers w (says w refusal) (λ rest. says (along w rest) refusal) (along (says w refusal)) refl refl e
    (record { size = k.size; asked = k.asked }) (λ tail. refl)

-- what `quiet` says
abbrev quiet_by : Moved → Bool → Walk → Walk
quiet_by m loud w = if loud then says w report.Loud else says w (report.Quiet m.events)

goes-quiet : (callers limit : ℕ) (w : Walk) (m : Moved) (loud : Bool)
    → Goes callers w m.walk (λ rest. moves limit 0 (along w rest)) (moved_along m) → (m.events == limit && has_event m.walk) ≡ loud
    → Goes callers w (quiet_by m loud m.walk) (λ rest. quiet_said limit (moves limit 0 (along w rest))) (along (quiet_by m loud m.walk))
goes-quiet callers limit w m true g e =
    let x = quiet_by m true m.walk in
    goes-after callers w m.walk x (λ rest. moves limit 0 (along w rest)) (moved_along m) (quiet_said limit) (along x) g refl refl refl refl
    (λ tail. ap (λ b. quiet_by m b (along m.walk tail)) e)
goes-quiet callers limit w m false g e =
    let x = quiet_by m false m.walk in
    goes-after callers w m.walk x (λ rest. moves limit 0 (along w rest)) (moved_along m) (quiet_said limit) (along x) g refl refl refl refl
    (λ tail. ap (λ b. quiet_by m b (along m.walk tail)) e)

goes-events : (callers n : ℕ) (w : Walk) → w.rest ≡ None → IsNumbered callers w → GoesBy callers w (λ x. events_said (moves n 0 x))
goes-events callers n w e k =
    let m = moves n 0 w in
    let x = events_said m in
    goes-after callers w m.walk x (λ rest. moves n 0 (along w rest)) (moved_along m) events_said (along x) (goes-moves callers n 0 w e k) refl refl refl refl
    (λ tail. refl)

-- what touches neither the run nor the counts
goes-aside : (callers : ℕ) (w : Walk) (does : Walk → Walk) → (does w).steps ≡ w.steps → (does w).counts ≡ w.counts → (does w).rest ≡ None
    → IsNumbered callers (does w) → ((tail : List Step) → does (along w tail) ≡ along (does w) tail) → GoesBy callers w does
goes-aside callers w does s c e k h = goes-nowhere callers w (does w) (λ rest. does (along w rest)) (along (does w)) s c e k h

goes-line : (o : OpeningOf) (limit : ℕ) (w : Walk) (l : Line)
    → IsInRanges (ranges_of o) l → IsWalked o w → IsNumbered o.callers w → GoesBy o.callers w (λ x. line_done limit x l)
goes-line o limit w (line.Call caller op) h g k = goes-call o w caller op h.0 g k
goes-line o limit w (line.Stop node) h g k = goes-stop o.callers w node (is_possible w.trace (step.Stop node)) g.rest k
goes-line o limit w (line.Join brick name via) h g k =
    goes-tries o.callers w (step.Input brick (input.Order (order.Join brick name via))) g.rest tt k
goes-line o limit w (line.Split brick name) h g k =
    goes-tries o.callers w (step.Input brick (input.Order (order.Split brick name))) g.rest tt k
goes-line o limit w (line.Pick picker) h g k =
    goes-aside o.callers w (λ x. record x { picking = begun picker }) refl refl g.rest (record { size = k.size; asked = k.asked }) (λ tail. refl)
goes-line o limit w (line.Events n) h g k = goes-events o.callers n w g.rest k
goes-line o limit w line.Quiet h g k =
    let m = moves limit 0 w in
    goes-quiet o.callers limit w m (m.events == limit && has_event m.walk) (goes-moves o.callers limit 0 w g.rest k) refl
goes-line o limit w (line.Post node) h g k =
    goes-step-line o.callers w (step.Post node) report.NoPost (is_possible w.trace (step.Post node)) tt g.rest k
goes-line o limit w (line.Take node from) h g k =
    goes-step-line o.callers w (step.Handle node from) report.NoTake (is_possible w.trace (step.Handle node from)) tt g.rest k
goes-line o limit w (line.Show brick) h g k =
    goes-aside o.callers w (λ x. show_line x brick) refl refl g.rest (record { size = k.size; asked = k.asked }) (λ tail. refl)
goes-line o limit w line.Nothing h g k = goes-aside o.callers w (λ x. x) refl refl g.rest k (λ tail. refl)

goes-lines : (o : OpeningOf) (limit : ℕ) (w : Walk) (ls : List Line)
    → o.bricks ≤ 64 → AllByRecursion (IsInRanges (ranges_of o)) ls → IsWalked o w → IsNumbered o.callers w
    → GoesBy o.callers w (λ x. lines_done limit x ls)
goes-lines o limit w [] few h g k = goes-aside o.callers w (λ x. x) refl refl g.rest k (λ tail. refl)
goes-lines o limit w (l ∷ ls) few h g k =
    let v = line_done limit w l in
    let a = goes-line o limit w l h.0 g k in
    let b = goes-lines o limit v ls few h.1 (walked-line o limit w l few h.0 g) a.numbered in
    goes-then o.callers w v (lines_done limit v ls) (λ rest. line_done limit (along w rest) l) (λ x. lines_done limit x ls) (along (lines_done limit v ls)) a b

-- the walk alone has the lines of the transcript over the journal that it makes
pub lines-alone : (limit : ℕ) (script : ScriptOf)
    → IsRanges (ranges_of script.opening) → AllByRecursion (IsInRanges (ranges_of script.opening)) script.lines
    → ended (lines_done limit (first_walk script None) script.lines)
    ≡ ended (plays_rest (lines_done limit (first_walk script (Some (lines_done limit (first_walk script None) script.lines).steps)) script.lines))
lines-alone limit script r h =
    let o = script.opening in
    let w = first_walk script None in
    let v = lines_done limit w script.lines in
    let k : IsNumbered o.callers w = record { size = length-replicate o.callers 0; asked = tt } in
    let g = goes-lines o limit w script.lines r.bricks h (walked-first script) k in
    let all : v.steps ≡ g.made ++ [] = g.steps ∙ sym (append-nil g.made) in
    let same : lines_done limit (along w v.steps) script.lines ≡ along v [] =
    ap (λ (l : List Step). lines_done limit (along w l) script.lines) all ∙ g.same [] tt in
    ap (λ (x : Walk). ended (plays_rest x)) (sym same)
