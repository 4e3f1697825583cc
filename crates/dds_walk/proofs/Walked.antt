-- A walk along no journal makes only steps that are possible.
use Rattle.std.proofs.Common.{◌≡◌, ℕ, ◌+◌, ◌<◌, ◌≤◌, Bool, true, false, List, [], ◌∷◌, ◌++◌, Option, Some, None, length, zero, suc, refl}
use Rattle.std.proofs.Common.{sym, ap, subst, ◌∙◌, arith}
use Rattle.std.specs.Prelude.{◌&&◌, ◌==◌, is_none, is_some, slice_get, slice_index_or, if◌then◌else◌, IfSome}
use Rattle.std.specs.List.{AllByRecursion}
use Rattle.std.proofs.lemmas.Bool.Decides.{nat_tests}
use Rattle.dds_base.specs.Name.{Name}
use Rattle.dds_base.specs.declared.number.CallNo.{CallNo}
use Rattle.dds_base.specs.declared.number.CallerNo.{CallerNo}
use Rattle.dds_base.specs.declared.number.NodeNo.{NodeNo}
use Rattle.dds_base.specs.declared.op.Op.{Op}
use Rattle.dds_base.specs.declared.op.Order.TheVariants as order
use Rattle.dds_script.specs.Opening.{OpeningOf, ScriptOf, ranges_of}
use Rattle.dds_script.specs.Ranges.{IsInRanges, IsRanges}
use Rattle.dds_script.specs.declared.line.Line.{Line}
use Rattle.dds_script.specs.declared.line.Line.TheVariants as line
use Rattle.dds_transcript.specs.declared.report_line.ReportLine.{ReportLine}
use Rattle.dds_transcript.specs.declared.report_line.ReportLine.TheVariants as report
use Rattle.dds_walk.proofs.Counted.{AreCounted, counted-get, counted-here, counted-more, counted-next, counted-set, counted-start}
use Rattle.dds_walk.proofs.Moves.{moves-over, moves-suc}
use Rattle.dds_walk.proofs.Picked.{IsEvent, all-events, both-true, steps-picked}
use Rattle.dds_cluster.proofs.Sizes.{IsSized, sized-next, sized-start}
use Rattle.dds_walk.specs.Picking.{events}
use Rattle.dds_walk.specs.Walk.{Moved, after_event, call_alone, call_line, call_with, counted, event, event_by, first_walk, has_event}
use Rattle.dds_walk.specs.Walk.{lead_in, left, left_of, line_done, lines_done, makes_by, moves, on_event, or_stays, picked_in, picks_in}
use Rattle.dds_walk.specs.Walk.{played, says, tries}
use Rattle.dds_walk.specs.declared.walk.Walk.{Walk}
use Rattle.dds_cluster.specs.Trace.{is_possible, is_run, is_run_from, may_call, may_order, next, opened_by, opens, run_of, start, trace_from}
use Rattle.dds_cluster.specs.World.{World}
use Rattle.dds_cluster.specs.declared.step.Input.TheVariants as input
use Rattle.dds_cluster.specs.declared.step.Step.{Step}
use Rattle.dds_cluster.specs.declared.step.Step.TheVariants as step
use Rattle.dds_cluster.specs.declared.trace.Caller.{Caller}
use Rattle.dds_cluster.specs.declared.trace.Trace.{Trace}

-- the run so far is that of the steps made, and no journal is followed
pub record IsWalked (o : OpeningOf) (w : Walk) : Type 0 where
  pub trace : w.trace ≡ run_of o w.steps
  pub run : is_run o w.steps ≡ true
  pub rest : w.rest ≡ None
  pub sized : IsSized o.bricks o.libraries w.trace.world
  pub counted : AreCounted w.trace.callers w.counts

-- one step more at the end
trace-push : (t : Trace) (xs : List Step) (s : Step) → trace_from t (xs ++ s ∷ []) ≡ next (trace_from t xs) s
trace-push t [] s = refl
trace-push t (x ∷ xs) s = trace-push (next t x) xs s

pub both-left : (a b : Bool) → (a && b) ≡ true → a ≡ true
both-left true b e = refl
both-left false b e = e

pub both-right : (a b : Bool) → (a && b) ≡ true → b ≡ true
both-right true b e = e
both-right false b e = absurd (cc)

run-push : (t : Trace) (xs : List Step) (s : Step) → is_run_from t xs ≡ true → is_possible (trace_from t xs) s ≡ true → is_run_from t (xs ++ s ∷ []) ≡ true
run-push t [] s r p = both-true (is_possible t s) true p refl
run-push t (x ∷ xs) s r p =
    both-true (is_possible t x) (is_run_from (next t x) (xs ++ s ∷ [])) (both-left (is_possible t x) (is_run_from (next t x) xs) r)
    (run-push (next t x) xs s (both-right (is_possible t x) (is_run_from (next t x) xs) r) p)

walked-played : (o : OpeningOf) (w : Walk) (s : Step) → IsWalked o w → is_possible w.trace s ≡ true → AreCounted (opened_by w.trace.callers s) w.counts →
    IsWalked o (played w s)
walked-played o w s g possible opened =
    record {
      trace = ap (λ (t : Trace). next t s) g.trace ∙ sym (trace-push (start o) w.steps s);
      run = run-push (start o) w.steps s g.run (ap (λ (t : Trace). is_possible t s) (sym g.trace) ∙ possible);
      rest = g.rest;
      sized = sized-next o.bricks o.libraries w.trace s g.sized;
      counted = counted-next w.trace s w.counts g.counted opened;
    }

-- what touches neither the run nor the counts
walked-left : (o : OpeningOf) (w : Walk) → IsWalked o w → IsWalked o (left w)
walked-left o w g =
    record { trace = g.trace; run = g.run; rest = ap left_of g.rest; sized = g.sized; counted = g.counted }

walked-says : (o : OpeningOf) (w : Walk) (l : ReportLine) → IsWalked o w → IsWalked o (says w l)
walked-says o w l g =
    record { trace = g.trace; run = g.run; rest = g.rest; sized = g.sized; counted = g.counted }

walked-picks : (o : OpeningOf) (w : Walk) → IsWalked o w → IsWalked o (picks_in w)
walked-picks o w g =
    record { trace = g.trace; run = g.run; rest = g.rest; sized = g.sized; counted = g.counted }

walked-counted : (o : OpeningOf) (w : Walk) (caller : ℕ) → IsWalked o w → IsWalked o (counted w caller)
walked-counted o w caller g =
    record { trace = g.trace; run = g.run; rest = g.rest; sized = g.sized; counted = counted-more w.trace.callers w.counts caller g.counted }

-- a step that the script determines is made at once
pub tries-alone : (w : Walk) (s : Step) → w.rest ≡ None → tries w s ≡ played (left w) s
tries-alone w s e = ap (λ r. or_stays w (makes_by w s (lead_in r s))) e

walked-tries : (o : OpeningOf) (w : Walk) (s : Step) → IsWalked o w → is_possible w.trace s ≡ true → AreCounted (opened_by w.trace.callers s) w.counts →
    IsWalked o (tries w s)
walked-tries o w s g possible opened =
    subst (IsWalked o) (sym (tries-alone w s g.rest)) (walked-played o (left w) s (walked-left o w g) possible opened)

-- picked events
walked-event : (o : OpeningOf) (w : Walk) (p : Option Step) → IsWalked o w → IfSome p (IsEvent w.trace) → IsWalked o (or_stays w (event_by w p))
walked-event o w None g e = g
walked-event o w (Some s) g e =
    walked-tries o w s g e.0 (subst (λ (cs : List Caller). AreCounted cs w.counts) (sym e.1) g.counted)

walked-after : (o : OpeningOf) (w : Walk) → o.bricks ≤ 64 → IsWalked o w → IsWalked o (after_event w)
walked-after o w few g =
    walked-event o (picks_in w) (picked_in w) (walked-picks o w g)
    (steps-picked (IsEvent w.trace) w.picking (events w.trace.world) (all-events o.bricks o.libraries w.trace g.sized few))

walked-on : (o : OpeningOf) (b : Bool) (none some : Moved) → IsWalked o none.walk → IsWalked o some.walk → IsWalked o (on_event b none some).walk
walked-on o true none some n s = s
walked-on o false none some n s = n

walked-moves : (o : OpeningOf) (n made : ℕ) (w : Walk) → o.bricks ≤ 64 → IsWalked o w → IsWalked o (moves n made w).walk
walked-moves o zero made w few g = subst (λ (m : Moved). IsWalked o m.walk) (sym (moves-over made w)) g
walked-moves o (suc n) made w few g =
    subst (λ (m : Moved). IsWalked o m.walk) (sym (moves-suc n made w))
    (walked-on o (is_some (event w)) (record { walk = after_event w; events = made }) (moves n (made + 1) (after_event w)) (walked-after o w few g)
    (walked-moves o n (made + 1) (after_event w) few (walked-after o w few g)))

-- a call line
no-call : (c : Option CallNo) → is_some c ≡ false → is_none c ≡ true
no-call None e = refl
no-call (Some c) e = absurd (cc)

pub call-possible : (c : Caller) (call : CallNo) → is_some c.call ≡ false → c.least ≤ call.0 → may_call (Some c) c.library call ≡ true
call-possible c call free low =
    let none : is_none c.call ≡ true = no-call c.call free in
    grind (arith, nat_tests, none, low)

walked-makes : (o : OpeningOf) (w : Walk) (caller : CallerNo) (op : Op) (c : Caller) (open_call : Bool) → IsWalked o w →
    slice_get w.trace.callers caller ≡ Some c → is_some c.call ≡ open_call →
    IsWalked o (if open_call then says (counted w caller) (report.Busy caller (record { 0 = slice_index_or w.counts caller 0 })) else played
    (counted w caller) (step.Input c.library (input.Call caller (record { 0 = slice_index_or w.counts caller 0 }) op)))
walked-makes o w caller op c true g e is =
    walked-says o (counted w caller) (report.Busy caller (record { 0 = slice_index_or w.counts caller 0 })) (walked-counted o w caller g)
walked-makes o w caller op c false g e is =
    let call : CallNo = record { 0 = slice_index_or w.counts caller 0 } in
    let more = counted-more w.trace.callers w.counts caller g.counted in
    let here = counted-here w.trace.callers w.counts caller c g.counted e in
    let low : c.least ≤ slice_index_or w.counts caller 0 = counted-get w.trace.callers w.counts caller c g.counted e in
    walked-played o (counted w caller) (step.Input c.library (input.Call caller call op)) (walked-counted o w caller g)
    (ap (λ x. may_call x c.library call) e ∙ call-possible c call is low)
    (subst (λ (x : Option Caller). AreCounted (opens w.trace.callers caller call x) (counted w caller).counts) (sym e)
    (counted-set w.trace.callers (counted w caller).counts caller c (record c { call = Some call; least = call.0 + 1 }) more e (omega (arith, here))))

walked-alone : (o : OpeningOf) (w : Walk) (caller : CallerNo) (op : Op) (c : Option Caller) → IsWalked o w → slice_get w.trace.callers caller ≡ c →
    IsWalked o (call_alone (counted w caller) caller (record { 0 = slice_index_or w.counts caller 0 }) op c)
walked-alone o w caller op None g e = walked-counted o w caller g
walked-alone o w caller op (Some c) g e = walked-makes o w caller op c (is_some c.call) g e refl

walked-call : (o : OpeningOf) (w : Walk) (caller : CallerNo) (op : Op) → IsWalked o w → IsWalked o (call_line w caller op)
walked-call o w caller op g =
    subst (λ (r : Option (List Step)). IsWalked o (call_with (counted w caller) caller (record { 0 = slice_index_or w.counts caller 0 }) op r)) (sym g.rest)
    (walked-alone o w caller op (slice_get w.trace.callers caller) g refl)

-- a step that is tested before it is made
walked-stop : (o : OpeningOf) (w : Walk) (node : NodeNo) (possible : Bool) → IsWalked o w → is_possible w.trace (step.Stop node) ≡ possible →
    IsWalked o (if possible then tries w (step.Stop node) else w)
walked-stop o w node true g e = walked-tries o w (step.Stop node) g e g.counted
walked-stop o w node false g e = g

walked-step : (o : OpeningOf) (w : Walk) (s : Step) (refusal : ReportLine) (possible : Bool) → IsWalked o w → opened_by w.trace.callers s ≡ w.trace.callers →
    is_possible w.trace s ≡ possible → IsWalked o (if possible then tries w s else says w refusal)
walked-step o w s refusal true g same e =
    walked-tries o w s g e (subst (λ (cs : List Caller). AreCounted cs w.counts) (sym same) g.counted)
walked-step o w s refusal false g same e = walked-says o w refusal g

-- orders of bricks that are there
join-possible : (w : World) (brick : NodeNo) (name : Name) (via : NodeNo) → brick < length w.bricks → via < length w.bricks →
    may_order w brick (order.Join brick name via) ≡ true
join-possible w brick name via a b = grind (arith, nat_tests, a, b)

split-possible : (w : World) (brick : NodeNo) (name : Name) → brick < length w.bricks → may_order w brick (order.Split brick name) ≡ true
split-possible w brick name a = grind (arith, nat_tests, a)

walked-quiet : (o : OpeningOf) (limit : ℕ) (m : Moved) (loud : Bool) → IsWalked o m.walk →
    IsWalked o (if loud then says m.walk report.Loud else says m.walk (report.Quiet m.events))
walked-quiet o limit m true g = walked-says o m.walk report.Loud g
walked-quiet o limit m false g = walked-says o m.walk (report.Quiet m.events) g

pub walked-line : (o : OpeningOf) (limit : ℕ) (w : Walk) (l : Line) → o.bricks ≤ 64 → IsInRanges (ranges_of o) l → IsWalked o w →
    IsWalked o (line_done limit w l)
walked-line o limit w (line.Call caller op) few h g = walked-call o w caller op g
walked-line o limit w (line.Stop node) few h g =
    walked-stop o w node (is_possible w.trace (step.Stop node)) g refl
walked-line o limit w (line.Join brick name via) few h g =
    walked-tries o w (step.Input brick (input.Order (order.Join brick name via))) g
    (join-possible w.trace.world brick name via (omega (arith, h.0, g.sized.bricks)) (omega (arith, h.2, g.sized.bricks))) g.counted
walked-line o limit w (line.Split brick name) few h g =
    walked-tries o w (step.Input brick (input.Order (order.Split brick name))) g
    (split-possible w.trace.world brick name (omega (arith, h.0, g.sized.bricks))) g.counted
walked-line o limit w (line.Pick picker) few h g =
    record { trace = g.trace; run = g.run; rest = g.rest; sized = g.sized; counted = g.counted }
walked-line o limit w (line.Events n) few h g =
    walked-says o (moves n 0 w).walk (report.Events (moves n 0 w).events) (walked-moves o n 0 w few g)
walked-line o limit w line.Quiet few h g =
    walked-quiet o limit (moves limit 0 w) ((moves limit 0 w).events == limit && has_event (moves limit 0 w).walk) (walked-moves o limit 0 w few g)
walked-line o limit w (line.Post node) few h g =
    walked-step o w (step.Post node) report.NoPost (is_possible w.trace (step.Post node)) g refl refl
walked-line o limit w (line.Take node from) few h g =
    walked-step o w (step.Handle node from) report.NoTake (is_possible w.trace (step.Handle node from)) g refl refl
walked-line o limit w (line.Show brick) few h g =
    record { trace = g.trace; run = g.run; rest = g.rest; sized = g.sized; counted = g.counted }
walked-line o limit w line.Nothing few h g = g

walked-lines : (o : OpeningOf) (limit : ℕ) (w : Walk) (ls : List Line) → o.bricks ≤ 64 → AllByRecursion (IsInRanges (ranges_of o)) ls → IsWalked o w →
    IsWalked o (lines_done limit w ls)
walked-lines o limit w [] few h g = g
walked-lines o limit w (l ∷ ls) few h g =
    walked-lines o limit (line_done limit w l) ls few h.1 (walked-line o limit w l few h.0 g)

pub walked-first : (script : ScriptOf) → IsWalked script.opening (first_walk script None)
walked-first script =
    record {
      trace = refl;
      run = refl;
      rest = refl;
      sized = sized-start script.opening;
      counted = counted-start script.opening.libraries script.opening.callers 0;
    }

-- the journal that a script determines is a run
pub steps-run : (limit : ℕ) (script : ScriptOf) → IsRanges (ranges_of script.opening) → AllByRecursion (IsInRanges (ranges_of script.opening)) script.lines →
    is_run script.opening (lines_done limit (first_walk script None) script.lines).steps ≡ true
steps-run limit script r h =
    (walked-lines script.opening limit (first_walk script None) script.lines r.bricks h (walked-first script)).run
