-- A walk that follows no journal stops a node only at a line that says so, and no two letters on their way have the same number.
use Rattle.std.proofs.Common.{◌≡◌, ℕ, ◌+◌, Bool, true, false, List, [], ◌∷◌, Option, Some, None, zero, suc, refl, sym, ap, subst, length}
use Rattle.std.specs.Prelude.{is_some, slice_get, slice_index_or, if◌then◌else◌, IfSome}
use Rattle.std.specs.List.{AllByRecursion}
use Rattle.dds_base.specs.declared.number.CallNo.{CallNo}
use Rattle.dds_base.specs.declared.number.CallerNo.{CallerNo}
use Rattle.dds_base.specs.declared.number.NodeNo.{NodeNo}
use Rattle.dds_base.specs.declared.op.Op.{Op}
use Rattle.dds_base.specs.declared.op.Order.TheVariants as order
use Rattle.dds_core.proofs.Lists.{all-append}
use Rattle.dds_script.specs.Opening.{ScriptOf}
use Rattle.dds_script.specs.declared.line.Line.{Line}
use Rattle.dds_script.specs.declared.line.Line.TheVariants as line
use Rattle.dds_transcript.specs.declared.report_line.ReportLine.{ReportLine}
use Rattle.dds_transcript.specs.declared.report_line.ReportLine.TheVariants as report
use Rattle.dds_walk.proofs.Moves.{moves-over, moves-suc}
use Rattle.dds_walk.proofs.Numbers.{AreOnce, once-next, once-start}
use Rattle.dds_walk.proofs.Picked.{AreSteps, steps-append, steps-first, steps-picked}
use Rattle.dds_walk.proofs.Walked.{tries-alone}
use Rattle.dds_walk.specs.Picking.{all_handles, events, first_of, handles, node_at, posts}
use Rattle.dds_walk.specs.Walk.{Moved, after_event, call_alone, call_with, counted, event, event_by, first_walk, left, left_of, line_done}
use Rattle.dds_walk.specs.Walk.{lines_done, moves, on_event, or_stays, picked_in, picks_in, played, says, tries}
use Rattle.dds_walk.specs.declared.walk.Walk.{Walk}
use Rattle.dds_cluster.specs.Trace.{is_possible}
use Rattle.dds_cluster.specs.World.{World}
use Rattle.dds_cluster.specs.declared.step.Input.TheVariants as input
use Rattle.dds_cluster.specs.declared.step.Message.{Message}
use Rattle.dds_cluster.specs.declared.step.Step.{Step}
use Rattle.dds_cluster.specs.declared.step.Step.TheVariants as step
use Rattle.dds_cluster.specs.declared.trace.Caller.{Caller}

-- what is so of each node that a step stops, and of each that a line stops
abbrev pub StopIs : (ℕ → Type 0) → Step → Type 0
StopIs P (step.Stop node) = P node
StopIs P other = Unit {0}

abbrev pub StopSays : (ℕ → Type 0) → Line → Type 0
StopSays P (line.Stop node) = P node
StopSays P other = Unit {0}

-- A walk that follows no journal. Each line keeps all of it.
--
-- | part    | why it is needed                                      | what keeps it                                          |
-- | `rest`  | each step that is determined is made                  | nothing gives a walk a journal                         |
-- | `once`  | each picker picks an event wherever one is possible   | a letter's number is that of letters made before it    |
-- | `stops` | who has stopped is known by the lines                 | events are no stops; lines stop the nodes that they say |
pub record IsAlone (P : ℕ → Type 0) (w : Walk) : Type 0 where
  pub rest : w.rest ≡ None
  pub once : AreOnce w.trace.world
  pub stops : AllByRecursion (StopIs P) w.steps

alone-played : (P : ℕ → Type 0) (w : Walk) (s : Step) → StopIs P s → IsAlone P w → IsAlone P (played w s)
alone-played P w s h g =
    record { rest = g.rest; once = once-next w.trace s g.once; stops = all-append (StopIs P) w.steps (s ∷ []) g.stops (h, tt) }

pub alone-left : (P : ℕ → Type 0) (w : Walk) → IsAlone P w → IsAlone P (left w)
alone-left P w g = record { rest = ap left_of g.rest; once = g.once; stops = g.stops }

pub alone-picks : (P : ℕ → Type 0) (w : Walk) → IsAlone P w → IsAlone P (picks_in w)
alone-picks P w g = record { rest = g.rest; once = g.once; stops = g.stops }

alone-says : (P : ℕ → Type 0) (w : Walk) (l : ReportLine) → IsAlone P w → IsAlone P (says w l)
alone-says P w l g = record { rest = g.rest; once = g.once; stops = g.stops }

alone-counted : (P : ℕ → Type 0) (w : Walk) (caller : ℕ) → IsAlone P w → IsAlone P (counted w caller)
alone-counted P w caller g = record { rest = g.rest; once = g.once; stops = g.stops }

pub alone-next : (P : ℕ → Type 0) (w : Walk) (s : Step) → StopIs P s → IsAlone P w → IsAlone P (played (left w) s)
alone-next P w s h g = alone-played P (left w) s h (alone-left P w g)

alone-tries : (P : ℕ → Type 0) (w : Walk) (s : Step) → StopIs P s → IsAlone P w → IsAlone P (tries w s)
alone-tries P w s h g = subst (IsAlone P) (sym (tries-alone w s g.rest)) (alone-next P w s h g)

-- events are no stops
no-stop-posts : (P : ℕ → Type 0) (b at : ℕ) (boxes : List (List Message)) → AreSteps (StopIs P) (posts b at boxes)
no-stop-posts P b at [] = tt
no-stop-posts P b at (box ∷ boxes) =
    steps-append (StopIs P) (first_of (step.Post (node_at b at)) (slice_get box 0)) (posts b (at + 1) boxes)
    (steps-first (StopIs P) (step.Post (node_at b at)) (slice_get box 0) (λ e. tt)) (no-stop-posts P b (at + 1) boxes)

no-stop-handles : (P : ℕ → Type 0) (b : ℕ) (from : NodeNo) (at : ℕ) (links : List (List Message)) → AreSteps (StopIs P) (handles b from at links)
no-stop-handles P b from at [] = tt
no-stop-handles P b from at (l ∷ links) =
    steps-append (StopIs P) (first_of (step.Handle (node_at b at) from) (slice_get l 0)) (handles b from (at + 1) links)
    (steps-first (StopIs P) (step.Handle (node_at b at) from) (slice_get l 0) (λ e. tt)) (no-stop-handles P b from (at + 1) links)

no-stop-all-handles : (P : ℕ → Type 0) (b at : ℕ) (rows : List (List (List Message))) → AreSteps (StopIs P) (all_handles b at rows)
no-stop-all-handles P b at [] = tt
no-stop-all-handles P b at (row ∷ rows) =
    steps-append (StopIs P) (handles b (node_at b at) 0 row) (all_handles b (at + 1) rows) (no-stop-handles P b (node_at b at) 0 row)
    (no-stop-all-handles P b (at + 1) rows)

no-stop-events : (P : ℕ → Type 0) (w : World) → AreSteps (StopIs P) (events w)
no-stop-events P w =
    steps-append (StopIs P) (posts (length w.bricks) 0 w.outboxes) (all_handles (length w.bricks) 0 w.links)
    (no-stop-posts P (length w.bricks) 0 w.outboxes) (no-stop-all-handles P (length w.bricks) 0 w.links)

pub picked-no-stop : (P : ℕ → Type 0) (w : Walk) → IfSome (picked_in w) (StopIs P)
picked-no-stop P w = steps-picked (StopIs P) w.picking (events w.trace.world) (no-stop-events P w.trace.world)

-- picked events
alone-event : (P : ℕ → Type 0) (w : Walk) (p : Option Step) → IfSome p (StopIs P) → IsAlone P w → IsAlone P (or_stays w (event_by w p))
alone-event P w None h g = g
alone-event P w (Some s) h g = alone-tries P w s h g

alone-after : (P : ℕ → Type 0) (w : Walk) → IsAlone P w → IsAlone P (after_event w)
alone-after P w g = alone-event P (picks_in w) (picked_in w) (picked-no-stop P w) (alone-picks P w g)

alone-on : (P : ℕ → Type 0) (b : Bool) (none some : Moved) → IsAlone P none.walk → IsAlone P some.walk → IsAlone P (on_event b none some).walk
alone-on P true none some n s = s
alone-on P false none some n s = n

alone-moves : (P : ℕ → Type 0) (n made : ℕ) (w : Walk) → IsAlone P w → IsAlone P (moves n made w).walk
alone-moves P zero made w g = subst (λ (m : Moved). IsAlone P m.walk) (sym (moves-over made w)) g
alone-moves P (suc n) made w g =
    let u = after_event w in
    subst (λ (m : Moved). IsAlone P m.walk) (sym (moves-suc n made w))
    (alone-on P (is_some (event w)) (record { walk = u; events = made }) (moves n (made + 1) u) (alone-after P w g)
    (alone-moves P n (made + 1) u (alone-after P w g)))

-- a call line
alone-if : (P : ℕ → Type 0) (w : Walk) (caller : CallerNo) (call : CallNo) (s : Step) (busy : Bool) → StopIs P s → IsAlone P w
    → IsAlone P (if busy then says w (report.Busy caller call) else played w s)
alone-if P w caller call s true h g = alone-says P w (report.Busy caller call) g
alone-if P w caller call s false h g = alone-played P w s h g

alone-call : (P : ℕ → Type 0) (w : Walk) (caller : CallerNo) (call : CallNo) (op : Op) (c : Option Caller) → IsAlone P w
    → IsAlone P (call_alone w caller call op c)
alone-call P w caller call op None g = g
alone-call P w caller call op (Some c) g = alone-if P w caller call (step.Input c.library (input.Call caller call op)) (is_some c.call) tt g

alone-calls : (P : ℕ → Type 0) (limit : ℕ) (w : Walk) (caller : CallerNo) (op : Op) → IsAlone P w → IsAlone P (line_done limit w (line.Call caller op))
alone-calls P limit w caller op g =
    let call : CallNo = record { 0 = slice_index_or w.counts caller 0 } in
    subst (λ (r : Option (List Step)). IsAlone P (call_with (counted w caller) caller call op r)) (sym g.rest)
    (alone-call P (counted w caller) caller call op (slice_get w.trace.callers caller) (alone-counted P w caller g))

-- a step that is tested before it is made
alone-stop : (P : ℕ → Type 0) (w : Walk) (node : NodeNo) (possible : Bool) → P node → IsAlone P w
    → IsAlone P (if possible then tries w (step.Stop node) else w)
alone-stop P w node true h g = alone-tries P w (step.Stop node) h g
alone-stop P w node false h g = g

alone-step : (P : ℕ → Type 0) (w : Walk) (s : Step) (refusal : ReportLine) (possible : Bool) → StopIs P s → IsAlone P w
    → IsAlone P (if possible then tries w s else says w refusal)
alone-step P w s refusal true h g = alone-tries P w s h g
alone-step P w s refusal false h g = alone-says P w refusal g

alone-quiet : (P : ℕ → Type 0) (m : Moved) (loud : Bool) → IsAlone P m.walk
    → IsAlone P (if loud then says m.walk report.Loud else says m.walk (report.Quiet m.events))
alone-quiet P m true g = alone-says P m.walk report.Loud g
alone-quiet P m false g = alone-says P m.walk (report.Quiet m.events) g

alone-line : (P : ℕ → Type 0) (limit : ℕ) (w : Walk) (l : Line) → StopSays P l → IsAlone P w → IsAlone P (line_done limit w l)
alone-line P limit w (line.Call caller op) h g = alone-calls P limit w caller op g
alone-line P limit w (line.Stop node) h g = alone-stop P w node (is_possible w.trace (step.Stop node)) h g
alone-line P limit w (line.Join brick name via) h g = alone-tries P w (step.Input brick (input.Order (order.Join brick name via))) tt g
alone-line P limit w (line.Split brick name) h g = alone-tries P w (step.Input brick (input.Order (order.Split brick name))) tt g
alone-line P limit w (line.Pick picker) h g = record { rest = g.rest; once = g.once; stops = g.stops }
alone-line P limit w (line.Events n) h g = alone-says P (moves n 0 w).walk (report.Events (moves n 0 w).events) (alone-moves P n 0 w g)
alone-line P limit w line.Quiet h g = alone-quiet P (moves limit 0 w) _ (alone-moves P limit 0 w g)
alone-line P limit w (line.Post node) h g = alone-step P w (step.Post node) report.NoPost (is_possible w.trace (step.Post node)) tt g
alone-line P limit w (line.Take node from) h g = alone-step P w (step.Handle node from) report.NoTake (is_possible w.trace (step.Handle node from)) tt g
alone-line P limit w (line.Show brick) h g = record { rest = g.rest; once = g.once; stops = g.stops }
alone-line P limit w line.Nothing h g = g

pub alone-lines : (P : ℕ → Type 0) (limit : ℕ) (w : Walk) (ls : List Line) → AllByRecursion (StopSays P) ls → IsAlone P w → IsAlone P (lines_done limit w ls)
alone-lines P limit w [] h g = g
alone-lines P limit w (l ∷ ls) h g = alone-lines P limit (line_done limit w l) ls h.1 (alone-line P limit w l h.0 g)

pub alone-first : (P : ℕ → Type 0) (script : ScriptOf) → IsAlone P (first_walk script None)
alone-first P script = record { rest = refl; once = once-start script.opening; stops = tt }

-- the nodes that a script's run stops are those that its lines stop
pub stops-said : (P : ℕ → Type 0) (limit : ℕ) (script : ScriptOf) → AllByRecursion (StopSays P) script.lines
    → AllByRecursion (StopIs P) (lines_done limit (first_walk script None) script.lines).steps
stops-said P limit script h = (alone-lines P limit (first_walk script None) script.lines h (alone-first P script)).stops

-- of lines that say nothing of it
pub no-claim : (ls : List Line) → AllByRecursion (StopSays (λ node. Unit {0})) ls
no-claim [] = tt
no-claim (l ∷ ls) = (one l, no-claim ls)
  where
    one : (x : Line) → StopSays (λ node. Unit {0}) x
    one (line.Stop node) = tt
    one other = tt
