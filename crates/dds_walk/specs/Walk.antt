-- The steps that a script determines, and its transcript over a journal.
pub use Rattle.dds_cluster.specs.Lists.{is_asked}
use Rattle.std.specs.Prelude.{ℕ, ◌+◌, ◌==◌, Bool, true, false, not, ◌&&◌, ◌||◌, List, [], ◌∷◌, ◌++◌, Option, Some, None, drop, is_some, length, map}
use Rattle.std.specs.Prelude.{replicate, slice_get, slice_index_or, slice_set, if◌then◌else◌, zero, suc}
use Rattle.std.specs.List.{list_any, flat_map}
use Rattle.dds_base.specs.Name.{Name, same_name}
use Rattle.dds_base.specs.declared.leaf.Leaf.{Leaf}
use Rattle.dds_base.specs.declared.number.CallNo.{CallNo}
use Rattle.dds_base.specs.declared.number.CallerNo.{CallerNo}
use Rattle.dds_base.specs.declared.number.NodeNo.{NodeNo}
use Rattle.dds_base.specs.declared.op.Op.{Op}
use Rattle.dds_base.specs.declared.op.Order.{Order}
use Rattle.dds_base.specs.declared.op.Order.TheVariants as order
use Rattle.dds_brick_rows.specs.Refusal.{pairs_under}
use Rattle.dds_history.specs.Map.{Map}
use Rattle.dds_script.specs.Opening.{ScriptOf}
use Rattle.dds_script.specs.declared.line.Line.{Line}
use Rattle.dds_script.specs.declared.line.Line.TheVariants as line
use Rattle.dds_transcript.specs.declared.report_line.OrderKind.{OrderKind}
use Rattle.dds_transcript.specs.declared.report_line.OrderKind.TheVariants as kind
use Rattle.dds_transcript.specs.declared.report_line.ReportLine.{ReportLine}
use Rattle.dds_transcript.specs.declared.report_line.ReportLine.TheVariants as report
use Rattle.dds_states.specs.declared.brick_state.BrickState.{BrickState}
use Rattle.dds_states.specs.declared.turn.Replied.{Replied}
use Rattle.dds_states.specs.declared.turn.Replied.TheVariants as replied
use Rattle.dds_trie.specs.Trie.{leaves_of}
use Rattle.dds_cluster.specs.World.{brick_at}
use Rattle.dds_cluster.specs.Trace.{is_possible, next, replies_in, start}
use Rattle.dds_world.specs.Stands.{history}
use Rattle.dds_walk.specs.Picking.{picked, picks, begun}
use Rattle.dds_cluster.specs.declared.step.Input.{Input}
use Rattle.dds_cluster.specs.declared.step.Input.TheVariants as input
use Rattle.dds_cluster.specs.declared.step.Step.{Step}
use Rattle.dds_cluster.specs.declared.step.Step.TheVariants as step
use Rattle.dds_cluster.specs.declared.step.TheConstants.{EVENTS}
use Rattle.dds_cluster.specs.declared.trace.Caller.{Caller}
use Rattle.dds_cluster.specs.declared.trace.Trace.{Trace}
use Rattle.dds_walk.specs.declared.picking.Picking.TheVariants.{Fifo}
use Rattle.dds_walk.specs.declared.walk.Lead.{Lead}
use Rattle.dds_walk.specs.declared.walk.Lead.TheVariants.{Astray, Next, Behind}
use Rattle.dds_walk.specs.declared.walk.Walk.{Walk}

-- the kind of an order
abbrev pub kind_of : Order → OrderKind
kind_of (order.Join brick name via) = kind.Join
kind_of (order.Split brick name) = kind.Split

-- the orders open at bricks after a step: its own where it wasn't answered at once, and none where one was answered
abbrev pub is_order_reply : Replied → Bool
is_order_reply (replied.Call read caller call reply) = false
is_order_reply (replied.Order reply) = true

abbrev pub orders_in : List (Option OrderKind) → ℕ → Bool → Input → List (Option OrderKind)
orders_in orders node answered (input.Call caller call op) = orders
orders_in orders node answered (input.Order o) = if answered then orders else slice_set orders node (Some (kind_of o))

abbrev pub orders_by : List (Option OrderKind) → Bool → Step → List (Option OrderKind)
orders_by orders answered (step.Input node i) = orders_in orders node answered i
orders_by orders answered (step.Handle node from) = if answered then slice_set orders node None else orders
orders_by orders answered (step.Post node) = orders
orders_by orders answered (step.Stop node) = orders

abbrev pub orders_after : Walk → Step → List (Option OrderKind)
orders_after w s =
    if is_possible w.trace s then orders_by w.orders (list_any is_order_reply (replies_in w.trace s)) s else w.orders

-- the same, without asking whether a step that is no input is possible
abbrev pub may_note : Trace → Step → Bool
may_note t (step.Input node i) = is_possible t (step.Input node i)
may_note t (step.Handle node from) = false
may_note t (step.Post node) = false
may_note t (step.Stop node) = false

abbrev pub noted : List (Option OrderKind) → Bool → Bool → Step → List (Option OrderKind)
noted orders possible answered (step.Input node i) = if possible then orders_in orders node answered i else orders
noted orders possible answered (step.Handle node from) = if answered then slice_set orders node None else orders
noted orders possible answered (step.Post node) = orders
noted orders possible answered (step.Stop node) = orders

-- the order that a step may answer: its own, or the one open at its brick
abbrev pub kind_in : Input → Option OrderKind
kind_in (input.Call caller call op) = None
kind_in (input.Order o) = Some (kind_of o)

abbrev pub kind_at : List (Option OrderKind) → Step → Option OrderKind
kind_at orders (step.Input node i) = kind_in i
kind_at orders (step.Handle node from) = slice_index_or orders node None
kind_at orders (step.Post node) = None
kind_at orders (step.Stop node) = None

abbrev pub node_of : Step → NodeNo
node_of (step.Input node i) = node
node_of (step.Handle node from) = node
node_of (step.Post node) = node
node_of (step.Stop node) = node

-- the line of an answer
abbrev pub kind_or_join : Option OrderKind → OrderKind
kind_or_join None = kind.Join
kind_or_join (Some k) = k

abbrev pub reply_line : Option OrderKind → NodeNo → Replied → ReportLine
reply_line k node (replied.Call read caller call reply) = report.Answer caller call reply
reply_line k node (replied.Order reply) = report.OrderAnswer (kind_or_join k) node reply

abbrev pub reply_lines : Walk → Step → List ReportLine
reply_lines w s = map (reply_line (kind_at w.orders s) (node_of s)) (replies_in w.trace s)

-- a step is made, and its answers are printed
abbrev pub played : Walk → Step → Walk
played w s =
    record w { trace = next w.trace s; orders = orders_after w s; steps = w.steps ++ s ∷ []; lines = w.lines ++ reply_lines w s }

-- a line is printed
abbrev pub says : Walk → ReportLine → Walk
says w l = record w { lines = w.lines ++ l ∷ [] }

-- what is left of the journal that is followed
abbrev pub rest_of : Option (List Step) → List Step
rest_of None = []
rest_of (Some rest) = rest

-- without its first step
abbrev pub left_of : Option (List Step) → Option (List Step)
left_of None = None
left_of (Some rest) = Some (drop 1 rest)

abbrev pub left : Walk → Walk
left w = record w { rest = left_of w.rest }

-- both orders are the same
abbrev pub same_order : Order → Order → Bool
same_order (order.Join a name via) (order.Join b other way) = a == b && (same_name name other && via == way)
same_order (order.Join a name via) (order.Split b other) = false
same_order (order.Split a name) (order.Join b other way) = false
same_order (order.Split a name) (order.Split b other) = a == b && same_name name other

-- both are Inputs of the same call, or of the same order
abbrev pub same_input : Input → Input → Bool
same_input (input.Call a m op) (input.Call b n other) = a == b && m.0 == n.0
same_input (input.Call a m op) (input.Order o) = false
same_input (input.Order o) (input.Call b n other) = false
same_input (input.Order o) (input.Order p) = same_order o p

-- both steps are the same
abbrev pub same_step : Step → Step → Bool
same_step (step.Input a i) (step.Input b j) = a == b && same_input i j
same_step (step.Handle a from) (step.Handle b source) = a == b && from == source
same_step (step.Post a) (step.Post b) = a == b
same_step (step.Stop a) (step.Stop b) = a == b
same_step other another = false

-- the step is a stop of the node at which the other one is an Input or a Handle
abbrev pub is_stop_before : Step → Step → Bool
is_stop_before (step.Stop a) (step.Input b i) = a == b
is_stop_before (step.Stop a) (step.Handle b from) = a == b
is_stop_before other another = false

-- how the journal that is followed has a step: next, or behind a stop of the step's own node, or not
abbrev pub lead_behind : Step → List Step → Step → Lead
lead_behind x [] s = Astray
lead_behind x (y ∷ ys) s = if is_stop_before x s && same_step y s then Behind else Astray

abbrev pub lead : List Step → Step → Lead
lead [] s = Astray
lead (x ∷ xs) s = if same_step x s then Next else lead_behind x xs s

abbrev pub lead_in : Option (List Step) → Step → Lead
lead_in None s = Next
lead_in (Some rest) s = lead rest s

abbrev pub plays_some : Walk → Option Step → Walk
plays_some w None = w
plays_some w (Some s) = played w s

-- the step that the script determines is made where the journal that is followed has it, with the stop before it; where
-- no journal is followed it is made at once
abbrev pub makes_by : Walk → Step → Lead → Option Walk
makes_by w s Astray = None
makes_by w s Next = Some (played (left w) s)
makes_by w s Behind = Some (played (plays_some (left (left w)) (slice_get (rest_of w.rest) 0)) s)

abbrev pub makes : Walk → Step → Option Walk
makes w s = makes_by w s (lead_in w.rest s)

-- the walk after a step that may be made
abbrev pub or_stays : Walk → Option Walk → Walk
or_stays w None = w
or_stays w (Some u) = u

abbrev pub tries : Walk → Step → Walk
tries w s = or_stays w (makes w s)

-- the step is the Input of a call
abbrev pub is_input_of : ℕ → CallNo → Input → Bool
is_input_of caller call (input.Call c n op) = c == caller && n.0 == call.0
is_input_of caller call (input.Order o) = false

abbrev pub makes_call : ℕ → CallNo → Step → Bool
makes_call caller call (step.Input node i) = is_input_of caller call i
makes_call caller call (step.Handle node from) = false
makes_call caller call (step.Post node) = false
makes_call caller call (step.Stop node) = false

abbrev pub makes_call_at : ℕ → CallNo → Option Step → Bool
makes_call_at caller call None = false
makes_call_at caller call (Some s) = makes_call caller call s

-- the journal's steps up to the Input of a call, this one included
abbrev pub plays_to : ℕ → CallNo → List Step → Walk → Walk
plays_to caller call [] w = record w { rest = Some [] }
plays_to caller call (x ∷ xs) w =
    if makes_call caller call x then record (played w x) { rest = Some xs } else plays_to caller call xs (played w x)

-- a call line: its Input; where the caller's former call is open, none. Along a journal it is there that the Input is
-- looked for: it may have been made with an earlier line's
abbrev pub call_along : Walk → CallerNo → CallNo → List Step → Walk
call_along w caller call rest =
    if is_asked w.trace.asked caller call then w
    else (if list_any (makes_call caller call) rest then plays_to caller call rest (record w { rest = None }) else says w (report.Busy caller call))

abbrev pub call_alone : Walk → CallerNo → CallNo → Op → Option Caller → Walk
call_alone w caller call op None = w
call_alone w caller call op (Some c) =
    if is_some c.call then says w (report.Busy caller call) else played w (step.Input c.library (input.Call caller call op))

abbrev pub call_with : Walk → CallerNo → CallNo → Op → Option (List Step) → Walk
call_with w caller call op None = call_alone w caller call op (slice_get w.trace.callers caller)
call_with w caller call op (Some rest) = call_along w caller call rest

abbrev pub counted : Walk → ℕ → Walk
counted w caller = record w { counts = slice_set w.counts caller (slice_index_or w.counts caller 0 + 1) }

abbrev pub call_line : Walk → CallerNo → Op → Walk
call_line w caller op =
    call_with (counted w caller) caller (record { 0 = slice_index_or w.counts caller 0 }) op w.rest

-- a stop line: nothing where the node has stopped already
abbrev pub stop_line : Walk → NodeNo → Walk
stop_line w node = if is_possible w.trace (step.Stop node) then tries w (step.Stop node) else w

-- a `post` or `take` line, which says where its step isn't possible
abbrev pub step_line : Walk → Step → ReportLine → Walk
step_line w s refusal = if is_possible w.trace s then tries w s else says w refusal

-- a picked event, where one is possible; the picker has then picked
abbrev pub picks_in : Walk → Walk
picks_in w = record w { picking = picks w.picking w.trace.world }

abbrev pub event_by : Walk → Option Step → Option Walk
event_by w None = None
event_by w (Some s) = makes w s

abbrev pub picked_in : Walk → Option Step
picked_in w = picked w.picking w.trace.world

abbrev pub event : Walk → Option Walk
event w = event_by (picks_in w) (picked_in w)

-- the walk after a picked event that may be made
abbrev pub after_event : Walk → Walk
after_event w = or_stays (picks_in w) (event w)

-- picked events until none is possible, at most so many, and how many they were
pub record Moved : Type 0 where
  pub walk : Walk
  pub events : ℕ

abbrev pub on_event : Bool → Moved → Moved → Moved
on_event false none some = none
on_event true none some = some

unfoldable pub moves : ℕ → ℕ → Walk → Moved
moves zero made w = record { walk = w; events = made }
moves (suc n) made w =
    on_event (is_some (event w)) (record { walk = after_event w; events = made }) (moves n (made + 1) (after_event w))

abbrev pub events_said : Moved → Walk
events_said m = says m.walk (report.Events m.events)

abbrev pub has_event : Walk → Bool
has_event w = is_some (picked Fifo w.trace.world)

-- `quiet` says how many events it made, or that one is still possible after so many
abbrev pub quiet_said : ℕ → Moved → Walk
quiet_said limit m =
    if m.events == limit && has_event m.walk then says m.walk report.Loud else says m.walk (report.Quiet m.events)

-- a brick's leaves with their pairs, by bits and then by depth
abbrev pub leaf_line : Map → NodeNo → Leaf → ReportLine
leaf_line pairs brick leaf = report.BrickLeaf brick leaf.name leaf.epoch (pairs_under pairs leaf.name) leaf.list

abbrev pub leaf_lines : Map → NodeNo → List Leaf → List ReportLine
leaf_lines pairs brick [] = []
leaf_lines pairs brick (leaf ∷ leaves) = leaf_line pairs brick leaf ∷ leaf_lines pairs brick leaves

abbrev pub show_lines : NodeNo → Option BrickState → List ReportLine
show_lines brick None = []
show_lines brick (Some s) =
    if s.stopped then report.BrickStopped brick ∷ [] else report.BrickUp brick (length s.locks.pending) ∷ leaf_lines s.pairs brick (leaves_of s.leaves)

abbrev pub show_line : Walk → NodeNo → Walk
show_line w brick = record w { lines = w.lines ++ show_lines brick (brick_at w.trace.world brick) }

-- what each line of a script does
abbrev pub line_done : ℕ → Walk → Line → Walk
line_done limit w (line.Call caller op) = call_line w caller op
line_done limit w (line.Stop node) = stop_line w node
line_done limit w (line.Join brick name via) = tries w (step.Input brick (input.Order (order.Join brick name via)))
line_done limit w (line.Split brick name) = tries w (step.Input brick (input.Order (order.Split brick name)))
line_done limit w (line.Pick picker) = record w { picking = begun picker }
line_done limit w (line.Events n) = events_said (moves n 0 w)
line_done limit w line.Quiet = quiet_said limit (moves limit 0 w)
line_done limit w (line.Post node) = step_line w (step.Post node) report.NoPost
line_done limit w (line.Take node from) = step_line w (step.Handle node from) report.NoTake
line_done limit w (line.Show brick) = show_line w brick
line_done limit w line.Nothing = w

abbrev pub lines_done : ℕ → Walk → List Line → Walk
lines_done limit w [] = w
lines_done limit w (l ∷ ls) = lines_done limit (line_done limit w l) ls

-- before the first line, along a journal or alone
abbrev pub first_walk : ScriptOf → Option (List Step) → Walk
first_walk script rest =
    record {
      trace = start script.opening;
      orders = replicate script.opening.bricks None;
      counts = replicate script.opening.callers 0;
      picking = Fifo;
      rest = rest;
      steps = [];
      lines = [];
    }

-- the journal that a script determines
abbrev pub steps : ScriptOf → List Step
steps script = (lines_done EVENTS (first_walk script None) script.lines).steps

-- the steps that are left of the journal are made at the end
abbrev pub plays_all : List Step → Walk → Walk
plays_all [] w = w
plays_all (x ∷ xs) w = plays_all xs (played w x)

abbrev pub plays_rest : Walk → Walk
plays_rest w = plays_all (rest_of w.rest) (record w { rest = None })

-- the calls that are open, by caller
abbrev pub open_call_of : ℕ → Option CallNo → List ReportLine
open_call_of caller None = []
open_call_of caller (Some call) = report.OpenCall caller call ∷ []

abbrev pub open_calls : ℕ → List Caller → List ReportLine
open_calls n [] = []
open_calls n (c ∷ cs) = open_call_of n c.call ++ open_calls (n + 1) cs

-- the orders that aren't answered, by brick
abbrev pub open_order_of : ℕ → Option OrderKind → List ReportLine
open_order_of brick None = []
open_order_of brick (Some k) = report.OpenOrder k brick ∷ []

abbrev pub open_orders : ℕ → List (Option OrderKind) → List ReportLine
open_orders n [] = []
open_orders n (o ∷ os) = open_order_of n o ++ open_orders (n + 1) os

-- the lines at the end: each open call and order, the number of entries, and the end
abbrev pub last_lines : Walk → List ReportLine
last_lines w =
    open_calls 0 w.trace.callers ++ (open_orders 0 w.orders ++ (report.History (length (history w.trace)) ∷ report.End ∷ []))

abbrev pub ended : Walk → List ReportLine
ended w = w.lines ++ last_lines w

-- the lines of a script's transcript over a journal
abbrev pub transcript : ScriptOf → List Step → List ReportLine
transcript script journal = ended (plays_rest (lines_done EVENTS (first_walk script (Some journal)) script.lines))
