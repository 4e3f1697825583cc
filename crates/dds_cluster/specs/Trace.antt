-- When a step is possible, and what is kept of a run.
pub use Rattle.dds_cluster.specs.Lists.{is_applied, is_read_of, is_answer, is_asked}
use Rattle.std.specs.Prelude.{ℕ, ◌+◌, ◌%◌, Bool, true, false, not, ◌&&◌, ◌==◌, List, [], ◌∷◌, ◌++◌, Option, Some, None, is_none, is_some, length, nat_lt}
use Rattle.std.specs.Prelude.{nat_le, slice_get, slice_set, if◌then◌else◌, zero, suc}
use Rattle.dds_base.specs.Op.{is_get}
use Rattle.dds_base.specs.declared.number.CallNo.{CallNo}
use Rattle.dds_base.specs.declared.op.Order.{Order}
use Rattle.dds_base.specs.declared.op.Order.TheVariants as order
use Rattle.dds_script.specs.Opening.{OpeningOf}
use Rattle.dds_states.specs.declared.brick_state.BrickState.{BrickState}
use Rattle.dds_states.specs.declared.library_state.LibraryState.{LibraryState}
use Rattle.dds_states.specs.declared.turn.Replied.{Replied}
use Rattle.dds_states.specs.declared.turn.Replied.TheVariants as replied
use Rattle.dds_cluster.specs.World.{World, outbox, link, is_node, brick_at, library_at, opening_world}
use Rattle.dds_cluster.specs.Turn.{WorldTurn, turn}
use Rattle.dds_cluster.specs.declared.step.Input.{Input}
use Rattle.dds_cluster.specs.declared.step.Input.TheVariants as input
use Rattle.dds_cluster.specs.declared.step.Message.{Message}
use Rattle.dds_cluster.specs.declared.step.Step.{Step}
use Rattle.dds_cluster.specs.declared.step.Step.TheVariants as step
use Rattle.dds_cluster.specs.declared.trace.Asked.{Asked}
use Rattle.dds_cluster.specs.declared.trace.Caller.{Caller}
use Rattle.dds_cluster.specs.declared.trace.Made.{Made}
use Rattle.dds_cluster.specs.declared.trace.Told.{Told}
use Rattle.dds_cluster.specs.declared.trace.Trace.{Trace}

-- there is a first letter
abbrev pub has_first : List Message → Bool
has_first ms = is_some (slice_get ms 0)

abbrev pub is_live_library : Option LibraryState → Bool
is_live_library None = false
is_live_library (Some s) = not s.stopped

abbrev pub is_live_brick : World → ℕ → Option BrickState → Bool
is_live_brick w node None = is_live_library (library_at w node)
is_live_brick w node (Some s) = not s.stopped

-- the node is one of the cluster and hasn't stopped
abbrev pub is_live : World → ℕ → Bool
is_live w node = is_live_brick w node (brick_at w node)

-- a call may come to the caller's library, while no call of the caller is open, with a number above those of the
-- caller's former calls
abbrev pub may_call : Option Caller → ℕ → CallNo → Bool
may_call None node call = false
may_call (Some c) node call = c.library == node && (is_none c.call && nat_le c.least call.0)

-- an order may come to the brick that it names, a join's way in being a brick of the cluster
abbrev pub may_order : World → ℕ → Order → Bool
may_order w node (order.Join brick name via) =
    brick == node && (nat_lt node (length w.bricks) && nat_lt via (length w.bricks))
may_order w node (order.Split brick name) = brick == node && nat_lt node (length w.bricks)

abbrev pub may_input : Trace → ℕ → Input → Bool
may_input t node (input.Call caller call op) = may_call (slice_get t.callers caller) node call
may_input t node (input.Order o) = may_order t.world node o

-- Handle is possible where the link isn't empty, Post where the outbox isn't
abbrev pub may_handle : World → ℕ → ℕ → Bool
may_handle w node from = is_node w node && (is_node w from && has_first (link w from node))

abbrev pub may_post : World → ℕ → Bool
may_post w node = is_node w node && has_first (outbox w node)

-- a step is possible; a Stop where the node is live
abbrev pub is_possible : Trace → Step → Bool
is_possible t (step.Input node i) = may_input t node i
is_possible t (step.Handle node from) = may_handle t.world node from
is_possible t (step.Post node) = may_post t.world node
is_possible t (step.Stop node) = is_live t.world node

-- the calls that a step makes
abbrev pub asked_in : ℕ → Input → List Asked
asked_in at (input.Call caller call op) = record { place = at; caller = caller; call = call; op = op } ∷ []
asked_in at (input.Order o) = []

abbrev pub asked_by : ℕ → Step → List Asked
asked_by at (step.Input node i) = asked_in at i
asked_by at (step.Handle node from) = []
asked_by at (step.Post node) = []
asked_by at (step.Stop node) = []

-- a caller with an open call, or with none
abbrev pub opens : List Caller → ℕ → CallNo → Option Caller → List Caller
opens cs caller call None = cs
opens cs caller call (Some c) = slice_set cs caller (record c { call = Some call; least = call.0 + 1 })

abbrev pub closes : List Caller → ℕ → Option Caller → List Caller
closes cs caller None = cs
closes cs caller (Some c) = slice_set cs caller (record c { call = None })

-- the callers after the call that a step makes
abbrev pub opened_in : List Caller → Input → List Caller
opened_in cs (input.Call caller call op) = opens cs caller call (slice_get cs caller)
opened_in cs (input.Order o) = cs

abbrev pub opened_by : List Caller → Step → List Caller
opened_by cs (step.Input node i) = opened_in cs i
opened_by cs (step.Handle node from) = cs
opened_by cs (step.Post node) = cs
opened_by cs (step.Stop node) = cs

-- the callers after the answers that a step gives
abbrev pub closed_by : List Caller → Replied → List Caller
closed_by cs (replied.Call read caller call reply) = closes cs caller (slice_get cs caller)
closed_by cs (replied.Order reply) = cs

abbrev pub all_closed : List Caller → List Replied → List Caller
all_closed cs [] = cs
all_closed cs (r ∷ rs) = all_closed (closed_by cs r) rs

abbrev pub told_by : ℕ → Replied → List Told
told_by at (replied.Call read caller call reply) =
    record { place = at; read = read; caller = caller; call = call; reply = reply } ∷ []
told_by at (replied.Order reply) = []

-- the calls that a step answers
abbrev pub told_at : ℕ → List Replied → List Told
told_at at [] = []
told_at at (r ∷ rs) = told_by at r ++ told_at at rs

-- a read is kept; of the applied points of an attempt the first is kept
abbrev pub kept : List Made → Made → List Made
kept made m = if not (is_get m.entry.op) && is_applied made m.txn then [] else m ∷ []

abbrev pub all_kept : List Made → List Made → List Made
all_kept made [] = []
all_kept made (m ∷ ms) = kept made m ++ all_kept (made ++ kept made m) ms

-- a run with one step more, which does this
abbrev pub adds : Trace → Step → WorldTurn → Trace
adds t s r =
    record {
      world = r.world;
      steps = t.steps + 1;
      callers = all_closed (opened_by t.callers s) r.replies;
      asked = t.asked ++ asked_by t.steps s;
      made = t.made ++ all_kept t.made r.made;
      told = t.told ++ told_at t.steps r.replies;
    }

-- a run with one step more; a step that isn't possible does nothing
abbrev pub next : Trace → Step → Trace
next t s = if is_possible t s then adds t s (turn t.steps t.world s) else record t { steps = t.steps + 1 }

-- the answers that a step gives
abbrev pub replies_in : Trace → Step → List Replied
replies_in t s = if is_possible t s then (turn t.steps t.world s).replies else []

-- a run with a list of steps more
abbrev pub trace_from : Trace → List Step → Trace
trace_from t [] = t
trace_from t (s ∷ steps) = trace_from (next t s) steps

-- caller c uses library c modulo the number of libraries
abbrev pub new_callers : ℕ → ℕ → ℕ → List Caller
new_callers libraries zero n = []
new_callers libraries (suc k) n =
    record { library = 64 + n % libraries; call = None; least = 0 } ∷ new_callers libraries k (n + 1)

-- the run before its first step
abbrev pub start : OpeningOf → Trace
start o =
    record { world = opening_world o; steps = 0; callers = new_callers o.libraries o.callers 0; asked = []; made = []; told = [] }

-- the run that a list of steps makes
abbrev pub run_of : OpeningOf → List Step → Trace
run_of o steps = trace_from (start o) steps

abbrev pub is_run_from : Trace → List Step → Bool
is_run_from t [] = true
is_run_from t (s ∷ steps) = is_possible t s && is_run_from (next t s) steps

-- each step of a journal is possible where it stands
abbrev pub is_run : OpeningOf → List Step → Bool
is_run o steps = is_run_from (start o) steps
