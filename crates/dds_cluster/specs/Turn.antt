-- What a step does to the cluster.
use Rattle.std.specs.Prelude.{ℕ, ◌-◌, ◌+◌, Bool, true, List, [], ◌∷◌, ◌++◌, Option, Some, None, length, slice_set}
use Rattle.dds_base.specs.Number.{Txn}
use Rattle.dds_base.specs.declared.number.CallerNo.{CallerNo}
use Rattle.dds_base.specs.declared.number.CallNo.{CallNo}
use Rattle.dds_base.specs.declared.number.NodeNo.{NodeNo}
use Rattle.dds_base.specs.declared.op.Op.{Op}
use Rattle.dds_base.specs.declared.op.Op.TheVariants as op
use Rattle.dds_base.specs.declared.op.Order.{Order}
use Rattle.dds_base.specs.declared.pending.Pending.{Pending}
use Rattle.dds_core.specs.Brick.{brick_turn, brick_input}
use Rattle.dds_core.specs.LibraryTurn.{library_turn, library_input}
use Rattle.dds_history.specs.Map.{found, reply_with}
use Rattle.dds_letters.specs.declared.letter.Letter.{Letter}
use Rattle.dds_letters.specs.declared.letter.Letter.TheVariants as letter
use Rattle.dds_states.specs.Turn.{BrickTurn, LibraryTurn, to_each, without}
use Rattle.dds_states.specs.declared.brick_state.BrickState.{BrickState}
use Rattle.dds_states.specs.declared.library_state.LibraryState.{LibraryState}
use Rattle.dds_states.specs.declared.turn.Point.{Point}
use Rattle.dds_states.specs.declared.turn.Point.TheVariants.{Read, Applied}
use Rattle.dds_states.specs.declared.turn.Replied.{Replied}
use Rattle.dds_cluster.specs.World.{World, place, outbox, set_outbox, link, set_link, send, brick_at, library_at, all_nodes, emptied}
use Rattle.dds_cluster.specs.declared.step.Input.{Input}
use Rattle.dds_cluster.specs.declared.step.Input.TheVariants as input
use Rattle.dds_cluster.specs.declared.step.Message.{Message}
use Rattle.dds_cluster.specs.declared.step.Step.{Step}
use Rattle.dds_cluster.specs.declared.step.Step.TheVariants as step
use Rattle.dds_cluster.specs.declared.trace.Made.{Made}

-- what a step does: the cluster after it, its points, and its answers
pub record WorldTurn : Type 0 where
  pub world : World
  pub made : List Made
  pub replies : List Replied

-- a step that does nothing
abbrev pub no_step : World → WorldTurn
no_step w = record { world = w; made = []; replies = [] }

-- a read is of the get that the brick handled
abbrev pub read_by : ℕ → Txn → Option (List ℕ) → Letter → List Made
read_by at txn value (letter.Get asked caller call key name stamp) =
    record { place = at; txn = txn; entry = record { caller = caller; call = call; op = op.Get key; reply = found value } } ∷ []
read_by at txn value (letter.Prepare asked caller call below name stamp list op) = []
read_by at txn value (letter.Commit asked) = []
read_by at txn value (letter.Abort asked) = []
read_by at txn value (letter.Push leaf) = []
read_by at txn value (letter.MapAsk asked caller call key) = []
read_by at txn value (letter.Got asked answer) = []
read_by at txn value (letter.Vote asked vote) = []
read_by at txn value (letter.Applied asked was) = []
read_by at txn value (letter.Aborted asked) = []
read_by at txn value (letter.MapTell asked leaf) = []
read_by at txn value (letter.Help asked list) = []
read_by at txn value (letter.Query asked list) = []
read_by at txn value (letter.Status asked status) = []
read_by at txn value (letter.Outcome asked commit) = []
read_by at txn value (letter.Lease number what) = []
read_by at txn value (letter.Granted number leaf) = []
read_by at txn value (letter.LeaseRefused number refusal) = []
read_by at txn value (letter.Release number name) = []
read_by at txn value (letter.CopyAsk number name after) = []
read_by at txn value (letter.CopyPart number last pairs) = []
read_by at txn value (letter.Install number leaf) = []
read_by at txn value (letter.Installed number name) = []
read_by at txn value letter.Notice = []

-- an update is of the transaction that was pending
abbrev pub update_by : ℕ → Bool → Pending → Made
update_by at was p =
    record { place = at; txn = p.txn; entry = record { caller = p.caller; call = p.call; op = p.op; reply = reply_with p.op was } }

-- the entry that a point may become, where the brick handled this letter
abbrev pub point_made : ℕ → Letter → Point → List Made
point_made at l (Read txn value) = read_by at txn value l
point_made at l (Applied p was) = update_by at was p ∷ []

abbrev pub points_made : ℕ → Letter → List Point → List Made
points_made at l [] = []
points_made at l (p ∷ ps) = point_made at l p ++ points_made at l ps

-- a brick's turn in the cluster
abbrev pub brick_does : World → ℕ → BrickTurn → List Made → WorldTurn
brick_does w node t made =
    record {
      world = send (record w { bricks = slice_set w.bricks node t.state }) node t.out.letters;
      made = made;
      replies = t.out.replies;
    }

-- a library's turn in the cluster
abbrev pub library_does : World → ℕ → LibraryTurn → WorldTurn
library_does w node t =
    record {
      world = send (record w { libraries = slice_set w.libraries (node - 64) t.state }) (length w.bricks + (node - 64)) t.out.letters;
      made = [];
      replies = t.out.replies;
    }

abbrev pub brick_handles : World → ℕ → NodeNo → NodeNo → Letter → BrickState → WorldTurn
brick_handles w at node from l s =
    brick_does w node (brick_turn s from l) (points_made at l (brick_turn s from l).out.points)

abbrev pub at_library : World → NodeNo → NodeNo → Letter → Option LibraryState → WorldTurn
at_library w node from l None = no_step w
at_library w node from l (Some s) = library_does w node (library_turn s from l)

abbrev pub at_node : World → ℕ → NodeNo → NodeNo → Letter → Option BrickState → WorldTurn
at_node w at node from l None = at_library w node from l (library_at w node)
at_node w at node from l (Some s) = brick_handles w at node from l s

-- a node does what its tables say of a letter
abbrev pub node_does : World → ℕ → NodeNo → NodeNo → Letter → WorldTurn
node_does w at node from l = at_node w at node from l (brick_at w node)

-- Handle: the first letter leaves the link, and the node does what its tables say of it
abbrev pub handle : World → ℕ → NodeNo → NodeNo → List Message → WorldTurn
handle w at node from [] = no_step w
handle w at node from (m ∷ ms) = node_does (set_link w from node ms) at node from m.letter

-- Post: the first letter leaves the outbox for the end of its link
abbrev pub post : World → NodeNo → List Message → WorldTurn
post w node [] = no_step w
post w node (m ∷ ms) = no_step (set_link (set_outbox w node ms) node m.to (link w node m.to ++ m ∷ []))

-- Input of a call: the library opens it and begins
abbrev pub call_at : World → NodeNo → CallerNo → CallNo → Op → Option LibraryState → WorldTurn
call_at w node caller call o None = no_step w
call_at w node caller call o (Some s) = library_does w node (library_input s caller call o)

-- Input of an order
abbrev pub order_at : World → NodeNo → Order → Option BrickState → WorldTurn
order_at w node o None = no_step w
order_at w node o (Some s) = brick_does w node (brick_input s o) []

abbrev pub input_at : World → NodeNo → Input → WorldTurn
input_at w node (input.Call caller call o) = call_at w node caller call o (library_at w node)
input_at w node (input.Order o) = order_at w node o (brick_at w node)

-- the other nodes are told that a node has stopped: its outbox holds the notices alone
abbrev pub tells : World → NodeNo → World
tells w node = send (set_outbox w node []) (place w node) (to_each (without (all_nodes w) node) letter.Notice)

abbrev pub stop_library : World → NodeNo → Option LibraryState → World
stop_library w node None = w
stop_library w node (Some s) =
    tells (record w { libraries = slice_set w.libraries (node - 64) (record s { stopped = true }) }) node

abbrev pub stop_at : World → NodeNo → Option BrickState → World
stop_at w node None = stop_library w node (library_at w node)
stop_at w node (Some s) = tells (record w { bricks = slice_set w.bricks node (emptied s.number) }) node

-- Stop: a brick is emptied, a library keeps what it has, and a notice for each other node, in their order, takes the
-- place of what the outbox held
abbrev pub stop : World → NodeNo → WorldTurn
stop w node = no_step (stop_at w node (brick_at w node))

-- what the step at a place of the journal does
abbrev pub turn : ℕ → World → Step → WorldTurn
turn at w (step.Input node i) = input_at w node i
turn at w (step.Handle node from) = handle w at node from (link w from node)
turn at w (step.Post node) = post w node (outbox w node)
turn at w (step.Stop node) = stop w node
