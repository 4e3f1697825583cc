-- The lists of a world keep their lengths along a run.
use Rattle.std.proofs.Common.{◌≡◌, ℕ, ◌+◌, ◌-◌, Bool, true, false, List, [], ◌∷◌, Option, Some, None, length, zero, suc, ◌∙◌}
use Rattle.std.proofs.lemmas.List.{length-set, length-replicate}
use Rattle.std.specs.Prelude.{replicate, slice_index_or, slice_set, if◌then◌else◌}
use Rattle.dds_base.specs.declared.number.CallNo.{CallNo}
use Rattle.dds_base.specs.declared.number.CallerNo.{CallerNo}
use Rattle.dds_base.specs.declared.number.NodeNo.{NodeNo}
use Rattle.dds_base.specs.declared.op.Op.{Op}
use Rattle.dds_base.specs.declared.op.Order.{Order}
use Rattle.dds_core.specs.Brick.{brick_input, brick_turn}
use Rattle.dds_core.specs.LibraryTurn.{library_input, library_turn}
use Rattle.dds_letters.specs.declared.letter.Letter.{Letter}
use Rattle.dds_script.specs.Opening.{OpeningOf}
use Rattle.dds_states.specs.Turn.{BrickTurn, LibraryTurn}
use Rattle.dds_states.specs.declared.brick_state.BrickState.{BrickState}
use Rattle.dds_states.specs.declared.library_state.LibraryState.{LibraryState}
use Rattle.dds_cluster.proofs.Openings.{length-bricks, length-libraries}
use Rattle.dds_cluster.specs.Trace.{adds, is_possible, next, start}
use Rattle.dds_cluster.specs.Turn.{at_library, at_node, brick_does, call_at, handle, input_at, library_does, order_at, points_made, post}
use Rattle.dds_cluster.specs.Turn.{stop_at, stop_library, tells, turn}
use Rattle.dds_cluster.specs.World.{World, brick_at, emptied, library_at, link, outbox, place, send, set_link, set_outbox}
use Rattle.dds_cluster.specs.declared.step.Input.{Input}
use Rattle.dds_cluster.specs.declared.step.Input.TheVariants as input
use Rattle.dds_cluster.specs.declared.step.Message.{Message}
use Rattle.dds_cluster.specs.declared.step.Step.{Step}
use Rattle.dds_cluster.specs.declared.step.Step.TheVariants as step
use Rattle.dds_cluster.specs.declared.trace.Made.{Made}
use Rattle.dds_cluster.specs.declared.trace.Trace.{Trace}

-- each row has so many links
abbrev pub AreRows : ℕ → List (List (List Message)) → Type 0
AreRows n [] = Unit {0}
AreRows n (row ∷ rows) = (length row ≡ n) × AreRows n rows

-- a world of so many bricks and libraries has an outbox for each node, and a link for each two of them
pub record IsSized (b l : ℕ) (w : World) : Type 0 where
  pub bricks : length w.bricks ≡ b
  pub libraries : length w.libraries ≡ l
  pub outboxes : length w.outboxes ≡ b + l
  pub links : length w.links ≡ b + l
  pub rows : AreRows (b + l) w.links

rows-set : (n : ℕ) (rows : List (List (List Message))) (i j : ℕ) (ms : List Message) → AreRows n rows →
    AreRows n (slice_set rows i (slice_set (slice_index_or rows i []) j ms))
rows-set n [] i j ms a = tt
rows-set n (row ∷ rows) zero j ms a = (length-set row j ms ∙ a.0, a.1)
rows-set n (row ∷ rows) (suc i) j ms a = (a.0, rows-set n rows i j ms a.1)

rows-new : (n k : ℕ) (row : List (List Message)) → length row ≡ n → AreRows n (replicate k row)
rows-new n zero row e = tt
rows-new n (suc k) row e = (e, rows-new n k row e)

pub sized-link : (b l : ℕ) (w : World) (from to : ℕ) (ms : List Message) → IsSized b l w → IsSized b l (set_link w from to ms)
sized-link b l w from to ms s =
    record {
      bricks = s.bricks;
      libraries = s.libraries;
      outboxes = s.outboxes;
      links = length-set w.links (place w from) _ ∙ s.links;
      rows = rows-set (b + l) w.links (place w from) (place w to) ms s.rows;
    }

sized-outbox : (b l : ℕ) (w : World) (node : ℕ) (ms : List Message) → IsSized b l w → IsSized b l (set_outbox w node ms)
sized-outbox b l w node ms s = record {
  bricks = s.bricks;
  libraries = s.libraries;
  outboxes = length-set w.outboxes _ ms ∙ s.outboxes;
  links = s.links;
  rows = s.rows;
}

sized-send : (b l : ℕ) (w : World) (at : ℕ) (ls : List (NodeNo × Letter)) → IsSized b l w → IsSized b l (send w at ls)
sized-send b l w at ls s = record {
  bricks = s.bricks;
  libraries = s.libraries;
  outboxes = length-set w.outboxes at _ ∙ s.outboxes;
  links = s.links;
  rows = s.rows;
}

pub sized-bricks : (b l : ℕ) (w : World) (node : ℕ) (x : BrickState) → IsSized b l w → IsSized b l (record w { bricks = slice_set w.bricks node x })
sized-bricks b l w node x s = record {
  bricks = length-set w.bricks node x ∙ s.bricks;
  libraries = s.libraries;
  outboxes = s.outboxes;
  links = s.links;
  rows = s.rows;
}

pub sized-libraries : (b l : ℕ) (w : World) (node : ℕ) (x : LibraryState) → IsSized b l w →
    IsSized b l (record w { libraries = slice_set w.libraries (node - 64) x })
sized-libraries b l w node x s = record {
  bricks = s.bricks;
  libraries = length-set w.libraries (node - 64) x ∙ s.libraries;
  outboxes = s.outboxes;
  links = s.links;
  rows = s.rows;
}

sized-brick-does : (b l : ℕ) (w : World) (node : ℕ) (t : BrickTurn) (made : List Made) → IsSized b l w → IsSized b l (brick_does w node t made).world
sized-brick-does b l w node t made s =
    sized-send b l (record w { bricks = slice_set w.bricks node t.state }) node t.out.letters (sized-bricks b l w node t.state s)

sized-library-does : (b l : ℕ) (w : World) (node : ℕ) (t : LibraryTurn) → IsSized b l w → IsSized b l (library_does w node t).world
sized-library-does b l w node t s =
    sized-send b l (record w { libraries = slice_set w.libraries (node - 64) t.state }) (length w.bricks + (node - 64)) t.out.letters
    (sized-libraries b l w node t.state s)

sized-at-library : (b l : ℕ) (w : World) (node from : NodeNo) (m : Letter) (o : Option LibraryState) → IsSized b l w →
    IsSized b l (at_library w node from m o).world
sized-at-library b l w node from m None s = s
sized-at-library b l w node from m (Some x) s = sized-library-does b l w node (library_turn x from m) s

sized-at-node : (b l : ℕ) (w : World) (at : ℕ) (node from : NodeNo) (m : Letter) (o : Option BrickState) → IsSized b l w →
    IsSized b l (at_node w at node from m o).world
sized-at-node b l w at node from m None s = sized-at-library b l w node from m (library_at w node) s
sized-at-node b l w at node from m (Some x) s =
    sized-brick-does b l w node (brick_turn x from m) (points_made at m (brick_turn x from m).out.points) s

sized-handle : (b l : ℕ) (w : World) (at : ℕ) (node from : NodeNo) (ms : List Message) → IsSized b l w → IsSized b l (handle w at node from ms).world
sized-handle b l w at node from [] s = s
sized-handle b l w at node from (m ∷ ms) s =
    sized-at-node b l (set_link w from node ms) at node from m.letter (brick_at (set_link w from node ms) node) (sized-link b l w from node ms s)

sized-post : (b l : ℕ) (w : World) (node : NodeNo) (ms : List Message) → IsSized b l w → IsSized b l (post w node ms).world
sized-post b l w node [] s = s
sized-post b l w node (m ∷ ms) s = sized-link b l (set_outbox w node ms) node m.to _ (sized-outbox b l w node ms s)

sized-call : (b l : ℕ) (w : World) (node : NodeNo) (caller : CallerNo) (call : CallNo) (op : Op) (o : Option LibraryState) → IsSized b l w →
    IsSized b l (call_at w node caller call op o).world
sized-call b l w node caller call op None s = s
sized-call b l w node caller call op (Some x) s = sized-library-does b l w node (library_input x caller call op) s

sized-order : (b l : ℕ) (w : World) (node : NodeNo) (order : Order) (o : Option BrickState) → IsSized b l w → IsSized b l (order_at w node order o).world
sized-order b l w node order None s = s
sized-order b l w node order (Some x) s = sized-brick-does b l w node (brick_input x order) [] s

sized-input : (b l : ℕ) (w : World) (node : NodeNo) (i : Input) → IsSized b l w → IsSized b l (input_at w node i).world
sized-input b l w node (input.Call caller call op) s = sized-call b l w node caller call op (library_at w node) s
sized-input b l w node (input.Order order) s = sized-order b l w node order (brick_at w node) s

sized-tells : (b l : ℕ) (w : World) (node : NodeNo) → IsSized b l w → IsSized b l (tells w node)
sized-tells b l w node s = sized-send b l (set_outbox w node []) (place w node) _ (sized-outbox b l w node [] s)

sized-stop-library : (b l : ℕ) (w : World) (node : NodeNo) (o : Option LibraryState) → IsSized b l w → IsSized b l (stop_library w node o)
sized-stop-library b l w node None s = s
sized-stop-library b l w node (Some x) s = sized-tells b l (record w { libraries = slice_set w.libraries (node - 64) (record x { stopped = true }) }) node
    (sized-libraries b l w node (record x { stopped = true }) s)

sized-stop : (b l : ℕ) (w : World) (node : NodeNo) (o : Option BrickState) → IsSized b l w → IsSized b l (stop_at w node o)
sized-stop b l w node None s = sized-stop-library b l w node (library_at w node) s
sized-stop b l w node (Some x) s = sized-tells b l (record w { bricks = slice_set w.bricks node (emptied x.number) }) node
    (sized-bricks b l w node (emptied x.number) s)

-- a step keeps the lengths
sized-turn : (b l at : ℕ) (w : World) (x : Step) → IsSized b l w → IsSized b l (turn at w x).world
sized-turn b l at w (step.Input node i) s = sized-input b l w node i s
sized-turn b l at w (step.Handle node from) s = sized-handle b l w at node from (link w from node) s
sized-turn b l at w (step.Post node) s = sized-post b l w node (outbox w node) s
sized-turn b l at w (step.Stop node) s = sized-stop b l w node (brick_at w node) s

sized-if : (b l : ℕ) (t : Trace) (x : Step) (possible : Bool) → IsSized b l t.world →
    IsSized b l (if possible then adds t x (turn t.steps t.world x) else record t { steps = t.steps + 1 }).world
sized-if b l t x true s = sized-turn b l t.steps t.world x s
sized-if b l t x false s = s

pub sized-next : (b l : ℕ) (t : Trace) (x : Step) → IsSized b l t.world → IsSized b l (next t x).world
sized-next b l t x s = sized-if b l t x (is_possible t x) s

-- the opening has the lengths
pub sized-start : (o : OpeningOf) → IsSized o.bricks o.libraries (start o).world
sized-start o =
    record {
      bricks = length-bricks o.leaves o.bricks 0;
      libraries = length-libraries o o.libraries 0;
      outboxes = length-replicate (o.bricks + o.libraries) [];
      links = length-replicate (o.bricks + o.libraries) _;
      rows = rows-new (o.bricks + o.libraries) (o.bricks + o.libraries) _ (length-replicate (o.bricks + o.libraries) []);
    }
