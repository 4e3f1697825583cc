-- The points of a run stand in the order of their places.
use Rattle.std.proofs.Common.{◌≡◌, ℕ, ◌+◌, ◌<◌, ◌≤◌, Bool, true, false, List, [], ◌∷◌, ◌++◌, Option, Some, None, refl, arith}
use Rattle.std.specs.Prelude.{not, ◌&&◌, if◌then◌else◌}
use Rattle.std.specs.List.{AllByRecursion}
use Rattle.dds_base.specs.Number.{Txn}
use Rattle.dds_base.specs.Op.{is_get}
use Rattle.dds_base.specs.declared.op.Op.{Op}
use Rattle.dds_base.specs.declared.op.Order.{Order}
use Rattle.dds_core.proofs.Lists.{all-append, all-map}
use Rattle.dds_letters.specs.declared.letter.Letter.{Letter}
use Rattle.dds_letters.specs.declared.letter.Letter.TheVariants as letter
use Rattle.dds_net.proofs.Pairwise.{Pairwise, pairs-append}
use Rattle.dds_states.specs.declared.brick_state.BrickState.{BrickState}
use Rattle.dds_states.specs.declared.library_state.LibraryState.{LibraryState}
use Rattle.dds_states.specs.declared.turn.Point.{Point}
use Rattle.dds_states.specs.declared.turn.Point.TheVariants as point
use Rattle.dds_cluster.specs.Lists.{is_applied}
use Rattle.dds_cluster.specs.Trace.{adds, all_kept, is_possible, kept, next, run_of, start, trace_from}
use Rattle.dds_cluster.specs.Turn.{at_library, at_node, call_at, handle, input_at, order_at, points_made, post, read_by, turn}
use Rattle.dds_cluster.specs.World.{World, brick_at, library_at, link, outbox, set_link}
use Rattle.dds_cluster.specs.declared.step.Input.{Input}
use Rattle.dds_cluster.specs.declared.step.Input.TheVariants as input
use Rattle.dds_cluster.specs.declared.step.Message.{Message}
use Rattle.dds_cluster.specs.declared.step.Step.{Step}
use Rattle.dds_cluster.specs.declared.step.Step.TheVariants as step
use Rattle.dds_cluster.specs.declared.trace.Made.{Made}
use Rattle.dds_cluster.specs.declared.trace.Trace.{Trace}
use Rattle.dds_script.specs.Opening.{OpeningOf}

abbrev pub IsAt : ℕ → Made → Type 0
IsAt place m = m.place ≡ place

-- all points of a step have its place
read-at : (place : ℕ) (txn : Txn) (value : Option (List ℕ)) (l : Letter) → AllByRecursion (IsAt place) (read_by place txn value l)
read-at place txn value (letter.Get asked caller call key name stamp) = (refl, tt)
read-at place txn value other = tt

pub made-at : (place : ℕ) (l : Letter) (ps : List Point) → AllByRecursion (IsAt place) (points_made place l ps)
made-at place l [] = tt
made-at place l (point.Read txn value ∷ ps) =
    all-append (IsAt place) (read_by place txn value l) (points_made place l ps) (read-at place txn value l) (made-at place l ps)
made-at place l (point.Applied p was ∷ ps) = (refl, made-at place l ps)

library-at : (w : World) (place : ℕ) (node from : ℕ) (l : Letter) (s : Option LibraryState) → AllByRecursion (IsAt place) (at_library w node from l s).made
library-at w place node from l None = tt
library-at w place node from l (Some s) = tt

node-at : (w : World) (place : ℕ) (node from : ℕ) (l : Letter) (s : Option BrickState) → AllByRecursion (IsAt place) (at_node w place node from l s).made
node-at w place node from l None = library-at w place node from l (library_at w node)
node-at w place node from l (Some s) = made-at place l _

handle-at : (w : World) (place : ℕ) (node from : ℕ) (ms : List Message) → AllByRecursion (IsAt place) (handle w place node from ms).made
handle-at w place node from [] = tt
handle-at w place node from (m ∷ ms) = node-at (set_link w from node ms) place node from m.letter (brick_at (set_link w from node ms) node)

post-at : (w : World) (place : ℕ) (node : ℕ) (ms : List Message) → AllByRecursion (IsAt place) (post w node ms).made
post-at w place node [] = tt
post-at w place node (m ∷ ms) = tt

call-at : (w : World) (place : ℕ) (node caller : ℕ) (call : _) (o : Op) (s : Option LibraryState)
    → AllByRecursion (IsAt place) (call_at w node caller call o s).made
call-at w place node caller call o None = tt
call-at w place node caller call o (Some s) = tt

order-at : (w : World) (place : ℕ) (node : ℕ) (o : Order) (s : Option BrickState) → AllByRecursion (IsAt place) (order_at w node o s).made
order-at w place node o None = tt
order-at w place node o (Some s) = tt

input-at : (w : World) (place : ℕ) (node : ℕ) (i : Input) → AllByRecursion (IsAt place) (input_at w node i).made
input-at w place node (input.Call caller call o) = call-at w place node caller call o (library_at w node)
input-at w place node (input.Order o) = order-at w place node o (brick_at w node)

turn-at : (place : ℕ) (w : World) (s : Step) → AllByRecursion (IsAt place) (turn place w s).made
turn-at place w (step.Input node i) = input-at w place node i
turn-at place w (step.Handle node from) = handle-at w place node from (link w from node)
turn-at place w (step.Post node) = post-at w place node (outbox w node)
turn-at place w (step.Stop node) = tt

-- what is kept of them
kept-if : (P : Made → Type 0) (m : Made) (b : Bool) → P m → AllByRecursion P (if b then [] else m ∷ [])
kept-if P m true h = tt
kept-if P m false h = (h, tt)

kept-all : (P : Made → Type 0) (made ms : List Made) → AllByRecursion P ms → AllByRecursion P (all_kept made ms)
kept-all P made [] h = tt
kept-all P made (m ∷ ms) h =
    all-append P (kept made m) (all_kept (made ++ kept made m) ms) (kept-if P m (not (is_get m.entry.op) && is_applied made m.txn) h.0)
    (kept-all P (made ++ kept made m) ms h.1)

-- the first of two points stands no later
abbrev pub NoLater : Made → Made → Type 0
NoLater m n = m.place ≤ n.place

pub record IsInOrder (t : Trace) : Type 0 where
  pub order : Pairwise NoLater t.made
  pub below : AllByRecursion (λ m. m.place < t.steps) t.made

same-place : (place : ℕ) (ms : List Made) → AllByRecursion (IsAt place) ms → Pairwise NoLater ms
same-place place [] h = tt
same-place place (m ∷ ms) h =
    (all-map (IsAt place) (NoLater m) ms (λ n at. omega (arith, h.0, at)) h.1, same-place place ms h.1)

order-if : (t : Trace) (s : Step) (possible : Bool) → IsInOrder t
    → IsInOrder (if possible then adds t s (turn t.steps t.world s) else record t { steps = t.steps + 1 })
order-if t s true g =
    let new = all_kept t.made (turn t.steps t.world s).made in
    let at : AllByRecursion (IsAt t.steps) new = kept-all (IsAt t.steps) t.made (turn t.steps t.world s).made (turn-at t.steps t.world s) in
    record {
      order = pairs-append NoLater t.made new g.order (same-place t.steps new at)
          (all-map (λ m. m.place < t.steps) (λ m. AllByRecursion (NoLater m) new) t.made
          (λ m below. all-map (IsAt t.steps) (NoLater m) new (λ n is. omega (arith, below, is)) at) g.below);
      below = all-append (λ m. m.place < t.steps + 1) t.made new
          (all-map (λ m. m.place < t.steps) (λ m. m.place < t.steps + 1) t.made (λ m below. omega (arith, below)) g.below)
          (all-map (IsAt t.steps) (λ m. m.place < t.steps + 1) new (λ n is. omega (arith, is)) at);
    }
order-if t s false g =
    record {
      order = g.order;
      below = all-map (λ m. m.place < t.steps) (λ m. m.place < t.steps + 1) t.made (λ m below. omega (arith, below)) g.below;
    }

order-from : (t : Trace) (steps : List Step) → IsInOrder t → IsInOrder (trace_from t steps)
order-from t [] g = g
order-from t (s ∷ steps) g = order-from (next t s) steps (order-if t s (is_possible t s) g)

pub run-in-order : (o : OpeningOf) (steps : List Step) → IsInOrder (run_of o steps)
run-in-order o steps = order-from (start o) steps (record { order = tt; below = tt })
