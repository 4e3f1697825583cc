-- No two letters on their way have the same number.
use Rattle.std.proofs.Common.{◌≡◌, ℕ, ◌+◌, ◌-◌, ◌≤◌, Bool, true, false, List, [], ◌∷◌, ◌++◌, Option, Some, None, length, zero, suc, refl, ap, arith}
use Rattle.std.specs.Prelude.{◌==◌, nat_lt, replicate, slice_index_or, slice_set, if◌then◌else◌}
use Rattle.std.proofs.lemmas.Bool.Decides.{nat_tests}
use Rattle.dds_base.specs.declared.number.CallNo.{CallNo}
use Rattle.dds_base.specs.declared.number.CallerNo.{CallerNo}
use Rattle.dds_base.specs.declared.number.NodeNo.{NodeNo}
use Rattle.dds_base.specs.declared.op.Op.{Op}
use Rattle.dds_base.specs.declared.op.Order.{Order}
use Rattle.dds_core.specs.Brick.{brick_input, brick_turn}
use Rattle.dds_core.specs.LibraryTurn.{library_input, library_turn}
use Rattle.dds_letters.specs.declared.letter.Letter.{Letter}
use Rattle.dds_script.specs.Opening.{OpeningOf}
use Rattle.dds_states.specs.Turn.{BrickTurn, LibraryTurn}
use Rattle.dds_states.specs.declared.brick_state.BrickState.{BrickState}
use Rattle.dds_states.specs.declared.library_state.LibraryState.{LibraryState}
use Rattle.dds_cluster.specs.Trace.{adds, is_possible, next}
use Rattle.dds_cluster.specs.Turn.{at_library, at_node, brick_does, call_at, handle, input_at, library_does, order_at, points_made, post}
use Rattle.dds_cluster.specs.Turn.{stop_at, stop_library, tells, turn}
use Rattle.dds_cluster.specs.World.{World, brick_at, emptied, library_at, link, numbered, opening_world, outbox, place, send, set_link, set_outbox}
use Rattle.dds_cluster.specs.declared.step.Input.{Input}
use Rattle.dds_cluster.specs.declared.step.Input.TheVariants as input
use Rattle.dds_cluster.specs.declared.step.Message.{Message}
use Rattle.dds_cluster.specs.declared.step.Step.{Step}
use Rattle.dds_cluster.specs.declared.step.Step.TheVariants as step
use Rattle.dds_cluster.specs.declared.trace.Made.{Made}
use Rattle.dds_cluster.specs.declared.trace.Trace.{Trace}

abbrev pub one : Bool → ℕ
one b = if b then 1 else 0

abbrev pub total : {X : Type 0} → (X → ℕ) → List X → ℕ
total f [] = 0
total f (x ∷ xs) = f x + total f xs

-- how often a number is among those of letters: of some, of those in outboxes or of links from one node, and of all on their way
abbrev pub times : ℕ → List Message → ℕ
times n ms = total (λ m. one (m.number == n)) ms

abbrev pub in_boxes : ℕ → List (List Message) → ℕ
in_boxes n boxes = total (times n) boxes

abbrev pub in_world : ℕ → World → ℕ
in_world n w = total (times n) w.outboxes + total (in_boxes n) w.links

-- each number below that of the next letter is there once at most, and no other one is
abbrev pub AreOnce : World → Type 0
AreOnce w = (n : ℕ) → in_world n w ≤ one (nat_lt n w.made)

times-append : (n : ℕ) (xs ys : List Message) → times n (xs ++ ys) ≡ times n xs + times n ys
times-append n [] ys = omega arith
times-append n (x ∷ xs) ys = let r = times-append n xs ys in omega (arith, r)

-- another item at a place
set-total : {X : Type 0} (f : X → ℕ) (d : X) (xs : List X) (i : ℕ) (v : X) → f d ≡ 0
    → total f (slice_set xs i v) + f (slice_index_or xs i d) ≤ total f xs + f v
set-total f d [] i v e = omega (arith, e)
set-total f d (x ∷ xs) zero v e = omega arith
set-total f d (x ∷ xs) (suc i) v e = let r = set-total f d xs i v e in omega (arith, r)

outbox-total : (n : ℕ) (w : World) (at : ℕ) (ms : List Message)
    → in_world n (record w { outboxes = slice_set w.outboxes at ms }) + times n (slice_index_or w.outboxes at []) ≤ in_world n w + times n ms
outbox-total n w at ms = let r = set-total (times n) [] w.outboxes at ms refl in omega (arith, r)

link-total : (n : ℕ) (w : World) (from to : ℕ) (ms : List Message) → in_world n (set_link w from to ms) + times n (link w from to) ≤ in_world n w + times n ms
link-total n w from to ms =
    let row = slice_index_or w.links (place w from) [] in
    let a = set-total (in_boxes n) [] w.links (place w from) (slice_set row (place w to) ms) refl in
    let b = set-total (times n) [] row (place w to) ms refl in
    omega (arith, a, b)

-- new letters
one-more : (n k : ℕ) → one (nat_lt n k) + one (k == n) ≤ one (nat_lt n (k + 1))
one-more n k = grind (arith, nat_tests)

numbered-times : (n k : ℕ) (ls : List (NodeNo × Letter)) → one (nat_lt n k) + times n (numbered k ls) ≤ one (nat_lt n (k + length ls))
numbered-times n k [] = let count : k ≡ k + 0 = omega arith in
    let same = ap (λ i. one (nat_lt n i)) count in
    omega (arith, same)
numbered-times n k (l ∷ ls) =
    let r = numbered-times n (k + 1) ls in
    let a = one-more n k in
    let count : k + 1 + length ls ≡ k + length (l ∷ ls) = omega arith in
    let same = ap (λ i. one (nat_lt n i)) count in
    omega (arith, r, a, same)

once-send : (w : World) (at : ℕ) (ls : List (NodeNo × Letter)) → AreOnce w → AreOnce (send w at ls)
once-send w at ls h = λ n.
    let old = slice_index_or w.outboxes at [] in
    let a = outbox-total n w at (old ++ numbered w.made ls) in
    let b = times-append n old (numbered w.made ls) in
    let c = numbered-times n w.made ls in
    let d = h n in
    omega (arith, a, b, c, d)

-- what each step does
once-brick-does : (w : World) (node : ℕ) (t : BrickTurn) (made : List Made) → AreOnce w → AreOnce (brick_does w node t made).world
once-brick-does w node t made h = once-send (record w { bricks = slice_set w.bricks node t.state }) node t.out.letters h

once-library-does : (w : World) (node : ℕ) (t : LibraryTurn) → AreOnce w → AreOnce (library_does w node t).world
once-library-does w node t h =
    once-send (record w { libraries = slice_set w.libraries (node - 64) t.state }) (length w.bricks + (node - 64)) t.out.letters h

once-at-library : (w : World) (node from : NodeNo) (l : Letter) (o : Option LibraryState) → AreOnce w → AreOnce (at_library w node from l o).world
once-at-library w node from l None h = h
once-at-library w node from l (Some s) h = once-library-does w node (library_turn s from l) h

once-at-node : (w : World) (at : ℕ) (node from : NodeNo) (l : Letter) (o : Option BrickState) → AreOnce w → AreOnce (at_node w at node from l o).world
once-at-node w at node from l None h = once-at-library w node from l (library_at w node) h
once-at-node w at node from l (Some s) h = once-brick-does w node (brick_turn s from l) (points_made at l (brick_turn s from l).out.points) h

once-handle : (w : World) (at : ℕ) (node from : NodeNo) (ms : List Message) → link w from node ≡ ms → AreOnce w → AreOnce (handle w at node from ms).world
once-handle w at node from [] e h = h
once-handle w at node from (m ∷ ms) e h =
    let v = set_link w from node ms in
    let less : AreOnce v = λ n.
    (let a = link-total n w from node ms in let b = ap (times n) e in let c = h n in omega (arith, a, b, c)) in
    once-at-node v at node from m.letter (brick_at v node) less

once-post : (w : World) (node : NodeNo) (ms : List Message) → outbox w node ≡ ms → AreOnce w → AreOnce (post w node ms).world
once-post w node [] e h = h
once-post w node (m ∷ ms) e h = λ n.
    let v = set_outbox w node ms in
    let on = link w node m.to in
    let a = outbox-total n w (place w node) ms in
    let b = link-total n v node m.to (on ++ m ∷ []) in
    let c = times-append n on (m ∷ []) in
    let d = ap (times n) e in
    let f = h n in
    omega (arith, a, b, c, d, f)

once-call : (w : World) (node : NodeNo) (caller : CallerNo) (call : CallNo) (op : Op) (o : Option LibraryState) → AreOnce w
    → AreOnce (call_at w node caller call op o).world
once-call w node caller call op None h = h
once-call w node caller call op (Some s) h = once-library-does w node (library_input s caller call op) h

once-order : (w : World) (node : NodeNo) (order : Order) (o : Option BrickState) → AreOnce w → AreOnce (order_at w node order o).world
once-order w node order None h = h
once-order w node order (Some s) h = once-brick-does w node (brick_input s order) [] h

once-input : (w : World) (node : NodeNo) (i : Input) → AreOnce w → AreOnce (input_at w node i).world
once-input w node (input.Call caller call op) h = once-call w node caller call op (library_at w node) h
once-input w node (input.Order order) h = once-order w node order (brick_at w node) h

once-tells : (w : World) (node : NodeNo) → AreOnce w → AreOnce (tells w node)
once-tells w node h =
    let less : AreOnce (set_outbox w node []) = λ n. (let a = outbox-total n w (place w node) [] in let b = h n in omega (arith, a, b)) in
    once-send (set_outbox w node []) (place w node) _ less

once-stop-library : (w : World) (node : NodeNo) (o : Option LibraryState) → AreOnce w → AreOnce (stop_library w node o)
once-stop-library w node None h = h
once-stop-library w node (Some s) h = once-tells (record w { libraries = slice_set w.libraries (node - 64) (record s { stopped = true }) }) node h

once-stop : (w : World) (node : NodeNo) (o : Option BrickState) → AreOnce w → AreOnce (stop_at w node o)
once-stop w node None h = once-stop-library w node (library_at w node) h
once-stop w node (Some s) h = once-tells (record w { bricks = slice_set w.bricks node (emptied s.number) }) node h

once-turn : (at : ℕ) (w : World) (x : Step) → AreOnce w → AreOnce (turn at w x).world
once-turn at w (step.Input node i) h = once-input w node i h
once-turn at w (step.Handle node from) h = once-handle w at node from (link w from node) refl h
once-turn at w (step.Post node) h = once-post w node (outbox w node) refl h
once-turn at w (step.Stop node) h = once-stop w node (brick_at w node) h

once-if : (t : Trace) (x : Step) (possible : Bool) → AreOnce t.world
    → AreOnce (if possible then adds t x (turn t.steps t.world x) else record t { steps = t.steps + 1 }).world
once-if t x true h = once-turn t.steps t.world x h
once-if t x false h = h

pub once-next : (t : Trace) (x : Step) → AreOnce t.world → AreOnce (next t x).world
once-next t x h = once-if t x (is_possible t x) h

-- before the first step there are none
none-total : {X : Type 0} (f : X → ℕ) (k : ℕ) (x : X) → f x ≡ 0 → total f (replicate k x) ≡ 0
none-total f zero x e = refl
none-total f (suc k) x e = let r = none-total f k x e in omega (arith, r, e)

pub once-start : (o : OpeningOf) → AreOnce (opening_world o)
once-start o = λ n.
    let k = o.bricks + o.libraries in
    let a = none-total (times n) k [] refl in
    let b = none-total (in_boxes n) k (replicate k []) a in
    omega (arith, a, b)
