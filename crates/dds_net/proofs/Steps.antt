use Rattle.std.proofs.Common.{◌≡◌, ℕ, ◌+◌, ◌-◌, ◌≤◌, ◌==◌, ◌&&◌, Bool, true, false, Option, Some, None, List, [], ◌∷◌, ◌++◌, length, refl, sym, ap, ◌∙◌}
use Rattle.std.proofs.Common.{subst, arith}
use Rattle.std.proofs.lemmas.Bool.{and_parts}
use Rattle.std.specs.Prelude.{nat_lt, slice_set, slice_get, if◌then◌else◌}
use Rattle.dds_base.specs.declared.number.CallerNo.{CallerNo}
use Rattle.dds_base.specs.declared.number.CallNo.{CallNo}
use Rattle.dds_base.specs.declared.number.NodeNo.{NodeNo}
use Rattle.dds_base.specs.declared.op.Op.{Op}
use Rattle.dds_base.specs.declared.op.Order.{Order}
use Rattle.dds_base.specs.declared.op.Order.TheVariants as the_order
use Rattle.dds_core.specs.Brick.{brick_input, live_brick_turn}
use Rattle.dds_core.specs.LibraryTurn.{keeps, live_library_turn}
use Rattle.dds_letters.specs.declared.letter.Letter.{Letter}
use Rattle.dds_states.specs.Turn.{BrickTurn, LibraryTurn, still}
use Rattle.dds_states.specs.declared.brick_state.BrickState.{BrickState}
use Rattle.dds_states.specs.declared.library_state.LibraryState.{LibraryState}
use Rattle.dds_cluster.proofs.Sizes.{IsSized, sized-link}
use Rattle.dds_cluster.specs.Trace.{asked_by, has_first, is_possible, may_call, may_input, may_order, opened_by}
use Rattle.dds_cluster.specs.Turn.{at_library, at_node, brick_does, call_at, handle, input_at, library_does, no_step, order_at, points_made, post}
use Rattle.dds_cluster.specs.Turn.{turn}
use Rattle.dds_cluster.specs.World.{World, brick_at, is_node, library_at, link, outbox, place, set_link}
use Rattle.dds_cluster.specs.declared.step.Input.{Input}
use Rattle.dds_cluster.specs.declared.step.Input.TheVariants as input
use Rattle.dds_cluster.specs.declared.step.Message.{Message}
use Rattle.dds_cluster.specs.declared.step.Step.{Step}
use Rattle.dds_cluster.specs.declared.step.Step.TheVariants as step
use Rattle.dds_cluster.specs.declared.trace.Caller.{Caller}
use Rattle.dds_cluster.specs.declared.trace.Made.{Made}
use Rattle.dds_cluster.specs.declared.trace.Trace.{Trace}
use Rattle.dds_net.specs.Event.{nothing, unheard, brick_takes, brick_told, library_takes, library_asked, unasked, IsFirst}
use Rattle.dds_net.specs.Event.{asked_turn, is_ordered, takes}
use Rattle.dds_net.specs.Law.{IsMove}
use Rattle.dds_net.specs.Net.{Node, a_brick, a_library, Sizes, box, changed, is_in, letters_of, net, node_at, place_in, put, sent, when_in}
use Rattle.dds_net.proofs.Links.{Popped, popped, posted-channel}
use Rattle.dds_net.proofs.Nodes.{brick, library, brick-low, brick-place, library-high, library-place, which}
use Rattle.dds_net.proofs.Nets.{Sends, brick-put, does-net, library-put, net-is, pop-net, same-channel, sends-is, still-net, takes-net}
use Rattle.dds_net.proofs.Places.{is-in, place-below, place-is}
use Rattle.dds_net.proofs.Nodes.{brick-in, brick-node, library-in, library-node}
use Rattle.dds_net.proofs.Stops.{stop-move}

-- Each step is a move.

-- what a turn sends
brick-sends : (z : Sizes) (v : World) (n : ℕ) (s : BrickState) (t : BrickTurn) (made : List Made) → IsSized z.bricks z.libraries v → brick_at v n ≡ Some s
    → Sends (place_in z.bricks n) v.made t.out.letters v (brick_does v n t made).world
brick-sends z v n s t made g e =
    let h = place-below z n (brick-in z v n s g e) in
    let p = brick-place z.bricks n (brick-low v n s (nat_lt n 64) refl e) in
    let o = g.outboxes in
    let x = sends-is (record v { bricks = slice_set v.bricks n t.state }) n t.out.letters (omega (arith, h, p, o)) in
    subst (λ i. Sends i v.made t.out.letters v (brick_does v n t made).world) (sym p) (record { boxed = x.boxed; boxes = x.boxes; lanes = x.lanes })

library-sends : (z : Sizes) (v : World) (n : ℕ) (s : LibraryState) (t : LibraryTurn) → IsSized z.bricks z.libraries v → library_at v n ≡ Some s
    → Sends (place_in z.bricks n) v.made t.out.letters v (library_does v n t).world
library-sends z v n s t g e =
    let h = place-below z n (library-in z v n s g e) in
    let p : length v.bricks + (n - 64) ≡ place_in z.bricks n = ap (λ k. k + (n - 64)) g.bricks
    ∙ sym (library-place z.bricks n (library-high v n s (nat_lt n 64) refl e)) in
    let o = g.outboxes in
    let x = sends-is (record v { libraries = slice_set v.libraries (n - 64) t.state }) (length v.bricks + (n - 64)) t.out.letters (omega (arith, h, p, o)) in
    subst (λ i. Sends i v.made t.out.letters v (library_does v n t).world) p (record { boxed = x.boxed; boxes = x.boxes; lanes = x.lanes })

no-move : (z : Sizes) (cs : List Caller) (at : ℕ) (w : World) (x : Step) → asked_by at x ≡ [] → opened_by cs x ≡ cs → IsMove z cs at w x (no_step w)
no-move z cs at w x e f = record { event = nothing; step = tt; fits = tt; after = refl; points = refl; replies = refl; asked = e; opened = f }

-- Input
ordered-is : (z : Sizes) (w : World) (n : NodeNo) (o : Order) → IsSized z.bricks z.libraries w → may_order w n o ≡ is_ordered z n o
ordered-is z w n (the_order.Join who name via) g = ap (λ k. who == n && (nat_lt n k && nat_lt via k)) g.bricks
ordered-is z w n (the_order.Split who name) g = ap (λ k. who == n && nat_lt n k) g.bricks

order-move : (z : Sizes) (cs : List Caller) (at : ℕ) (w : World) (n : NodeNo) (o : Order) (x : Option BrickState) → z.bricks ≤ 64
    → IsSized z.bricks z.libraries w → may_order w n o ≡ true → brick_at w n ≡ x → IsMove z cs at w (step.Input n (input.Order o)) (order_at w n o x)
order-move z cs at w n o None few g m e = no-move z cs at w (step.Input n (input.Order o)) refl refl
order-move z cs at w n o (Some s) few g m e =
    let t = brick_input s o in
    let h = brick-in z w n s g e in
    record {
      event = brick_told n o s;
      step = refl;
      fits = record { inside = h; here = brick-node w n s e; may = sym (ordered-is z w n o g) ∙ m };
      after = does-net z w (brick_does w n t []).world n w.made (a_brick t.state) t.out.letters few h (brick-sends z w n s t [] g e)
          (brick-put w n s t.state e);
      points = refl;
      replies = refl;
      asked = refl;
      opened = refl;
    }

call-if : (z : Sizes) (cs : List Caller) (at : ℕ) (w : World) (n : NodeNo) (caller : CallerNo) (call : CallNo) (o : Op) (s : LibraryState) (c : Bool)
    → z.bricks ≤ 64 → IsSized z.bricks z.libraries w → may_call (slice_get cs caller) n call ≡ true → library_at w n ≡ Some s → s.stopped ≡ c
    → IsMove z cs at w (step.Input n (input.Call caller call o)) (library_does w n (if c then keeps s else asked_turn s caller call o))
call-if z cs at w n caller call o s true few g m e c =
    record {
      event = unasked n caller call o;
      step = refl;
      fits = m;
      after = does-net z w (library_does w n (keeps s)).world n w.made (a_library s) [] few (library-in z w n s g e) (library-sends z w n s (keeps s) g e)
          (library-put w n s s e) ∙ still-net z (net z w) n (a_library s) (library-node w n s e);
      points = refl;
      replies = refl;
      asked = refl;
      opened = refl;
    }
call-if z cs at w n caller call o s false few g m e c =
    let t = asked_turn s caller call o in
    let h = library-in z w n s g e in
    record {
      event = library_asked n caller call o s;
      step = refl;
      fits = record { inside = h; here = library-node w n s e; live = c; may = m };
      after = does-net z w (library_does w n t).world n w.made (a_library t.state) t.out.letters few h (library-sends z w n s t g e)
          (library-put w n s t.state e);
      points = refl;
      replies = refl;
      asked = refl;
      opened = refl;
    }

call-move : (z : Sizes) (cs : List Caller) (at : ℕ) (w : World) (n : NodeNo) (caller : CallerNo) (call : CallNo) (o : Op) (x : Option LibraryState)
    → z.bricks ≤ 64 → IsSized z.bricks z.libraries w → may_call (slice_get cs caller) n call ≡ true → library_at w n ≡ x
    → IsMove z cs at w (step.Input n (input.Call caller call o)) (call_at w n caller call o x)
call-move z cs at w n caller call o None few g m e =
    record { event = unasked n caller call o; step = refl; fits = m; after = refl; points = refl; replies = refl; asked = refl; opened = refl }
call-move z cs at w n caller call o (Some s) few g m e = call-if z cs at w n caller call o s s.stopped few g m e refl

input-move : (z : Sizes) (t : Trace) (n : NodeNo) (i : Input) → z.bricks ≤ 64 → IsSized z.bricks z.libraries t.world → may_input t n i ≡ true
    → IsMove z t.callers t.steps t.world (step.Input n i) (input_at t.world n i)
input-move z t n (input.Call caller call o) few g m = call-move z t.callers t.steps t.world n caller call o (library_at t.world n) few g m refl
input-move z t n (input.Order o) few g m = order-move z t.callers t.steps t.world n o (brick_at t.world n) few g m refl

-- Post
post-move : (z : Sizes) (cs : List Caller) (at : ℕ) (w : World) (n : NodeNo) (ms : List Message) → z.bricks ≤ 64 → IsSized z.bricks z.libraries w
    → is_in z n ≡ true → outbox w n ≡ ms → IsMove z cs at w (step.Post n) (post w n ms)
post-move z cs at w n [] few g h e = no-move z cs at w (step.Post n) refl refl
post-move z cs at w n (m ∷ ms) few g h e =
    let p = place-is z w n g in
    let i = place-below z n h in
    record {
      event = nothing;
      step = tt;
      fits = tt;
      after = net-is (net z (post w n (m ∷ ms)).world) (net z w) (λ k. refl) (λ a b. same-channel z w (post w n (m ∷ ms)).world a b
          (λ ha hb. posted-channel z.bricks z.libraries (place w n) (place w m.to) (place_in z.bricks a) (place_in z.bricks b) w m ms g (omega (arith, p, i))
          (place-below z b hb) (sym (place-is z w m.to g)) e));
      points = refl;
      replies = refl;
      asked = refl;
      opened = refl;
    }

-- Handle
guard-true : (c : Bool) (x : List Letter) → c ≡ true → when_in c x ≡ x
guard-true true x e = refl
guard-true false x e = cc

both-true : (x y : Bool) → x ≡ true → y ≡ true → (x && y) ≡ true
both-true true y e f = f
both-true false y e f = e

first-is : (z : Sizes) (w v : World) (n from : ℕ) (m : Message) (ms : List Message) → is_in z n ≡ true → is_in z from ≡ true
    → Popped (place_in z.bricks from) (place_in z.bricks n) m ms w v → IsFirst z (net z w) n from m.letter
first-is z w v n from m ms hn hf p =
    let i = place_in z.bricks from in
    let j = place_in z.bricks n in
    record {
      receiver = hn;
      sender = hf;
      others = letters_of (ms ++ sent z.bricks j (box w i));
      first = guard-true (is_in z from && is_in z n) _
          (both-true (is_in z from) (is_in z n) hf hn) ∙ ap (λ x. letters_of (x ++ sent z.bricks j (box w i))) p.was;
    }

brick-if : (z : Sizes) (cs : List Caller) (at : ℕ) (w v : World) (n from : NodeNo) (m : Message) (ms : List Message) (s : BrickState) (c : Bool) → z.bricks ≤ 64
    → IsSized z.bricks z.libraries v → is_in z n ≡ true → is_in z from ≡ true → Popped (place_in z.bricks from) (place_in z.bricks n) m ms w v
    → ((i : ℕ) → box v i ≡ box w i) → ((k : ℕ) → node_at v k ≡ node_at w k) → brick_at v n ≡ Some s → s.stopped ≡ c
    → IsMove z cs at w (step.Handle n from) (brick_does v n (if c then still s else live_brick_turn s from m.letter)
    (points_made at m.letter (if c then still s else live_brick_turn s from m.letter).out.points))
brick-if z cs at w v n from m ms s true few g hn hf p o k e c =
    let here : node_at w n ≡ a_brick s = sym (k n) ∙ brick-node v n s e in
    record {
      event = unheard n from m.letter;
      step = refl;
      fits = record { deaf = rw here c; letter = first-is z w v n from m ms hn hf p };
      after = takes-net z w v (brick_does v n (still s) []).world n from v.made (a_brick s) [] few hn (λ a b. pop-net z w v n from m ms a b few hn hf p o)
          (brick-sends z v n s (still s) [] g e) (λ j. brick-put v n s s e j ∙ ap (λ (f : ℕ → Node). put n (a_brick s) f j) (λ i x. k x i))
          ∙ ap (λ x. changed (net z w) (takes z (net z w) n from x [])) (sym here);
      points = refl;
      replies = refl;
      asked = refl;
      opened = refl;
    }
brick-if z cs at w v n from m ms s false few g hn hf p o k e c =
    let t = live_brick_turn s from m.letter in
    record {
      event = brick_takes n from m.letter s;
      step = refl;
      fits = record { here = sym (k n) ∙ brick-node v n s e; live = c; letter = first-is z w v n from m ms hn hf p };
      after = takes-net z w v (brick_does v n t []).world n from v.made (a_brick t.state) t.out.letters few hn
          (λ a b. pop-net z w v n from m ms a b few hn hf p o) (brick-sends z v n s t [] g e)
          (λ j. brick-put v n s t.state e j ∙ ap (λ (f : ℕ → Node). put n (a_brick t.state) f j) (λ i x. k x i));
      points = refl;
      replies = refl;
      asked = refl;
      opened = refl;
    }

library-if : (z : Sizes) (cs : List Caller) (at : ℕ) (w v : World) (n from : NodeNo) (m : Message) (ms : List Message) (s : LibraryState) (c : Bool)
    → z.bricks ≤ 64 → IsSized z.bricks z.libraries v → is_in z n ≡ true → is_in z from ≡ true → Popped (place_in z.bricks from) (place_in z.bricks n) m ms w v
    → ((i : ℕ) → box v i ≡ box w i) → ((k : ℕ) → node_at v k ≡ node_at w k) → library_at v n ≡ Some s → s.stopped ≡ c
    → IsMove z cs at w (step.Handle n from) (library_does v n (if c then keeps s else live_library_turn s from m.letter))
library-if z cs at w v n from m ms s true few g hn hf p o k e c =
    let here : node_at w n ≡ a_library s = sym (k n) ∙ library-node v n s e in
    record {
      event = unheard n from m.letter;
      step = refl;
      fits = record { deaf = rw here c; letter = first-is z w v n from m ms hn hf p };
      after = takes-net z w v (library_does v n (keeps s)).world n from v.made (a_library s) [] few hn (λ a b. pop-net z w v n from m ms a b few hn hf p o)
          (library-sends z v n s (keeps s) g e) (λ j. library-put v n s s e j ∙ ap (λ (f : ℕ → Node). put n (a_library s) f j) (λ i x. k x i))
          ∙ ap (λ x. changed (net z w) (takes z (net z w) n from x [])) (sym here);
      points = refl;
      replies = refl;
      asked = refl;
      opened = refl;
    }
library-if z cs at w v n from m ms s false few g hn hf p o k e c =
    let t = live_library_turn s from m.letter in
    record {
      event = library_takes n from m.letter s;
      step = refl;
      fits = record { here = sym (k n) ∙ library-node v n s e; live = c; letter = first-is z w v n from m ms hn hf p };
      after = takes-net z w v (library_does v n t).world n from v.made (a_library t.state) t.out.letters few hn
          (λ a b. pop-net z w v n from m ms a b few hn hf p o) (library-sends z v n s t g e)
          (λ j. library-put v n s t.state e j ∙ ap (λ (f : ℕ → Node). put n (a_library t.state) f j) (λ i x. k x i));
      points = refl;
      replies = refl;
      asked = refl;
      opened = refl;
    }

nobody : (z : Sizes) (w : World) (n : ℕ) → IsSized z.bricks z.libraries w → is_in z n ≡ true → brick_at w n ≡ None → library_at w n ≡ None → ⊥
nobody z w n g h e f = elim (which w n (is-in z w n g ∙ h)) [ brick s is ↦ cc | library s is ↦ cc ]

library-move : (z : Sizes) (cs : List Caller) (at : ℕ) (w v : World) (n from : NodeNo) (m : Message) (ms : List Message) (x : Option LibraryState)
    → z.bricks ≤ 64 → IsSized z.bricks z.libraries v → is_in z n ≡ true → is_in z from ≡ true → Popped (place_in z.bricks from) (place_in z.bricks n) m ms w v
    → ((i : ℕ) → box v i ≡ box w i) → ((k : ℕ) → node_at v k ≡ node_at w k) → brick_at v n ≡ None → library_at v n ≡ x
    → IsMove z cs at w (step.Handle n from) (at_library v n from m.letter x)
library-move z cs at w v n from m ms None few g hn hf p o k b e = absurd (nobody z v n g hn b e)
library-move z cs at w v n from m ms (Some s) few g hn hf p o k b e = library-if z cs at w v n from m ms s s.stopped few g hn hf p o k e refl

node-move : (z : Sizes) (cs : List Caller) (at : ℕ) (w v : World) (n from : NodeNo) (m : Message) (ms : List Message) (x : Option BrickState) → z.bricks ≤ 64
    → IsSized z.bricks z.libraries v → is_in z n ≡ true → is_in z from ≡ true → Popped (place_in z.bricks from) (place_in z.bricks n) m ms w v
    → ((i : ℕ) → box v i ≡ box w i) → ((k : ℕ) → node_at v k ≡ node_at w k) → brick_at v n ≡ x
    → IsMove z cs at w (step.Handle n from) (at_node v at n from m.letter x)
node-move z cs at w v n from m ms None few g hn hf p o k e = library-move z cs at w v n from m ms (library_at v n) few g hn hf p o k e refl
node-move z cs at w v n from m ms (Some s) few g hn hf p o k e = brick-if z cs at w v n from m ms s s.stopped few g hn hf p o k e refl

handle-move : (z : Sizes) (cs : List Caller) (at : ℕ) (w : World) (n from : NodeNo) (ms : List Message) → z.bricks ≤ 64 → IsSized z.bricks z.libraries w
    → is_in z n ≡ true → is_in z from ≡ true → link w from n ≡ ms → ((rest : List Message) → IsSized z.bricks z.libraries (set_link w from n rest))
    → IsMove z cs at w (step.Handle n from) (handle w at n from ms)
handle-move z cs at w n from [] few g hn hf e sized = no-move z cs at w (step.Handle n from) refl refl
handle-move z cs at w n from (m ∷ ms) few g hn hf e sized =
    let f = place-is z w from g in
    let j = place-is z w n g in
    let i = place-below z from hf in
    let k = place-below z n hn in
    let v = set_link w from n ms in
    let p : Popped (place w from) (place w n) m ms w v = popped z.bricks z.libraries (place w from) (place w n) w m ms g (omega (arith, f, i))
    (omega (arith, j, k)) e in
    node-move z cs at w v n from m ms (brick_at v n) few (sized ms) hn hf (subst (λ x. Popped (place_in z.bricks from) x m ms w v) j
    (subst (λ x. Popped x (place w n) m ms w v) f p)) (λ x. refl) (λ x. refl) refl

-- all of them
pub step-moves : (z : Sizes) (t : Trace) (x : Step) → z.bricks ≤ 64 → IsSized z.bricks z.libraries t.world → is_possible t x ≡ true
    → IsMove z t.callers t.steps t.world x (turn t.steps t.world x)
step-moves z t (step.Input node i) few g p = input-move z t node i few g p
step-moves z t (step.Handle node from) few g p =
    let q = and_parts (is_node t.world node) (is_node t.world from && has_first (link t.world from node)) p in
    let r = and_parts (is_node t.world from) (has_first (link t.world from node)) q.1 in
    handle-move z t.callers t.steps t.world node from (link t.world from node) few g (sym (is-in z t.world node g) ∙ q.0)
    (sym (is-in z t.world from g) ∙ r.0) refl (λ rest. sized-link z.bricks z.libraries t.world from node rest g)
step-moves z t (step.Post node) few g p =
    let q = and_parts (is_node t.world node) (has_first (outbox t.world node)) p in
    post-move z t.callers t.steps t.world node (outbox t.world node) few g (sym (is-in z t.world node g) ∙ q.0) refl
step-moves z t (step.Stop node) few g p = stop-move z t.callers t.steps t.world node (brick_at t.world node) few g refl p
