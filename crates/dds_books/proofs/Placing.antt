use Rattle.std.proofs.Common.{◌≡◌, ℕ, ◌<◌, ◌≤◌, true, List, refl, sym, ap, ◌∙◌, subst, arith}
use Rattle.std.proofs.lemmas.Bool.{eq-eqb}
use Rattle.std.specs.Prelude.{if◌then◌else◌}
use Rattle.dds_base.specs.Number.{Txn}
use Rattle.dds_base.specs.declared.number.CallNo.{CallNo}
use Rattle.dds_base.specs.declared.number.CallerNo.{CallerNo}
use Rattle.dds_base.specs.declared.op.Op.{Op}
use Rattle.dds_base.specs.declared.op.Order.{Order}
use Rattle.dds_core.proofs.Lists.{all-map}
use Rattle.dds_core.specs.Brick.{brick_input, live_brick_turn}
use Rattle.dds_core.specs.LibraryTurn.{live_library_turn}
use Rattle.dds_cluster.specs.World.{emptied}
use Rattle.dds_cluster.specs.declared.trace.Caller.{Caller}
use Rattle.dds_letters.specs.declared.letter.Letter.{Letter}
use Rattle.dds_net.proofs.Carried.{Becomes, Sends, letters-moved, nodes-moved}
use Rattle.dds_net.proofs.Letters.{first-all}
use Rattle.dds_net.proofs.Places.{node-below}
use Rattle.dds_net.proofs.Runs.{IsKept}
use Rattle.dds_net.specs.Event.{Event, nothing, unheard, unasked, brick_takes, brick_told, brick_stops, library_takes, library_asked, library_stops}
use Rattle.dds_net.specs.Event.{Fits, Ordered, Takes, asked_turn, moved}
use Rattle.dds_net.specs.Net.{Net, Node, nowhere, a_brick, a_library, Sizes, is_in, put}
use Rattle.dds_states.specs.declared.brick_state.BrickState.{BrickState}
use Rattle.dds_states.specs.declared.library_state.LibraryState.{LibraryState}
use Rattle.dds_books.proofs.Fine.{Fine}
use Rattle.dds_books.proofs.BrickTurns.{turn-fine}
use Rattle.dds_books.proofs.CallBegins.{Own}
use Rattle.dds_books.proofs.LibraryTurns.{Served, input-served, letter-served}
use Rattle.dds_books.proofs.Numbers.{empty-ok}
use Rattle.dds_books.proofs.OrderRows.{input-fine}
use Rattle.dds_books.proofs.Said.{brick-more, letter-more, said-map, said-news}
use Rattle.dds_books.specs.Placed.{ArePlaced, BrickOk, LetterOk, LibraryOk, Made, MadeAt, NodeOk}

-- Each event keeps the numbers in range, the attempts' libraries and the phases of open calls.

-- Attempts that were made stay so

abbrev pub Lasts : Node → Node → Type 0
Lasts x y = (txn : Txn) → MadeAt txn x → MadeAt txn y

-- what an event finds
found-node : (z : Sizes) (n : Net) (at : ℕ) (x : Node) → ArePlaced z n → n.node at ≡ x → NodeOk (Made n) z at x
found-node z n at x g e = subst (NodeOk (Made n) z at) e (g.nodes at)

first-letter : (z : Sizes) (n : Net) (at from : ℕ) (l : Letter) (x : Node) → ArePlaced z n → Takes z n at from l x → LetterOk (Made n) z from at l
first-letter z n at from l x g f = first-all (LetterOk (Made n) z from at) z n at from l f.letter (g.letters from at)

served : (z : Sizes) (n : Net) (at from : ℕ) (l : Letter) (s : LibraryState) → z.bricks ≤ 64 → z.libraries ≤ 16 → ArePlaced z n
    → Takes z n at from l (a_library s) → Served z at s (live_library_turn s from l).state (live_library_turn s from l).out
served z n at from l s few some g f =
    letter-served (Made n) s from l (node-below z from few some f.letter.sender) (found-node z n at (a_library s) g f.here)
    (first-letter z n at from l (a_library s) g f)

asked : (z : Sizes) (n : Net) (at : ℕ) (caller : CallerNo) (call : CallNo) (o : Op) (s : LibraryState) → ArePlaced z n → n.node at ≡ a_library s
    → Served z at s (asked_turn s caller call o).state (asked_turn s caller call o).out
asked z n at caller call o s g here = input-served s caller call o (found-node z n at (a_library s) g here)

library-lasts : (n : Net) (at : ℕ) (s u : LibraryState) → n.node at ≡ a_library s → s.next ≤ u.next → Lasts (n.node at) (a_library u)
library-lasts n at s u here more txn h =
    let low : txn.number < s.next = subst (MadeAt txn) here h in
    omega (arith, low, more)

brick-lasts : (n : Net) (at : ℕ) (s : BrickState) (y : Node) → n.node at ≡ a_brick s → Lasts (n.node at) y
brick-lasts n at s y here txn h = absurd (subst (MadeAt txn) here h)

lasts : (z : Sizes) (cs : List Caller) (n : Net) (e : Event) → z.bricks ≤ 64 → z.libraries ≤ 16 → ArePlaced z n → Fits z cs n e
    → Becomes (λ k y. Lasts (n.node k) y) e
lasts z cs n nothing few some g f = tt
lasts z cs n (unheard at from l) few some g f = tt
lasts z cs n (unasked at caller call o) few some g f = tt
lasts z cs n (brick_takes at from l s) few some g f = brick-lasts n at s (a_brick (live_brick_turn s from l).state) f.here
lasts z cs n (brick_told at o s) few some g f = brick-lasts n at s (a_brick (brick_input s o).state) f.here
lasts z cs n (brick_stops at s kept) few some g f = brick-lasts n at s (a_brick (emptied s.number)) f.here
lasts z cs n (library_takes at from l s) few some g f =
    library-lasts n at s (live_library_turn s from l).state f.here (served z n at from l s few some g f).more
lasts z cs n (library_asked at caller call o s) few some g f =
    library-lasts n at s (asked_turn s caller call o).state f.here (asked z n at caller call o s g f.here).more
lasts z cs n (library_stops at s kept) few some g f = library-lasts n at s (record s { stopped = true }) f.here (omega arith)

-- The nodes

abbrev Grown : Net → (Txn → Type 0) → Type 0
Grown n U = (t : Txn) → Made n t → U t

node-more : (z : Sizes) (n : Net) (U : Txn → Type 0) (k : ℕ) (x : Node) → Grown n U → NodeOk (Made n) z k x → NodeOk U z k x
node-more z n U k nowhere f h = h
node-more z n U k (a_brick s) f h = brick-more (Made n) U z k s f h
node-more z n U k (a_library s) f h = h

took : (z : Sizes) (n : Net) (U : Txn → Type 0) (at from : ℕ) (l : Letter) (s : BrickState) → Grown n U → ArePlaced z n → Takes z n at from l (a_brick s)
    → Fine U z at (live_brick_turn s from l)
took z n U at from l s m g f =
    turn-fine s from l (brick-more (Made n) U z at s m (found-node z n at (a_brick s) g f.here))
    (letter-more (Made n) U z from at l m (first-letter z n at from l (a_brick s) g f))

told : (z : Sizes) (n : Net) (U : Txn → Type 0) (at : ℕ) (o : Order) (s : BrickState) → Grown n U → ArePlaced z n → Ordered z n at o s
    → Fine U z at (brick_input s o)
told z n U at o s m g f = input-fine s o (brick-more (Made n) U z at s m (found-node z n at (a_brick s) g f.here)) f.may

emptied-ok : (T : Txn → Type 0) (z : Sizes) (at : ℕ) (s : BrickState) → BrickOk T z at s → BrickOk T z at (emptied s.number)
emptied-ok T z at s h =
    record {
      its_number = h.its_number;
      inside = h.inside;
      its_leaves = empty-ok z;
      its_locks = (tt, tt);
      its_deferred = tt;
      its_resolving = tt;
      its_order = tt;
    }

stopped-ok : (z : Sizes) (at : ℕ) (s : LibraryState) → LibraryOk z at s → LibraryOk z at (record s { stopped = true })
stopped-ok z at s h =
    record {
      its_number = h.its_number;
      inside = h.inside;
      high = h.high;
      its_bricks = h.its_bricks;
      leaves = h.leaves;
      apart = h.apart;
      calls = h.calls;
    }

becomes : (z : Sizes) (cs : List Caller) (n : Net) (U : Txn → Type 0) (e : Event) → z.bricks ≤ 64 → z.libraries ≤ 16 → Grown n U → ArePlaced z n
    → Fits z cs n e → Becomes (NodeOk U z) e
becomes z cs n U nothing few some m g f = tt
becomes z cs n U (unheard at from l) few some m g f = tt
becomes z cs n U (unasked at caller call o) few some m g f = tt
becomes z cs n U (brick_takes at from l s) few some m g f = (took z n U at from l s m g f).after
becomes z cs n U (brick_told at o s) few some m g f = (told z n U at o s m g f).after
becomes z cs n U (brick_stops at s kept) few some m g f =
    emptied-ok U z at s (brick-more (Made n) U z at s m (found-node z n at (a_brick s) g f.here))
becomes z cs n U (library_takes at from l s) few some m g f = (served z n at from l s few some g f).state
becomes z cs n U (library_asked at caller call o s) few some m g f = (asked z n at caller call o s g f.here).state
becomes z cs n U (library_stops at s kept) few some m g f = stopped-ok z at s (found-node z n at (a_library s) g f.here)

-- The letters

put-own : (at : ℕ) (y : Node) (f : ℕ → Node) → put at y f at ≡ y
put-own at y f = ap (λ c. if c then y else f at) (eq-eqb at at refl)

own-made : (u : Net) (at : ℕ) (s : LibraryState) → u.node at ≡ a_library s → (t : Txn) → Own at s.next t → Made u t
own-made u at s here t h = subst (MadeAt t) (sym (ap u.node h.0 ∙ here)) h.1

made-in : (T : Txn → Type 0) (z : Sizes) (k : ℕ) (x : Node) (t : Txn) → NodeOk T z k x → MadeAt t x → is_in z k ≡ true
made-in T z k nowhere t h m = absurd m
made-in T z k (a_brick s) t h m = absurd m
made-in T z k (a_library s) t h m = h.inside

sends : (z : Sizes) (cs : List Caller) (n : Net) (e : Event) → z.bricks ≤ 64 → z.libraries ≤ 16 → Grown n (Made (moved z n e)) → ArePlaced z n
    → Fits z cs n e → ((k : ℕ) → NodeOk (Made (moved z n e)) z k ((moved z n e).node k)) → Sends (LetterOk (Made (moved z n e)) z) z e
sends z cs n nothing few some m g f nodes = tt
sends z cs n (unheard at from l) few some m g f nodes = tt
sends z cs n (unasked at caller call o) few some m g f nodes = tt
sends z cs n (brick_takes at from l s) few some m g f nodes =
    let u = moved z n (brick_takes at from l s) in
    said-news (Made u) z at (live_brick_turn s from l).out.letters few
    (λ t h. made-in (Made u) z t.library (u.node t.library) t (nodes t.library) h) (took z n (Made u) at from l s m g f).letters
sends z cs n (brick_told at o s) few some m g f nodes =
    let u = moved z n (brick_told at o s) in
    said-news (Made u) z at (brick_input s o).out.letters few
    (λ t h. made-in (Made u) z t.library (u.node t.library) t (nodes t.library) h) (told z n (Made u) at o s m g f).letters
sends z cs n (brick_stops at s kept) few some m g f nodes = λ b. tt
sends z cs n (library_takes at from l s) few some m g f nodes =
    let u = moved z n (library_takes at from l s) in
    let y = (live_library_turn s from l).state in
    let k = served z n at from l s few some g f in
    said-news (Made u) z at (live_library_turn s from l).out.letters few (λ t h. made-in (Made u) z t.library (u.node t.library) t (nodes t.library) h)
    (said-map (Own at y.next) (Made u) z at (live_library_turn s from l).out.letters (λ t h. own-made u at y (put-own at (a_library y) n.node) t h) k.letters)
sends z cs n (library_asked at caller call o s) few some m g f nodes =
    let u = moved z n (library_asked at caller call o s) in
    let y = (asked_turn s caller call o).state in
    let k = asked z n at caller call o s g f.here in
    said-news (Made u) z at (asked_turn s caller call o).out.letters few (λ t h. made-in (Made u) z t.library (u.node t.library) t (nodes t.library) h)
    (said-map (Own at y.next) (Made u) z at (asked_turn s caller call o).out.letters (λ t h. own-made u at y (put-own at (a_library y) n.node) t h) k.letters)
sends z cs n (library_stops at s kept) few some m g f nodes = λ b. tt

pub placed-kept : (z : Sizes) → z.bricks ≤ 64 → z.libraries ≤ 16 → IsKept z (Unit {0}) (λ h n e b. tt) (λ h n b. ArePlaced z n)
placed-kept z few some h n e b built f g =
    let u = moved z n e in
    let all = nodes-moved (λ k y. Lasts (n.node k) y) z n e (λ k txn m. m) (lasts z h.callers n e few some g f) in
    let more : Grown n (Made u) = (λ (t : Txn) m. all t.library t m) in
    let nodes = nodes-moved (NodeOk (Made u) z) z n e (λ k. node-more z n (Made u) k (n.node k) more (g.nodes k))
    (becomes z h.callers n (Made u) e few some more g f) in
    record {
      nodes = nodes;
      letters = letters-moved (LetterOk (Made u) z) z h.callers n e f
          (λ a c. all-map (LetterOk (Made n) z a c) (LetterOk (Made u) z a c) (n.channel a c) (λ l k. letter-more (Made n) (Made u) z a c l more k)
          (g.letters a c))
          (sends z h.callers n e few some more g f nodes);
    }
