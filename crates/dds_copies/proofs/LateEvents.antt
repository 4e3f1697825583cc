use Rattle.std.proofs.Common.{◌≡◌, ℕ, ◌≤◌, ◌⊎◌, inl, inr, Bool, true, false, Option, Some, None, List, [], refl, sym, ap, ◌∙◌, subst}
use Rattle.std.proofs.lemmas.Bool.{both_ways, cases_eq}
use Rattle.dds_base.specs.Name.{Name}
use Rattle.dds_base.specs.declared.op.Order.{Order}
use Rattle.dds_brick_rows.specs.Refusal.{is_join}
use Rattle.dds_cluster.specs.World.{emptied}
use Rattle.dds_cluster.specs.declared.trace.Caller.{Caller}
use Rattle.dds_core.specs.Brick.{brick_input, live_brick_turn}
use Rattle.dds_law_leaf.proofs.Keeps.{stopped-order}
use Rattle.dds_law_notice.proofs.Keeps.{AreLinked}
use Rattle.dds_law_own.proofs.Keeps.{of-another}
use Rattle.dds_letters.specs.declared.letter.Letter.{Letter}
use Rattle.dds_net.proofs.Letters.{first-all}
use Rattle.dds_net.specs.Event.{Event, nothing, unheard, unasked, brick_takes, brick_told, brick_stops, library_takes, library_asked, library_stops}
use Rattle.dds_net.specs.Event.{Fits, moved}
use Rattle.dds_net.specs.Net.{Net, Node, Sizes, a_brick, put}
use Rattle.dds_order_rows.specs.OwnOrder as order
use Rattle.dds_orders.proofs.Counting.{kept-heard, kept-path}
use Rattle.dds_orders.proofs.Deeds.{seat}
use Rattle.dds_orders.proofs.Numbered.{AreCounted, BrickOk, Counts, LetterOk, NodeOk, takes-stopped, told-stopped}
use Rattle.dds_orders.proofs.Numbers.{Later}
use Rattle.dds_orders.proofs.Turns.{letter-turns, order-goes}
use Rattle.dds_pairs.proofs.LieKeeps.{AreLying}
use Rattle.dds_share.proofs.Bounds.{IsFrom, Was, from_live, no-brick, still-bound, was}
use Rattle.dds_share.proofs.Ends.{JoinEnds}
use Rattle.dds_share.proofs.Events.{stopped-not}
use Rattle.dds_share.proofs.Facts.{AreAll}
use Rattle.dds_share.proofs.Joins.{same-order}
use Rattle.dds_share.proofs.Keeps.{Turns, from-before, served-before}
use Rattle.dds_share.proofs.Opens.{order-opens, order-still}
use Rattle.dds_share.proofs.Sources.{Copies}
use Rattle.dds_share.proofs.Together.{AreTogether, Bound}
use Rattle.dds_share.proofs.TurnFacts.{takes-turns, told-turns}
use Rattle.dds_share.proofs.Turned.{at-is, others-same, put-other, put-same}
use Rattle.dds_states.specs.Turn.{BrickTurn}
use Rattle.dds_states.specs.declared.brick_state.BrickState.{BrickState}
use Rattle.dds_states.specs.declared.brick_state.OpenOrder.{OpenOrder}
use Rattle.dds_copies.proofs.Carried.{PutAt, another, itself, put-at}
use Rattle.dds_copies.proofs.Late.{IsThis, Late, Leaves, WasThis, ask, late-kept, this-copies}
use Rattle.dds_copies.proofs.OrderWas.{WasJoin, was-join}

-- Each event keeps what is so of a join since a part that it copies was on its way.

-- the numbers that a brick gave
counts-put : (n : Net) (at j number : ℕ) (l : Letter) (y : Node) → (Counts (n.node at) number l → Counts y number l) → Counts (n.node j) number l
    → Counts (put at y n.node j) number l
counts-put n at j number l y f c = elim (cases_eq j at) [
  | inl e ↦ subst (λ x. Counts x number l) (sym (put-same n.node at j y e)) (f (subst (λ i. Counts (n.node i) number l) e c))
  | inr ne ↦ subst (λ x. Counts x number l) (sym (put-other n.node at j y ne)) c
]

takes-later : (z : Sizes) (cs : List Caller) (n : Net) (at from : ℕ) (l : Letter) (s : BrickState) → z.bricks ≤ 64 → z.libraries ≤ 16
    → Fits z cs n (brick_takes at from l s) → AreLinked z n → AreCounted n → Later (seat s) (seat (live_brick_turn s from l).state)
takes-later z cs n at from l s few some f links g number m k =
    let h : BrickOk at s = subst (NodeOk at) f.here (g.nodes at) in
    let ok = first-all (LetterOk n.node from at) z n at from l f.letter (g.letters from at) in
    let t = letter-turns s from l (of-another z n at from l s few some links f h.is.number) in
    let a = kept-path at (seat s) t.first [] t.takes h.is in
    let b = kept-heard at from l t.first t.next t.answers t.hears (λ number e is. (ok.said number e).0 is) a.next in
    let c = kept-path at t.next (seat (live_brick_turn s from l).state) t.letters t.goes b.next in
    c.later number m (b.later number m (a.later number m k))

told-later : (n : Net) (at : ℕ) (o : Order) (s : BrickState) → n.node at ≡ a_brick s → AreCounted n → Later (seat s) (seat (brick_input s o).state)
told-later n at o s here g number m k =
    let h : BrickOk at s = subst (NodeOk at) here (g.nodes at) in
    (kept-path at (seat s) (seat (brick_input s o).state) (brick_input s o).out.letters (order-goes s o).path h.is).later number m k

turn-counts : (n : Net) (at number : ℕ) (l : Letter) (s u : BrickState) → n.node at ≡ a_brick s → u.stopped ≡ s.stopped → Later (seat s) (seat u)
    → Counts (n.node at) number l → Counts (a_brick u) number l
turn-counts n at number l s u here same later c live =
    let before : Counts (a_brick s) number l = subst (λ x. Counts x number l) here c in
    later number l (before (sym same ∙ live))

pub counts-kept : (z : Sizes) (cs : List Caller) (n : Net) (e : Event) (j number : ℕ) (l : Letter) → z.bricks ≤ 64 → z.libraries ≤ 16 → Fits z cs n e
    → AreLinked z n → AreCounted n → Counts (n.node j) number l → Counts ((moved z n e).node j) number l
counts-kept z cs n nothing j number l few some f links g c = c
counts-kept z cs n (unasked at caller call o) j number l few some f links g c = c
counts-kept z cs n (unheard at from m) j number l few some f links g c = counts-put n at j number l (n.node at) (λ k. k) c
counts-kept z cs n (brick_takes at from m s) j number l few some f links g c =
    counts-put n at j number l (a_brick (live_brick_turn s from m).state)
    (turn-counts n at number l s (live_brick_turn s from m).state f.here (takes-stopped s from m) (takes-later z cs n at from m s few some f links g)) c
counts-kept z cs n (brick_told at o s) j number l few some f links g c =
    counts-put n at j number l (a_brick (brick_input s o).state)
    (turn-counts n at number l s (brick_input s o).state f.here (told-stopped s o) (told-later n at o s f.here g)) c
counts-kept z cs n (brick_stops at s kept) j number l few some f links g c =
    counts-put n at j number l (a_brick (emptied s.number)) (λ k live. cc) c
counts-kept z cs n (library_takes at from m s) j number l few some f links g c = counts-put n at j number l _ (λ k. tt) c
counts-kept z cs n (library_asked at caller call o s) j number l few some f links g c = counts-put n at j number l _ (λ k. tt) c
counts-kept z cs n (library_stops at s kept) j number l few some f links g c = counts-put n at j number l _ (λ k. tt) c

module _ (n m : Net) (j number : ℕ) where
  -- no live brick changes
  quiet-leaves : ((k : ℕ) (t : BrickState) → m.node k ≡ a_brick t → t.stopped ≡ false → n.node k ≡ a_brick t)
      → ((k : ℕ) (t : BrickState) (p : OpenOrder) → n.node k ≡ a_brick t → Bound m k t p → Bound n k t p) → Leaves n m j number
  quiet-leaves bricks bound =
      record {
        served = λ b spot v other k. inl (v, other, record { here = bricks b v k.here k.live; live = k.live; over = k.over });
        bounds = λ k t p h.
            inl (record { state = t; before = p; bound = bound k t p (bricks k t h.here h.live) h; name = refl; granted = λ b i. i });
        was = λ s o h. record {
          state = s;
          before = o;
          it = record { here = bricks j s h.here h.live; live = h.live; there = h.there; join = h.join; numbered = h.numbered };
          name = refl;
          granted = λ b i. i;
        };
      }

  -- one has a turn, behind which a join that doesn't lease was open before
  module _ (z : Sizes) (at : ℕ) (s u : BrickState) (name : Name) (g : AreAll z m) (h : AreTogether n) (t : Turns n m at s u)
      (own : (o : OpenOrder) → u.order ≡ Some o → is_join o.task ≡ true → order.is_leasing o.phase ≡ false → WasJoin s o)
      (counts : Counts (m.node j) number (ask number name)) where
    from-it : (k : ℕ) (p : OpenOrder) → k ≡ at → IsFrom n m at u p
        → Was n k p ⊎ ((v : BrickState) × (source : ℕ) × (r : BrickState) × Copies m k v p source r)
    from-it k p e (was w) = inl (subst (λ i. Was n i p) (sym e) w)
    from-it k p e (from_live source r copies) = inr (u, source, r, subst (λ i. Copies m i u p source r) (sym e) copies)

    was-own : (v : BrickState) (o : OpenOrder) → IsThis m j number v o → j ≡ at → v ≡ u → WasThis n j number o
    was-own v o k e is =
        let w = own o (sym (ap (λ (x : BrickState). x.order) is) ∙ k.there) k.join (this-copies m j number name v o counts k) in
        record {
          state = s;
          before = w.before;
          it = record { here = ap n.node e ∙ t.here; live = t.live; there = w.there; join = w.join; numbered = sym w.same.number ∙ k.numbered };
          name = sym w.same.name;
          granted = w.same.granted;
        }

    turn-leaves : Leaves n m j number
    turn-leaves =
        record {
          served = λ b spot v other k. elim (served-before z n m at s u g h t b spot v other k) [
            | inl x ↦ inl x
            | inr x ↦ inr (s, subst (λ i. JoinEnds n i s spot other) (sym x.0) x.1)
          ];
          bounds = λ k v p b. elim (from-before z n m at s u g h t k v p b) [
            | inl w ↦ inl w
            | inr x ↦ from-it k p x.0 x.1
          ];
          was = λ v o k. elim (cases_eq j at) [
            | inl e ↦ was-own v o k e (at-is n m at s u t.here t.live t.is v (ap m.node (sym e) ∙ k.here))
            | inr ne ↦ record {
              state = v;
              before = o;
              it = record {
                here = others-same n m at s u t.here t.live t.is j v ne k.here;
                live = k.live;
                there = k.there;
                join = k.join;
                numbered = k.numbered;
              };
              name = refl;
              granted = λ b i. i;
            }
          ];
        }

module _ (z : Sizes) (cs : List Caller) (n : Net) (j number : ℕ) (name : Name) (few : z.bricks ≤ 64) (some : z.libraries ≤ 16) (all : AreAll z n)
    (together : AreTogether n) where
  quiet : (e : Event) → Fits z cs n e → ((k : ℕ) (t : BrickState) → (moved z n e).node k ≡ a_brick t → t.stopped ≡ false → n.node k ≡ a_brick t)
      → Leaves n (moved z n e) j number
  quiet e f bricks = quiet-leaves n (moved z n e) j number bricks (λ k t p here h. still-bound z cs n e f k t p here h)

  put-quiet : (at k : ℕ) (y : Node) (t : BrickState) → (y ≡ a_brick t → n.node at ≡ a_brick t) → PutAt n at k y t → n.node k ≡ a_brick t
  put-quiet at k y t f (itself e is) = ap n.node e ∙ f is
  put-quiet at k y t f (another ne before) = before

  told-own : (c : Order) (s : BrickState) (o : OpenOrder) (q : Option OpenOrder) → s.order ≡ q → (brick_input s c).state.order ≡ Some o
      → is_join o.task ≡ true → order.is_leasing o.phase ≡ false → WasJoin s o
  told-own c s o None e there join phase = absurd (both_ways (order.is_leasing o.phase) phase ((order-opens s c e).is o there join))
  told-own c s o (Some p) e there join phase =
      record { before = o; there = sym (ap (λ (x : BrickState). x.order) (order-still s p c e)) ∙ there; join = join; same = same-order o }

  told : (at : ℕ) (c : Order) (s : BrickState) (b : Bool) → s.stopped ≡ b → Fits z cs n (brick_told at c s) → AreAll z (moved z n (brick_told at c s))
      → Counts ((moved z n (brick_told at c s)).node j) number (ask number name) → Leaves n (moved z n (brick_told at c s)) j number
  told at c s false live f after counts =
      turn-leaves n (moved z n (brick_told at c s)) j number z at s (brick_input s c).state name after together
      (told-turns z cs n at c s f live all together) (λ o there join phase. told-own c s o s.order refl there join phase) counts
  told at c s true dead f after counts =
      quiet (brick_told at c s) f (λ k t here live. put-quiet at k (a_brick (brick_input s c).state) t
      (λ is. f.here ∙ sym (ap (λ (u : BrickTurn). a_brick u.state) (stopped-order s c dead)) ∙ is)
      (put-at n at k (a_brick (brick_input s c).state) t here))

  event-leaves : (e : Event) → Fits z cs n e → AreAll z (moved z n e) → Counts ((moved z n e).node j) number (ask number name)
      → Leaves n (moved z n e) j number
  event-leaves nothing f after counts = quiet nothing f (λ k t here live. here)
  event-leaves (unasked at caller call o) f after counts = quiet (unasked at caller call o) f (λ k t here live. here)
  event-leaves (unheard at from l) f after counts =
      quiet (unheard at from l) f (λ k t here live. put-quiet at k (n.node at) t (λ is. is) (put-at n at k (n.node at) t here))
  event-leaves (brick_takes at from l s) f after counts =
      turn-leaves n (moved z n (brick_takes at from l s)) j number z at s (live_brick_turn s from l).state name after together
      (takes-turns z cs n at from l s few some f all after.low together) (λ o there join phase. was-join s from l o there join) counts
  event-leaves (brick_told at c s) f after counts = told at c s s.stopped refl f after counts
  event-leaves (brick_stops at s left) f after counts =
      quiet (brick_stops at s left) f
      (λ k t here live. put-quiet at k (a_brick (emptied s.number)) t (λ is. absurd (stopped-not s t is live)) (put-at n at k _ t here))
  event-leaves (library_takes at from l s) f after counts =
      quiet (library_takes at from l s) f (λ k t here live. put-quiet at k _ t (λ is. absurd (no-brick _ t is)) (put-at n at k _ t here))
  event-leaves (library_asked at caller call c s) f after counts =
      quiet (library_asked at caller call c s) f (λ k t here live. put-quiet at k _ t (λ is. absurd (no-brick _ t is)) (put-at n at k _ t here))
  event-leaves (library_stops at s left) f after counts =
      quiet (library_stops at s left) f (λ k t here live. put-quiet at k _ t (λ is. absurd (no-brick _ t is)) (put-at n at k _ t here))

  pub late-event : (e : Event) → Fits z cs n e → AreLying z n → AreAll z (moved z n e) → AreTogether (moved z n e) → Late n j number name
      → Late (moved z n e) j number name
  late-event e f lying after so late =
      let counts = counts-kept z cs n e j number (ask number name) few some f lying.stood.links lying.stood.counted late.counts in
      late-kept z n (moved z n e) j number name after so (event-leaves e f after counts) late counts
