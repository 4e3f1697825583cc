use Rattle.std.proofs.Common.{◌≡◌, ℕ, ◌≤◌, ◌⊎◌, inl, inr, true, false, Option, Some, None, List, refl, sym, ap, ◌∙◌, subst}
use Rattle.std.proofs.lemmas.Bool.{both_ways}
use Rattle.std.specs.Prelude.{is_some}
use Rattle.dds_base.specs.Name.{Name}
use Rattle.dds_base.specs.NodeSet.{has_node}
use Rattle.dds_base.specs.declared.leaf.Leaf.{Leaf}
use Rattle.dds_base.specs.declared.op.Order.{Order}
use Rattle.dds_brick_rows.specs.Refusal.{is_join}
use Rattle.dds_cluster.specs.declared.trace.Caller.{Caller}
use Rattle.dds_core.specs.Brick.{brick_input, live_brick_turn}
use Rattle.dds_law_leaf.proofs.Book.{Book, BrickOk, Known, Leafed, NodeOk}
use Rattle.dds_law_leaf.proofs.Bricks.{brick-turned, order-turned}
use Rattle.dds_law_leaf.proofs.Keeps.{heard}
use Rattle.dds_law_notice.proofs.Views.{View, brick-takes, knows, learns, view}
use Rattle.dds_law_own.proofs.Changes.{own, served}
use Rattle.dds_law_own.proofs.Keeps as owns
use Rattle.dds_law_own.proofs.Keeps.{of-another}
use Rattle.dds_law_own.proofs.Parted.{IsBoth}
use Rattle.dds_letters.specs.declared.letter.Letter.{Letter}
use Rattle.dds_net.specs.Event.{Fits, brick_takes, brick_told, moved}
use Rattle.dds_net.specs.Net.{Net, Sizes, a_brick}
use Rattle.dds_order_rows.specs.OwnOrder as order
use Rattle.dds_order_rows.specs.OwnOrder.{is_leasing}
use Rattle.dds_orders.proofs.Asked.{AskedBy}
use Rattle.dds_orders.proofs.Asks.{NodeAsks}
use Rattle.dds_orders.proofs.Counting.{not-none}
use Rattle.dds_orders.proofs.Leased.{In}
use Rattle.dds_orders.proofs.Numbers.{the-order}
use Rattle.dds_orders.proofs.Standing.{keyed}
use Rattle.dds_parents.proofs.Keeps.{Gone, gone-later, known-gone}
use Rattle.dds_parents.proofs.Lists.{lists-later}
use Rattle.dds_parents.proofs.Makes.{Makes}
use Rattle.dds_parents.proofs.Splits.{NodeSplits}
use Rattle.dds_parents.proofs.Turns.{known_after, letter-makes, order-makes}
use Rattle.dds_serving.proofs.Once.{change-once}
use Rattle.dds_serving.specs.Once.{ChangeOnce, IsOpen, TakeOnce}
use Rattle.dds_serving.specs.Once.ChangeOnce.{rests as takes_or_rests, serves}
use Rattle.dds_serving.specs.Once.IsOpen.{opens, was_open}
use Rattle.dds_serving.specs.Once.TakeOnce.{stays as leaves_stay, takes as takes_leaf}
use Rattle.dds_states.specs.Turn.{BrickTurn}
use Rattle.dds_states.specs.declared.brick_state.BrickState.{BrickState}
use Rattle.dds_states.specs.declared.brick_state.OpenOrder.{OpenOrder}
use Rattle.dds_states.specs.declared.brick_state.Task.{Task}
use Rattle.dds_states.specs.declared.brick_state.Task.TheVariants.{Join, Split}
use Rattle.dds_world.specs.Groups.{letter_leaf}
use Rattle.dds_share.proofs.Bounds.{still-bound, takes-from, told-from}
use Rattle.dds_share.proofs.Changes.{Turn, split, took}
use Rattle.dds_share.proofs.Ends.{JoinEnds, at-once-ends, installed-ends}
use Rattle.dds_share.proofs.Facts.{AreAll, AreLow}
use Rattle.dds_share.proofs.JoinTurns.{Rests, letter-goes, letter-rests, of_order, rests}
use Rattle.dds_share.proofs.Opens.{order-opens, order-still}
use Rattle.dds_share.proofs.Joins.{JoinGoes, at_once, begins, copies, ended, goes_on, installed, leases}
use Rattle.dds_share.proofs.Keeps.{Turns}
use Rattle.dds_share.proofs.Over.{IsOver, join-was}
use Rattle.dds_share.proofs.Tasks.{letter-stays}
use Rattle.dds_share.proofs.Together.{AreTogether}
use Rattle.dds_share.proofs.Turned.{Came, put-same, stays}

-- A live brick's turn, at a letter and where it is told an order, with all that the invariant wants of it.

split-not : (t : Task) (via : ℕ) → t ≡ Split → t ≡ Join via → ⊥
split-not t via e f = let no : Split ≡ Join via = sym e ∙ f in cc

abbrev CameOr : (ℕ → Type 0) → Net → ℕ → BrickState → BrickTurn → Type 0
CameOr gone n at s t = (spot : Name) (new : Leaf) → IsOver t.state.leaves spot new → Came gone s.leaves spot new ⊎ JoinEnds n at s spot new

-- what was told is taken, or a split's leaf served
module _ (n : Net) (at : ℕ) (b : Book) (gone : ℕ → Type 0) (told : Option Leaf) (s : BrickState) (t : BrickTurn) (turn : Turn at b gone told s t) where
  same-leaves : t.state.leaves ≡ s.leaves → CameOr gone n at s t
  same-leaves e spot new over = inl (stays gone s.leaves spot new (subst (λ m. IsOver m spot new) e over))

  take-comes : TakeOnce s told t → CameOr gone n at s t
  take-comes (leaves_stay e) = same-leaves e
  take-comes (takes_leaf mine leaf is there comes gone_or e) = λ spot new over. inl (took at b gone told s t turn mine leaf is there comes e spot new over)

  change-comes : ChangeOnce s told t → ((p : OpenOrder) → s.order ≡ Some p → is_join p.task ≡ true → CameOr gone n at s t) → CameOr gone n at s t
  change-comes (takes_or_rests take) f = take-comes take
  change-comes (serves p made open_order has_made e) f = by p.task refl
    where
      joins : (via : ℕ) → p.task ≡ Join via → IsOpen s p → CameOr gone n at s t
      joins via task (was_open there) = f p there (ap is_join task)
      joins via task (opens name leaf none there l name_is split_task phase) = absurd (split-not p.task via split_task task)

      by : (q : Task) → p.task ≡ q → CameOr gone n at s t
      by Split task = λ spot new over. inl (split at b gone told s t turn p made open_order has_made task e spot new over)
      by (Join via) task = joins via task open_order

-- at a letter
module _ (z : Sizes) (cs : List Caller) (n : Net) (at from : ℕ) (l : Letter) (s : BrickState) (few : z.bricks ≤ 64) (some : z.libraries ≤ 16)
    (f : Fits z cs n (brick_takes at from l s)) (g : AreAll z n) (after : AreLow z (moved z n (brick_takes at from l s))) (h : AreTogether n) where
  turn-of : Turn at g.low.listed.known.book (Gone (moved z n (brick_takes at from l s))) (letter_leaf l) s (live_brick_turn s from l)
  turn-of =
      let b = g.low.listed.known.book in
      let e = brick_takes at from l s in
      let t = live_brick_turn s from l in
      let m = moved z n e in
      let ok : BrickOk at b s = subst (NodeOk b at) f.here (g.low.listed.known.nodes at) in
      let leafed : Leafed at b s = ok.live f.live in
      let of_known = heard z n at from l g.low.listed.known f.letter in
      let both : IsBoth at (own s) = subst (owns.NodeOk at) f.here (g.low.listed.asked.own at) in
      let asks : AskedBy at s.known s.order = subst (NodeAsks at) f.here (g.low.listed.asked.asks at) in
      let other = of-another z n at from l s few some g.low.listed.asked.links f both.0.number in
      let made = letter-makes (Known b) at s from l other leafed.order of_known (record { both = both; asked = asks }) in
      let view_after : view (m.node at) ≡ learns from l (view (a_brick s)) =
      ap view (put-same n.node at at (a_brick t.state) refl) ∙ (brick-takes s from l f.live).after in
      record {
        both = both;
        asked = asks;
        splits = subst (NodeSplits at) f.here (g.low.split.splits at);
        leafed = leafed;
        heard = of_known;
        lists = λ st x is. lists-later b b (Gone n) (Gone m) st x (λ q y i. i) (gone-later z cs n e f) (g.low.listed.lists st x is);
        knows = λ k i. gone-later z cs n e f k
            (known-gone z n at k g.low.listed.asked.links f.letter.receiver (ap (λ x. knows (view x) k) f.here ∙ i));
        known = known_after s from l;
        learns = λ k i. known-gone z m at k after.listed.asked.links f.letter.receiver (ap (λ (v : View). knows v k) view_after ∙ i);
        turned = brick-turned s from l leafed of_known;
        makes = subst (λ i. Makes (Known b) (known_after s from l) i s.made t) both.0.number made;
      }

  abbrev Came_here : Type 0
  Came_here = CameOr (Gone (moved z n (brick_takes at from l s))) n at s (live_brick_turn s from l)

  same-here : (live_brick_turn s from l).state.leaves ≡ s.leaves → Came_here
  same-here e = same-leaves n at g.low.listed.known.book (Gone (moved z n (brick_takes at from l s))) (letter_leaf l) s (live_brick_turn s from l) turn-of e

  served-comes : (p : OpenOrder) (made : Leaf) → is_join p.task ≡ true → (live_brick_turn s from l).state.leaves ≡ served s.leaves p made p.task
      → ((spot : Name) (new : Leaf) → In made.name spot → new ≡ made → JoinEnds n at s spot new) → Came_here
  served-comes p made join leaves ends = by p.task refl
    where
      by : (q : Task) → p.task ≡ q → Came_here
      by Split task = let no : false ≡ true = sym (ap is_join task) ∙ join in cc
      by (Join via) task = λ spot new over.
          let k = subst (λ m. IsOver m spot new) (leaves ∙ ap (served s.leaves p made) task) over in
          elim (join-was s.leaves (λ q i e. keyed at (own s) i turn-of.both.0 q e) spot new p made via k) [
            | inl was ↦ inl (stays (Gone (moved z n (brick_takes at from l s))) s.leaves spot new was)
            | inr its ↦ inr (ends spot new its.0 its.1)
          ]

  goes-comes : (p : OpenOrder) → s.order ≡ Some p → is_join p.task ≡ true → JoinGoes s.number s.known s.leaves p from l (live_brick_turn s from l)
      → Came_here
  goes-comes p there join (leases q e same leasing leaves) = same-here leaves
  goes-comes p there join (goes_on q e same phase same_copied leaf leaves) = same-here leaves
  goes-comes p there join (begins q source e same empty phase fixed leaves) = same-here leaves
  goes-comes p there join (copies q e same phase part leaf leaves) = same-here leaves
  goes-comes p there join (ended e leaves) = same-here leaves
  goes-comes p there join (installed made phase none answer e leaves) =
      served-comes p made join leaves (λ spot new over is. installed-ends z cs n at from l s f g h p there join made phase spot new none answer over is)
  goes-comes p there join (at_once leaf v o phase part fixed gave number known none e leaves) =
      served-comes p (order.made_leaf v o leaf p.task) join leaves
      (λ spot new over is. at-once-ends z cs n at from l s f g h p there join leaf v o spot new phase part fixed gave number known none over)

  join-comes : (p : OpenOrder) → s.order ≡ Some p → is_join p.task ≡ true → Rests s l (live_brick_turn s from l) → Came_here
  join-comes p there join (rests e take) =
      take-comes n at g.low.listed.known.book (Gone (moved z n (brick_takes at from l s))) (letter_leaf l) s (live_brick_turn s from l) turn-of take
  join-comes p there join (of_order k) = goes-comes p there join (letter-goes s p there join from l k)

  comes : Came_here
  comes =
      change-comes n at g.low.listed.known.book (Gone (moved z n (brick_takes at from l s))) (letter_leaf l) s (live_brick_turn s from l) turn-of
      (change-once.letters s from l) (λ p there join. join-comes p there join (letter-rests s from l))

  -- a join that doesn't lease has a leaf
  module _ (o : OpenOrder) (open_order : (live_brick_turn s from l).state.order ≡ Some o) (joins : is_join o.task ≡ true) (works : is_leasing o.phase ≡ false)
    where
      had-leaf : (p : OpenOrder) → s.order ≡ Some p → is_join p.task ≡ true → is_leasing p.phase ≡ false → is_some p.leaf ≡ true
      had-leaf p there join phase = h.fixed at s p f.here f.live there join phase

      fixed-goes : (p : OpenOrder) → s.order ≡ Some p → is_join p.task ≡ true → JoinGoes s.number s.known s.leaves p from l (live_brick_turn s from l)
          → is_some o.leaf ≡ true
      fixed-goes p there join (leases q e same leasing leaves) =
          let is : q ≡ o = the-order q o (sym e ∙ open_order) in
          absurd (both_ways (is_leasing o.phase) works (subst (λ (x : OpenOrder). is_leasing x.phase ≡ true) is leasing))
      fixed-goes p there join (goes_on q e same phase same_copied leaf leaves) =
          let is : q ≡ o = the-order q o (sym e ∙ open_order) in
          let phase_o : o.phase ≡ p.phase = subst (λ (x : OpenOrder). x.phase ≡ p.phase) is phase in
          let leaf_o : o.leaf ≡ p.leaf = subst (λ (x : OpenOrder). x.leaf ≡ p.leaf) is leaf in
          ap is_some leaf_o ∙ had-leaf p there join (sym (ap is_leasing phase_o) ∙ works)
      fixed-goes p there join (begins q source e same empty phase fixed leaves) =
          let is : q ≡ o = the-order q o (sym e ∙ open_order) in subst (λ (x : OpenOrder). is_some x.leaf ≡ true) is fixed
      fixed-goes p there join (copies q e same phase part leaf leaves) =
          let is : q ≡ o = the-order q o (sym e ∙ open_order) in
          let leaf_o : o.leaf ≡ p.leaf = subst (λ (x : OpenOrder). x.leaf ≡ p.leaf) is leaf in
          ap is_some leaf_o ∙ had-leaf p there join (ap is_leasing phase)
      fixed-goes p there join (ended e leaves) = absurd (not-none o (sym e ∙ open_order))
      fixed-goes p there join (installed made phase none answer e leaves) = absurd (not-none o (sym e ∙ open_order))
      fixed-goes p there join (at_once leaf v q phase part fixed gave number known none e leaves) = absurd (not-none o (sym e ∙ open_order))

      fixed-rests : (p : OpenOrder) → s.order ≡ Some p → is_join p.task ≡ true → Rests s l (live_brick_turn s from l) → is_some o.leaf ≡ true
      fixed-rests p there join (rests e take) =
          let is : p ≡ o = the-order p o (sym there ∙ sym e ∙ open_order) in
          subst (λ (x : OpenOrder). is_some x.leaf ≡ true) is
          (had-leaf p there join (subst (λ (x : OpenOrder). is_leasing x.phase ≡ false) (sym is) works))
      fixed-rests p there join (of_order k) = fixed-goes p there join (letter-goes s p there join from l k)

      fixed-by : (q : Option OpenOrder) → s.order ≡ q → is_some o.leaf ≡ true
      fixed-by None e =
          absurd (both_ways (is_join o.task) ((letter-stays false s from l (λ p k. absurd (not-none p (sym e ∙ k)))).is o open_order) joins)
      fixed-by (Some p) e = task p.task refl
        where
          task : (t : Task) → p.task ≡ t → is_some o.leaf ≡ true
          task (Join via) j = fixed-rests p e (ap is_join j) (letter-rests s from l)
          task Split j =
              absurd (both_ways (is_join o.task) ((letter-stays false s from l (λ q k. subst (λ (x : OpenOrder). is_join x.task ≡ false)
              (the-order p q (sym e ∙ k)) (ap is_join j))).is o open_order) joins)

  pub takes-turns : Turns n (moved z n (brick_takes at from l s)) at s (live_brick_turn s from l).state
  takes-turns =
      record {
        here = f.here;
        live = f.live;
        is = refl;
        comes = comes;
        others = λ j v o here k. still-bound z cs n (brick_takes at from l s) f j v o here k;
        itself = λ o k. takes-from z cs n at from l s f g o k;
        fixed = λ o e join phase. fixed-by o e join phase s.order refl;
      }

-- where it is told an order
module _ (z : Sizes) (cs : List Caller) (n : Net) (at : ℕ) (c : Order) (s : BrickState) (f : Fits z cs n (brick_told at c s)) (live : s.stopped ≡ false)
    (g : AreAll z n) (h : AreTogether n) where
  told-turn : Turn at g.low.listed.known.book (Gone (moved z n (brick_told at c s))) None s (brick_input s c)
  told-turn =
      let b = g.low.listed.known.book in
      let e = brick_told at c s in
      let m = moved z n e in
      let ok : BrickOk at b s = subst (NodeOk b at) f.here (g.low.listed.known.nodes at) in
      let leafed : Leafed at b s = ok.live live in
      let both : IsBoth at (own s) = subst (owns.NodeOk at) f.here (g.low.listed.asked.own at) in
      let asks : AskedBy at s.known s.order = subst (NodeAsks at) f.here (g.low.listed.asked.asks at) in
      let made = order-makes (Known b) at s c leafed.leaves (record { both = both; asked = asks }) in
      let knows_gone = (λ (k : ℕ) (i : has_node s.known k ≡ true). gone-later z cs n e f k
      (known-gone z n at k g.low.listed.asked.links f.inside (ap (λ x. knows (view x) k) f.here ∙ i))) in
      record {
        both = both;
        asked = asks;
        splits = subst (NodeSplits at) f.here (g.low.split.splits at);
        leafed = leafed;
        heard = tt;
        lists = λ st x is. lists-later b b (Gone n) (Gone m) st x (λ q y i. i) (gone-later z cs n e f) (g.low.listed.lists st x is);
        knows = knows_gone;
        known = s.known;
        learns = knows_gone;
        turned = order-turned s c leafed;
        makes = subst (λ i. Makes (Known b) s.known i s.made (brick_input s c)) both.0.number made;
      }

  told-fixed : (o : OpenOrder) → (brick_input s c).state.order ≡ Some o → is_join o.task ≡ true → is_leasing o.phase ≡ false → (q : Option OpenOrder)
      → s.order ≡ q → is_some o.leaf ≡ true
  told-fixed o there join phase None e = absurd (both_ways (is_leasing o.phase) phase ((order-opens s c e).is o there join))
  told-fixed o there join phase (Some p) e =
      h.fixed at s o f.here live (sym (ap (λ (x : BrickState). x.order) (order-still s p c e)) ∙ there) join phase

  pub told-turns : Turns n (moved z n (brick_told at c s)) at s (brick_input s c).state
  told-turns =
      record {
        here = f.here;
        live = live;
        is = refl;
        comes =
            change-comes n at g.low.listed.known.book (Gone (moved z n (brick_told at c s))) None s (brick_input s c) told-turn (change-once.orders s c)
            (λ p there join. same-leaves n at g.low.listed.known.book (Gone (moved z n (brick_told at c s))) None s (brick_input s c) told-turn
            (ap (λ (x : BrickState). x.leaves) (order-still s p c there)));
        others = λ j v o here k. still-bound z cs n (brick_told at c s) f j v o here k;
        itself = λ o k. told-from z cs n at c s f o k;
        fixed = λ o there join phase. told-fixed o there join phase s.order refl;
      }
