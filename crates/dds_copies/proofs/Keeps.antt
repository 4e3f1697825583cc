use Rattle.std.proofs.Common.{◌≡◌, ℕ, Bool, true, false, Option, Some, None, List, refl, sym, ap, ◌∙◌, subst}
use Rattle.std.proofs.lemmas.Bool.{both_ways}
use Rattle.dds_base.specs.declared.number.NodeNo.{NodeNo}
use Rattle.dds_base.specs.declared.op.Order.{Order}
use Rattle.dds_brick_rows.specs.Refusal.{is_join}
use Rattle.dds_cluster.specs.World.{emptied}
use Rattle.dds_cluster.specs.declared.trace.Caller.{Caller}
use Rattle.dds_cluster.specs.declared.trace.Made.{Made}
use Rattle.dds_core.specs.Brick.{brick_input, live_brick_turn}
use Rattle.dds_core.specs.LibraryTurn.{live_library_turn}
use Rattle.dds_letters.specs.declared.letter.Letter.{Letter}
use Rattle.dds_net.proofs.Carried.{Sends}
use Rattle.dds_net.specs.Event.{Event, Fits, Ordered, Takes, asked_turn, moved, nothing, unheard, unasked, brick_takes, brick_told, brick_stops}
use Rattle.dds_net.specs.Event.{library_asked, library_stops, library_takes}
use Rattle.dds_net.specs.Net.{Net, Node, Sizes, a_brick}
use Rattle.dds_orders.proofs.LibraryLetters.{asked-others, library-others}
use Rattle.dds_orders.proofs.Numbered.{told-stopped}
use Rattle.dds_share.proofs.Bounds.{leasing-is, no-brick}
use Rattle.dds_share.proofs.Events.{stopped-not}
use Rattle.dds_share.proofs.Opens.{order-opens, order-still}
use Rattle.dds_share.proofs.Turned.{same-brick}
use Rattle.dds_states.specs.declared.brick_state.BrickState.{BrickState}
use Rattle.dds_states.specs.declared.brick_state.OpenOrder.{OpenOrder}
use Rattle.dds_states.specs.declared.brick_state.OrderPhase.TheVariants.{Copying}
use Rattle.dds_values.specs.Values.{table}
use Rattle.dds_copies.proofs.Before.{Before}
use Rattle.dds_copies.proofs.Carried.{PutAt, Tell, another, itself, kept-join, put-at, tell-news}
use Rattle.dds_copies.proofs.JoinHears.{join-kept}
use Rattle.dds_copies.proofs.Outside.{leasing}
use Rattle.dds_copies.proofs.SourceSends.{source-news}
use Rattle.dds_copies.proofs.Tells.{others-tell, turns-tell}
use Rattle.dds_copies.specs.Copies.{CopiesTable, JoinsCopy}

-- Each event keeps what joins have copied of the table that was there before it.

module _ (z : Sizes) (cs : List Caller) (made : List Made) (n : Net) (g : Before z made n) where
  abbrev Kept : Event → ℕ → OpenOrder → Type 0
  Kept e k o = CopiesTable (table made) (moved z n e) k o

  -- a brick that the event leaves alone
  kept : (e : Event) → Fits z cs n e → (k : ℕ) (s : BrickState) (o : OpenOrder) → n.node k ≡ a_brick s → s.stopped ≡ false → s.order ≡ Some o
      → is_join o.task ≡ true → ((source : NodeNo) → o.phase ≡ Copying source → Sends (Tell (table made) o source k) z e) → Kept e k o
  kept e f k s o here live there join sends = kept-join (table made) z cs n e k s o f g.copy here live there join sends

  takes : (at from : ℕ) (l : Letter) (s : BrickState) → Takes z n at from l (a_brick s) → JoinsCopy (table made) (moved z n (brick_takes at from l s))
  takes at from l s f k t o here live there join = by (put-at n at k (a_brick (live_brick_turn s from l).state) t here)
    where
      by : PutAt n at k (a_brick (live_brick_turn s from l).state) t → Kept (brick_takes at from l s) k o
      by (itself e is) =
          subst (λ i. Kept (brick_takes at from l s) i o) (sym e) (join-kept z cs made n g at from l s f o
          (ap (λ (x : BrickState). x.order) (same-brick (live_brick_turn s from l).state t is) ∙ there) join)
      by (another ne was) = kept (brick_takes at from l s) f k t o was live there join (source-news z made n g at from l s f k t o was live there join)

  -- a brick is told an order: a join that opens leases
  told-own : (at : ℕ) (c : Order) (s : BrickState) → Ordered z n at c s → (q : Option OpenOrder) (b : Bool) → s.order ≡ q → s.stopped ≡ b
      → (t : BrickState) (o : OpenOrder) → (brick_input s c).state ≡ t → t.stopped ≡ false → t.order ≡ Some o → is_join o.task ≡ true
      → Kept (brick_told at c s) at o
  told-own at c s f q true was_order was t o is live there join =
      absurd (both_ways t.stopped live (sym (ap (λ (x : BrickState). x.stopped) is) ∙ told-stopped s c ∙ was))
  told-own at c s f None false none was t o is live there join =
      let opened = order-opens s c none in
      leasing (table made) (moved z n (brick_told at c s)) at o
      (leasing-is o.phase (opened.is o (ap (λ (x : BrickState). x.order) is ∙ there) join))
  told-own at c s f (Some p) false was_order was t o is live there join =
      let same : s ≡ t = sym (order-still s p c was_order) ∙ is in
      kept (brick_told at c s) f at s o f.here was (ap (λ (x : BrickState). x.order) same ∙ there) join
      (λ source phase. tell-news (table made) o source at z at (brick_input s c).out.letters (turns-tell.told (table made) s c o))

  told : (at : ℕ) (c : Order) (s : BrickState) → Ordered z n at c s → JoinsCopy (table made) (moved z n (brick_told at c s))
  told at c s f k t o here live there join = by (put-at n at k (a_brick (brick_input s c).state) t here)
    where
      by : PutAt n at k (a_brick (brick_input s c).state) t → Kept (brick_told at c s) k o
      by (itself e is) =
          subst (λ i. Kept (brick_told at c s) i o) (sym e)
          (told-own at c s f s.order s.stopped refl refl t o (same-brick (brick_input s c).state t is) live there join)
      by (another ne was) =
          kept (brick_told at c s) f k t o was live there join
          (λ source phase. tell-news (table made) o source k z at (brick_input s c).out.letters (turns-tell.told (table made) s c o))

  -- where no live brick changes
  quiet : (e : Event) → Fits z cs n e → ((k : ℕ) (t : BrickState) → (moved z n e).node k ≡ a_brick t → t.stopped ≡ false → n.node k ≡ a_brick t)
      → ((k : ℕ) (o : OpenOrder) (source : NodeNo) → Sends (Tell (table made) o source k) z e) → JoinsCopy (table made) (moved z n e)
  quiet e f bricks sends k t o here live there join = kept e f k t o (bricks k t here live) live there join (λ source phase. sends k o source)

  put-quiet : (at k : ℕ) (y : Node) (t : BrickState) → (y ≡ a_brick t → n.node at ≡ a_brick t) → PutAt n at k y t → n.node k ≡ a_brick t
  put-quiet at k y t f (itself e is) = ap n.node e ∙ f is
  put-quiet at k y t f (another ne was) = was

  pub joins-kept : (e : Event) → Fits z cs n e → JoinsCopy (table made) (moved z n e)
  joins-kept nothing f = g.copy
  joins-kept (unasked at caller call o) f = g.copy
  joins-kept (unheard at from l) f =
      quiet (unheard at from l) f (λ k t here live. put-quiet at k (n.node at) t (λ is. is) (put-at n at k (n.node at) t here)) (λ k o source. tt)
  joins-kept (brick_takes at from l s) f = takes at from l s f
  joins-kept (brick_told at c s) f = told at c s f
  joins-kept (brick_stops at s left) f =
      quiet (brick_stops at s left) f
      (λ k t here live. put-quiet at k (a_brick (emptied s.number)) t (λ is. absurd (stopped-not s t is live)) (put-at n at k _ t here))
      (λ k o source b x y. tt)
  joins-kept (library_takes at from l s) f =
      quiet (library_takes at from l s) f (λ k t here live. put-quiet at k _ t (λ is. absurd (no-brick _ t is)) (put-at n at k _ t here))
      (λ k o source. tell-news (table made) o source k z at (live_library_turn s from l).out.letters
      (others-tell (table made) o (live_library_turn s from l).out.letters (library-others s from l)))
  joins-kept (library_asked at caller call c s) f =
      quiet (library_asked at caller call c s) f (λ k t here live. put-quiet at k _ t (λ is. absurd (no-brick _ t is)) (put-at n at k _ t here))
      (λ k o source. tell-news (table made) o source k z at (asked_turn s caller call c).out.letters
      (others-tell (table made) o (asked_turn s caller call c).out.letters (asked-others s caller call c)))
  joins-kept (library_stops at s left) f =
      quiet (library_stops at s left) f (λ k t here live. put-quiet at k _ t (λ is. absurd (no-brick _ t is)) (put-at n at k _ t here))
      (λ k o source b x y. tt)
