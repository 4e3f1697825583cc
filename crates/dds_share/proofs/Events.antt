use Rattle.std.proofs.Common.{◌≡◌, ℕ, ◌≤◌, inl, inr, Bool, true, false, List, refl, sym, ap, ◌∙◌}
use Rattle.std.proofs.lemmas.Bool.{both_ways, cases_eq}
use Rattle.dds_base.specs.declared.op.Order.{Order}
use Rattle.dds_cluster.specs.World.{emptied}
use Rattle.dds_cluster.specs.declared.trace.Caller.{Caller}
use Rattle.dds_core.specs.Brick.{brick_input}
use Rattle.dds_law_leaf.proofs.Keeps.{stopped-order}
use Rattle.dds_net.proofs.Runs.{IsKept}
use Rattle.dds_net.specs.Event.{Event, nothing, unheard, unasked, brick_takes, brick_told, brick_stops, library_takes, library_asked, library_stops}
use Rattle.dds_net.specs.Event.{Fits, moved}
use Rattle.dds_net.specs.Net.{Net, Node, Sizes, a_brick, a_library, put}
use Rattle.dds_order_talk.proofs.Letters.{within-kept}
use Rattle.dds_parents.proofs.Keeps.{listed-kept}
use Rattle.dds_parents.proofs.Splits.{split-kept}
use Rattle.dds_states.specs.Turn.{BrickTurn}
use Rattle.dds_states.specs.declared.brick_state.BrickState.{BrickState}
use Rattle.dds_states.specs.declared.library_state.LibraryState.{LibraryState}
use Rattle.dds_share.proofs.Bounds.{still-bound}
use Rattle.dds_share.proofs.Facts.{AreAll, AreLow}
use Rattle.dds_share.proofs.Keeps.{quiet-keeps, turned-keeps}
use Rattle.dds_share.proofs.Parts.{bricks-kept}
use Rattle.dds_share.proofs.Together.{AreTogether}
use Rattle.dds_share.proofs.TurnFacts.{takes-turns, told-turns}
use Rattle.dds_share.proofs.Turned.{put-other, put-same, same-brick}

-- Each event keeps the invariant, over the laws below before it and after it, and the conversations of orders.

-- the laws below
pub low-kept : (z : Sizes) → z.bricks ≤ 64 → z.libraries ≤ 16 → IsKept z (Unit {0}) (λ h n e u. tt) (λ h n u. AreLow z n)
low-kept z few some h n e u built f g =
    record {
      listed = listed-kept z few some h n e tt built f g.listed;
      split = split-kept z few some h n e tt built f g.split;
      within = within-kept z h.callers n e few some g.listed.asked.links f g.within;
      parts = bricks-kept z h.callers n e f g.parts;
    }

-- an event at which no live brick changes
put-quiet : (n : Net) (at k : ℕ) (y : Node) (t : BrickState) → (k ≡ at → y ≡ a_brick t → n.node k ≡ a_brick t) → put at y n.node k ≡ a_brick t
    → n.node k ≡ a_brick t
put-quiet n at k y t f h = elim (cases_eq k at) [
  | inl e ↦ f e (sym (put-same n.node at k y e) ∙ h)
  | inr ne ↦ sym (put-other n.node at k y ne) ∙ h
]

no-brick : (q : LibraryState) (t : BrickState) → a_library q ≡ a_brick t → ⊥
no-brick q t e = cc

pub stopped-not : (s t : BrickState) → a_brick (emptied s.number) ≡ a_brick t → t.stopped ≡ false → ⊥
stopped-not s t e live = both_ways t.stopped live (sym (ap (λ (x : BrickState). x.stopped) (same-brick (emptied s.number) t e)))

module _ (z : Sizes) (cs : List Caller) (n : Net) where
  quiet : (e : Event) → Fits z cs n e → ((k : ℕ) (t : BrickState) → (moved z n e).node k ≡ a_brick t → t.stopped ≡ false → n.node k ≡ a_brick t)
      → AreTogether n → AreTogether (moved z n e)
  quiet e f bricks h = quiet-keeps n (moved z n e) (record { bricks = bricks; bound = λ j s o here k. still-bound z cs n e f j s o here k }) h

  told : (at : ℕ) (c : Order) (s : BrickState) → Fits z cs n (brick_told at c s) → AreAll z n → AreAll z (moved z n (brick_told at c s)) → (b : Bool)
      → s.stopped ≡ b → AreTogether n → AreTogether (moved z n (brick_told at c s))
  told at c s f g after false live h =
      turned-keeps z n (moved z n (brick_told at c s)) at s (brick_input s c).state after h (told-turns z cs n at c s f live g h)
  told at c s f g after true dead h =
      quiet (brick_told at c s) f (λ k t is live. put-quiet n at k (a_brick (brick_input s c).state) t
      (λ e i. ap n.node e ∙ f.here ∙ sym (ap (λ (u : BrickTurn). a_brick u.state) (stopped-order s c dead)) ∙ i) is) h

  pub event-keeps : (e : Event) → z.bricks ≤ 64 → z.libraries ≤ 16 → Fits z cs n e → AreAll z n → AreAll z (moved z n e) → AreTogether n
      → AreTogether (moved z n e)
  event-keeps nothing few some f g after h = h
  event-keeps (unasked at caller call o) few some f g after h = h
  event-keeps (unheard at from l) few some f g after h =
      quiet (unheard at from l) f (λ k t is live. put-quiet n at k (n.node at) t (λ e i. ap n.node e ∙ i) is) h
  event-keeps (brick_takes at from l s) few some f g after h =
      turned-keeps z n (moved z n (brick_takes at from l s)) at s _ after h (takes-turns z cs n at from l s few some f g after.low h)
  event-keeps (brick_told at c s) few some f g after h = told at c s f g after s.stopped refl h
  event-keeps (brick_stops at s kept) few some f g after h =
      quiet (brick_stops at s kept) f
      (λ k t is live. put-quiet n at k (a_brick (emptied s.number)) t (λ e i. absurd (stopped-not s t i live)) is) h
  event-keeps (library_takes at from l s) few some f g after h =
      quiet (library_takes at from l s) f (λ k t is live. put-quiet n at k _ t (λ e i. absurd (no-brick _ t i)) is) h
  event-keeps (library_asked at caller call o s) few some f g after h =
      quiet (library_asked at caller call o s) f (λ k t is live. put-quiet n at k _ t (λ e i. absurd (no-brick _ t i)) is) h
  event-keeps (library_stops at s kept) few some f g after h =
      quiet (library_stops at s kept) f (λ k t is live. put-quiet n at k _ t (λ e i. absurd (no-brick _ t i)) is) h
