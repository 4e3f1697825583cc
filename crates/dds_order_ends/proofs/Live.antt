use Rattle.std.proofs.Common.{◌≡◌, ℕ, ◌<◌, ◌≤◌, ◌==◌, inl, inr, true, false, not, Option, Some, None, [], ◌∷◌, arith, refl, sym, ap, ◌∙◌, subst}
use Rattle.std.proofs.lemmas.Bool.{both_ways, cases_Bool}
use Rattle.std.specs.List.{AllByRecursion}
use Rattle.std.specs.Prelude.{is_some}
use Rattle.dds_base.specs.BrickList.{has}
use Rattle.dds_base.specs.Name.{Name}
use Rattle.dds_base.specs.NodeSet.{has_node}
use Rattle.dds_base.specs.Number.{Txn}
use Rattle.dds_base.specs.declared.number.NodeNo.{NodeNo}
use Rattle.dds_books.proofs.Numbers.{all-has}
use Rattle.dds_books.specs.Placed as placed
use Rattle.dds_books.specs.Placed.{ArePlaced, IsBrick, OfSome, OrderOk, OrderPhaseOk}
use Rattle.dds_cluster.specs.World.{World, brick_at}
use Rattle.dds_law_notice.proofs.Keeps.{AreLinked}
use Rattle.dds_law_notice.proofs.Quiet.{all-known}
use Rattle.dds_law_notice.proofs.Views.{knows, view}
use Rattle.dds_locks.specs.Leases.{is_given}
use Rattle.dds_net.proofs.Places.{low-in}
use Rattle.dds_net.proofs.Quiet.{IsEmpty}
use Rattle.dds_net.proofs.Ways.{NodeIs, is_brick, is_library, is_nowhere, node-is}
use Rattle.dds_net.specs.Net.{Net, Node, Sizes, a_brick, a_library, is_in, node_at, nowhere}
use Rattle.dds_order_talk.proofs.Holds.{both-live}
use Rattle.dds_order_talk.specs.Seen.{OrdersTalk, New, Own, asks, rests, says}
use Rattle.dds_order_talk.specs.Seen.{view as view_of}
use Rattle.dds_order_talk.specs.Table.{Talk}
use Rattle.dds_states.specs.declared.brick_state.BrickState.{BrickState}
use Rattle.dds_states.specs.declared.brick_state.OpenOrder.{OpenOrder}
use Rattle.dds_states.specs.declared.brick_state.OrderPhase.TheVariants.{Copying, Installing, Leasing}
use Rattle.dds_states.specs.declared.brick_state.OrderPhase.{OrderPhase}
use Rattle.dds_talk.proofs.Grounds.{known-over}
use Rattle.dds_order_ends.specs.Waiting.{awaited}

-- Bricks of the cluster, and which of them live.

-- a number below the count of bricks is a brick's
pub record HasBrick (x : Node) : Type 0 where
  pub state : BrickState
  pub is : x ≡ a_brick state

brick-if : (T : Txn → Type 0) (z : Sizes) (k : ℕ) (x : Node) → z.bricks ≤ 64 → placed.NodeOk T z k x → k < z.bricks → HasBrick x
brick-if T z k nowhere few h lt = absurd (both_ways (is_in z k) h (low-in z k (omega (arith, few, lt)) lt))
brick-if T z k (a_brick s) few h lt = record { state = s; is = refl }
brick-if T z k (a_library s) few h lt = let high = h.high in absurd (omega (arith, high, few, lt))

pub brick-placed : (z : Sizes) (n : Net) (k : ℕ) → z.bricks ≤ 64 → ArePlaced z n → k < z.bricks → HasBrick (n.node k)
brick-placed z n k few g lt = brick-if (placed.Made n) z k (n.node k) few (g.nodes k) lt

brick-there : (w : World) (k : ℕ) (s : BrickState) → NodeIs w k → node_at w k ≡ a_brick s → is_some (brick_at w k) ≡ true
brick-there w k s (is_nowhere e) h = let no = sym e ∙ h in cc
brick-there w k s (is_brick x b e) h = ap is_some b
brick-there w k s (is_library x b e) h = let no = sym e ∙ h in cc

pub brick-in-world : (w : World) (k : ℕ) → HasBrick (node_at w k) → is_some (brick_at w k) ≡ true
brick-in-world w k h = brick-there w k h.state (node-is w k) h.is

pub brick-parts : (z : Sizes) (n : Net) (k : ℕ) (s : BrickState) → ArePlaced z n → n.node k ≡ a_brick s → placed.BrickOk (placed.Made n) z k s
brick-parts z n k s g here = subst (placed.NodeOk (placed.Made n) z k) here (g.nodes k)

pub brick-inside : (z : Sizes) (n : Net) (k : ℕ) (s : BrickState) → z.bricks ≤ 64 → ArePlaced z n → n.node k ≡ a_brick s → is_in z k ≡ true
brick-inside z n k s few g here = let lt = (brick-parts z n k s g here).inside in low-in z k (omega (arith, few, lt)) lt

-- whom an order waits for are bricks
awaited-if : (z : Sizes) (at : ℕ) (o : OpenOrder) (p : OrderPhase) (m : NodeNo) → AllByRecursion (IsBrick z) o.waiting → OrderPhaseOk z p
    → has (awaited p o.waiting) m ≡ true → IsBrick z m
awaited-if z at o Leasing m h k e = all-has (IsBrick z) o.waiting m h e
awaited-if z at o (Copying source) m h k e = all-has (IsBrick z) (source ∷ []) m (k, tt) e
awaited-if z at o (Installing made) m h k e = all-has (IsBrick z) o.waiting m h e

order-ok : (z : Sizes) (at : ℕ) (q : Option OpenOrder) (o : OpenOrder) → q ≡ Some o → OfSome (OrderOk z at) q → OrderOk z at o
order-ok z at None o e h = cc
order-ok z at (Some p) o e h = let is : p ≡ o = cc in subst (OrderOk z at) is h

pub awaited-bricks : (z : Sizes) (n : Net) (k : ℕ) (s : BrickState) (o : OpenOrder) (m : NodeNo) → ArePlaced z n → n.node k ≡ a_brick s
    → s.order ≡ Some o → has (awaited o.phase o.waiting) m ≡ true → m < z.bricks
awaited-bricks z n k s o m g here e h =
    let ok = order-ok z k s.order o e (brick-parts z n k s g here).its_order in awaited-if z k o o.phase m ok.its_waiting ok.its_step h

-- a live brick doesn't know a live one
pub live-unknown : (z : Sizes) (n : Net) (k m : ℕ) (s t : BrickState) → AreLinked z n → is_in z k ≡ true → n.node k ≡ a_brick s → n.node m ≡ a_brick t
    → t.stopped ≡ false → has_node s.known m ≡ false
live-unknown z n k m s t links inside here there live = elim (cases_Bool (has_node s.known m)) [
  | inl e ↦
      let stopped = (known-over z n m k links inside (ap (λ x. knows (view x) m) here ∙ e)).0 in
      absurd (both_ways t.stopped live (sym (ap (λ x. (view x).stopped) there) ∙ stopped))
  | inr e ↦ e
]

-- where nothing is on its way, one that it doesn't know lives
pub unknown-live : (z : Sizes) (n : Net) (k m : ℕ) (s t : BrickState) → AreLinked z n → IsEmpty n → is_in z k ≡ true → n.node k ≡ a_brick s
    → n.node m ≡ a_brick t → s.stopped ≡ false → (m == k) ≡ false → has_node s.known m ≡ false → t.stopped ≡ false
unknown-live z n k m s t links empty inside here there live ne unknown = elim (cases_Bool t.stopped) [
  | inl e ↦
      let known = all-known z n links empty m k inside ne (ap (λ x. (view x).stopped) there ∙ e) (ap (λ x. (view x).stopped) here ∙ live) in
      absurd (both_ways (has_node s.known m) unknown (sym (ap (λ x. knows (view x) m) here) ∙ known))
  | inr e ↦ e
]

-- two live bricks talk
abbrev pub Spoken : Net → ℕ → ℕ → Name → BrickState → BrickState → Type 0
Spoken n k m x s t =
    Talk x (Own t.leaves x) (New t.leaves x) (view_of rests s.order x m) (asks s.order x (n.channel k m)) (is_given t.locks.leases x k)
    (says s.order x (n.channel m k))

pub live-talk : (n : Net) (k m : ℕ) (x : Name) (s t : BrickState) → OrdersTalk n → n.node k ≡ a_brick s → n.node m ≡ a_brick t → s.stopped ≡ false
    → t.stopped ≡ false → (k == m) ≡ false → has_node s.known m ≡ false → Spoken n k m x s t
live-talk n k m x s t talk here there live also ne unknown = both-live (ap not live) (ap not also) (talk k m x s t here there ne unknown)
