use Rattle.std.proofs.Common.{◌≡◌, ℕ, ◌≤◌, ◌||◌, inl, inr, true, false, Option, Some, None, List, [], ◌∷◌, refl, sym, ap, ◌∙◌, subst}
use Rattle.std.proofs.lemmas.Bool.{both_ways, cases_eq, ne_eqb}
use Rattle.std.specs.List.{AllByRecursion}
use Rattle.std.specs.Prelude.{if◌then◌else◌}
use Rattle.dds_base.specs.BrickList.{has}
use Rattle.dds_base.specs.NodeSet.{has_node}
use Rattle.dds_base.specs.declared.number.NodeNo.{NodeNo}
use Rattle.dds_books.specs.Placed.{ArePlaced, IsBrick}
use Rattle.dds_core.proofs.Lists.{all-both}
use Rattle.dds_law_own.proofs.Changes.{own}
use Rattle.dds_law_own.proofs.Keeps as law_own
use Rattle.dds_law_own.proofs.Owned.{Unknown}
use Rattle.dds_law_own.proofs.Parted.{IsBoth}
use Rattle.dds_locks.specs.Leases.{is_given}
use Rattle.dds_locks.specs.declared.leases.Lease.{Lease}
use Rattle.dds_net.proofs.Quiet.{IsEmpty}
use Rattle.dds_net.specs.Net.{Net, Sizes, a_brick}
use Rattle.dds_order_rows.specs.OwnOrder.{is_leasing}
use Rattle.dds_order_talk.proofs.Holds.{name-self}
use Rattle.dds_order_talk.proofs.Letters as within
use Rattle.dds_order_talk.proofs.Letters.{AreWithin}
use Rattle.dds_order_talk.proofs.Members.{AskedOk, it-has, one-only}
use Rattle.dds_order_talk.specs.Seen.{New, OrdersTalk, Own, asks, phase_view, rests, says, view}
use Rattle.dds_order_talk.specs.Table.View.{Off}
use Rattle.dds_order_talk.specs.Table.{Talk}
use Rattle.dds_orders.proofs.Leases.{lease-self}
use Rattle.dds_states.specs.Turn.{is_none_left}
use Rattle.dds_states.specs.declared.brick_state.BrickState.{BrickState}
use Rattle.dds_states.specs.declared.brick_state.OpenOrder.{OpenOrder}
use Rattle.dds_states.specs.declared.brick_state.OrderPhase.TheVariants.{Copying, Installing, Leasing}
use Rattle.dds_states.specs.declared.brick_state.OrderPhase.{OrderPhase}
use Rattle.dds_order_ends.proofs.Events.{AreEnding, Ends, NodeEnds}
use Rattle.dds_order_ends.proofs.Lines.{awaited-speaks, off-silent}
use Rattle.dds_order_ends.proofs.Live.{Spoken, awaited-bricks, brick-inside, brick-parts, brick-placed, live-talk, live-unknown, unknown-live}
use Rattle.dds_order_ends.proofs.Mine.{IsMine}
use Rattle.dds_order_ends.specs.Quiet.{HasNoOrders}
use Rattle.dds_order_talk.specs.Seen.{PartsGoOn}
use Rattle.dds_order_ends.specs.Waiting.{Waits, awaited}

-- Where nothing is on its way, no live brick has an open order, or has given a lease.

-- what this stands on, of one net
pub record AreGround (z : Sizes) (n : Net) : Type 0 where
  pub few : z.bricks ≤ 64
  pub ending : AreEnding z n
  pub placed : ArePlaced z n
  pub within : AreWithin n
  pub talk : OrdersTalk n

-- whom an order waits for are others
awaited-asked : (me count : ℕ) (o : OpenOrder) (p : OrderPhase) (m : NodeNo) → o.phase ≡ p → AskedOk me count o → has (awaited p o.waiting) m ≡ true
    → has o.asked m ≡ true
awaited-asked me count o Leasing m e h k = (h.leases m (ap is_leasing e) k).0
awaited-asked me count o (Copying source) m e h k =
    h.granted m (subst (λ i. has o.granted i ≡ true) (sym (one-only source m k)) (h.source source e))
awaited-asked me count o (Installing made) m e h k = h.granted m (h.installs made m e k)

pub awaited-other : (z : Sizes) (n : Net) (k : ℕ) (s : BrickState) (o : OpenOrder) (m : NodeNo) → AreGround z n → n.node k ≡ a_brick s
    → s.order ≡ Some o → has (awaited o.phase o.waiting) m ≡ true → m ≡ k → ⊥
awaited-other z n k s o m g here e h is =
    let ok : within.BrickOk k s = subst (within.NodeOk k) here (g.within.nodes k) in
    let it = ok.is.order o e in
    both_ways (has o.asked k) it.itself (subst (λ i. has o.asked i ≡ true) is (awaited-asked k s.orders o o.phase m refl it h))

pub ends-at : (z : Sizes) (n : Net) (k : ℕ) (s : BrickState) → AreEnding z n → n.node k ≡ a_brick s → Ends s
ends-at z n k s g here = subst (NodeEnds k) here (g.ends k)

-- one of those that are waited for
record Someone (ns : List NodeNo) : Type 0 where
  pub node : NodeNo
  pub is : has ns node ≡ true

someone : (ns : List NodeNo) → is_none_left ns ≡ false → Someone ns
someone [] e = cc
someone (n ∷ ns) e = record { node = n; is = it-has n ns }

-- it lives, and has nothing to come and to be heard
waits-none : (z : Sizes) (n : Net) (k m : ℕ) (s t : BrickState) (o : OpenOrder) → AreGround z n → IsEmpty n → PartsGoOn n → n.node k ≡ a_brick s
    → n.node m ≡ a_brick t → s.stopped ≡ false → s.order ≡ Some o → has (awaited o.phase o.waiting) m ≡ true → ⊥
waits-none z n k m s t o g empty on here there live e h =
    let w : Waits s.known o = (ends-at z n k s g.ending here).waits o e in
    let links = g.ending.stood.links in
    let inside = brick-inside z n k s g.few g.placed here in
    let other = awaited-other z n k s o m g here e h in
    let unknown = w.unknown m h in
    let also = unknown-live z n k m s t links empty inside here there live (ne_eqb m k other) unknown in
    let talk = live-talk n k m o.name s t g.talk here there live also (ne_eqb k m (λ i. other (sym i))) unknown in
    let given = is_given t.locks.leases o.name k in
    let seen : view rests s.order o.name m ≡ phase_view rests o m o.phase =
    ap (λ q. view rests q o.name m) e ∙ ap (λ c. if c then phase_view rests o m o.phase else Off) (name-self o.name) in
    let quiet : Talk o.name (Own t.leaves o.name) (New t.leaves o.name) (phase_view rests o m o.phase) [] given [] =
    subst (λ v. Talk o.name (Own t.leaves o.name) (New t.leaves o.name) v [] given []) seen
    (subst (λ c. Talk o.name (Own t.leaves o.name) (New t.leaves o.name) (view rests s.order o.name m) [] given (says s.order o.name c)) (empty m k)
    (subst (λ c. Talk o.name (Own t.leaves o.name) (New t.leaves o.name) (view rests s.order o.name m) (asks s.order o.name c) given
    (says s.order o.name (n.channel m k))) (empty k m) talk)) in
    awaited-speaks o m o.phase refl h (λ i. (w.first i).phase)
    (λ i. on k m s t o here there live also e i (ap (asks (Some o) o.name) (empty k m)) (ap (says (Some o) o.name) (empty m k))) quiet

none-if : (q : Option OpenOrder) → ((o : OpenOrder) → q ≡ Some o → ⊥) → q ≡ None
none-if None f = refl
none-if (Some o) f = absurd (f o refl)

pub no-orders : (z : Sizes) (n : Net) (k : ℕ) (s : BrickState) → AreGround z n → IsEmpty n → PartsGoOn n → n.node k ≡ a_brick s → s.stopped ≡ false
    → s.order ≡ None
no-orders z n k s g empty on here live =
    none-if s.order (λ o e.
    let w : Waits s.known o = (ends-at z n k s g.ending here).waits o e in
    let m = someone (awaited o.phase o.waiting) w.some in
    let b = brick-placed z n m.node g.few g.placed (awaited-bricks z n k s o m.node g.placed here e m.is) in
    waits-none z n k m.node s b.state o g empty on here b.is live e m.is)

-- a lease
gives-none : (z : Sizes) (n : Net) (k : ℕ) (s : BrickState) (l : Lease) → AreGround z n → IsEmpty n → PartsGoOn n → n.node k ≡ a_brick s
    → s.stopped ≡ false → is_given s.locks.leases l.name l.holder ≡ true → IsMine s.number s.order l → has_node s.known l.holder ≡ false
    → IsBrick z l.holder → ⊥
gives-none z n k s l g empty on here live given mine unknown low = elim (cases_eq l.holder k) [
  | inl is ↦
      let number = (brick-parts z n k s g.placed here).its_number in
      let split = mine (is ∙ sym number) in
      let no : None ≡ Some split.is.order = sym (no-orders z n k s g empty on here live) ∙ split.is.there in
      cc
  | inr ne ↦
      let links = g.ending.stood.links in
      let h = l.holder in
      let b = brick-placed z n h g.few g.placed low in
      let t = b.state in
      let inside = brick-inside z n k s g.few g.placed here in
      let also = unknown-live z n k h s t links empty inside here b.is live (ne_eqb h k ne) unknown in
      let none = no-orders z n h t g empty on b.is also in
      let apart = live-unknown z n h k t s links (brick-inside z n h t g.few g.placed b.is) b.is here live in
      let talk : Spoken n h k l.name t s = live-talk n h k l.name t s g.talk b.is here also live (ne_eqb h k ne) apart in
      let x = l.name in
      let quiet : Talk x (Own s.leaves x) (New s.leaves x) Off [] (is_given s.locks.leases x h) [] =
      subst (λ q. Talk x (Own s.leaves x) (New s.leaves x) (view rests q x k) [] (is_given s.locks.leases x h) []) none
      (subst (λ c. Talk x (Own s.leaves x) (New s.leaves x) (view rests t.order x k) [] (is_given s.locks.leases x h) (says t.order x c)) (empty k h)
      (subst (λ c. Talk x (Own s.leaves x) (New s.leaves x) (view rests t.order x k) (asks t.order x c) (is_given s.locks.leases x h)
      (says t.order x (n.channel k h))) (empty h k) talk)) in
      absurd (both_ways (is_given s.locks.leases x h) (off-silent quiet) given)
]

none-given : (ls : List Lease) (P : Lease → Type 0) → AllByRecursion P ls → ((l : Lease) → is_given ls l.name l.holder ≡ true → P l → ⊥) → ls ≡ []
none-given [] P h f = refl
none-given (l ∷ ls) P h f = absurd (f l (ap (λ c. c || is_given ls l.name l.holder) (lease-self l.name l.holder)) h.0)

pub no-leases : (z : Sizes) (n : Net) (k : ℕ) (s : BrickState) → AreGround z n → IsEmpty n → PartsGoOn n → n.node k ≡ a_brick s → s.stopped ≡ false
    → s.locks.leases ≡ []
no-leases z n k s g empty on here live =
    let both : IsBoth k (own s) = subst (law_own.NodeOk k) here (g.ending.stood.own k) in
    none-given s.locks.leases (λ (l : Lease). IsMine s.number s.order l × (Unknown s.known l × IsBrick z l.holder))
    (all-both _ _ s.locks.leases (ends-at z n k s g.ending here).mine
    (all-both _ _ s.locks.leases both.0.holders (brick-parts z n k s g.placed here).its_locks.1))
    (λ l given p. gives-none z n k s l g empty on here live given p.0 p.1.0 p.1.1)

pub quiet-over : (z : Sizes) (n : Net) (k : ℕ) (s : BrickState) → AreGround z n → IsEmpty n → PartsGoOn n → n.node k ≡ a_brick s → s.stopped ≡ false
    → HasNoOrders s
quiet-over z n k s g empty on here live =
    record { order = no-orders z n k s g empty on here live; leases = no-leases z n k s g empty on here live }
