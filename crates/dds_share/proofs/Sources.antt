use Rattle.std.proofs.Common.{◌≡◌, ℕ, true, false, Option, Some, None, refl, sym, ap, ◌∙◌, subst}
use Rattle.std.proofs.lemmas.Bool.{both_ways, ne_eqb}
use Rattle.std.specs.Prelude.{is_some}
use Rattle.dds_base.specs.BrickList.{has}
use Rattle.dds_base.specs.Name.{Name, overlaps}
use Rattle.dds_base.specs.NodeSet.{has_node}
use Rattle.dds_base.specs.declared.leaf.Leaf.{Leaf}
use Rattle.dds_brick_rows.specs.Refusal.{is_join}
use Rattle.dds_locks.specs.Leases as lease
use Rattle.dds_net.specs.Net.{Net, Sizes, a_brick}
use Rattle.dds_order_rows.specs.OwnOrder as order
use Rattle.dds_order_talk.proofs.Holds.{HasOf, granted-holds}
use Rattle.dds_order_talk.specs.Seen.{New, Own}
use Rattle.dds_orders.proofs.Asked.{Answer, Asking, Member, gave, gone, granted, is_asked, itself, stopped, waits}
use Rattle.dds_orders.proofs.Leased.{In}
use Rattle.dds_orders.proofs.Standing.{order-is}
use Rattle.dds_states.specs.declared.brick_state.BrickState.{BrickState}
use Rattle.dds_states.specs.declared.brick_state.OpenOrder.{OpenOrder}
use Rattle.dds_states.specs.declared.brick_state.OrderPhase.{OrderPhase}
use Rattle.dds_states.specs.declared.brick_state.OrderPhase.TheVariants.{Copying, Leasing}
use Rattle.dds_share.proofs.Facts.{AreAll, asked-of, asking-of, both-of, gone-of, leases-apart, unknown-of}
use Rattle.dds_share.proofs.Over.{over-both}
use Rattle.dds_share.proofs.Together.{Bound, Freezes, Granted, IsBound, Serves, Share, comes, copied, installs, lives}
use Rattle.dds_share.proofs.Turned.{lives-not}

-- A join that copies from a live member: this one has the order's leaf and gave its lease, so all that serve a key of the join granted it,
-- and no other join that was granted has a key in common with it.

pub some-leaf : (q : Option Leaf) → is_some q ≡ true → (leaf : Leaf) × (q ≡ Some leaf)
some-leaf None h = cc
some-leaf (Some leaf) h = (leaf, refl)

copies-not : (o : OpenOrder) (source : ℕ) → o.phase ≡ Copying source → o.phase ≡ Leasing → ⊥
copies-not o source e f = let no : Copying source ≡ Leasing = sym e ∙ f in cc

pub not-leasing : (n : Net) (j : ℕ) (o : OpenOrder) (p : OrderPhase) → IsBound n j o p → p ≡ Leasing → ⊥
not-leasing n j o p (installs made) e = cc
not-leasing n j o p (lives source t here live) e = cc
not-leasing n j o p (copied source ne) e = cc
not-leasing n j o p (comes source t here part) e = cc

pub bound-phase : (n : Net) (j : ℕ) (o : OpenOrder) (p : OrderPhase) → IsBound n j o p → order.is_leasing p ≡ false
bound-phase n j o _ (installs made) = refl
bound-phase n j o _ (lives source t here live) = refl
bound-phase n j o _ (copied source ne) = refl
bound-phase n j o _ (comes source t here part) = refl

pub bound-freezes : (n : Net) (j : ℕ) (s : BrickState) (o : OpenOrder) → Granted n → Bound n j s o → Freezes n j s o
bound-freezes n j s o all h =
    record {
      here = h.here;
      live = h.live;
      there = h.there;
      join = h.join;
      phase = bound-phase n j o o.phase h.bound;
      granted = λ b spot t other ne serves over. all j b spot s t o other h ne serves over;
    }

-- a live brick with a join that copies from this one
pub record Copies (n : Net) (j : ℕ) (s : BrickState) (o : OpenOrder) (source : ℕ) (t : BrickState) : Type 0 where
  pub here : n.node j ≡ a_brick s
  pub live : s.stopped ≡ false
  pub there : s.order ≡ Some o
  pub phase : o.phase ≡ Copying source
  pub fixed : is_some o.leaf ≡ true
  pub source_here : n.node source ≡ a_brick t
  pub source_live : t.stopped ≡ false

module _ (z : Sizes) (n : Net) (g : AreAll z n) (j : ℕ) (s : BrickState) (o : OpenOrder) (source : ℕ) (t : BrickState) (h : Copies n j s o source t) where
  not-itself : source ≡ j → ⊥
  not-itself e =
      let ok = asked-of z n g j s o h.here h.there in
      both_ways (has o.asked j) ok.itself (subst (λ i. has o.asked i ≡ true) e (ok.granted source (ok.source source h.phase)))

  pub source-holds : (leaf : Leaf) → o.leaf ≡ Some leaf → (lease.is_given t.locks.leases o.name j ≡ true) × Own t.leaves o.name leaf
  source-holds leaf fixed =
      let ok = asked-of z n g j s o h.here h.there in
      let it = granted-holds j source s t o leaf (n.channel j source) (n.channel source j) h.live h.source_live
      (unknown-of z n g j source s t h.here h.source_here h.source_live) h.there fixed (ok.source source h.phase)
      (λ e. absurd (copies-not o source h.phase e))
      (g.talk j source o.name s t h.here h.source_here (ne_eqb j source (λ e. not-itself (sym e)))) in
      (it.0, subst (λ p. HasOf (Own t.leaves o.name) (New t.leaves o.name) p leaf) h.phase it.1)

  its-leaf : (leaf : Leaf) → o.leaf ≡ Some leaf → (spot : Name) → In o.name spot → Serves n source spot t leaf
  its-leaf leaf fixed spot over =
      let it = source-holds leaf fixed in
      record { here = h.source_here; live = h.source_live; over = record { name = o.name; there = it.1.is; over = over } }

  pub source-granted : Share n → (b : ℕ) (spot : Name) (r : BrickState) (other : Leaf) → (b ≡ j → ⊥) → Serves n b spot r other → In o.name spot
      → has o.granted b ≡ true
  source-granted share b spot r other ne serves over =
      let leaf = some-leaf o.leaf h.fixed in
      member (asking.members leaf.0 leaf.1 b (share source b spot t r leaf.0 other (its-leaf leaf.0 leaf.1 spot over) serves))
    where
      asking : Asking j s.known o
      asking = asking-of z n g j s o h.here h.there

      known-not : {X : Type 0} → has_node s.known b ≡ true → X
      known-not k = absurd (lives-not n b r serves.here serves.live (gone-of z n g j b s h.here k))

      answer : Answer s.known o b → has o.granted b ≡ true
      answer (gave e) = e
      answer (stopped e) = known-not e
      answer (waits l e) = let no : false ≡ true = sym (ap order.is_leasing h.phase) ∙ l in cc

      member : Member j s.known o b → has o.granted b ≡ true
      member (itself e) = absurd (ne e)
      member (is_asked e) = answer (asking.asked b e)
      member (granted e) = e
      member (gone e) = known-not e

  -- another join that was granted
  pub source-apart : Share n → (k : ℕ) (r : BrickState) (p : OpenOrder) → Freezes n k r p → is_some p.leaf ≡ true → (j ≡ k → ⊥) → (spot : Name)
      → In o.name spot → In p.name spot → ⊥
  source-apart share k r p bound fixed ne spot over also =
      let leaf = some-leaf o.leaf h.fixed in
      let other = some-leaf p.leaf fixed in
      let serves = its-leaf leaf.0 leaf.1 spot over in
      let apart = (λ (e : source ≡ k). open-apart (subst (λ i. n.node i ≡ a_brick t) e h.source_here)) in
      let gave = bound.granted source spot t leaf.0 apart serves also in
      let it = granted-holds k source r t p other.0 (n.channel k source) (n.channel source k) bound.live h.source_live
      (unknown-of z n g k source r t bound.here h.source_here h.source_live) bound.there other.1 gave
      (λ e. absurd (both_ways (order.is_leasing p.phase) bound.phase (ap order.is_leasing e)))
      (g.talk k source p.name r t bound.here h.source_here (ne_eqb k source (λ e. apart (sym e)))) in
      let no = leases-apart t.locks.leases o.name p.name j k (both-of z n g source t h.source_here).0.apart ne (source-holds leaf.0 leaf.1).0 it.0 in
      both_ways (overlaps o.name p.name) no (over-both o.name p.name spot over also)
    where
      open-apart : n.node k ≡ a_brick t → ⊥
      open-apart here =
          let same : a_brick t ≡ a_brick r = sym here ∙ bound.here in
          let is : t ≡ r = cc in
          let both = both-of z n g k t here in
          let there : t.order ≡ Some p = ap (λ (x : BrickState). x.order) is ∙ bound.there in
          let leaf = some-leaf o.leaf h.fixed in
          both_ways (is_join p.task) (order-is t.leaves t.order p there both.1.order o.name (ap is_some (source-holds leaf.0 leaf.1).1.is)
          (over-both o.name p.name spot over also)).0 bound.join
