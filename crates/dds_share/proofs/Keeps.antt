use Rattle.std.proofs.Common.{◌≡◌, ℕ, ◌⊎◌, inl, inr, true, false, Some, refl, sym, ap, ◌∙◌, subst}
use Rattle.std.proofs.lemmas.Bool.{cases_eq}
use Rattle.std.specs.Prelude.{is_some}
use Rattle.dds_base.specs.BrickList.{has}
use Rattle.dds_base.specs.Name.{Name}
use Rattle.dds_base.specs.declared.leaf.Leaf.{Leaf}
use Rattle.dds_brick_rows.specs.Refusal.{is_join}
use Rattle.dds_net.specs.Net.{Net, Node, Sizes, a_brick, put}
use Rattle.dds_order_rows.specs.OwnOrder.{is_leasing}
use Rattle.dds_orders.proofs.Leased.{In}
use Rattle.dds_parents.proofs.Keeps.{Gone}
use Rattle.dds_states.specs.declared.brick_state.BrickState.{BrickState}
use Rattle.dds_states.specs.declared.brick_state.OpenOrder.{OpenOrder}
use Rattle.dds_share.proofs.Bounds.{IsFrom, Was, from_live, was}
use Rattle.dds_share.proofs.Ends.{JoinEnds}
use Rattle.dds_share.proofs.Facts.{AreAll, lists-itself}
use Rattle.dds_share.proofs.Over.{IsOver}
use Rattle.dds_share.proofs.Sources.{bound-freezes, bound-phase, source-apart, source-granted}
use Rattle.dds_share.proofs.Together.{Apart, AreTogether, Bound, Fixed, Granted, Serves, Share}
use Rattle.dds_share.proofs.Turned.{Came, at-is, others-same, put-same, share-turned}

-- The invariant after an event in which no brick's leaves and order change, and after a turn of a brick.

-- live bricks are as before, and bound joins were bound
pub record Quiet (n m : Net) : Type 0 where
  pub bricks : (k : ℕ) (t : BrickState) → m.node k ≡ a_brick t → t.stopped ≡ false → n.node k ≡ a_brick t
  pub bound : (j : ℕ) (s : BrickState) (o : OpenOrder) → n.node j ≡ a_brick s → Bound m j s o → Bound n j s o

pub quiet-keeps : (n m : Net) → Quiet n m → AreTogether n → AreTogether m
quiet-keeps n m q h =
    let served = (λ (b : ℕ) (spot : Name) (t : BrickState) (leaf : Leaf) (k : Serves m b spot t leaf).
    the (Serves n b spot t leaf) (record { here = q.bricks b t k.here k.live; live = k.live; over = k.over })) in
    let bound = (λ (j : ℕ) (s : BrickState) (o : OpenOrder) (k : Bound m j s o). q.bound j s o (q.bricks j s k.here k.live) k) in
    record {
      share = λ a b spot s t leaf other x y. h.share a b spot s t leaf other (served a spot s leaf x) (served b spot t other y);
      granted = λ j b spot s t o other x ne y. h.granted j b spot s t o other (bound j s o x) ne (served b spot t other y);
      apart = λ j k spot s t o p x y. h.apart j k spot s t o p (bound j s o x) (bound k t p y);
      fixed = λ j s o here live. h.fixed j s o (q.bricks j s here live) live;
    }
  where
    the : (X : Type 0) → X → X
    the X x = x

-- one brick has a turn
pub record Turns (n m : Net) (at : ℕ) (s u : BrickState) : Type 0 where
  pub here : n.node at ≡ a_brick s
  pub live : s.stopped ≡ false
  pub is : m.node ≡ put at (a_brick u) n.node
  pub comes : (spot : Name) (new : Leaf) → IsOver u.leaves spot new → Came (Gone m) s.leaves spot new ⊎ JoinEnds n at s spot new
  pub others : (j : ℕ) (v : BrickState) (o : OpenOrder) → n.node j ≡ a_brick v → Bound m j v o → Bound n j v o
  pub itself : (o : OpenOrder) → Bound m at u o → IsFrom n m at u o
  pub fixed : (o : OpenOrder) → u.order ≡ Some o → is_join o.task ≡ true → is_leasing o.phase ≡ false → is_some o.leaf ≡ true

module _ (z : Sizes) (n m : Net) (at : ℕ) (s u : BrickState) (g : AreAll z m) (h : AreTogether n) (t : Turns n m at s u) where
  share-after : Share m
  share-after =
      share-turned n m at s u t.here t.live t.is h.share
      (λ q l e. lists-itself z m g at u q l (ap (λ (f : ℕ → Node). f at) t.is ∙ put-same n.node at at (a_brick u) refl) e)
      (λ spot new over. elim (t.comes spot new over) [ inl came ↦ inl came | inr ends ↦ inr ends.is ])

  -- a bound join after it
  pub from-before : (j : ℕ) (v : BrickState) (o : OpenOrder) → Bound m j v o → Was n j o ⊎ ((j ≡ at) × IsFrom n m at u o)
  from-before j v o k = elim (cases_eq j at) [
    | inl e ↦
        let k_at = subst (λ i. Bound m i v o) e k in
        inr (e, t.itself o (subst (λ (x : BrickState). Bound m at x o) (at-is n m at s u t.here t.live t.is v k_at.here) k_at))
    | inr ne ↦
        let before = others-same n m at s u t.here t.live t.is j v ne k.here in
        inl (record { state = v; before = o; bound = t.others j v o before k; name = refl; granted = λ b i. i })
  ]

  -- who serves a spot afterwards did before, or is the joiner
  pub served-before : (b : ℕ) (spot : Name) (v : BrickState) (other : Leaf) → Serves m b spot v other
      → ((w : BrickState) × (old : Leaf) × Serves n b spot w old) ⊎ ((b ≡ at) × JoinEnds n at s spot other)
  served-before b spot v other k = elim (cases_eq b at) [
    | inl e ↦
        let k_at = subst (λ i. Serves m i spot v other) e k in
        let over = subst (λ (x : BrickState). IsOver x.leaves spot other) (at-is n m at s u t.here t.live t.is v k_at.here) k_at.over in
        elim (t.comes spot other over) [
          | inl came ↦ inl (s, came.old, subst (λ i. Serves n i spot s came.old) (sym e) (record { here = t.here; live = t.live; over = came.over }))
          | inr ends ↦ inr (e, ends)
        ]
    | inr ne ↦ inl (v, other, record { here = others-same n m at s u t.here t.live t.is b v ne k.here; live = k.live; over = k.over })
  ]

  was-granted : (j b : ℕ) (spot : Name) (v : BrickState) (o : OpenOrder) (other : Leaf) → Was n j o → (b ≡ j → ⊥) → Serves m b spot v other
      → In o.name spot → has o.granted b ≡ true
  was-granted j b spot v o other w ne k over =
      let before = subst (λ i. In i spot) (sym w.name) over in
      elim (served-before b spot v other k) [
        | inl old ↦ w.granted b (h.granted j b spot w.state old.0 w.before old.1 w.bound ne old.2 before)
        | inr ends ↦
            let apart = (λ (e : j ≡ at). ne (ends.0 ∙ sym e)) in
            absurd (h.apart j at spot w.state s w.before ends.1.ended w.bound ends.1.bound apart before ends.1.over)
      ]

  granted-after : Granted m
  granted-after j b spot v w o other k ne serves over = elim (from-before j v o k) [
    | inl before ↦ was-granted j b spot w o other before ne serves over
    | inr at_it ↦ by at_it.0 at_it.1
  ]
    where
      by : j ≡ at → IsFrom n m at u o → has o.granted b ≡ true
      by e (was before) = was-granted j b spot w o other (subst (λ i. Was n i o) (sym e) before) ne serves over
      by e (from_live source r copies) =
          source-granted z m g at u o source r copies share-after b spot w other (λ i. ne (i ∙ sym e)) serves over

  -- two bound joins
  fixed-after : Fixed m
  fixed-after j v o here live there join phase = elim (cases_eq j at) [
    | inl e ↦
        let is = at-is n m at s u t.here t.live t.is v (ap m.node (sym e) ∙ here) in
        t.fixed o (ap (λ (x : BrickState). x.order) (sym is) ∙ there) join phase
    | inr ne ↦ h.fixed j v o (others-same n m at s u t.here t.live t.is j v ne here) live there join phase
  ]

  bound-fixed : (j : ℕ) (v : BrickState) (o : OpenOrder) → Bound m j v o → is_some o.leaf ≡ true
  bound-fixed j v o k = fixed-after j v o k.here k.live k.there k.join (bound-phase m j o o.phase k.bound)

  was-apart : (j k : ℕ) (spot : Name) (o p : OpenOrder) → Was n j o → Was n k p → (j ≡ k → ⊥) → In o.name spot → In p.name spot → ⊥
  was-apart j k spot o p a b ne over also =
      h.apart j k spot a.state b.state a.before b.before a.bound b.bound ne (subst (λ i. In i spot) (sym a.name) over)
      (subst (λ i. In i spot) (sym b.name) also)

  -- the one of the brick that had the turn, and another one
  at-apart : (k : ℕ) (spot : Name) (w : BrickState) (o p : OpenOrder) → IsFrom n m at u o → Was n k p → Bound m k w p → (at ≡ k → ⊥)
      → In o.name spot → In p.name spot → ⊥
  at-apart k spot w o p (was a) b bound ne over also = was-apart at k spot o p a b ne over also
  at-apart k spot w o p (from_live source r copies) b bound ne over also =
      source-apart z m g at u o source r copies share-after k w p (bound-freezes m k w p granted-after bound) (bound-fixed k w p bound) ne spot over also

  apart-after : Apart m
  apart-after j k spot v w o p a b ne over also = elim (from-before j v o a) [
    | inl x ↦ elim (from-before k w p b) [
      | inl y ↦ was-apart j k spot o p x y ne over also
      | inr y ↦ at-apart j spot v p o y.1 x a (λ e. ne (sym (y.0 ∙ e))) also over
    ]
    | inr x ↦ elim (from-before k w p b) [
      | inl y ↦ at-apart k spot w o p x.1 y b (λ e. ne (x.0 ∙ e)) over also
      | inr y ↦ ne (x.0 ∙ sym y.0)
    ]
  ]

  pub turned-keeps : AreTogether m
  turned-keeps = record { share = share-after; granted = granted-after; apart = apart-after; fixed = fixed-after }
