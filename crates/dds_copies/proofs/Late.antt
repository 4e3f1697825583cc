use Rattle.std.proofs.Common.{◌≡◌, ℕ, ◌⊎◌, inl, inr, true, false, Some, None, sym, subst}
use Rattle.dds_base.specs.BrickList.{has}
use Rattle.dds_base.specs.Name.{Name}
use Rattle.dds_base.specs.declared.leaf.Leaf.{Leaf}
use Rattle.dds_brick_rows.specs.Refusal.{is_join}
use Rattle.dds_letters.specs.declared.letter.Letter.{Letter}
use Rattle.dds_letters.specs.declared.letter.Letter.TheVariants as letter
use Rattle.dds_net.specs.Net.{Net, Sizes, a_brick}
use Rattle.dds_order_rows.specs.OwnOrder as order
use Rattle.dds_orders.proofs.Deeds.{seat}
use Rattle.dds_orders.proofs.Leased.{In}
use Rattle.dds_orders.proofs.Numbered.{Counts}
use Rattle.dds_orders.proofs.Numbers.{Counted}
use Rattle.dds_share.proofs.Bounds.{Was}
use Rattle.dds_share.proofs.Ends.{JoinEnds}
use Rattle.dds_share.proofs.Facts.{AreAll}
use Rattle.dds_share.proofs.Sources.{Copies, source-apart}
use Rattle.dds_share.proofs.Together.{AreTogether, Bound, Freezes, Serves}
use Rattle.dds_states.specs.declared.brick_state.BrickState.{BrickState}
use Rattle.dds_states.specs.declared.brick_state.OpenOrder.{OpenOrder}

-- The invariant of one join since a part that it copies was first on its way, whatever became of that part and of its source.
--
-- | part                                                        | why it is needed             | what keeps it                                          |
-- |-------------------------------------------------------------|------------------------------|--------------------------------------------------------|
-- | `counts`: the number is one that the brick gave, and the    | the open join of that number | turns of the brick: an order that opens has a later    |
-- | open order of that number has this name and doesn't lease   | is that join, and copies     | number, and none that copies begins to lease           |
-- | `granted`: each other live brick with a leaf over a spot of | claimed                      | such bricks appear where a bound join ends alone, and  |
-- | its name granted it the lease                               |                              | those are `apart`                                      |
-- | `apart`: it has no spot in common with another brick's      | `granted`                    | what begins to copy from a live member: it has given   |
-- | bound join                                                  |                              | its leases                                             |

pub record IsThis (n : Net) (j number : ℕ) (s : BrickState) (o : OpenOrder) : Type 0 where
  pub here : n.node j ≡ a_brick s
  pub live : s.stopped ≡ false
  pub there : s.order ≡ Some o
  pub join : is_join o.task ≡ true
  pub numbered : o.number ≡ number

-- a letter that says of the order that it has this name and doesn't lease
abbrev pub ask : ℕ → Name → Letter
ask number name = letter.CopyAsk number name None

pub record Late (n : Net) (j number : ℕ) (name : Name) : Type 0 where
  pub counts : Counts (n.node j) number (ask number name)
  pub granted :
      (b : ℕ) (spot : Name) (s t : BrickState) (o : OpenOrder) (other : Leaf) → IsThis n j number s o → (b ≡ j → ⊥) → Serves n b spot t other
      → In o.name spot → has o.granted b ≡ true
  pub apart :
      (k : ℕ) (spot : Name) (s t : BrickState) (o p : OpenOrder) → IsThis n j number s o → Bound n k t p → (j ≡ k → ⊥) → In o.name spot → In p.name spot
      → ⊥

pub this-copies : (n : Net) (j number : ℕ) (name : Name) (s : BrickState) (o : OpenOrder) → Counts (n.node j) number (ask number name)
    → IsThis n j number s o → order.is_leasing o.phase ≡ false
this-copies n j number name s o c h =
    let here : Counts (a_brick s) number (ask number name) = subst (λ x. Counts x number (ask number name)) h.here c in
    let it : Counted (seat s) number (ask number name) = here h.live in
    (it.of o h.there h.numbered).1

pub this-freezes : (n : Net) (j number : ℕ) (name : Name) (s : BrickState) (o : OpenOrder) → Late n j number name → IsThis n j number s o → Freezes n j s o
this-freezes n j number name s o late h =
    record {
      here = h.here;
      live = h.live;
      there = h.there;
      join = h.join;
      phase = this-copies n j number name s o late.counts h;
      granted = λ b spot t other ne serves over. late.granted b spot s t o other h ne serves over;
    }

-- the same join before an event
pub record WasThis (n : Net) (j number : ℕ) (o : OpenOrder) : Type 0 where
  pub state : BrickState
  pub before : OpenOrder
  pub it : IsThis n j number state before
  pub name : before.name ≡ o.name
  pub granted : (b : ℕ) → has before.granted b ≡ true → has o.granted b ≡ true

-- what an event leaves: who serves a spot did before, or ended a bound join there; a bound join was bound, or copies from a live member; and
-- this join was open
pub record Leaves (n m : Net) (j number : ℕ) : Type 0 where
  pub served :
      (b : ℕ) (spot : Name) (v : BrickState) (other : Leaf) → Serves m b spot v other
      → ((w : BrickState) × (old : Leaf) × Serves n b spot w old) ⊎ ((w : BrickState) × JoinEnds n b w spot other)
  pub bounds : (k : ℕ) (t : BrickState) (p : OpenOrder) → Bound m k t p
      → Was n k p ⊎ ((u : BrickState) × (source : ℕ) × (r : BrickState) × Copies m k u p source r)
  pub was : (s : BrickState) (o : OpenOrder) → IsThis m j number s o → WasThis n j number o

module _ (z : Sizes) (n m : Net) (j number : ℕ) (name : Name) (all : AreAll z m) (together : AreTogether m) (g : Leaves n m j number)
    (late : Late n j number name) (counts : Counts (m.node j) number (ask number name)) where
  granted-after : (b : ℕ) (spot : Name) (s t : BrickState) (o : OpenOrder) (other : Leaf) → IsThis m j number s o → (b ≡ j → ⊥) → Serves m b spot t other
      → In o.name spot → has o.granted b ≡ true
  granted-after b spot s t o other h ne serves over =
      let w = g.was s o h in
      let before = subst (λ i. In i spot) (sym w.name) over in
      elim (g.served b spot t other serves) [
        | inl old ↦ w.granted b (late.granted b spot w.state old.0 w.before old.1 w.it ne old.2 before)
        | inr ends ↦
            absurd (late.apart b spot w.state ends.0 w.before ends.1.ended w.it ends.1.bound (λ e. ne (sym e)) before ends.1.over)
      ]

  freezes-after : (s : BrickState) (o : OpenOrder) → IsThis m j number s o → Freezes m j s o
  freezes-after s o h =
      record {
        here = h.here;
        live = h.live;
        there = h.there;
        join = h.join;
        phase = this-copies m j number name s o counts h;
        granted = λ b spot t other ne serves over. granted-after b spot s t o other h ne serves over;
      }

  apart-after : (k : ℕ) (spot : Name) (s t : BrickState) (o p : OpenOrder) → IsThis m j number s o → Bound m k t p → (j ≡ k → ⊥) → In o.name spot
      → In p.name spot → ⊥
  apart-after k spot s t o p h bound ne over also = elim (g.bounds k t p bound) [
    | inl b ↦
        let w = g.was s o h in
        late.apart k spot w.state b.state w.before b.before w.it b.bound ne (subst (λ i. In i spot) (sym w.name) over)
        (subst (λ i. In i spot) (sym b.name) also)
    | inr c ↦
        let fixed = together.fixed j s o h.here h.live h.there h.join (this-copies m j number name s o counts h) in
        source-apart z m all k c.0 p c.1 c.2 c.3 together.share j s o (freezes-after s o h) fixed (λ e. ne (sym e)) spot also over
  ]

  pub late-kept : Late m j number name
  late-kept = record { counts = counts; granted = granted-after; apart = apart-after }
