use Rattle.std.specs.Prelude.{ℕ, ◌≡◌, ◌==◌, ◌||◌, Bool, true, false, List, [], ◌∷◌, Some, is_some}
use Rattle.dds_base.specs.BrickList.{has}
use Rattle.dds_base.specs.Name.{Name}
use Rattle.dds_base.specs.declared.leaf.Leaf.{Leaf}
use Rattle.dds_brick_rows.specs.Refusal.{is_join}
use Rattle.dds_letters.specs.declared.letter.Letter.{Letter}
use Rattle.dds_letters.specs.declared.letter.Letter.TheVariants as letter
use Rattle.dds_net.specs.Net.{Net, a_brick}
use Rattle.dds_order_rows.specs.OwnOrder.{is_leasing}
use Rattle.dds_orders.proofs.Leased.{In}
use Rattle.dds_states.specs.declared.brick_state.BrickState.{BrickState}
use Rattle.dds_states.specs.declared.brick_state.OpenOrder.{OpenOrder}
use Rattle.dds_states.specs.declared.brick_state.OrderPhase.{OrderPhase}
use Rattle.dds_states.specs.declared.brick_state.OrderPhase.TheVariants.{Copying, Installing}
use Rattle.dds_share.proofs.Over.{IsOver}

-- The invariant.
--
-- | part | why it is needed | what keeps it |
-- |---|---|---|
-- | `share`: live bricks with leaves over one spot list each other | claimed | what changes a brick's leaves loses no live member; a join's end by |
-- |                                                                |         | `granted`: each other one has the leaf that was made                |
-- | `granted`: each other live brick with a leaf over a spot of a  | `share` | what begins to copy from a live member: it has the order's leaf, so |
-- | bound join's name granted the join its lease                   |         | by `share` that leaf lists all others, and all were asked; such     |
-- |                                                                |         | bricks appear where a join ends alone                               |
-- | `apart`: bound joins of two bricks have no spot in common      | `granted` | what begins to copy from a live member: it has given its leases   |
-- | `fixed`: a join that copies or installs has a leaf             | `granted` | what begins to copy                                                 |
--
-- A join is bound from where it copies from a live member until it ends: it installs, or it copies from a member that lives, or it has
-- copied something, or a part of what it copies is on its way. One that copies from a member that had stopped before it answered isn't:
-- others may serve its keys that it doesn't know.

-- a live brick has a leaf over the spot
pub record Serves (n : Net) (a : ℕ) (spot : Name) (s : BrickState) (leaf : Leaf) : Type 0 where
  pub here : n.node a ≡ a_brick s
  pub live : s.stopped ≡ false
  pub over : IsOver s.leaves spot leaf

-- a part of what an order of this number copies
abbrev pub is_part : ℕ → Letter → Bool
is_part number (letter.CopyPart k last pairs) = k == number
is_part number other = false

abbrev pub has_part : ℕ → List Letter → Bool
has_part number [] = false
has_part number (l ∷ ls) = is_part number l || has_part number ls

pub data IsBound (n : Net) (j : ℕ) (o : OpenOrder) : OrderPhase → Type 0 where
  installs : (made : Leaf) → IsBound n j o (Installing made)
  lives : (source : ℕ) (t : BrickState) → n.node source ≡ a_brick t → t.stopped ≡ false → IsBound n j o (Copying source)
  copied : (source : ℕ) → (o.copied ≡ [] → ⊥) → IsBound n j o (Copying source)
  comes : (source : ℕ) (t : BrickState) → n.node source ≡ a_brick t → has_part o.number (n.channel source j) ≡ true → IsBound n j o (Copying source)

-- a live brick with a join that is bound
pub record Bound (n : Net) (j : ℕ) (s : BrickState) (o : OpenOrder) : Type 0 where
  pub here : n.node j ≡ a_brick s
  pub live : s.stopped ≡ false
  pub there : s.order ≡ Some o
  pub join : is_join o.task ≡ true
  pub bound : IsBound n j o o.phase

-- a live brick with a join that doesn't lease any more, and that each other live brick with a leaf over a spot of its name granted
pub record Freezes (n : Net) (j : ℕ) (s : BrickState) (o : OpenOrder) : Type 0 where
  pub here : n.node j ≡ a_brick s
  pub live : s.stopped ≡ false
  pub there : s.order ≡ Some o
  pub join : is_join o.task ≡ true
  pub phase : is_leasing o.phase ≡ false
  pub granted : (b : ℕ) (spot : Name) (t : BrickState) (other : Leaf) → (b ≡ j → ⊥) → Serves n b spot t other → In o.name spot → has o.granted b ≡ true

abbrev pub Share : Net → Type 0
Share n = (a b : ℕ) (spot : Name) (s t : BrickState) (leaf other : Leaf) → Serves n a spot s leaf → Serves n b spot t other → has leaf.list b ≡ true

abbrev pub Granted : Net → Type 0
Granted n =
    (j b : ℕ) (spot : Name) (s t : BrickState) (o : OpenOrder) (other : Leaf) → Bound n j s o → (b ≡ j → ⊥) → Serves n b spot t other → In o.name spot
    → has o.granted b ≡ true

abbrev pub Apart : Net → Type 0
Apart n =
    (j k : ℕ) (spot : Name) (s t : BrickState) (o p : OpenOrder) → Bound n j s o → Bound n k t p → (j ≡ k → ⊥) → In o.name spot → In p.name spot → ⊥

abbrev pub Fixed : Net → Type 0
Fixed n =
    (j : ℕ) (s : BrickState) (o : OpenOrder) → n.node j ≡ a_brick s → s.stopped ≡ false → s.order ≡ Some o → is_join o.task ≡ true
    → is_leasing o.phase ≡ false → is_some o.leaf ≡ true

pub record AreTogether (n : Net) : Type 0 where
  pub share : Share n
  pub granted : Granted n
  pub apart : Apart n
  pub fixed : Fixed n
