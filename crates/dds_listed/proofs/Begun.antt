use Rattle.std.proofs.Common.{◌≡◌, ℕ, ◌⊎◌, inl, true, false, Option, Some, List, refl, subst}
use Rattle.std.specs.Prelude.{is_some}
use Rattle.dds_base.specs.declared.leaf.Leaf.{Leaf}
use Rattle.dds_base.specs.declared.number.NodeNo.{NodeNo}
use Rattle.dds_law_leaf.proofs.Book.{Each, InOrder}
use Rattle.dds_law_own.proofs.Parted.{IsBoth}
use Rattle.dds_order_rows.specs.OwnOrder as order
use Rattle.dds_orders.proofs.Deeds.{MayBegin, Seat}
use Rattle.dds_orders.proofs.Numbers.{the-order}
use Rattle.dds_states.specs.declared.brick_state.OpenOrder.{OpenOrder}
use Rattle.dds_states.specs.declared.brick_state.OrderPhase.{OrderPhase}
use Rattle.dds_states.specs.declared.brick_state.OrderPhase.TheVariants.{Installing}
use Rattle.dds_world.specs.Groups.{made_leaf}

-- How the open order behind a turn comes from the one at the turn's beginning: its leaves are so as those were, or it made one.

-- one order at two moments: only its leaf, whom it waits for, what it has copied and its phase change
abbrev pub As : OpenOrder → OpenOrder → Type 0
As first o = (o.number ≡ first.number) × (o.name ≡ first.name) × (o.task ≡ first.task) × (o.granted ≡ first.granted)

-- a leaf that the order makes in the turn, in which it hadn't made one before
pub record Begun (me : ℕ) (P : Leaf → Type 0) (first : OpenOrder) (made : Leaf) : Type 0 where
  pub at : Seat
  pub o : OpenOrder
  pub nodes : List NodeNo
  pub there : at.own.order ≡ Some o
  pub may : MayBegin at o made nodes
  pub both : IsBoth me at.own
  pub like : As first o
  pub of_leaf : P may.may.leaf
  pub before : order.is_installing first.phase ≡ false

-- what installs has a leaf
abbrev pub IsWhole : OpenOrder → Type 0
IsWhole o = order.is_installing o.phase ≡ true → is_some o.leaf ≡ true

pub record Stands (me : ℕ) (P : Leaf → Type 0) (first o : OpenOrder) : Type 0 where
  pub like : As first o
  pub leaf : Each P o.leaf
  pub phase : order.is_installing first.phase ≡ true → o.phase ≡ first.phase
  pub made : (made : Leaf) → o.phase ≡ Installing made → P made ⊎ Begun me P first made
  pub whole : IsWhole o

-- of an order, or none, at the beginning
pub record Behind (me : ℕ) (P : Leaf → Type 0) (q : Option OpenOrder) (o : OpenOrder) : Type 0 where
  pub first : OpenOrder
  pub was : q ≡ Some first
  pub stands : Stands me P first o

abbrev pub StandsAs : ℕ → (Leaf → Type 0) → Option OpenOrder → Option OpenOrder → Type 0
StandsAs me P q r = (o : OpenOrder) → r ≡ Some o → Behind me P q o

pub that-stands : (me : ℕ) (P : Leaf → Type 0) (q : Option OpenOrder) (o : OpenOrder) → Behind me P q o → StandsAs me P q (Some o)
that-stands me P q o h r e = subst (Behind me P q) (the-order o r e) h

-- at the beginning it is itself
pub made-of : (P : Leaf → Type 0) (p : OrderPhase) (made : Leaf) → p ≡ Installing made → Each P (made_leaf p) → P made
made-of P p made e h = subst (λ i. Each P (made_leaf i)) e h

pub order-of : (P : Leaf → Type 0) (q : Option OpenOrder) (o : OpenOrder) → q ≡ Some o → InOrder P q → Each P o.leaf × Each P (made_leaf o.phase)
order-of P q o e h = subst (InOrder P) e h

pub first-stands : (me : ℕ) (P : Leaf → Type 0) (q : Option OpenOrder) → InOrder P q → ((o : OpenOrder) → q ≡ Some o → IsWhole o)
    → StandsAs me P q q
first-stands me P q h f o e =
    let its = order-of P q o e h in
    record {
      first = o;
      was = e;
      stands = record {
        like = (refl, refl, refl, refl);
        leaf = its.0;
        phase = λ k. refl;
        made = λ made i. inl (made-of P o.phase made i its.1);
        whole = f o e;
      };
    }
