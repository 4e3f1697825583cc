use Rattle.std.proofs.Common.{◌≡◌, ℕ, inl, inr, true, false, Option, Some, None, refl, ap}
use Rattle.std.specs.List.{AllByRecursion}
use Rattle.std.specs.Prelude.{is_some}
use Rattle.dds_base.specs.declared.leaf.Leaf.{Leaf}
use Rattle.dds_base.specs.declared.number.NodeNo.{NodeNo}
use Rattle.dds_core.proofs.Lists.{all-both, all-map}
use Rattle.dds_law_leaf.proofs.Book.{Each, InLetter, InOrder}
use Rattle.dds_law_leaf.proofs.Maps.{each-map}
use Rattle.dds_letters.specs.declared.letter.Letter.{Letter}
use Rattle.dds_letters.specs.declared.letter.Letter.TheVariants as letter
use Rattle.dds_order_rows.specs.OwnOrder as order
use Rattle.dds_order_talk.proofs.BrickSide as side
use Rattle.dds_orders.proofs.Deeds.{seat}
use Rattle.dds_states.specs.Turn.{BrickTurn}
use Rattle.dds_states.specs.declared.brick_state.OpenOrder.{OpenOrder}
use Rattle.dds_states.specs.declared.brick_state.OrderPhase.{OrderPhase}
use Rattle.dds_states.specs.declared.brick_state.OrderPhase.TheVariants.{Copying, Installing, Leasing}
use Rattle.dds_world.specs.Groups.{made_leaf, wanted_leaf}
use Rattle.dds_listed.proofs.Begun.{As, Begun, IsWhole, StandsAs, made-of, order-of}
use Rattle.dds_listed.proofs.OrderTrips.{AllAsk, AskOk}
use Rattle.dds_listed.proofs.TellsOrders.{AllTold, Told}

-- What is so of the leaves behind a turn: of the open order's, where it is so of what was made in the turn; and of those in letters.

pub made-phase : (p : OrderPhase) (made : Leaf) → made_leaf p ≡ Some made → p ≡ Installing made
made-phase Leasing made e = cc
made-phase (Copying source) made e = cc
made-phase (Installing other) made e = ap Installing (some-is other made e)
  where
    some-is : (a b : Leaf) → Some a ≡ Some b → a ≡ b
    some-is a b e = cc

some-not-none : (q : Option Leaf) → (q ≡ None → ⊥) → is_some q ≡ true
some-not-none None f = absurd (f refl)
some-not-none (Some leaf) f = refl

installing-works : (p : OrderPhase) → order.is_installing p ≡ true → order.is_leasing p ≡ false
installing-works Leasing e = cc
installing-works (Copying source) e = refl
installing-works (Installing made) e = refl

-- what installs has a leaf
pub fits-whole : (o : OpenOrder) → side.OrderFits o → IsWhole o
fits-whole o h e = some-not-none o.leaf (h.fixed (installing-works o.phase e))

-- letters: those of the own order, and the others
pub letters-answer : (P Q : Leaf → Type 0) (t : BrickTurn) → ((leaf : Leaf) → Q leaf → P leaf) → InOrder P t.state.order
    → AllAsk Q (seat t.state) t.out.letters → AllTold P t.out.letters → AllByRecursion (λ (p : NodeNo × Letter). InLetter P p.1) t.out.letters
letters-answer P Q t f h asks tells =
    all-map (λ (p : NodeNo × Letter). AskOk Q (seat t.state) p.1 × Told P p.1) (λ p. InLetter P p.1) t.out.letters (λ p k. one p.1 k.0 k.1)
    (all-both (λ (p : NodeNo × Letter). AskOk Q (seat t.state) p.1) (λ p. Told P p.1) t.out.letters asks tells)
  where
    one : (l : Letter) → AskOk Q (seat t.state) l → Told P l → InLetter P l
    one (letter.Lease number what) a b = each-map Q P (wanted_leaf what) f a
    one (letter.Install number made) a b = made-of P a.o.phase made a.phase (order-of P t.state.order a.o a.there h).1
    one other a b = b

-- the order behind a turn, where what it made in the turn is answered for
pub order-answers : (me : ℕ) (P Q : Leaf → Type 0) (q r : Option OpenOrder) → ((leaf : Leaf) → Q leaf → P leaf)
    → ((first o : OpenOrder) (made : Leaf) → q ≡ Some first → r ≡ Some o → o.phase ≡ Installing made → As first o → IsWhole o → Begun me Q first made
    → P made) → StandsAs me Q q r → InOrder P r
order-answers me P Q q None f begun h = tt
order-answers me P Q q (Some o) f begun h =
    let k = h o refl in (
      each-map Q P o.leaf f k.stands.leaf,
      each-all (made_leaf o.phase) (λ made e.
          let phase = made-phase o.phase made e in
          elim (k.stands.made made phase) [
            | inl i ↦ f made i
            | inr i ↦ begun k.first o made k.was refl phase k.stands.like k.stands.whole i
          ]),
    )
  where
    each-all : (x : Option Leaf) → ((leaf : Leaf) → x ≡ Some leaf → P leaf) → Each P x
    each-all None g = tt
    each-all (Some leaf) g = g leaf refl
