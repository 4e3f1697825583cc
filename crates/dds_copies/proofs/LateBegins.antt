use Rattle.std.proofs.Common.{◌≡◌, ℕ, inl, inr, Bool, true, false, Option, Some, None, List, [], ◌∷◌, refl, sym, ap, ◌∙◌, subst}
use Rattle.std.proofs.lemmas.Bool.{cases_Bool, eqb-true, ne_eqb}
use Rattle.std.specs.List.{AllByRecursion}
use Rattle.dds_base.specs.Name.{Name}
use Rattle.dds_base.specs.NodeSet.{has_node}
use Rattle.dds_base.specs.declared.pair.Pair.{Pair}
use Rattle.dds_law_notice.proofs.Views.{knows, view}
use Rattle.dds_letters.specs.declared.letter.Letter.{Letter}
use Rattle.dds_letters.specs.declared.letter.Letter.TheVariants as letter
use Rattle.dds_net.specs.Net.{Net, Node, Sizes, a_brick, a_library, nowhere}
use Rattle.dds_order_rows.specs.OwnOrder as order
use Rattle.dds_orders.proofs.Numbered.{AreCounted, BrickOk, Counts, LetterOk}
use Rattle.dds_orders.proofs.Numbers.{the-order}
use Rattle.dds_share.proofs.Bounds.{known-empty, no-part}
use Rattle.dds_share.proofs.Facts.{AreAll, inside-of}
use Rattle.dds_share.proofs.Heard.{part-copies}
use Rattle.dds_share.proofs.Parts.{or-parts, part-brick}
use Rattle.dds_share.proofs.Together.{AreTogether, Bound, IsBound, comes, has_part, is_part}
use Rattle.dds_states.specs.declared.brick_state.BrickState.{BrickState}
use Rattle.dds_states.specs.declared.brick_state.OpenOrder.{OpenOrder}
use Rattle.dds_states.specs.declared.brick_state.OrderPhase.TheVariants.{Copying}
use Rattle.dds_copies.proofs.Late.{IsThis, Late, ask}

-- A part that is on its way comes to a join that copies from its sender, which is bound while the part is on its way.

-- a part of a list
one-in : (P : Letter → Type 0) (number : ℕ) (l : Letter) → P l → is_part number l ≡ true
    → (last : Bool) × (pairs : List Pair) × P (letter.CopyPart number last pairs)
one-in P number (letter.CopyPart k last pairs) p h = (last, pairs, subst (λ i. P (letter.CopyPart i last pairs)) (eqb-true k number h) p)
one-in P number other p h = cc

part-in : (P : Letter → Type 0) (number : ℕ) (ls : List Letter) → AllByRecursion P ls → has_part number ls ≡ true
    → (last : Bool) × (pairs : List Pair) × P (letter.CopyPart number last pairs)
part-in P number [] all h = cc
part-in P number (l ∷ ls) all h = elim (or-parts (is_part number l) (has_part number ls) h) [
  | inl e ↦ one-in P number l all.0 e
  | inr e ↦ part-in P number ls all.1 e
]

-- the name of a brick's open order
first_name : Option OpenOrder → Name
first_name None = record { bits = 0; depth = 0 }
first_name (Some o) = o.name

pub order_name : Node → Name
order_name nowhere = record { bits = 0; depth = 0 }
order_name (a_brick s) = first_name s.order
order_name (a_library s) = record { bits = 0; depth = 0 }

module _ (z : Sizes) (n : Net) (source j number : ℕ) (all : AreAll z n) (together : AreTogether n) (counted : AreCounted n)
    (part : has_part number (n.channel source j) ≡ true) where
  its-letter : (last : Bool) × (pairs : List Pair) × LetterOk n.node source j (letter.CopyPart number last pairs)
  its-letter = part-in (LetterOk n.node source j) number (n.channel source j) (counted.letters source j) part

  apart-from : j ≡ source → ⊥
  apart-from e = (its-letter.2.said number refl).0 (sym e)

  its-source : (t : BrickState) × (n.node source ≡ a_brick t)
  its-source = part-brick n number source j all.low.parts part

  phase-is : (s : BrickState) (o : OpenOrder) → n.node j ≡ a_brick s → s.stopped ≡ false → s.order ≡ Some o → o.number ≡ number → o.phase ≡ Copying source
  phase-is s o here live there is =
      let carried : has_part o.number (n.channel source j) ≡ true = subst (λ i. has_part i (n.channel source j) ≡ true) (sym is) part in
      part-copies j source s its-source.0 o (n.channel j source) (n.channel source j) live unknown there
      (all.talk j source o.name s its-source.0 here its-source.1 (ne_eqb j source apart-from)) carried
    where
      unknown : has_node s.known source ≡ false
      unknown = elim (cases_Bool (has_node s.known source)) [
        | inl k ↦
            let knows_it : knows (view (n.node j)) source ≡ true = ap (λ x. knows (view x) source) here ∙ k in
            absurd (no-part number (n.channel source j)
            (known-empty _ (all.low.listed.asked.links source j (inside-of z n all j s here)) knows_it) part)
        | inr k ↦ k
      ]

  start-counts : (x : Node) → n.node j ≡ x → Counts x number (ask number (order_name x))
  unfolding order_name first_name
  start-counts nowhere e = tt
  start-counts (a_library s) e = tt
  start-counts (a_brick s) e =
      let said : Counts (a_brick s) number (letter.CopyPart number its-letter.0 its-letter.1) =
      subst (λ x. Counts x number (letter.CopyPart number its-letter.0 its-letter.1)) e (its-letter.2.said number refl).1 in
      λ live. record {
        given = (said live).given;
        of = λ o there is. (ap first_name there, ap order.is_leasing (phase-is s o e live there is));
      }

  this-bound : (s : BrickState) (o : OpenOrder) → IsThis n j number s o → Bound n j s o
  this-bound s o h =
      record {
        here = h.here;
        live = h.live;
        there = h.there;
        join = h.join;
        bound = subst (IsBound n j o) (sym (phase-is s o h.here h.live h.there h.numbered))
            (comes source its-source.0 its-source.1 (subst (λ i. has_part i (n.channel source j) ≡ true) (sym h.numbered) part));
      }

  pub late-begins : Late n j number (order_name (n.node j))
  late-begins =
      record {
        counts = start-counts (n.node j) refl;
        granted = λ b spot s t o other h ne serves over. together.granted j b spot s t o other (this-bound s o h) ne serves over;
        apart = λ k spot s t o p h bound ne over also. together.apart j k spot s t o p (this-bound s o h) bound ne over also;
      }

-- the number of an open order that doesn't lease
pub open-counts : (j : ℕ) (s : BrickState) (o : OpenOrder) → BrickOk j s → s.order ≡ Some o → order.is_leasing o.phase ≡ false
    → Counts (a_brick s) o.number (ask o.number o.name)
open-counts j s o h there phase live =
    record {
      given = (h.is.order o there).given;
      of = λ q e i.
          let is : o ≡ q = the-order o q (sym there ∙ e) in (
            ap (λ (x : OpenOrder). x.name) is,
            subst (λ (x : OpenOrder). order.is_leasing x.phase ≡ false) is phase,
          );
    }
