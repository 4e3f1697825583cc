use Rattle.std.proofs.Common.{◌≡◌, ℕ, ◌+◌, ◌==◌, ◌&&◌, ◌++◌, Bool, true, false, Option, Some, None, List, [], ◌∷◌, refl, sym, ap, ◌∙◌, subst}
use Rattle.std.proofs.lemmas.Bool.{and_parts, eqb-true}
use Rattle.std.specs.List.{AllByRecursion}
use Rattle.std.specs.Prelude.{if◌then◌else◌}
use Rattle.dds_base.specs.declared.leaf.Leaf.{Leaf}
use Rattle.dds_base.specs.declared.number.NodeNo.{NodeNo}
use Rattle.dds_base.specs.declared.pair.Pair.{Pair}
use Rattle.dds_core.specs.Brick.{live_brick_turn}
use Rattle.dds_history.specs.Map.{Map}
use Rattle.dds_letters.specs.declared.letter.Letter.{Letter}
use Rattle.dds_letters.specs.declared.letter.Letter.TheVariants as letter
use Rattle.dds_order_rows.specs.Orders.{pairs_after}
use Rattle.dds_order_rows.specs.OwnOrder as order
use Rattle.dds_states.specs.Turn.{BrickTurn, still, to_each, unknown, without}
use Rattle.dds_states.specs.declared.brick_state.BrickState.{BrickState}
use Rattle.dds_states.specs.declared.brick_state.OpenOrder.{OpenOrder}
use Rattle.dds_states.specs.declared.brick_state.OrderPhase.TheVariants.{Copying, Installing}
use Rattle.dds_world.specs.Values.{AreCopied}
use Rattle.dds_copies.proofs.Parts.{all-copied, more-copied, with_part}
use Rattle.dds_copies.specs.Copies.{AsksNext, IsNextPart, OrderCopies, TellsNext, rest_of}

-- A part at the join that waits for it: what the order has copied is still the table's, and what it asks for next is what follows.

-- an order that was copied for, and the letters that it sends
pub record Goes (table : Map) (o : OpenOrder) (t : BrickTurn) : Type 0 where
  pub copies : OrderCopies table t.state
  pub asks : AllByRecursion (λ (p : NodeNo × Letter). AsksNext o p.1) t.out.letters

one-is : (table : Map) (p o : OpenOrder) → AreCopied table p p.phase → Some p ≡ Some o → AreCopied table o o.phase
one-is table p o h e = let is : p ≡ o = cc in subst (λ (q : OpenOrder). AreCopied table q q.phase) is h

pub asks-each : (o : OpenOrder) (nodes : List NodeNo) (l : Letter) → AsksNext o l → AllByRecursion (λ (p : NodeNo × Letter). AsksNext o p.1) (to_each nodes l)
asks-each o [] l h = tt
asks-each o (n ∷ ns) l h = (h, asks-each o ns l h)

asks-all : (o : OpenOrder) (ls : List (NodeNo × Letter)) → AllByRecursion (λ (p : NodeNo × Letter). AsksNext o p.1) ls
    → AllByRecursion (λ (p : NodeNo × Letter). AsksNext o p.1) (ls ++ [])
asks-all o [] h = tt
asks-all o (l ∷ ls) h = (h.0, asks-all o ls h.1)

finishes : (table : Map) (s : BrickState) (o : OpenOrder) (made : Leaf) → Goes table o (order.finishes s o made)
finishes table s o made =
    record { copies = λ q e. cc; asks = asks-all o _ (asks-each o (unknown o.granted s.known) (letter.Release o.number o.name) tt) }

installs_from : (table : Map) (s : BrickState) (o : OpenOrder) (made : Leaf) (nodes : List NodeNo) → o.copied ≡ pairs_after table o.name None
    → Goes table o (order.installs_from s o made nodes)
installs_from table s o made [] all = finishes table s o made
installs_from table s o made (n ∷ ns) all =
    record {
      copies = λ q e. one-is table (record o { waiting = n ∷ ns; phase = Installing made }) q all e;
      asks = asks-each o (n ∷ ns) (letter.Install o.number made) tt;
    }

copied_all : (table : Map) (s : BrickState) (o : OpenOrder) (source : NodeNo) (leaf : Option Leaf) → o.phase ≡ Copying source
    → AreCopied table o (Copying source) → o.copied ≡ pairs_after table o.name None → Goes table o (order.copied_all s o leaf)
copied_all table s o source None phase h all =
    record { copies = λ q e. one-is table o q (subst (AreCopied table o) (sym phase) h) e; asks = tt }
copied_all table s o source (Some leaf) phase h all =
    installs_from table (record s { made = s.made + 1 }) o (order.made_leaf s o leaf o.task) (without (order.parting s o leaf) s.number) all

copied_on : (table : Map) (s : BrickState) (o : OpenOrder) (source : NodeNo) (last : Bool) → o.phase ≡ Copying source → AreCopied table o (Copying source)
    → (last ≡ true → o.copied ≡ pairs_after table o.name None) → Goes table o (order.copied_on s o source last)
copied_on table s o source true phase h all = copied_all table s o source o.leaf phase h (all refl)
copied_on table s o source false phase h all =
    record { copies = λ q e. one-is table o q (subst (AreCopied table o) (sym phase) h) e; asks = ((λ e. (refl, refl)), tt) }

-- the part of this order that comes from its source
comes : (table : Map) (s : BrickState) (o : OpenOrder) (source : NodeNo) (last : Bool) (pairs : List Pair) → o.phase ≡ Copying source
    → AreCopied table o (Copying source) → IsNextPart (rest_of table o) last pairs
    → Goes table (with_part o pairs) (order.copied_on s (with_part o pairs) source last)
comes table s o source last pairs phase h part =
    copied_on table s (with_part o pairs) source last phase (more-copied table o source last pairs h part)
    (λ e. all-copied table o source pairs h (subst (λ b. IsNextPart (rest_of table o) b pairs) e part))

-- the letter at the join's brick
pub data Heard (table : Map) (s : BrickState) (o : OpenOrder) (pairs : List Pair) (t : BrickTurn) : Type 0 where
  takes : Goes table (with_part o pairs) t → Heard table s o pairs t
  leaves : t ≡ still s → Heard table s o pairs t

heard-if : (table : Map) (s : BrickState) (o : OpenOrder) (source : NodeNo) (number : ℕ) (last : Bool) (pairs : List Pair) (q : Option OpenOrder) (c : Bool)
    → q ≡ Some o → order.is_at number (λ x. order.is_source source x.phase && order.fits x pairs) q ≡ c → o.phase ≡ Copying source
    → AreCopied table o (Copying source) → TellsNext table o (letter.CopyPart number last pairs)
    → Heard table s o pairs
    (if c then order.with_order s (λ t x. order.copied_on t (record x { copied = x.copied ++ pairs }) source last) q else still s)
heard-if table s o source number last pairs q false e i phase h part = leaves refl
heard-if table s o source number last pairs None true e i phase h part = cc
heard-if table s o source number last pairs (Some x) true e i phase h part =
    let is : x ≡ o = cc in
    let a = and_parts (x.number == number) (order.is_source source x.phase && order.fits x pairs) i in
    let same : number ≡ o.number = sym (eqb-true x.number number a.0) ∙ ap (λ (y : OpenOrder). y.number) is in
    takes (subst (λ (y : OpenOrder). Goes table (with_part o pairs) (order.copied_on (record s { order = None }) (with_part y pairs) source last)) (sym is)
    (comes table (record s { order = None }) o source last pairs phase h (part same)))

pub part-heard : (table : Map) (s : BrickState) (o : OpenOrder) (source : NodeNo) (number : ℕ) (last : Bool) (pairs : List Pair) → s.order ≡ Some o
    → o.phase ≡ Copying source → AreCopied table o (Copying source) → TellsNext table o (letter.CopyPart number last pairs)
    → Heard table s o pairs (live_brick_turn s source (letter.CopyPart number last pairs))
part-heard table s o source number last pairs e phase h part =
    heard-if table s o source number last pairs s.order
    (order.is_at number (λ x. order.is_source source x.phase && order.fits x pairs) s.order) e refl phase h part

pub part-copies : (table : Map) (s : BrickState) (o : OpenOrder) (source : NodeNo) (number : ℕ) (last : Bool) (pairs : List Pair) → s.order ≡ Some o
    → o.phase ≡ Copying source → AreCopied table o (Copying source) → TellsNext table o (letter.CopyPart number last pairs)
    → OrderCopies table (live_brick_turn s source (letter.CopyPart number last pairs)).state
part-copies table s o source number last pairs e phase h part =
    from (live_brick_turn s source (letter.CopyPart number last pairs)) (part-heard table s o source number last pairs e phase h part)
  where
    from : (t : BrickTurn) → Heard table s o pairs t → OrderCopies table t.state
    from t (takes g) = g.copies
    from t (leaves is) = λ q f. one-is table o q (subst (AreCopied table o) (sym phase) h) (sym e ∙ ap (λ (u : BrickTurn). u.state.order) (sym is) ∙ f)

-- a join that begins to copy
pub copies-begin : (table : Map) (s : BrickState) (o : OpenOrder) (source : NodeNo) (others : List NodeNo)
    → Goes table (record o { copied = [] }) (order.copies_from s o (source ∷ others))
copies-begin table s o source others =
    record {
      copies = λ q e. one-is table (record o { copied = []; phase = Copying source }) q refl e;
      asks = ((λ e. (refl, refl)), tt);
    }
