use Rattle.std.proofs.Common.{◌≡◌, ℕ, ◌==◌, ◌&&◌, Bool, true, false, not, Option, Some, None, List, [], ◌∷◌, refl, ap, ◌∙◌}
use Rattle.std.proofs.lemmas.Bool.{ne_eqb}
use Rattle.std.specs.Prelude.{if◌then◌else◌}
use Rattle.dds_base.specs.BrickList.{has}
use Rattle.dds_base.specs.NodeSet.{has_node}
use Rattle.dds_base.specs.Place.{last_key}
use Rattle.dds_base.specs.declared.leaf.Leaf.{Leaf}
use Rattle.dds_base.specs.declared.node_set.NodeSet.{NodeSet}
use Rattle.dds_base.specs.declared.number.NodeNo.{NodeNo}
use Rattle.dds_groups.proofs.Members.{has-live}
use Rattle.dds_groups.specs.Leaves.{live}
use Rattle.dds_law_own.proofs.Lists.{has-kept}
use Rattle.dds_order_rows.specs.OwnOrder as order
use Rattle.dds_orders.proofs.Asked.{or-left}
use Rattle.dds_orders.proofs.Deeds.{MayBegin, Seat}
use Rattle.dds_states.specs.Turn.{is_none_left, unknown, without}
use Rattle.dds_states.specs.declared.brick_state.OpenOrder.{OpenOrder}
use Rattle.dds_states.specs.declared.brick_state.OrderPhase.{OrderPhase}
use Rattle.dds_states.specs.declared.brick_state.OrderPhase.TheVariants.{Copying, Installing, Leasing}
use Rattle.dds_order_talk.proofs.Kept.{begun-granted}
use Rattle.dds_order_talk.proofs.Moves.{Ends, asked_not, drops, drops_first, finishes, gives_up}
use Rattle.dds_order_talk.proofs.OrderBegins.{copying-other, leasing-idle}
use Rattle.dds_order_talk.proofs.OrderViews.{same-has, without-other}
use Rattle.dds_order_talk.specs.Seen.{Doing, first_view, granted_view, phase_view, rests, source_view, took_first, took_part, with_leaf}
use Rattle.dds_order_talk.specs.Table.{View}
use Rattle.dds_order_talk.specs.Table.View.{Off, Waits, First, Has, Due, Done}

-- How an order sees a member where it ends, where nobody is waited for, and where a member has stopped.

-- where an order ends that installs nothing
first-ends : (d : Doing) (m : ℕ) → Ends (first_view d m) []
first-ends rests m = asked_not
first-ends took_part m = asked_not
first-ends (took_first n leaf) m = if-first (n == m)
  where
    if-first : (c : Bool) → Ends (if c then First leaf else Off) []
    if-first true = drops_first
    if-first false = asked_not

granted-ends : (d : Doing) (m : ℕ) (g : Bool) (q : Option Leaf) → Ends (if g then with_leaf d m q Has else Off) []
granted-ends d m true None = first-ends d m
granted-ends d m true (Some leaf) = drops
granted-ends d m false q = asked_not

leasing-ends : (d : Doing) (m : ℕ) (w g : Bool) (q : Option Leaf) → Ends (if w then Waits q else (if g then with_leaf d m q Has else Off)) []
leasing-ends d m true g q = gives_up
leasing-ends d m false g q = granted-ends d m g q

copying-ends : (d : Doing) (m : ℕ) (key : Option ℕ) (c g : Bool) (q : Option Leaf) → c ≡ false
    → Ends (if c then with_leaf d m q (source_view d key) else (if g then with_leaf d m q Has else Off)) []
copying-ends d m key true g q e = cc
copying-ends d m key false g q e = granted-ends d m g q

pub closing-ends : (d : Doing) (o : OpenOrder) (m : ℕ) (p : OrderPhase) → order.is_installing p ≡ false → ((n : ℕ) → p ≡ Copying n → (n == m) ≡ false)
    → Ends (phase_view d o m p) []
closing-ends d o m Leasing e f = leasing-ends d m (has o.waiting m) (has o.granted m) o.leaf
closing-ends d o m (Copying source) e f = copying-ends d m (last_key None o.copied) (source == m) (has o.granted m) o.leaf (f source refl)
closing-ends d o m (Installing made) e f = cc

-- who wasn't asked isn't seen
leasing-off : (d : Doing) (m : ℕ) (w g : Bool) (q : Option Leaf) → w ≡ false → g ≡ false
    → (if w then Waits q else (if g then with_leaf d m q Has else Off)) ≡ Off
leasing-off d m true g q e f = cc
leasing-off d m false true q e f = cc
leasing-off d m false false q e f = refl

copying-off : (d : Doing) (m : ℕ) (key : Option ℕ) (c g : Bool) (q : Option Leaf) → c ≡ false → g ≡ false
    → (if c then with_leaf d m q (source_view d key) else (if g then with_leaf d m q Has else Off)) ≡ Off
copying-off d m key true g q e f = cc
copying-off d m key false true q e f = cc
copying-off d m key false false q e f = refl

pub unasked-off : (d : Doing) (o : OpenOrder) (m : ℕ) (p : OrderPhase) → order.is_installing p ≡ false → ((n : ℕ) → p ≡ Copying n → (n == m) ≡ false)
    → (order.is_leasing p ≡ true → has o.waiting m ≡ false) → has o.granted m ≡ false → phase_view d o m p ≡ Off
unasked-off d o m Leasing e f w g = leasing-off d m (has o.waiting m) (has o.granted m) o.leaf (w refl) g
unasked-off d o m (Copying source) e f w g = copying-off d m (last_key None o.copied) (source == m) (has o.granted m) o.leaf (f source refl) g
unasked-off d o m (Installing made) e f w g = cc

-- where an order has installed its leaf everywhere
done-ends : (m : ℕ) (made : Leaf) (w g : Bool) (q : Option Leaf) → w ≡ false
    → Ends (if w then with_leaf rests m q (λ l. Due l made) else (if g then with_leaf rests m q (λ l. Done l made) else Off)) []
done-ends m made true g q e = cc
done-ends m made false true None e = asked_not
done-ends m made false true (Some leaf) e = finishes
done-ends m made false false q e = asked_not

pub serving-ends : (o : OpenOrder) (m : ℕ) (made : Leaf) → has o.waiting m ≡ false → Ends (phase_view rests o m (Installing made)) []
serving-ends o m made e = done-ends m made (has o.waiting m) (has o.granted m) o.leaf e

done-off : (m : ℕ) (made : Leaf) (w g : Bool) (q : Option Leaf) → w ≡ false → g ≡ false
    → (if w then with_leaf rests m q (λ l. Due l made) else (if g then with_leaf rests m q (λ l. Done l made) else Off)) ≡ Off
done-off m made true g q e f = cc
done-off m made false true q e f = cc
done-off m made false false q e f = refl

pub serving-off : (o : OpenOrder) (m : ℕ) (made : Leaf) → has o.waiting m ≡ false → has o.granted m ≡ false
    → phase_view rests o m (Installing made) ≡ Off
serving-off o m made e f = done-off m made (has o.waiting m) (has o.granted m) o.leaf e f

pub none-waits : (ns : List NodeNo) (m : ℕ) → is_none_left ns ≡ true → has ns m ≡ false
none-waits [] m e = refl
none-waits (n ∷ ns) m e = cc

-- where nobody is waited for, and of who isn't copied from
pub idle-view : (o : OpenOrder) (m : ℕ) (p : OrderPhase) → order.is_installing p ≡ false → ((n : ℕ) → p ≡ Copying n → (n == m) ≡ false)
    → (order.is_leasing p ≡ true → has o.waiting m ≡ false) → phase_view rests o m p ≡ granted_view rests o m Has
idle-view o m Leasing e f w = leasing-idle o m (w refl)
idle-view o m (Copying source) e f w = copying-other o source m (f source refl)
idle-view o m (Installing made) e f w = cc

-- an order without a leaf sees the same, whatever is owed of its pairs
no-part : (m : ℕ) (c g : Bool) (q : Option Leaf) (a b h : Leaf → View) → q ≡ None
    → (if c then with_leaf took_part m q a else (if g then with_leaf took_part m q h else Off))
    ≡ (if c then with_leaf rests m q b else (if g then with_leaf rests m q h else Off))
no-part m c g None a b h e = refl
no-part m c g (Some leaf) a b h e = cc

no-grant : (m : ℕ) (w g : Bool) (q : Option Leaf) → q ≡ None
    → (if w then Waits q else (if g then with_leaf took_part m q Has else Off)) ≡ (if w then Waits q else (if g then with_leaf rests m q Has else Off))
no-grant m w g None e = refl
no-grant m w g (Some leaf) e = cc

pub no-leaf-view : (o : OpenOrder) (m : ℕ) (p : OrderPhase) → o.leaf ≡ None → phase_view took_part o m p ≡ phase_view rests o m p
no-leaf-view o m Leasing e = no-grant m (has o.waiting m) (has o.granted m) o.leaf e
no-leaf-view o m (Copying source) e =
    no-part m (source == m) (has o.granted m) o.leaf (source_view took_part (last_key None o.copied)) (source_view rests (last_key None o.copied)) Has e
no-leaf-view o m (Installing made) e =
    no-part m (has o.waiting m) (has o.granted m) o.leaf (λ l. Due l made) (λ l. Due l made) (λ l. Done l made) e

-- another member isn't waited for any more
pub lost-view : (o : OpenOrder) (y m : ℕ) (p : OrderPhase) → (m ≡ y → ⊥)
    → phase_view rests (record o { waiting = without o.waiting y }) m p ≡ phase_view rests o m p
lost-view o y m Leasing ne =
    ap (λ c. if c then Waits o.leaf else granted_view rests o m Has) (without-other o.waiting y m ne)
lost-view o y m (Copying source) ne = refl
lost-view o y m (Installing made) ne =
    ap (λ c. if c then with_leaf rests m o.leaf (λ leaf. Due leaf made) else granted_view rests o m (λ leaf. Done leaf made)) (without-other o.waiting y m ne)

-- lists
pub unknown-has : (ns : List NodeNo) (known : NodeSet) (m : ℕ) → has_node known m ≡ false → has (unknown ns known) m ≡ has ns m
unknown-has ns known m e = has-live ns (has_node known) m ∙ ap (λ c. has ns m && not c) e ∙ and-yes (has ns m)
  where
    and-yes : (a : Bool) → (a && true) ≡ a
    and-yes true = refl
    and-yes false = refl

-- who installs a leaf is who granted, of the members that aren't known
pub makers-granted : (x : Seat) (o : OpenOrder) (made : Leaf) (nodes : List NodeNo) (m : ℕ) (may : MayBegin x o made nodes) → (m ≡ x.own.number → ⊥)
    → has_node x.own.known m ≡ false → (has o.granted m ≡ true → has may.may.leaf.list m ≡ true) → has nodes m ≡ has o.granted m
makers-granted x o made nodes m may ne unknown lists =
    let s = may.may.state in
    let leaf = may.may.leaf in
    same-has (has nodes m) (has o.granted m) (begun-granted x o made nodes may m)
    (λ g. ap (λ ns. has ns m) may.nodes_are
    ∙ has-kept (λ n. not (n == x.own.number)) (order.parting s o leaf) m (ap not (ne_eqb m x.own.number ne))
    (has-kept (order.takes_part s o) (live leaf.list (has_node s.known)) m (or-left (has o.granted m) _ g)
    (has-live leaf.list (has_node s.known) m ∙ ap (λ c. c && not (has_node s.known m)) (lists g)
    ∙ ap (λ k. not (has_node k m)) may.may.known ∙ ap not unknown)))
