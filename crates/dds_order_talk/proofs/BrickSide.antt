use Rattle.std.proofs.Common.{◌≡◌, ℕ, ◌<◌, ◌==◌, ◌++◌, Bool, true, false, Option, Some, None, List, [], ◌∷◌, refl, sym, ap, ◌∙◌, subst}
use Rattle.std.proofs.lemmas.Bool.{both_ways, ne_eqb}
use Rattle.std.proofs.lemmas.List.{append-nil}
use Rattle.std.specs.FinMap.{get}
use Rattle.std.specs.List.{AllByRecursion}
use Rattle.std.specs.Prelude.{if◌then◌else◌}
use Rattle.dds_base.specs.BrickList.{has}
use Rattle.dds_base.specs.Name.{Name, same_name}
use Rattle.dds_base.specs.NodeSet.{has_node}
use Rattle.dds_base.specs.declared.leaf.Leaf.{Leaf}
use Rattle.dds_base.specs.declared.node_set.NodeSet.{NodeSet}
use Rattle.dds_base.specs.declared.number.NodeNo.{NodeNo}
use Rattle.dds_books.proofs.Numbers.{pairs-live}
use Rattle.dds_brick_rows.specs.Refusal.{is_join}
use Rattle.dds_letters.specs.declared.letter.Letter.{Letter}
use Rattle.dds_net.proofs.Pairwise.{pairs-filter}
use Rattle.dds_net.specs.Net.{Sizes, gains, is_in, landing, lands, when_in}
use Rattle.dds_order_rows.specs.OwnOrder as order
use Rattle.dds_orders.proofs.Counting.{not-none}
use Rattle.dds_orders.proofs.Deeds.{Leaves, Seat, Stage}
use Rattle.dds_orders.proofs.Deeds.{copies_none, is_of_orders, leaf_owed, nothing_owed, part_owed}
use Rattle.dds_orders.proofs.Deeds.{refuses, splits_none, stays, told_order}
use Rattle.dds_orders.proofs.Numbers.{Counted, Numbering, the-order}
use Rattle.dds_orders.proofs.Standing.{Stood}
use Rattle.dds_orders.specs.Law.{asked_of}
use Rattle.dds_states.specs.Turn.{unknown, unknown_others}
use Rattle.dds_states.specs.declared.brick_state.BrickState.{BrickState}
use Rattle.dds_states.specs.declared.brick_state.OpenOrder.{OpenOrder}
use Rattle.dds_states.specs.declared.brick_state.OrderPhase.{OrderPhase}
use Rattle.dds_states.specs.declared.brick_state.OrderPhase.TheVariants.{Copying, Installing, Leasing}
use Rattle.dds_order_talk.proofs.BrickViews.{no-leaf-view}
use Rattle.dds_order_talk.proofs.Members.{Asks}
use Rattle.dds_order_talk.proofs.Projections.{IsNotAsked, IsNotSaid, asks-append, others-ask}
use Rattle.dds_order_talk.proofs.Sendings.{Once}
use Rattle.dds_order_talk.proofs.Speaking.{Line, Speaks, doing_of}
use Rattle.dds_order_talk.specs.Seen.{Doing, asks, rests, took_part, view}
use Rattle.dds_order_talk.specs.Seen.{says as said}
use Rattle.dds_order_talk.specs.Table.View.{Off}

-- The brick within a turn, as a member sees it: its conversations with the member, and what is wanted of its order.

-- the member, to a brick that doesn't know that it has stopped
pub record Other (z : Sizes) (j m : ℕ) (known : NodeSet) : Type 0 where
  pub low : m < 64
  pub inside : is_in z m ≡ true
  pub other : m ≡ j → ⊥
  pub unknown : has_node known m ≡ false

-- what is wanted of an order: a split has its leaf, and one that has all leases; the leaf lists each member once, and all that were asked
pub record OrderFits (o : OpenOrder) : Type 0 where
  pub joins : o.leaf ≡ None → is_join o.task ≡ true
  pub fixed : order.is_leasing o.phase ≡ false → o.leaf ≡ None → ⊥
  pub once : (leaf : Leaf) → o.leaf ≡ Some leaf → Once leaf.list
  pub lists : (leaf : Leaf) → o.leaf ≡ Some leaf → (n : ℕ) → has o.asked n ≡ true → has leaf.list n ≡ true

abbrev pub Fits : Option OpenOrder → Type 0
Fits q = (o : OpenOrder) → q ≡ Some o → OrderFits o

-- what is wanted for what is owed: a new order's number is in no letter, and own leaves list each member once; a leaf that is to be fixed
-- lists each once, and the one that granted
abbrev pub Owed : Stage → Seat → List Letter → List Letter → Type 0
Owed told_order x out back =
    AllByRecursion (IsNotAsked x.orders) out × AllByRecursion (IsNotSaid x.orders) back
    × ((at : Name) (leaf : Leaf) → get x.own.leaves at ≡ Some leaf → Once leaf.list)
Owed nothing_owed x out back = Unit {0}
Owed (leaf_owed from leaf) x out back = Once leaf.list × (has leaf.list from ≡ true)
Owed part_owed x out back = Unit {0}

abbrev pub IsCounted : Seat → Letter → Type 0
IsCounted x l = (number : ℕ) → asked_of l ≡ Some number → Counted x number l

-- the brick as it is within a turn, and its conversations with the member
pub record Side (j m : ℕ) (t : BrickState) (a : Stage) (x : Seat) (out back : List Letter) : Type 0 where
  pub speaks : Speaks j m t (doing_of a) x.own.order out back
  pub stood : Stood j x
  pub asks : Asks j x
  pub numbers : Numbering j x
  pub counted : AllByRecursion (IsCounted x) out
  pub fits : Fits x.own.order
  pub owed : Owed a x out back

-- lists
pub once-others : (ns : List NodeNo) (me : ℕ) (known : NodeSet) → Once ns → Once (unknown_others ns me known)
once-others ns me known h =
    pairs-filter _ _ (unknown ns known) (pairs-live (λ m n. m ≡ n → ⊥) ns (has_node known) h)

pub that-fits : (p : OpenOrder) → OrderFits p → Fits (Some p)
that-fits p h o e = subst OrderFits (the-order p o e) h

pub none-fits : Fits None
none-fits o e = absurd (not-none o e)

-- what comes to the member
landing-if : (P : Letter → Type 0) (c : Bool) (l : Letter) (ls : List Letter) → P l → AllByRecursion P ls → AllByRecursion P (if c then l ∷ ls else ls)
landing-if P true l ls h k = (h, k)
landing-if P false l ls h k = k

all-landing : (P : Letter → Type 0) (z : Sizes) (m : ℕ) (ls : List (NodeNo × Letter)) → AllByRecursion (λ (p : NodeNo × Letter). P p.1) ls
    → AllByRecursion P (landing z m ls)
all-landing P z m [] h = tt
all-landing P z m (l ∷ ls) h = landing-if P (lands z l.0 m) l.1 (landing z m ls) h.0 (all-landing P z m ls h.1)

all-in : (P : Letter → Type 0) (c : Bool) (ls : List Letter) → AllByRecursion P ls → AllByRecursion P (when_in c ls)
all-in P true ls h = h
all-in P false ls h = tt

pub all-gains : (P : Letter → Type 0) (z : Sizes) (m : ℕ) (ls : List (NodeNo × Letter)) → AllByRecursion (λ (p : NodeNo × Letter). P p.1) ls
    → AllByRecursion P (gains z ls m)
all-gains P z m ls h = all-in P (is_in z m) (landing z m ls) (all-landing P z m ls h)

-- letters that aren't of orders
pub speaks-beside : (j m : ℕ) (t : BrickState) (d : Doing) (q : Option OpenOrder) (out back sent : List Letter)
    → AllByRecursion (λ l. is_of_orders l ≡ false) sent → Speaks j m t d q out back → Speaks j m t d q (out ++ sent) back
speaks-beside j m t d q out back sent h k n =
    let e = asks-append q n out sent ∙ ap (λ a. asks q n out ++ a) (others-ask q n sent h).0 ∙ append-nil (asks q n out) in
    subst (λ a. Line m t n (view d q n m) a j (said q n back)) (sym e) (k n)

pub at-order : (j m : ℕ) (t : BrickState) (d : Doing) (q r : Option OpenOrder) (out back : List Letter) → q ≡ r → Speaks j m t d q out back
    → Speaks j m t d r out back
at-order j m t d q r out back e h = subst (λ k. Speaks j m t d k out back) e h

pub at-stage : (j m : ℕ) (t : BrickState) (a b : Stage) (q : Option OpenOrder) (out back : List Letter) → a ≡ b → Speaks j m t (doing_of a) q out back
    → Speaks j m t (doing_of b) q out back
at-stage j m t a b q out back e h = subst (λ s. Speaks j m t (doing_of s) q out back) e h

-- nothing is done for the order
none-left : (j m : ℕ) (t : BrickState) (o : OpenOrder) (out back : List Letter) → o.leaf ≡ None → Speaks j m t took_part (Some o) out back
    → Speaks j m t rests (Some o) out back
none-left j m t o out back e h n =
    subst (λ v. Line m t n v (asks (Some o) n out) j (said (Some o) n back))
    (ap (λ v. if same_name o.name n then v else Off) (no-leaf-view o m o.phase e)) (h n)

pub leaves-speaks : (j m : ℕ) (t : BrickState) (a b : Stage) (x : Seat) (out back : List Letter) → Leaves x a b → Fits x.own.order
    → Speaks j m t (doing_of a) x.own.order out back → Speaks j m t (doing_of b) x.own.order out back
leaves-speaks j m t a b x out back (stays e) f h = at-stage j m t a b x.own.order out back e h
leaves-speaks j m t a b x out back (refuses e g) f h =
    let k = at-stage j m t a told_order x.own.order out back e h in at-stage j m t nothing_owed b x.own.order out back (sym g) k
leaves-speaks j m t a b x out back (copies_none o there none e g) f h =
    let k = at-order j m t took_part x.own.order (Some o) out back there (at-stage j m t a part_owed x.own.order out back e h) in
    at-stage j m t nothing_owed b x.own.order out back (sym g) (at-order j m t rests (Some o) x.own.order out back (sym there)
    (none-left j m t o out back none k))
leaves-speaks j m t a b x out back (splits_none o there none parted e) f h =
    absurd (both_ways (is_join o.task) parted ((f o there).joins none))

-- phases
pub leasing-is : (p : OrderPhase) → order.is_leasing p ≡ true → p ≡ Leasing
leasing-is Leasing h = refl
leasing-is (Copying source) h = cc
leasing-is (Installing made) h = cc

pub not-known : (known : NodeSet) (y m : ℕ) → has_node known y ≡ true → has_node known m ≡ false → m ≡ y → ⊥
not-known known y m e f g = both_ways (has_node known y) (ap (has_node known) (sym g) ∙ f) e

pub source-other : (x : Seat) (o : OpenOrder) (m : ℕ) → ((n : NodeNo) → o.phase ≡ Copying n → has_node x.own.known n ≡ true)
    → has_node x.own.known m ≡ false → (n : ℕ) → o.phase ≡ Copying n → (n == m) ≡ false
source-other x o m f e n g = ne_eqb n m (λ h. not-known x.own.known n m (f n g) e (sym h))
