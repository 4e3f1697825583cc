use Rattle.std.proofs.Common.{◌≡◌, ℕ, ◌+◌, ◌++◌, inl, inr, Bool, true, false, not, Option, Some, None, List, [], ◌∷◌, refl, sym, ap, ◌∙◌, subst}
use Rattle.std.proofs.lemmas.Bool.{and_parts, both_ways}
use Rattle.std.specs.Prelude.{length, nat_le, if◌then◌else◌}
use Rattle.dds_base.specs.BrickList.{has}
use Rattle.dds_base.specs.NodeSet.{has_node}
use Rattle.dds_base.specs.declared.brick_list.TheConstants.{MEMBERS}
use Rattle.dds_base.specs.declared.leaf.Leaf.{Leaf}
use Rattle.dds_base.specs.declared.node_set.NodeSet.{NodeSet}
use Rattle.dds_base.specs.declared.number.NodeNo.{NodeNo}
use Rattle.dds_base.specs.declared.op.OrderReply.TheVariants as answered
use Rattle.dds_base.specs.declared.op.OrderReply.{OrderReply}
use Rattle.dds_base.specs.declared.pair.Pair.{Pair}
use Rattle.dds_groups.proofs.Members.{has-live}
use Rattle.dds_groups.specs.Leaves.{live}
use Rattle.dds_order_rows.specs.OwnOrder as order
use Rattle.dds_order_talk.proofs.Members.{append-parts, has-passes, in-without, it-has, one-only}
use Rattle.dds_states.specs.Turn.{BrickTurn, is_none_left, unknown, unknown_others, without}
use Rattle.dds_states.specs.declared.brick_state.BrickState.{BrickState}
use Rattle.dds_states.specs.declared.brick_state.OpenOrder.{OpenOrder}
use Rattle.dds_states.specs.declared.brick_state.OrderPhase.TheVariants.{Copying, Installing, Leasing}
use Rattle.dds_states.specs.declared.brick_state.OrderPhase.{OrderPhase}
use Rattle.dds_states.specs.declared.brick_state.Task.TheVariants.{Join, Split}
use Rattle.dds_states.specs.declared.brick_state.Task.{Task}
use Rattle.dds_order_ends.specs.Waiting.{Waits, WaitsForWay, awaited}

-- The invariant, of one brick's open order: whom it waits for.
--
-- | part                                                     | why it is needed                          | which rows keep it                        |
-- |---|---|---|
-- | `some`: it waits for somebody                            | claimed: nothing else lets it go on       | all of an order's own: where nobody is    |
-- |                                                          |                                           | left, the order goes on or ends           |
-- | `unknown`: for nobody that is known to have stopped      | claimed: who is waited for lives, where   | Notice: it doesn't wait for the node any  |
-- |                                                          | nothing is on its way                     | more; what asks, copies, installs         |
-- | `first`: where it has no leaf, for its only way in       | a notice of another node leaves somebody; | Join; Granted, which fixes the leaf       |
-- |                                                          | who copies or installs has a leaf         |                                           |
--
-- The rows of an own order: what they do has the order in their hands.

-- the brick's order after a turn
abbrev pub OrderWaits : NodeSet → Option OpenOrder → Type 0
OrderWaits known q = (o : OpenOrder) → q ≡ Some o → Waits known o

abbrev pub After : NodeSet → BrickTurn → Type 0
After known t = OrderWaits known t.state.order

pub none-waits : (known : NodeSet) → OrderWaits known None
none-waits known o e = let no : None ≡ Some o = e in cc

pub that-waits : (known : NodeSet) (p : OpenOrder) → Waits known p → OrderWaits known (Some p)
that-waits known p h o e = let is : p ≡ o = cc in subst (Waits known) is h

pub after-if : (known : NodeSet) (c : Bool) (t u : BrickTurn) → (c ≡ true → After known t) → (c ≡ false → After known u)
    → After known (if c then t else u)
after-if known true t u f g = f refl
after-if known false t u f g = g refl

-- lists
pub listed-unknown : (ns : List NodeNo) (known : NodeSet) (m : ℕ) → has (live ns (has_node known)) m ≡ true → has_node known m ≡ false
listed-unknown ns known m h =
    not-one (has_node known m) (and_parts (has ns m) (not (has_node known m)) (sym (has-live ns (has_node known) m) ∙ h)).1
  where
    not-one : (c : Bool) → not c ≡ true → c ≡ false
    not-one true e = cc
    not-one false e = refl

pub others-unknown : (ns : List NodeNo) (me : ℕ) (known : NodeSet) (m : ℕ) → has (unknown_others ns me known) m ≡ true → has_node known m ≡ false
others-unknown ns me known m h = listed-unknown ns known m (in-without (unknown ns known) me m h).1

-- an order with a leaf, in a phase
with-leaf : (known : NodeSet) (o : OpenOrder) (leaf : Leaf) → o.leaf ≡ Some leaf → is_none_left (awaited o.phase o.waiting) ≡ false
    → ((m : NodeNo) → has (awaited o.phase o.waiting) m ≡ true → has_node known m ≡ false) → Waits known o
with-leaf known o leaf e some unknown = record { some = some; unknown = unknown; first = λ f. (let no : None ≡ Some leaf = sym f ∙ e in cc) }

-- it ends
ended : (known : NodeSet) (s : BrickState) (o : OpenOrder) (r : OrderReply) → After known (order.ends s o r)
ended known s o r = none-waits known

-- it installs
installs_from : (s : BrickState) (o : OpenOrder) (leaf made : Leaf) (nodes : List NodeNo) → o.leaf ≡ Some leaf
    → ((m : NodeNo) → has nodes m ≡ true → has_node s.known m ≡ false) → After s.known (order.installs_from s o made nodes)
installs_from s o leaf made [] e f = none-waits s.known
installs_from s o leaf made (n ∷ ns) e f =
    let p = record o { waiting = n ∷ ns; phase = Installing made } in that-waits s.known p (with-leaf s.known p leaf e refl f)

installs : (s : BrickState) (o : OpenOrder) (leaf : Leaf) → o.leaf ≡ Some leaf → After s.known (order.installs s o leaf)
installs s o leaf e =
    installs_from (record s { made = s.made + 1 }) o leaf (order.made_leaf s o leaf o.task) (without (order.parting s o leaf) s.number) e
    (λ m h. listed-unknown leaf.list s.known m
    (has-passes (order.takes_part s o) (live leaf.list (has_node s.known)) m (in-without (order.parting s o leaf) s.number m h).1).1)

-- it copies
copies_from : (s : BrickState) (o : OpenOrder) (leaf : Leaf) (nodes : List NodeNo) → o.leaf ≡ Some leaf
    → ((m : NodeNo) → has nodes m ≡ true → has_node s.known m ≡ false) → After s.known (order.copies_from s o nodes)
copies_from s o leaf [] e f = ended s.known s o answered.NoSource
copies_from s o leaf (n ∷ ns) e f =
    let p = record o { copied = []; phase = Copying n } in
    that-waits s.known p (with-leaf s.known p leaf e refl (λ m h. subst (λ k. has_node s.known k ≡ false) (sym (one-only n m h)) (f n (it-has n ns))))

pub copies : (s : BrickState) (o : OpenOrder) (leaf : Leaf) → o.leaf ≡ Some leaf → After s.known (order.copies s o leaf)
copies s o leaf e =
    copies_from s o leaf (order.sources s o leaf) e
    (λ m h. listed-unknown leaf.list s.known m (has-passes (λ node. has o.granted node) (live leaf.list (has_node s.known)) m h).1)

-- it leases
leased_all : (s : BrickState) (o : OpenOrder) (leaf : Leaf) (t : Task) → o.leaf ≡ Some leaf → After s.known (order.leased_all s o leaf t)
leased_all s o leaf (Join via) e = copies s o leaf e
leased_all s o leaf Split e = installs s o leaf e

left-none : (o : OpenOrder) → is_none_left o.waiting ≡ true → WaitsForWay o → ⊥
left-none o e w = let no : is_none_left o.waiting ≡ false = ap is_none_left w.waiting in both_ways (is_none_left o.waiting) no e

leased_all_at : (s : BrickState) (o : OpenOrder) (q : Option Leaf) → o.leaf ≡ q → is_none_left o.waiting ≡ true → (o.leaf ≡ None → WaitsForWay o)
    → After s.known (order.leased_all_at s o q)
leased_all_at s o None e n f = absurd (left-none o n (f e))
leased_all_at s o (Some leaf) e n f = leased_all s o leaf o.task e

pub leasing-waits : (known : NodeSet) (o : OpenOrder) → o.phase ≡ Leasing → is_none_left o.waiting ≡ false
    → ((m : NodeNo) → has o.waiting m ≡ true → has_node known m ≡ false) → (o.leaf ≡ None → WaitsForWay o) → Waits known o
leasing-waits known o e some f g =
    record {
      some = ap (λ p. is_none_left (awaited p o.waiting)) e ∙ some;
      unknown = λ m h. f m (ap (λ p. has (awaited p o.waiting) m) (sym e) ∙ h);
      first = g;
    }

pub leases_on : (s : BrickState) (o : OpenOrder) → o.phase ≡ Leasing → ((m : NodeNo) → has o.waiting m ≡ true → has_node s.known m ≡ false)
    → (o.leaf ≡ None → WaitsForWay o) → After s.known (order.leases_on s o)
leases_on s o e f g =
    after-if s.known (is_none_left o.waiting) _ _ (λ n. leased_all_at s o o.leaf refl n g)
    (λ n. that-waits s.known o (leasing-waits s.known o e n f g))

-- what an order waits for, by its phase
pub leasing-unknown : (known : NodeSet) (o : OpenOrder) → o.phase ≡ Leasing → Waits known o → (m : NodeNo) → has o.waiting m ≡ true
    → has_node known m ≡ false
leasing-unknown known o e h m k = h.unknown m (ap (λ p. has (awaited p o.waiting) m) e ∙ k)

pub installing-unknown : (known : NodeSet) (o : OpenOrder) (made : Leaf) → o.phase ≡ Installing made → Waits known o → (m : NodeNo)
    → has o.waiting m ≡ true → has_node known m ≡ false
installing-unknown known o made e h m k = h.unknown m (ap (λ p. has (awaited p o.waiting) m) e ∙ k)

pub without-unknown : (known : NodeSet) (ns : List NodeNo) (y : ℕ) → ((m : NodeNo) → has ns m ≡ true → has_node known m ≡ false)
    → (m : NodeNo) → has (without ns y) m ≡ true → has_node known m ≡ false
without-unknown known ns y f m h = f m (in-without ns y m h).1

-- a join's first lease fixes its leaf
fixed : (s : BrickState) (o : OpenOrder) (from : NodeNo) (leaf : Leaf) → o.phase ≡ Leasing
    → ((m : NodeNo) → has o.waiting m ≡ true → has_node s.known m ≡ false) → After s.known (order.fixed s o from leaf)
fixed s o from leaf e f =
    leases_on s (order.widened s o from leaf) e
    (λ m h. elim (append-parts o.waiting (unknown_others leaf.list from s.known) m h) [ inl a ↦ f m a | inr b ↦ others-unknown leaf.list from s.known m b ])
    (λ n. let no : Some leaf ≡ None = n in cc)

worn-or : (s : BrickState) (o : OpenOrder) (from : NodeNo) (leaf : Leaf) (worn full : Bool) → o.phase ≡ Leasing
    → ((m : NodeNo) → has o.waiting m ≡ true → has_node s.known m ≡ false)
    → After s.known (if worn then order.ends s o answered.Worn else (if full then order.ends s o answered.GroupFull else order.fixed s o from leaf))
worn-or s o from leaf true full e f = ended s.known s o answered.Worn
worn-or s o from leaf false true e f = ended s.known s o answered.GroupFull
worn-or s o from leaf false false e f = fixed s o from leaf e f

fixes : (s : BrickState) (o : OpenOrder) (from : NodeNo) (leaf : Leaf) → o.phase ≡ Leasing
    → ((m : NodeNo) → has o.waiting m ≡ true → has_node s.known m ≡ false) → After s.known (order.fixes s o from leaf)
fixes s o from leaf e f =
    worn-or s o from leaf (order.is_worn leaf) (nat_le MEMBERS (length (live leaf.list (has_node s.known)))) e f

granted_join : (s : BrickState) (o : OpenOrder) (from : NodeNo) (leaf : Leaf) (q : Option Leaf) → o.leaf ≡ q → o.phase ≡ Leasing
    → ((m : NodeNo) → has o.waiting m ≡ true → has_node s.known m ≡ false) → After s.known (order.granted_join s o from leaf q)
granted_join s o from leaf None e p f = fixes s o from leaf p f
granted_join s o from leaf (Some told) e p f = leases_on s o p f (λ n. let no : None ≡ Some told = sym n ∙ e in cc)

grants : (s : BrickState) (o : OpenOrder) (from : NodeNo) (leaf : Leaf) (t : Task) → o.task ≡ t → o.phase ≡ Leasing
    → ((m : NodeNo) → has o.waiting m ≡ true → has_node s.known m ≡ false) → (o.leaf ≡ None → (via : NodeNo) × (o.task ≡ Join via))
    → After s.known (order.grants s o from leaf t)
grants s o from leaf (Join via) e p f g = granted_join s o from leaf o.leaf refl p f
grants s o from leaf Split e p f g = leases_on s o p f (λ n. let w = g n in let no : Split ≡ Join w.0 = sym e ∙ w.1 in cc)

pub granted : (s : BrickState) (known : NodeSet) (o : OpenOrder) (from : NodeNo) (leaf : Leaf) → s.known ≡ known → o.phase ≡ Leasing → Waits known o
    → After known (order.grants s (order.with_grant o from) from leaf o.task)
granted s known o from leaf k e h =
    subst (λ x. After x (order.grants s (order.with_grant o from) from leaf o.task)) k
    (grants s (order.with_grant o from) from leaf o.task refl e
    (λ m j. ap (λ x. has_node x m) k ∙ without-unknown known o.waiting from (leasing-unknown known o e h) m j)
    (λ n. let w = h.first n in (w.via, w.task)))

-- pairs
same-waits : (known : NodeSet) (o p : OpenOrder) → p.phase ≡ o.phase → p.waiting ≡ o.waiting → p.leaf ≡ o.leaf → p.task ≡ o.task → Waits known o
    → Waits known p
same-waits known o p e f g t h =
    let it = ap (λ q. awaited q p.waiting) e ∙ ap (awaited o.phase) f in
    record {
      some = ap is_none_left it ∙ h.some;
      unknown = λ m k. h.unknown m (ap (λ ns. has ns m) (sym it) ∙ k);
      first = λ n. (let w = h.first (sym g ∙ n) in record { via = w.via; task = t ∙ w.task; phase = e ∙ w.phase; waiting = f ∙ w.waiting });
    }

copied_all : (s : BrickState) (o : OpenOrder) (q : Option Leaf) → o.leaf ≡ q → Waits s.known o → After s.known (order.copied_all s o q)
copied_all s o None e h = that-waits s.known o h
copied_all s o (Some leaf) e h = installs s o leaf e

copied_on : (s : BrickState) (o : OpenOrder) (source : NodeNo) (last : Bool) → Waits s.known o → After s.known (order.copied_on s o source last)
copied_on s o source true h = copied_all s o o.leaf refl h
copied_on s o source false h = that-waits s.known o h

pub copied : (s : BrickState) (o : OpenOrder) (source : NodeNo) (last : Bool) (pairs : List Pair) → Waits s.known o
    → After s.known (order.copied_on s (record o { copied = o.copied ++ pairs }) source last)
copied s o source last pairs h =
    copied_on s (record o { copied = o.copied ++ pairs }) source last
    (same-waits s.known o (record o { copied = o.copied ++ pairs }) refl refl refl refl h)

-- a member has what was made
made-leaf : (known : NodeSet) (o : OpenOrder) (made : Leaf) → o.phase ≡ Installing made → Waits known o → o.leaf ≡ None → ⊥
made-leaf known o made e h n = let w = h.first n in let no : Leasing ≡ Installing made = sym w.phase ∙ e in cc

pub installs_on : (s : BrickState) (o : OpenOrder) (made : Leaf) → o.phase ≡ Installing made
    → ((m : NodeNo) → has o.waiting m ≡ true → has_node s.known m ≡ false) → (o.leaf ≡ None → ⊥) → After s.known (order.installs_on s o made)
installs_on s o made e f g =
    after-if s.known (is_none_left o.waiting) _ _ (λ n. none-waits s.known)
    (λ n. that-waits s.known o (record {
      some = ap (λ p. is_none_left (awaited p o.waiting)) e ∙ n;
      unknown = λ m h. f m (ap (λ p. has (awaited p o.waiting) m) (sym e) ∙ h);
      first = λ i. absurd (g i);
    }))

pub installed_in : (s : BrickState) (o : OpenOrder) (from : NodeNo) (p : OrderPhase) → o.phase ≡ p → order.is_installing p ≡ true → Waits s.known o
    → After s.known (order.installed_in s (record o { waiting = without o.waiting from }) p)
installed_in s o from Leasing e f h = cc
installed_in s o from (Copying source) e f h = cc
installed_in s o from (Installing made) e f h =
    installs_on s (record o { waiting = without o.waiting from }) made e
    (without-unknown s.known o.waiting from (installing-unknown s.known o made e h)) (made-leaf s.known o made e h)
