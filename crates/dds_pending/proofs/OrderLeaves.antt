use Rattle.std.proofs.Common.{◌≡◌, ℕ, ◌+◌, ◌&&◌, ◌||◌, Bool, true, false, not, length, Option, Some, None, List, [], ◌∷◌, refl, sym, ap, ◌∙◌}
use Rattle.std.proofs.lemmas.Bool.{and_parts}
use Rattle.std.specs.FinMap.{remove}
use Rattle.std.specs.Prelude.{nat_le, if◌then◌else◌}
use Rattle.dds_base.specs.BrickList.{has}
use Rattle.dds_base.specs.Name.{Name, same_name}
use Rattle.dds_base.specs.NodeSet.{has_node}
use Rattle.dds_base.specs.declared.brick_list.TheConstants.{MEMBERS}
use Rattle.dds_base.specs.declared.leaf.Leaf.{Leaf}
use Rattle.dds_base.specs.declared.number.NodeNo.{NodeNo}
use Rattle.dds_base.specs.declared.op.OrderReply.{OrderReply}
use Rattle.dds_base.specs.declared.op.OrderReply.TheVariants as answered
use Rattle.dds_brick_rows.specs.Refusal.{is_join}
use Rattle.dds_core.specs.Notice as notices
use Rattle.dds_groups.specs.Leaves.{live, sibling}
use Rattle.dds_groups.specs.Names.{low_half}
use Rattle.dds_law_own.proofs.Lists.{Each}
use Rattle.dds_law_own.proofs.OrderWays.{same-is}
use Rattle.dds_law_own.proofs.Owned.{IsOrderly, made_name}
use Rattle.dds_order_rows.specs.Orders as orders
use Rattle.dds_order_rows.specs.OwnOrder as order
use Rattle.dds_states.specs.Turn.{BrickTurn, is_none_left, without}
use Rattle.dds_states.specs.declared.brick_state.BrickState.{BrickState}
use Rattle.dds_states.specs.declared.brick_state.OpenOrder.{OpenOrder}
use Rattle.dds_states.specs.declared.brick_state.OrderPhase.{OrderPhase}
use Rattle.dds_states.specs.declared.brick_state.OrderPhase.TheVariants.{Leasing, Copying, Installing}
use Rattle.dds_states.specs.declared.brick_state.Task.{Task}
use Rattle.dds_states.specs.declared.brick_state.Task.TheVariants.{Join, Split}
use Rattle.dds_trie.specs.Trie.{LeafMap, put}
use Rattle.dds_world.specs.Groups as world

-- What the rows of a brick's own order do to its leaves: they leave them, or serve the leaf that the order made. A row has the order in
-- its hands.

abbrev pub served_as : LeafMap → Name → Leaf → Task → LeafMap
served_as m name made (Join via) = put m made
served_as m name made Split = put (put (remove m name) made) (sibling made)

pub data Ends (m : LeafMap) (name : Name) (t : Task) (k : LeafMap) : Type 0 where
  leaves : k ≡ m → Ends m name t k
  serves : (made : Leaf) → made.name ≡ made_name name t → k ≡ served_as m name made t → Ends m name t k

-- an order's leaf has its name, and what it made has the name that it will serve
pub record IsNamed (o : OpenOrder) : Type 0 where
  pub leaf : Each (λ (l : Leaf). l.name ≡ o.name) o.leaf
  pub made : Each (λ (l : Leaf). l.name ≡ made_name o.name o.task) (world.made_leaf o.phase)

each-map : (P Q : Leaf → Type 0) (x : Option Leaf) → ((l : Leaf) → P l → Q l) → Each P x → Each Q x
each-map P Q None f h = tt
each-map P Q (Some l) f h = f l h

pub named : (me : ℕ) (o : OpenOrder) → IsOrderly me o → IsNamed o
named me o h =
    record {
      leaf = each-map _ (λ (l : Leaf). l.name ≡ o.name) o.leaf (λ l k. k.0) h.leaf;
      made = each-map _ (λ (l : Leaf). l.name ≡ made_name o.name o.task) (world.made_leaf o.phase) (λ l k. k.0) h.made;
    }

-- a turn after which the leaves are so, by the name and the task of the order
abbrev pub Ending : LeafMap → OpenOrder → BrickTurn → Type 0
Ending m o t = Ends m o.name o.task t.state.leaves

ends-if : (m : LeafMap) (o : OpenOrder) (c : Bool) (t u : BrickTurn) → Ending m o t → Ending m o u → Ending m o (if c then t else u)
ends-if m o true t u h k = h
ends-if m o false t u h k = k

-- the order is over
closed-leaves : (s : BrickState) (o : OpenOrder) (c : Bool) → (if c then s else orders.releasing s o.name s.number).leaves ≡ s.leaves
closed-leaves s o true = refl
closed-leaves s o false = refl

pub ends : (s : BrickState) (o : OpenOrder) (reply : OrderReply) → Ending s.leaves o (order.ends s o reply)
ends s o reply = leaves (closed-leaves s o (is_join o.task))

served-leaves : (s : BrickState) (o : OpenOrder) (made : Leaf) (t : Task)
    → (if is_join t then order.serving s o made t else orders.releasing (order.serving s o made t) o.name (order.serving s o made t).number).leaves
    ≡ served_as s.leaves o.name made t
served-leaves s o made (Join via) = refl
served-leaves s o made Split = refl

finishes : (s : BrickState) (o : OpenOrder) (made : Leaf) → made.name ≡ made_name o.name o.task → Ending s.leaves o (order.finishes s o made)
finishes s o made h = serves made h (served-leaves s o made o.task)

-- it goes on
installs_from : (s : BrickState) (o : OpenOrder) (made : Leaf) (nodes : List NodeNo) → made.name ≡ made_name o.name o.task
    → Ending s.leaves o (order.installs_from s o made nodes)
installs_from s o made [] h = finishes s o made h
installs_from s o made (n ∷ ns) h = leaves refl

made-named : (s : BrickState) (o : OpenOrder) (leaf : Leaf) (t : Task) → leaf.name ≡ o.name → (order.made_leaf s o leaf t).name ≡ made_name o.name t
made-named s o leaf (Join via) h = h
made-named s o leaf Split h = ap low_half h

installs : (s : BrickState) (o : OpenOrder) (leaf : Leaf) → leaf.name ≡ o.name → Ending s.leaves o (order.installs s o leaf)
installs s o leaf h =
    installs_from (record s { made = s.made + 1 }) o (order.made_leaf s o leaf o.task) (without (order.parting s o leaf) s.number)
    (made-named s o leaf o.task h)

copies_from : (s : BrickState) (o : OpenOrder) (nodes : List NodeNo) → Ending s.leaves o (order.copies_from s o nodes)
copies_from s o [] = ends s o answered.NoSource
copies_from s o (n ∷ ns) = leaves refl

leased_all : (s : BrickState) (o : OpenOrder) (leaf : Leaf) (t : Task) → leaf.name ≡ o.name → Ending s.leaves o (order.leased_all s o leaf t)
leased_all s o leaf (Join via) h = copies_from s o (order.sources s o leaf)
leased_all s o leaf Split h = installs s o leaf h

abbrev Named : OpenOrder → Option Leaf → Type 0
Named o q = Each (λ (l : Leaf). l.name ≡ o.name) q

leased_all_at : (s : BrickState) (o : OpenOrder) (leaf : Option Leaf) → Named o leaf → Ending s.leaves o (order.leased_all_at s o leaf)
leased_all_at s o None h = leaves refl
leased_all_at s o (Some leaf) h = leased_all s o leaf o.task h

pub leases_on : (s : BrickState) (o : OpenOrder) → Named o o.leaf → Ending s.leaves o (order.leases_on s o)
leases_on s o h = ends-if s.leaves o (is_none_left o.waiting) _ _ (leased_all_at s o o.leaf h) (leaves refl)

copies_again : (s : BrickState) (o : OpenOrder) (leaf : Option Leaf) → Ending s.leaves o (notices.copies_again s o leaf)
copies_again s o None = leaves refl
copies_again s o (Some leaf) = copies_from s o (order.sources s o leaf)

installs_on : (s : BrickState) (o : OpenOrder) (made : Leaf) → made.name ≡ made_name o.name o.task → Ending s.leaves o (order.installs_on s o made)
installs_on s o made h = ends-if s.leaves o (is_none_left o.waiting) _ _ (finishes s o made h) (leaves refl)

-- a grant
fixes : (s : BrickState) (o : OpenOrder) (from : NodeNo) (leaf : Leaf) → leaf.name ≡ o.name → Ending s.leaves o (order.fixes s o from leaf)
fixes s o from leaf h =
    ends-if s.leaves o (order.is_worn leaf) _ _ (ends s o answered.Worn)
    (ends-if s.leaves o (nat_le MEMBERS (length (live leaf.list (has_node s.known)))) _ _ (ends s o answered.GroupFull)
    (leases_on s (order.widened s o from leaf) h))

granted_join : (s : BrickState) (o : OpenOrder) (from : NodeNo) (leaf : Leaf) (q : Option Leaf) → leaf.name ≡ o.name → Named o o.leaf
    → Ending s.leaves o (order.granted_join s o from leaf q)
granted_join s o from leaf None h k = fixes s o from leaf h
granted_join s o from leaf (Some fixed) h k = leases_on s o k

pub grants : (s : BrickState) (o : OpenOrder) (from : NodeNo) (leaf : Leaf) (t : Task) → o.task ≡ t → order.takes_grant s.number leaf o ≡ true → Named o o.leaf
    → Ending s.leaves o (order.grants s o from leaf t)
grants s o from leaf (Join via) e h k =
    let join : is_join o.task ≡ true = ap is_join e in
    let its = same_name leaf.name o.name && not (has leaf.list s.number) in
    let may = (and_parts (order.is_leasing o.phase) (not (is_join o.task) || its) h).1 in
    let p = and_parts (same_name leaf.name o.name) (not (has leaf.list s.number)) (sym (ap (λ c. not c || its) join) ∙ may) in
    granted_join s o from leaf o.leaf (same-is leaf.name o.name p.0) k
grants s o from leaf Split e h k = leases_on s o k

-- the last pairs
copied_all : (s : BrickState) (o : OpenOrder) (leaf : Option Leaf) → Named o leaf → Ending s.leaves o (order.copied_all s o leaf)
copied_all s o None h = leaves refl
copied_all s o (Some leaf) h = installs s o leaf h

pub copied_on : (s : BrickState) (o : OpenOrder) (source : NodeNo) (last : Bool) → Named o o.leaf → Ending s.leaves o (order.copied_on s o source last)
copied_on s o source true h = copied_all s o o.leaf h
copied_on s o source false h = leaves refl

pub installed_in : (s : BrickState) (o : OpenOrder) (phase : OrderPhase) → Each (λ (l : Leaf). l.name ≡ made_name o.name o.task) (world.made_leaf phase)
    → Ending s.leaves o (order.installed_in s o phase)
installed_in s o Leasing h = leaves refl
installed_in s o (Copying source) h = leaves refl
installed_in s o (Installing made) h = installs_on s o made h

-- a notice
pub order_goes : (s : BrickState) (o : OpenOrder) (y : NodeNo) (phase : OrderPhase) → Named o o.leaf
    → Each (λ (l : Leaf). l.name ≡ made_name o.name o.task) (world.made_leaf phase) → Ending s.leaves o (notices.order_goes s o y phase)
order_goes s o y Leasing h k =
    ends-if s.leaves o (notices.is_lost o y o.task) _ _ (ends s o answered.NoSource) (leases_on s (record o { waiting = without o.waiting y }) h)
order_goes s o y (Copying source) h k = copies_again s o o.leaf
order_goes s o y (Installing made) h k = installs_on s (record o { waiting = without o.waiting y }) made k
