use Rattle.std.proofs.Common.{◌≡◌, ℕ, ◌++◌, Bool, true, false, Option, Some, None, List, [], ◌∷◌, refl, ap, ◌∙◌}
use Rattle.std.specs.FinMap.{get}
use Rattle.std.specs.Prelude.{if◌then◌else◌}
use Rattle.dds_base.specs.Name.{Name}
use Rattle.dds_base.specs.declared.leaf.Leaf.{Leaf}
use Rattle.dds_base.specs.declared.number.NodeNo.{NodeNo}
use Rattle.dds_base.specs.declared.op.OrderReply.{OrderReply}
use Rattle.dds_base.specs.declared.op.OrderReply.TheVariants as answered
use Rattle.dds_base.specs.declared.pair.Pair.{Pair}
use Rattle.dds_brick_rows.specs.Take as takes
use Rattle.dds_core.specs.Notice as notices
use Rattle.dds_letters.specs.declared.letter.Letter.{Letter}
use Rattle.dds_letters.specs.declared.refusal.Refusal.{Refusal}
use Rattle.dds_letters.specs.declared.refusal.Wanted.{Wanted}
use Rattle.dds_letters.specs.declared.refusal.Wanted.TheVariants as wanted
use Rattle.dds_order_rows.specs.Orders as orders
use Rattle.dds_order_rows.specs.OwnOrder as own
use Rattle.dds_states.specs.Turn.{BrickTurn, and_then, sends, still, without}
use Rattle.dds_states.specs.declared.brick_state.BrickState.{BrickState}
use Rattle.dds_states.specs.declared.brick_state.OpenOrder.{OpenOrder}
use Rattle.dds_states.specs.declared.brick_state.OrderPhase.{OrderPhase}
use Rattle.dds_states.specs.declared.brick_state.OrderPhase.TheVariants.{Leasing, Copying, Installing}
use Rattle.dds_states.specs.declared.brick_state.Task.{Task}
use Rattle.dds_states.specs.declared.brick_state.Task.TheVariants as task

-- The rows of orders make no points.

pub record NoPoints (r : BrickTurn) : Type 0 where
  pub none : r.out.points ≡ []

none-then : (r : BrickTurn) (row : BrickState → BrickTurn) → NoPoints r → ((u : BrickState) → NoPoints (row u)) → NoPoints (and_then r row)
none-then r row h f = record { none = ap (λ ps. ps ++ (row r.state).out.points) h.none ∙ (f r.state).none }

none-if : (c : Bool) {r q : BrickTurn} → NoPoints r → NoPoints q → NoPoints (if c then r else q)
none-if true h g = h
none-if false h g = g

none-still : (u : BrickState) → NoPoints (still u)
none-still u = record { none = refl }

none-sends : (u : BrickState) (ls : List (NodeNo × Letter)) → NoPoints (sends u ls)
none-sends u ls = record { none = refl }

-- orders of others
granted-none : (s : BrickState) (from : NodeNo) (order : ℕ) (name : Name) (leaf : Option Leaf) → NoPoints (orders.granted s from order name leaf)
granted-none s from order name None = record { none = refl }
granted-none s from order name (Some leaf) = record { none = refl }

answered-none : (s : BrickState) (from : NodeNo) (order : ℕ) (name : Name) (r : Option Refusal) → NoPoints (orders.lease_answered s from order name r)
answered-none s from order name None = granted-none s from order name (get s.leaves name)
answered-none s from order name (Some r) = record { none = refl }

pub lease-none : (s : BrickState) (from : NodeNo) (order : ℕ) (what : Wanted) → NoPoints (orders.lease_row s from order what)
lease-none s from order (wanted.Name name) = answered-none s from order name _
lease-none s from order (wanted.Leaf leaf) = answered-none (takes.take s leaf) from order leaf.name _

pub copy-ask-none : (s : BrickState) (from : NodeNo) (order : ℕ) (name : Name) (after : Option ℕ) → NoPoints (orders.copy_ask_row s from order name after)
copy-ask-none s from order name after = none-if _ (none-sends s _) (none-still s)

over-none : (s : BrickState) (from : NodeNo) (order : ℕ) (leaf : Leaf) (mine : Option Leaf) → NoPoints (orders.installed_over s from order leaf mine)
over-none s from order leaf None = record { none = refl }
over-none s from order leaf (Some mine) = none-if _ (none-sends (record s { leaves = takes.replaced s.leaves mine leaf }) _) (none-still s)

pub install-none : (s : BrickState) (from : NodeNo) (order : ℕ) (leaf : Leaf) → NoPoints (orders.install_row s from order leaf)
install-none s from order leaf = none-if _ (over-none s from order leaf _) (none-still s)

-- the brick's own
ends-none : (s : BrickState) (o : OpenOrder) (reply : OrderReply) → NoPoints (own.ends s o reply)
ends-none s o reply = record { none = refl }

finishes-none : (s : BrickState) (o : OpenOrder) (made : Leaf) → NoPoints (own.finishes s o made)
finishes-none s o made = record { none = refl }

from-none : (s : BrickState) (o : OpenOrder) (made : Leaf) (nodes : List NodeNo) → NoPoints (own.installs_from s o made nodes)
from-none s o made [] = finishes-none s o made
from-none s o made (n ∷ ns) = record { none = refl }

installs-none : (s : BrickState) (o : OpenOrder) (leaf : Leaf) → NoPoints (own.installs s o leaf)
installs-none s o leaf = from-none (record s { made = _ }) o _ _

copies-from-none : (s : BrickState) (o : OpenOrder) (nodes : List ℕ) → NoPoints (own.copies_from s o nodes)
copies-from-none s o [] = ends-none s o answered.NoSource
copies-from-none s o (n ∷ ns) = record { none = refl }

leased-none : (s : BrickState) (o : OpenOrder) (leaf : Leaf) (t : Task) → NoPoints (own.leased_all s o leaf t)
leased-none s o leaf (task.Join via) = copies-from-none s o _
leased-none s o leaf task.Split = installs-none s o leaf

leased-at-none : (s : BrickState) (o : OpenOrder) (leaf : Option Leaf) → NoPoints (own.leased_all_at s o leaf)
leased-at-none s o None = record { none = refl }
leased-at-none s o (Some leaf) = leased-none s o leaf o.task

leases-none : (s : BrickState) (o : OpenOrder) → NoPoints (own.leases_on s o)
leases-none s o = none-if _ (leased-at-none s o o.leaf) (none-still (own.going_on s o))

with-none : (s : BrickState) (row : BrickState → OpenOrder → BrickTurn) (o : Option OpenOrder) → ((t : BrickState) (x : OpenOrder) → NoPoints (row t x))
    → NoPoints (own.with_order s row o)
with-none s row None h = record { none = refl }
with-none s row (Some o) h = h (record s { order = None }) o

at-none : (s : BrickState) (number : ℕ) (test : OpenOrder → Bool) (row : BrickState → OpenOrder → BrickTurn)
    → ((t : BrickState) (x : OpenOrder) → NoPoints (row t x)) → NoPoints (own.at_order s number test row)
at-none s number test row h = none-if _ (with-none s row s.order h) (none-still s)

fixed-none : (s : BrickState) (o : OpenOrder) (from : NodeNo) (leaf : Leaf) → NoPoints (own.fixed s o from leaf)
fixed-none s o from leaf =
    none-then (sends s _) (λ u. own.leases_on u (own.widened s o from leaf)) (none-sends s _) (λ u. leases-none u (own.widened s o from leaf))

join-none : (s : BrickState) (o : OpenOrder) (from : NodeNo) (leaf : Leaf) (mine : Option Leaf) → NoPoints (own.granted_join s o from leaf mine)
join-none s o from leaf None =
    none-if _ (ends-none s o answered.Worn) (none-if _ (ends-none s o answered.GroupFull) (fixed-none s o from leaf))
join-none s o from leaf (Some mine) = leases-none s o

grants-none : (s : BrickState) (o : OpenOrder) (from : NodeNo) (leaf : Leaf) (t : Task) → NoPoints (own.grants s o from leaf t)
grants-none s o from leaf (task.Join via) = join-none s o from leaf o.leaf
grants-none s o from leaf task.Split = leases-none s o

pub granted-row-none : (s : BrickState) (from : NodeNo) (number : ℕ) (leaf : Leaf) → NoPoints (own.granted_row s from number leaf)
granted-row-none s from number leaf = at-none s number _ _ (λ t o. grants-none t (own.with_grant o from) from leaf o.task)

pub refused-none : (s : BrickState) (from : NodeNo) (number : ℕ) (r : Refusal) → NoPoints (own.lease_refused_row s from number r)
refused-none s from number r = at-none s number _ _ (λ t o. ends-none t o (answered.Refused (own.met_of r from)))

all-copied-none : (s : BrickState) (o : OpenOrder) (leaf : Option Leaf) → NoPoints (own.copied_all s o leaf)
all-copied-none s o None = record { none = refl }
all-copied-none s o (Some leaf) = installs-none s o leaf

copied-none : (s : BrickState) (o : OpenOrder) (source : NodeNo) (last : Bool) → NoPoints (own.copied_on s o source last)
copied-none s o source true = all-copied-none s o o.leaf
copied-none s o source false = record { none = refl }

pub copy-part-none : (s : BrickState) (from : NodeNo) (number : ℕ) (last : Bool) (pairs : List Pair) → NoPoints (own.copy_part_row s from number last pairs)
copy-part-none s from number last pairs = at-none s number _ _ (λ t o. copied-none t (record o { copied = o.copied ++ pairs }) from last)

installs-on-none : (s : BrickState) (o : OpenOrder) (made : Leaf) → NoPoints (own.installs_on s o made)
installs-on-none s o made = none-if _ (finishes-none s o made) (none-still (own.going_on s o))

installed-in-none : (s : BrickState) (o : OpenOrder) (phase : OrderPhase) → NoPoints (own.installed_in s o phase)
installed-in-none s o Leasing = record { none = refl }
installed-in-none s o (Copying source) = record { none = refl }
installed-in-none s o (Installing made) = installs-on-none s o made

pub installed-none : (s : BrickState) (from : NodeNo) (number : ℕ) → NoPoints (own.installed_row s from number)
installed-none s from number = at-none s number _ _ (λ t o. installed-in-none t (record o { waiting = without o.waiting from }) o.phase)

-- at a notice
copies-again-none : (s : BrickState) (o : OpenOrder) (leaf : Option Leaf) → NoPoints (notices.copies_again s o leaf)
copies-again-none s o None = record { none = refl }
copies-again-none s o (Some leaf) = copies-from-none s o _

order-goes-none : (s : BrickState) (o : OpenOrder) (y : NodeNo) (phase : OrderPhase) → NoPoints (notices.order_goes s o y phase)
order-goes-none s o y Leasing = none-if _ (ends-none s o answered.NoSource) (leases-none s (record o { waiting = without o.waiting y }))
order-goes-none s o y (Copying source) = copies-again-none s o o.leaf
order-goes-none s o y (Installing made) = installs-on-none s (record o { waiting = without o.waiting y }) made

pub order-part-none : (s : BrickState) (y : NodeNo) → NoPoints (notices.order_part s y)
order-part-none s y = none-if _ (with-none s _ s.order (λ t o. order-goes-none t o y o.phase)) (none-still s)
