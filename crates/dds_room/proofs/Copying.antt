use Rattle.std.proofs.Common.{◌≡◌, ℕ, ◌+◌, ◌&&◌, ◌++◌, Bool, true, false, Option, Some, None, List, [], ◌∷◌, refl, sym, ap, ◌∙◌, subst}
use Rattle.std.specs.Prelude.{nat_le, length, if◌then◌else◌}
use Rattle.std.specs.List.{list_any}
use Rattle.std.specs.FinMap.{get, keys}
use Rattle.std.specs.Prelude.{is_some, ◌==◌, ◌||◌}
use Rattle.dds_base.specs.Name.{overlaps}
use Rattle.dds_base.specs.NodeSet.{has_node}
use Rattle.dds_base.specs.declared.brick_list.TheConstants.{MEMBERS}
use Rattle.dds_base.specs.declared.leaf.Leaf.{Leaf}
use Rattle.dds_base.specs.declared.number.NodeNo.{NodeNo}
use Rattle.dds_base.specs.declared.op.Order.{Order}
use Rattle.dds_base.specs.declared.op.Order.TheVariants as the_order
use Rattle.dds_base.specs.declared.op.OrderReply.TheVariants as answered
use Rattle.dds_brick_rows.specs.Refusal.{is_join}
use Rattle.dds_core.specs.Brick.{brick_input, live_brick_turn}
use Rattle.dds_core.specs.Notice as notices
use Rattle.dds_groups.specs.Leaves.{live}
use Rattle.dds_law_leaf.proofs.Book.{Leafing}
use Rattle.dds_letters.specs.declared.letter.Letter.{Letter}
use Rattle.dds_locks.specs.Leases.{leased}
use Rattle.dds_locks.specs.Pending.{any_under}
use Rattle.dds_order_rows.specs.OwnOrder as order
use Rattle.dds_order_rows.specs.Orders as orders
use Rattle.dds_share.proofs.JoinTurns.{IsOfOrder, Rests, copies_on, grants, letter-rests, notice-same, of_order, refuses, rests, says_so, tells}
use Rattle.dds_states.specs.Turn.{BrickTurn, is_none_left, without}
use Rattle.dds_states.specs.declared.brick_state.BrickState.{BrickState}
use Rattle.dds_states.specs.declared.brick_state.OpenOrder.{OpenOrder}
use Rattle.dds_states.specs.declared.brick_state.OrderPhase.{OrderPhase}
use Rattle.dds_states.specs.declared.brick_state.OrderPhase.TheVariants.{Copying, Installing, Leasing}
use Rattle.dds_states.specs.declared.brick_state.Task.{Task}
use Rattle.dds_states.specs.declared.brick_state.Task.TheVariants.{Join, Split}

-- Joins alone copy.

abbrev pub is_copying : OrderPhase → Bool
is_copying Leasing = false
is_copying (Copying source) = true
is_copying (Installing made) = false

abbrev pub JoinCopies : OpenOrder → Type 0
JoinCopies o = is_copying o.phase ≡ true → is_join o.task ≡ true

abbrev pub OrderJoins : Option OpenOrder → Type 0
OrderJoins q = (o : OpenOrder) → q ≡ Some o → JoinCopies o

pub record Joins (t : BrickTurn) : Type 0 where
  pub is : OrderJoins t.state.order

no-order : OrderJoins None
no-order o e = cc

this-order : (p : OpenOrder) → JoinCopies p → OrderJoins (Some p)
this-order p h o e = let is : p ≡ o = cc in subst JoinCopies is h

none-open : (t : BrickTurn) → t.state.order ≡ None → Joins t
none-open t e = record { is = subst OrderJoins (sym e) no-order }

some-open : (t : BrickTurn) (p : OpenOrder) → t.state.order ≡ Some p → JoinCopies p → Joins t
some-open t p e h = record { is = subst OrderJoins (sym e) (this-order p h) }

joins-if : (c : Bool) {t u : BrickTurn} → Joins t → Joins u → Joins (if c then t else u)
joins-if true h k = h
joins-if false h k = k

installs_from : (s : BrickState) (o : OpenOrder) (made : Leaf) (nodes : List NodeNo) → Joins (order.installs_from s o made nodes)
installs_from s o made [] = none-open _ refl
installs_from s o made (n ∷ ns) = some-open _ (record o { waiting = n ∷ ns; phase = Installing made }) refl (λ c. cc)

installs : (s : BrickState) (o : OpenOrder) (leaf : Leaf) → Joins (order.installs s o leaf)
installs s o leaf = installs_from (record s { made = s.made + 1 }) o (order.made_leaf s o leaf o.task) (without (order.parting s o leaf) s.number)

copies_from : (s : BrickState) (o : OpenOrder) (nodes : List NodeNo) → is_join o.task ≡ true → Joins (order.copies_from s o nodes)
copies_from s o [] j = none-open _ refl
copies_from s o (n ∷ ns) j = some-open _ (record o { copied = []; phase = Copying n }) refl (λ c. j)

leased_all : (s : BrickState) (o : OpenOrder) (leaf : Leaf) (t : Task) → o.task ≡ t → Joins (order.leased_all s o leaf t)
leased_all s o leaf (Join via) e = copies_from s o (order.sources s o leaf) (ap is_join e)
leased_all s o leaf Split e = installs s o leaf

leased_all_at : (s : BrickState) (o : OpenOrder) (leaf : Option Leaf) → JoinCopies o → Joins (order.leased_all_at s o leaf)
leased_all_at s o None h = some-open _ o refl h
leased_all_at s o (Some leaf) h = leased_all s o leaf o.task refl

leases_on : (s : BrickState) (o : OpenOrder) → JoinCopies o → Joins (order.leases_on s o)
leases_on s o h = joins-if (is_none_left o.waiting) (leased_all_at s o o.leaf h) (some-open _ o refl h)

fixes : (s : BrickState) (o : OpenOrder) (from : NodeNo) (leaf : Leaf) → JoinCopies o → Joins (order.fixes s o from leaf)
fixes s o from leaf h =
    joins-if (order.is_worn leaf) (none-open _ refl) (joins-if (nat_le MEMBERS (length (live leaf.list (has_node s.known)))) (none-open _ refl)
    (record { is = (leases_on s (order.widened s o from leaf) h).is }))

granted_join : (s : BrickState) (o : OpenOrder) (from : NodeNo) (leaf : Leaf) (q : Option Leaf) → JoinCopies o → Joins (order.granted_join s o from leaf q)
granted_join s o from leaf None h = fixes s o from leaf h
granted_join s o from leaf (Some fixed) h = leases_on s o h

granting : (s : BrickState) (o : OpenOrder) (from : NodeNo) (leaf : Leaf) (t : Task) → JoinCopies o → Joins (order.grants s o from leaf t)
granting s o from leaf (Join via) h = granted_join s o from leaf o.leaf h
granting s o from leaf Split h = leases_on s o h

copied_all : (s : BrickState) (o : OpenOrder) (leaf : Option Leaf) → JoinCopies o → Joins (order.copied_all s o leaf)
copied_all s o None h = some-open _ o refl h
copied_all s o (Some leaf) h = installs s o leaf

copied_on : (s : BrickState) (o : OpenOrder) (source : NodeNo) (last : Bool) → JoinCopies o → Joins (order.copied_on s o source last)
copied_on s o source true h = copied_all s o o.leaf h
copied_on s o source false h = some-open _ o refl h

installs_on : (s : BrickState) (o : OpenOrder) (made : Leaf) → JoinCopies o → Joins (order.installs_on s o made)
installs_on s o made h = joins-if (is_none_left o.waiting) (none-open _ refl) (some-open _ o refl h)

installed_in : (s : BrickState) (o : OpenOrder) (phase : OrderPhase) → s.order ≡ None → JoinCopies o → Joins (order.installed_in s o phase)
installed_in s o Leasing e h = none-open _ e
installed_in s o (Copying source) e h = none-open _ e
installed_in s o (Installing made) e h = installs_on s o made h

copies_again : (s : BrickState) (o : OpenOrder) (leaf : Option Leaf) → is_join o.task ≡ true → JoinCopies o → Joins (notices.copies_again s o leaf)
copies_again s o None j h = some-open _ o refl h
copies_again s o (Some leaf) j h = copies_from s o (order.sources s o leaf) j

order_goes : (s : BrickState) (o : OpenOrder) (y : NodeNo) (phase : OrderPhase) → o.phase ≡ phase → JoinCopies o → Joins (notices.order_goes s o y phase)
order_goes s o y Leasing e h =
    joins-if (notices.is_lost o y o.task) (none-open _ refl) (leases_on s (record o { waiting = without o.waiting y }) h)
order_goes s o y (Copying source) e h = copies_again s o o.leaf (h (ap is_copying e)) h
order_goes s o y (Installing made) e h = installs_on s (record o { waiting = without o.waiting y }) made h

-- a letter
with-order : (s : BrickState) (row : BrickState → OpenOrder → BrickTurn) (q : Option OpenOrder) → s.order ≡ q → OrderJoins q
    → ((o : OpenOrder) → JoinCopies o → Joins (row (record s { order = None }) o)) → Joins (order.with_order s row q)
with-order s row None e h f = none-open _ e
with-order s row (Some o) e h f = f o (h o refl)

at-order : (s : BrickState) (number : ℕ) (test : OpenOrder → Bool) (row : BrickState → OpenOrder → BrickTurn) → OrderJoins s.order
    → ((o : OpenOrder) → JoinCopies o → Joins (row (record s { order = None }) o)) → Joins (order.at_order s number test row)
at-order s number test row h f = joins-if (order.is_at number test s.order) (with-order s row s.order refl h f) (record { is = h })

of-order : (s : BrickState) (from : NodeNo) (l : Letter) → IsOfOrder l → OrderJoins s.order → Joins (live_brick_turn s from l)
of-order s from _ (grants number leaf) h =
    at-order s number (order.takes_grant s.number leaf) (λ t o. order.grants t (order.with_grant o from) from leaf o.task) h
    (λ o j. granting (record s { order = None }) (order.with_grant o from) from leaf o.task j)
of-order s from _ (refuses number why) h =
    at-order s number (λ o. order.is_leasing o.phase) (λ t o. order.ends t o (answered.Refused (order.met_of why from))) h
    (λ o j. none-open (order.ends (record s { order = None }) o (answered.Refused (order.met_of why from))) refl)
of-order s from _ (copies_on number last pairs) h =
    at-order s number (λ o. order.is_source from o.phase && order.fits o pairs)
    (λ t o. order.copied_on t (record o { copied = o.copied ++ pairs }) from last) h
    (λ o j. copied_on (record s { order = None }) (record o { copied = o.copied ++ pairs }) from last j)
of-order s from _ (says_so number name) h =
    at-order s number (λ o. order.is_installing o.phase)
    (λ t o. order.installed_in t (record o { waiting = without o.waiting from }) o.phase) h
    (λ o j. installed_in (record s { order = None }) (record o { waiting = without o.waiting from }) o.phase refl j)
of-order s from _ tells h =
    let a = notices.learns s from in
    let part = joins-if (notices.concerns_some from a.order)
    (with-order a (λ t o. notices.order_goes t o from o.phase) a.order refl h (λ o j. order_goes (record a { order = None }) o from o.phase refl j))
    (record { is = h }) in
    record { is = λ o e. part.is o (sym (ap (λ (x : Leafing). x.order) (notice-same s from)) ∙ e) }

pub letter-joins : (s : BrickState) (from : NodeNo) (l : Letter) → OrderJoins s.order → Joins (live_brick_turn s from l)
letter-joins s from l h = by (letter-rests s from l)
  where
    by : Rests s l (live_brick_turn s from l) → Joins (live_brick_turn s from l)
    by (rests e take) = record { is = λ o f. h o (sym e ∙ f) }
    by (of_order k) = of-order s from l k h

-- an order that comes
split_leaf : (s : BrickState) (leaf : Leaf) → OrderJoins s.order → Joins (order.split_leaf s leaf)
split_leaf s leaf h =
    let u = record (orders.leasing s leaf.name s.number) { orders = s.orders + 1 } in
    joins-if (leaf.name.depth == 16) (record { is = h }) (joins-if (order.is_worn leaf) (record { is = h })
    (joins-if (is_some (leased s.locks.leases leaf.name)) (record { is = h }) (joins-if (any_under s.locks.pending leaf.name) (record { is = h })
    (record { is = (leases_on u (order.new_split s leaf) (λ c. cc)).is }))))

split_named : (s : BrickState) (leaf : Option Leaf) → OrderJoins s.order → Joins (order.split_named s leaf)
split_named s None h = record { is = h }
split_named s (Some leaf) h = split_leaf s leaf h

pub told-joins : (s : BrickState) (o : Order) → OrderJoins s.order → Joins (brick_input s o)
told-joins s (the_order.Join brick name via) h =
    joins-if s.stopped (record { is = h }) (joins-if (is_some s.order) (record { is = h })
    (joins-if (list_any (λ other. overlaps other name) (keys s.leaves)) (record { is = h })
    (joins-if (via == s.number || has_node s.known via) (record { is = h })
    (some-open (order.join_opens s name via) (order.opens s (Join via) name None (via ∷ [])) refl (λ c. cc)))))
told-joins s (the_order.Split brick name) h =
    joins-if s.stopped (record { is = h }) (joins-if (is_some s.order) (record { is = h }) (split_named s (get s.leaves name) h))
