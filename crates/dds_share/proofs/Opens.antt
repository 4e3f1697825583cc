use Rattle.std.proofs.Common.{◌≡◌, ◌==◌, ◌||◌, ◌+◌, Bool, true, false, Option, Some, None, List, [], ◌∷◌, refl, sym, ap, ◌∙◌}
use Rattle.std.proofs.lemmas.Bool.{both_ways}
use Rattle.std.specs.FinMap.{get, keys}
use Rattle.std.specs.List.{list_any}
use Rattle.std.specs.Prelude.{is_some, if◌then◌else◌}
use Rattle.dds_base.specs.Name.{Name, overlaps}
use Rattle.dds_base.specs.NodeSet.{has_node}
use Rattle.dds_base.specs.declared.leaf.Leaf.{Leaf}
use Rattle.dds_base.specs.declared.name.TheConstants.{DEPTH}
use Rattle.dds_base.specs.declared.number.NodeNo.{NodeNo}
use Rattle.dds_base.specs.declared.op.Order.{Order}
use Rattle.dds_base.specs.declared.op.Order.TheVariants as the_order
use Rattle.dds_base.specs.declared.op.OrderReply.TheVariants as answered
use Rattle.dds_brick_rows.specs.Refusal.{is_join}
use Rattle.dds_core.specs.Brick.{brick_input}
use Rattle.dds_locks.specs.Leases.{leased}
use Rattle.dds_locks.specs.Pending.{any_under}
use Rattle.dds_order_rows.specs.Orders as orders
use Rattle.dds_order_rows.specs.OwnOrder as order
use Rattle.dds_orders.proofs.Counting.{not-none}
use Rattle.dds_orders.proofs.Numbers.{the-order}
use Rattle.dds_states.specs.Turn.{BrickTurn, is_none_left, without}
use Rattle.dds_states.specs.declared.brick_state.BrickState.{BrickState}
use Rattle.dds_states.specs.declared.brick_state.OpenOrder.{OpenOrder}
use Rattle.dds_states.specs.declared.brick_state.OrderPhase.TheVariants.{Installing}
use Rattle.dds_states.specs.declared.brick_state.Task.{Task}
use Rattle.dds_states.specs.declared.brick_state.Task.TheVariants.{Join, Split}

-- Where a brick is told an order, the one that is open stays; and a join that opens leases.

-- the open one stays
refused : (s : BrickState) (c : Bool) (q : Option OpenOrder) (p : OpenOrder) (t : BrickTurn) → q ≡ Some p
    → (if c then order.answers s answered.Stopped else (if is_some q then order.answers s answered.OrderOpen else t)).state ≡ s
refused s true q p t e = refl
refused s false (Some x) p t e = refl
refused s false None p t e = cc

pub order-still : (s : BrickState) (p : OpenOrder) (o : Order) → s.order ≡ Some p → (brick_input s o).state ≡ s
order-still s p (the_order.Join brick name via) e = refused s s.stopped s.order p _ e
order-still s p (the_order.Split brick name) e = refused s s.stopped s.order p _ e

-- or a new one opens, and a join leases
pub record Opened (t : BrickTurn) : Type 0 where
  pub is : (o : OpenOrder) → t.state.order ≡ Some o → is_join o.task ≡ true → order.is_leasing o.phase ≡ true

none-open : (t : BrickTurn) → t.state.order ≡ None → Opened t
none-open t e = record { is = λ o f j. absurd (not-none o (sym e ∙ f)) }

split-open : (t : BrickTurn) (p : OpenOrder) → t.state.order ≡ Some p → p.task ≡ Split → Opened t
split-open t p e task =
    record { is = λ o f j. absurd (both_ways (is_join o.task) (sym (ap (λ (x : OpenOrder). is_join x.task) (the-order p o (sym e ∙ f))) ∙ ap is_join task) j) }

opened-if : (c : Bool) {t u : BrickTurn} → Opened t → Opened u → Opened (if c then t else u)
opened-if true h k = h
opened-if false h k = k

installs_from : (s : BrickState) (o : OpenOrder) (made : Leaf) (nodes : List NodeNo) → o.task ≡ Split → Opened (order.installs_from s o made nodes)
installs_from s o made [] task = none-open _ refl
installs_from s o made (n ∷ ns) task = split-open _ (record o { waiting = n ∷ ns; phase = Installing made }) refl task

leased_all : (s : BrickState) (o : OpenOrder) (leaf : Leaf) (t : Task) → t ≡ Split → o.task ≡ Split → Opened (order.leased_all s o leaf t)
leased_all s o leaf (Join via) e task = cc
leased_all s o leaf Split e task =
    installs_from (record s { made = s.made + 1 }) o (order.made_leaf s o leaf o.task) (without (order.parting s o leaf) s.number) task

leased_all_at : (s : BrickState) (o : OpenOrder) (leaf : Option Leaf) → o.task ≡ Split → Opened (order.leased_all_at s o leaf)
leased_all_at s o None task = split-open _ o refl task
leased_all_at s o (Some leaf) task = leased_all s o leaf o.task task task

split_opens : (s : BrickState) (leaf : Leaf) → Opened (order.split_opens s leaf)
split_opens s leaf =
    let u = record (orders.leasing s leaf.name s.number) { orders = s.orders + 1 } in
    let p = order.new_split s leaf in
    like (opened-if (is_none_left p.waiting) (leased_all_at u p p.leaf refl) (split-open _ p refl refl))
  where
    like : Opened (order.leases_on (record (orders.leasing s leaf.name s.number) { orders = s.orders + 1 }) (order.new_split s leaf))
        → Opened (order.split_opens s leaf)
    like h = record { is = h.is }

split_leaf : (s : BrickState) (leaf : Leaf) → s.order ≡ None → Opened (order.split_leaf s leaf)
split_leaf s leaf e =
    opened-if (leaf.name.depth == DEPTH) (none-open _ e) (opened-if (order.is_worn leaf) (none-open _ e)
    (opened-if (is_some (leased s.locks.leases leaf.name)) (none-open _ e)
    (opened-if (any_under s.locks.pending leaf.name) (none-open _ e) (split_opens s leaf))))

split_named : (s : BrickState) (leaf : Option Leaf) → s.order ≡ None → Opened (order.split_named s leaf)
split_named s None e = none-open _ e
split_named s (Some leaf) e = split_leaf s leaf e

join_opens : (s : BrickState) (name : Name) (via : NodeNo) → Opened (order.join_opens s name via)
join_opens s name via =
    let p = order.opens s (Join via) name None (via ∷ []) in
    record { is = λ o f j. sym (ap (λ (x : OpenOrder). order.is_leasing x.phase) (the-order p o f)) }

pub order-opens : (s : BrickState) (o : Order) → s.order ≡ None → Opened (brick_input s o)
order-opens s (the_order.Join brick name via) e =
    opened-if s.stopped (none-open _ e) (opened-if (is_some s.order) (none-open _ e)
    (opened-if (list_any (λ other. overlaps other name) (keys s.leaves)) (none-open _ e)
    (opened-if (via == s.number || has_node s.known via) (none-open _ e) (join_opens s name via))))
order-opens s (the_order.Split brick name) e =
    opened-if s.stopped (none-open _ e) (opened-if (is_some s.order) (none-open _ e) (split_named s (get s.leaves name) e))
