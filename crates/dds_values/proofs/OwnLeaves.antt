use Rattle.std.proofs.Common.{◌≡◌, ℕ, ◌+◌, ◌++◌, ◌==◌, ◌&&◌, ◌||◌, Bool, true, false, inl, Option, Some, None, is_some, List, refl, sym, ap, ◌∙◌}
use Rattle.std.proofs.lemmas.Bool.{and_parts}
use Rattle.std.specs.FinMap.{get, keys}
use Rattle.std.specs.List.{AllByRecursion, list_all, list_any}
use Rattle.std.specs.Prelude.{if◌then◌else◌, length, nat_le}
use Rattle.dds_base.specs.Name.{Name, covers, overlaps}
use Rattle.dds_base.specs.NodeSet.{has_node}
use Rattle.dds_base.specs.Place.{last_key}
use Rattle.dds_base.specs.declared.leaf.Leaf.{Leaf}
use Rattle.dds_base.specs.declared.name.TheConstants.{DEPTH}
use Rattle.dds_base.specs.declared.number.NodeNo.{NodeNo}
use Rattle.dds_base.specs.declared.op.Met.TheVariants as met
use Rattle.dds_base.specs.declared.op.Order.{Order}
use Rattle.dds_base.specs.declared.op.Order.TheVariants as the_order
use Rattle.dds_base.specs.declared.op.OrderReply.{OrderReply}
use Rattle.dds_base.specs.declared.op.OrderReply.TheVariants as answered
use Rattle.dds_base.specs.declared.pair.Pair.{Pair}
use Rattle.dds_brick_rows.specs.Refusal.{is_join}
use Rattle.dds_brick_rows.specs.declared.refusal.TheConstants.{PAIRS}
use Rattle.dds_cluster.specs.declared.trace.Made.{Made}
use Rattle.dds_core.proofs.Lists.{all-append}
use Rattle.dds_core.specs.Brick.{brick_input}
use Rattle.dds_core.specs.Notice as notices
use Rattle.dds_law_own.proofs.Ways.{is-none}
use Rattle.dds_letters.specs.declared.letter.Letter.{Letter}
use Rattle.dds_letters.specs.declared.letter.Letter.TheVariants as letter
use Rattle.dds_locks.specs.Leases.{leased}
use Rattle.dds_locks.specs.Pending.{any_under}
use Rattle.dds_order_rows.specs.Orders as orders
use Rattle.dds_order_rows.specs.OwnOrder as order
use Rattle.dds_net.proofs.Puts.{if-keeps}
use Rattle.dds_pairs.proofs.Copies.{all-pass}
use Rattle.dds_serving.proofs.Finishes as ends
use Rattle.dds_serving.proofs.Finishes.{Finish}
use Rattle.dds_serving.specs.Once.{IsOpen}
use Rattle.dds_serving.specs.Once.IsOpen.{opens, was_open}
use Rattle.dds_states.specs.Turn.{BrickTurn, still, without}
use Rattle.dds_states.specs.declared.brick_state.BrickState.{BrickState}
use Rattle.dds_states.specs.declared.brick_state.OpenOrder.{OpenOrder}
use Rattle.dds_states.specs.declared.brick_state.Task.{Task}
use Rattle.dds_states.specs.declared.brick_state.Task.TheVariants.{Join, Split}
use Rattle.dds_values.proofs.Changes.{OwnKept}
use Rattle.dds_values.proofs.Joins.{join-keeps}
use Rattle.dds_values.proofs.Leaves.{same-keeps}
use Rattle.dds_values.proofs.Serves as own
use Rattle.dds_values.proofs.Serves.{SameTable, Serve}
use Rattle.dds_values.proofs.Serves.Serve.{goes_on, serves}
use Rattle.dds_values.proofs.Splits.{IsPlaced, split-keeps}
use Rattle.dds_values.specs.Below.{IsAs, LeavesKeepHeld, OwnLeavesAt, WhereServed}

-- Where a brick's own order goes on, its leaves and pairs stay, or the order's leaf is served: what was covered stays, and where that is a split's,
-- no key comes to be covered.

-- what a row of the order does to both
abbrev Goes : BrickState → OpenOrder → BrickTurn → Type 0
Goes s p t = Serve s p t × Finish s.number s.made s.leaves p t

-- over a state with the same leaves and pairs
serve-as : (s u : BrickState) (p : OpenOrder) (t : BrickTurn) → SameTable s u
    → ((o : OpenOrder) (leaf : Leaf) (k : Task) → SameTable (order.serving s o leaf k) (order.serving u o leaf k)) → Serve u p t → Serve s p t
serve-as s u p t e w (goes_on f g) = goes_on (f ∙ e.0) (g ∙ e.1)
serve-as s u p t e w (serves o leaf it f g) = let k = w o leaf o.task in serves o leaf it (f ∙ k.0) (g ∙ k.1)

closing : (s : BrickState) (o : OpenOrder) (leaf : Leaf) (k : Task) → SameTable (order.serving s o leaf k) (order.serving (record s { order = None }) o leaf k)
closing s o leaf (Join via) = (refl, refl)
closing s o leaf Split = (refl, refl)

learning : (s : BrickState) (y : NodeNo) (o : OpenOrder) (leaf : Leaf) (k : Task)
    → SameTable (order.serving s o leaf k) (order.serving (record (notices.learns s y) { order = None }) o leaf k)
learning s y o leaf (Join via) = (refl, refl)
learning s y o leaf Split = (refl, refl)

leasing : (s : BrickState) (name : Name) (o : OpenOrder) (leaf : Leaf) (k : Task)
    → SameTable (order.serving s o leaf k) (order.serving (record (orders.leasing s name s.number) { orders = s.orders + 1 }) o leaf k)
leasing s name o leaf (Join via) = (refl, refl)
leasing s name o leaf Split = (refl, refl)

module _ (made : List Made) (me : ℕ) (s : BrickState) (its : IsPlaced me s) where
  abbrev pub Keeps : BrickTurn → Type 0
  Keeps t = LeavesKeepHeld made s t.state

  abbrev pub Owes : BrickTurn → Type 0
  Owes t = WhereServed made s t.state → Keeps t

  -- a split's halves are served, or what a join made
  at-task : (p o : OpenOrder) (leaf : Leaf) (t : BrickTurn) (k : Task) → o.task ≡ k → IsOpen s p → IsAs p o → Finish s.number s.made s.leaves p t
      → t.state.leaves ≡ (order.serving s o leaf o.task).leaves → t.state.pairs ≡ (order.serving s o leaf o.task).pairs → Owes t
  at-task p o leaf t (Join via) task (was_open is) it fin e f k =
      let join = ap is_join task in
      join-keeps made me s t.state p o its is it join (f ∙ ap (λ x. (order.serving s o leaf x).pairs) task) (k p o leaf is it join e f)
  at-task p o leaf t (Join via) task (opens at old none there fixed name split phase) it fin e f k =
      let bad : Join via ≡ Split = sym task ∙ it.1 ∙ split in cc
  at-task p o leaf t Split task is_open it fin e f k =
      split-keeps made me s p t its is_open (sym it.1 ∙ task) fin (f ∙ ap (λ x. (order.serving s o leaf x).pairs) task)

  keeps : (p : OpenOrder) (t : BrickTurn) → IsOpen s p → Serve s p t → Finish s.number s.made s.leaves p t → Owes t
  keeps p t is_open (goes_on e f) fin k = same-keeps made s t.state e f
  keeps p t is_open (serves o leaf it e f) fin k = at-task p o leaf t o.task refl is_open it fin e f k

  rests : (t : BrickTurn) → t.state.leaves ≡ s.leaves → t.state.pairs ≡ s.pairs → Owes t
  rests t e f k = same-keeps made s t.state e f

  owes-if : (c : Bool) (t u : BrickTurn) → (c ≡ true → Owes t) → (c ≡ false → Owes u) → Owes (if c then t else u)
  owes-if true t u f g = f refl
  owes-if false t u f g = g refl

  itself : (p : OpenOrder) → s.order ≡ Some p → IsAs p p
  itself p e = (refl, refl, (its.copied p e).under)

  with-order : (row : BrickState → OpenOrder → BrickTurn) (q : Option OpenOrder) → s.order ≡ q
      → ((p : OpenOrder) → s.order ≡ Some p → Goes (record s { order = None }) p (row (record s { order = None }) p)) → Owes (order.with_order s row q)
  with-order row None e f = rests (still s) refl refl
  with-order row (Some p) e f =
      keeps p (row (record s { order = None }) p) (was_open e) (serve-as s (record s { order = None }) p _ (refl, refl) (closing s) (f p e).0)
      (f p e).1

  at-order : (number : ℕ) (test : OpenOrder → Bool) (row : BrickState → OpenOrder → BrickTurn)
      → ((p : OpenOrder) → IsAs p p → test p ≡ true → Goes (record s { order = None }) p (row (record s { order = None }) p))
      → Owes (order.at_order s number test row)
  at-order number test row f =
      owes-if (order.is_at number test s.order) (order.with_order s row s.order) (still s) (λ i. with-order row s.order refl
      (λ p e. f p (itself p e) (and_parts (p.number == number) (test p) (ap (order.is_at number test) (sym e) ∙ i)).1))
      (λ e. rests (still s) refl refl)

  pub granted : (from : NodeNo) (number : ℕ) (leaf : Leaf) → Owes (order.granted_row s from number leaf)
  granted from number leaf =
      at-order number (order.takes_grant s.number leaf) (λ t o. order.grants t (order.with_grant o from) from leaf o.task)
      (λ p it is. (
        own.grants (record s { order = None }) p (order.with_grant p from) from leaf p.task it,
        ends.grants p (record s { order = None }) (order.with_grant p from) from leaf p.task refl (refl, refl, refl, inl refl),
      ))

  pub copied : (from : NodeNo) (number : ℕ) (last : Bool) (pairs : List Pair) → Owes (order.copy_part_row s from number last pairs)
  copied from number last pairs =
      at-order number (λ o. order.is_source from o.phase && order.fits o pairs)
      (λ t o. order.copied_on t (record o { copied = o.copied ++ pairs }) from last)
      (λ p it is. (
        own.copied_on (record s { order = None }) p (record p { copied = p.copied ++ pairs }) from last (refl, refl, more p it.2 is),
        ends.copied_on p (record s { order = None }) (record p { copied = p.copied ++ pairs }) from last (refl, refl, refl, inl refl) refl,
      ))
    where
      more : (p : OpenOrder) → AllByRecursion (λ (x : Pair). covers p.name x.key ≡ true) p.copied
          → (order.is_source from p.phase && order.fits p pairs) ≡ true
          → AllByRecursion (λ (x : Pair). covers p.name x.key ≡ true) (p.copied ++ pairs)
      more p under is =
          let fits = (and_parts (order.is_source from p.phase) (order.fits p pairs) is).1 in
          let all = (and_parts (list_all (λ (x : Pair). covers p.name x.key) pairs)
          (order.starts_after (last_key None p.copied) pairs && nat_le (length p.copied + length pairs) PAIRS) fits).0 in
          all-append (λ (x : Pair). covers p.name x.key ≡ true) p.copied pairs under (all-pass (λ (x : Pair). covers p.name x.key) pairs all)

  pub installed : (from : NodeNo) (number : ℕ) → Owes (order.installed_row s from number)
  installed from number =
      at-order number (λ o. order.is_installing o.phase) (λ t o. order.installed_in t (record o { waiting = without o.waiting from }) o.phase)
      (λ p it is. (
        own.installed_in (record s { order = None }) p (record p { waiting = without p.waiting from }) p.phase it,
        ends.installed_in p (record s { order = None }) (record p { waiting = without p.waiting from }) p.phase refl (refl, refl, refl, inl refl),
      ))

  -- a notice
  part-with : (y : NodeNo) (q : Option OpenOrder) → s.order ≡ q
      → Owes (order.with_order (notices.learns s y) (λ t o. notices.order_goes t o y o.phase) q)
  part-with y None e = rests (still (notices.learns s y)) refl refl
  part-with y (Some p) e =
      let u = record (notices.learns s y) { order = None } in
      keeps p (notices.order_goes u p y p.phase) (was_open e) (serve-as s u p _ (refl, refl) (learning s y) (own.order_goes u p y p.phase (itself p e)))
      (ends.order_goes p u y p.phase refl)

  pub part : (y : NodeNo) → Owes (notices.order_part (notices.learns s y) y)
  part y =
      owes-if (notices.concerns_some y s.order) (order.with_order (notices.learns s y) (λ t o. notices.order_goes t o y o.phase) s.order)
      (still (notices.learns s y)) (λ e. part-with y s.order refl) (λ e. rests (still (notices.learns s y)) refl refl)

  -- orders
  same : (reply : OrderReply) → Keeps (order.answers s reply)
  same reply = same-keeps made s s refl refl

  keeps-if : (c : Bool) (t u : BrickTurn) → (c ≡ true → Keeps t) → (c ≡ false → Keeps u) → Keeps (if c then t else u)
  keeps-if c t u f g = if-keeps Keeps c t u f g

  split_opens : (name : Name) (leaf : Leaf) → s.order ≡ None → get s.leaves name ≡ Some leaf → Keeps (order.split_opens s leaf)
  split_opens name leaf none there =
      let u = record (orders.leasing s leaf.name s.number) { orders = s.orders + 1 } in
      let p = order.new_split s leaf in
      keeps p (order.leases_on u p) (opens name leaf none there refl refl refl refl)
      (serve-as s u p (order.leases_on u p) (refl, refl) (leasing s leaf.name) (own.leases_on u p p (refl, refl, tt)))
      (ends.leases_on p u p (refl, refl, refl, inl refl)) (λ q o made e it join f g. let bad : Some q ≡ None = sym e ∙ none in cc)

  split_leaf : (name : Name) (leaf : Leaf) → s.order ≡ None → get s.leaves name ≡ Some leaf → Keeps (order.split_leaf s leaf)
  split_leaf name leaf none there =
      keeps-if (leaf.name.depth == DEPTH) (order.answers s answered.Deepest) _ (λ e. same answered.Deepest)
      (λ e. keeps-if (order.is_worn leaf) (order.answers s answered.Worn) _ (λ f. same answered.Worn)
      (λ f. keeps-if (is_some (leased s.locks.leases leaf.name)) (order.answers s (answered.Refused (met.Lease s.number))) _
      (λ g. same (answered.Refused (met.Lease s.number)))
      (λ g. keeps-if (any_under s.locks.pending leaf.name) (order.answers s (answered.Refused (met.Lock s.number))) (order.split_opens s leaf)
      (λ i. same (answered.Refused (met.Lock s.number))) (λ i. split_opens name leaf none there))))

  split_named : (name : Name) (leaf : Option Leaf) → s.order ≡ None → get s.leaves name ≡ leaf → Keeps (order.split_named s leaf)
  split_named name None none there = same answered.NotServing
  split_named name (Some leaf) none there = split_leaf name leaf none there

  pub told : (o : Order) → Keeps (brick_input s o)
  told (the_order.Join brick name via) =
      keeps-if s.stopped (order.answers s answered.Stopped) _ (λ e. same answered.Stopped)
      (λ e. keeps-if (is_some s.order) (order.answers s answered.OrderOpen) _ (λ f. same answered.OrderOpen)
      (λ f. keeps-if (list_any (λ other. overlaps other name) (keys s.leaves)) (order.answers s answered.AlreadyThere) _ (λ g. same answered.AlreadyThere)
      (λ g. keeps-if (via == s.number || has_node s.known via) (order.answers s answered.NoSource) (order.join_opens s name via)
      (λ i. same answered.NoSource) (λ i. same-keeps made s (order.join_opens s name via).state refl refl))))
  told (the_order.Split brick name) =
      keeps-if s.stopped (order.answers s answered.Stopped) _ (λ e. same answered.Stopped)
      (λ e. keeps-if (is_some s.order) (order.answers s answered.OrderOpen) (order.split_named s (get s.leaves name)) (λ f. same answered.OrderOpen)
      (λ f. split_named name (get s.leaves name) (is-none s.order f) refl))

  -- at each letter
  pub own-kept : (from : NodeNo) (l : Letter) → OwnLeavesAt made s from l → OwnKept made s from l
  own-kept from (letter.Granted number leaf) k = granted from number leaf k
  own-kept from (letter.CopyPart number last pairs) k = copied from number last pairs k
  own-kept from (letter.Installed number name) k = installed from number k
  own-kept from letter.Notice k = part from k
  own-kept from other k = tt
