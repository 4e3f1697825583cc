use Rattle.std.proofs.Common.{◌≡◌, ℕ, ◌+◌, ◌++◌, ◌==◌, Bool, true, false, Option, Some, None, List, [], ◌∷◌, refl}
use Rattle.std.proofs.lemmas.Bool.{and_parts, eqb-true}
use Rattle.std.specs.FinMap.{get}
use Rattle.std.specs.Prelude.{if◌then◌else◌, take, is_some}
use Rattle.dds_base.specs.Name.{Name}
use Rattle.dds_base.specs.declared.leaf.Leaf.{Leaf}
use Rattle.dds_base.specs.declared.number.NodeNo.{NodeNo}
use Rattle.dds_base.specs.declared.op.Met.TheVariants as met
use Rattle.dds_base.specs.declared.op.Order.{Order}
use Rattle.dds_base.specs.declared.op.Order.TheVariants as the_order
use Rattle.dds_base.specs.declared.op.OrderReply.{OrderReply}
use Rattle.dds_base.specs.declared.op.OrderReply.TheVariants as answered
use Rattle.dds_base.specs.declared.pair.Pair.{Pair}
use Rattle.dds_brick_rows.specs.Refusal.{is_join, lease_refusal}
use Rattle.dds_brick_rows.specs.Take as takes
use Rattle.dds_core.specs.Brick.{brick_input}
use Rattle.dds_letters.specs.declared.letter.Letter.TheVariants as letter
use Rattle.dds_letters.specs.declared.refusal.Refusal.{Refusal}
use Rattle.dds_letters.specs.declared.refusal.Refusal.TheVariants as refusal
use Rattle.dds_letters.specs.declared.refusal.Wanted.{Wanted}
use Rattle.dds_letters.specs.declared.refusal.Wanted.TheVariants as wanted
use Rattle.dds_locks.specs.Leases.{leased}
use Rattle.dds_locks.specs.Pending.{any_under}
use Rattle.dds_order_rows.specs.Denials.{lease_denial, split_refusal}
use Rattle.dds_order_rows.specs.Orders as orders
use Rattle.dds_order_rows.specs.OwnOrder as own_order
use Rattle.dds_states.specs.Turn.{BrickTurn, and_then, first_some, sends, still, to_each, unknown, unknown_others, when, without}
use Rattle.dds_states.specs.declared.brick_state.BrickState.{BrickState}
use Rattle.dds_states.specs.declared.brick_state.OpenOrder.{OpenOrder}
use Rattle.dds_states.specs.declared.brick_state.OrderPhase.{OrderPhase}
use Rattle.dds_states.specs.declared.brick_state.OrderPhase.TheVariants.{Leasing, Copying, Installing}
use Rattle.dds_states.specs.declared.brick_state.Task.{Task}
use Rattle.dds_states.specs.declared.brick_state.Task.TheVariants as task
use Rattle.dds_core.proofs.Rests.{Rests, orders-each, rests-from, rests-if, rests-sends, rests-still, rests-tells, rests-then, rests-when, take-whole, whole}
use Rattle.dds_core.proofs.Tells.{Given, GivesOrder, Sent, Tells}

-- The rows of a brick for orders: those of others, and its own.

served : (s : BrickState) (o : OpenOrder) (made : Leaf) (t : Task) → whole (own_order.serving s o made t) ≡ whole s
served s o made (task.Join via) = refl
served s o made task.Split = refl

module _ {L : Sent} {M : Given} where
  granted : (s : BrickState) (from : NodeNo) (order : ℕ) (name : Name) (leaf : Option Leaf) → Rests L M s (orders.granted s from order name leaf)
  granted s from order name None = rests-still s s refl
  granted s from order name (Some leaf) = record { same = refl; letters = (tt, tt); replies = tt }

  lease_answered : (s : BrickState) (from : NodeNo) (order : ℕ) (name : Name) (r : Option Refusal)
      → ((why : Refusal) → r ≡ Some why → L from (letter.LeaseRefused order why)) → Rests L M s (orders.lease_answered s from order name r)
  lease_answered s from order name None h = granted s from order name _
  lease_answered s from order name (Some r) h = record { same = refl; letters = (h r refl, tt); replies = tt }

  pub lease_row : (s : BrickState) (from : NodeNo) (order : ℕ) (what : Wanted) →
      ((why : Refusal) → lease_denial s what ≡ Some why → L from (letter.LeaseRefused order why)) → Rests L M s (orders.lease_row s from order what)
  lease_row s from order (wanted.Name name) h = lease_answered s from order name (lease_refusal s name None) h
  lease_row s from order (wanted.Leaf leaf) h = rests-from s (takes.take s leaf) _ (take-whole s leaf)
      (lease_answered (takes.take s leaf) from order leaf.name (lease_refusal (takes.take s leaf) leaf.name (Some leaf.stamp)) h)

  pub release_row : (s : BrickState) (from : NodeNo) (name : Name) → Rests L M s (orders.release_row s from name)
  release_row s from name = record { same = refl; letters = tt; replies = tt }

  pub copy_ask_row : (s : BrickState) (from : NodeNo) (order : ℕ) (name : Name) (after : Option ℕ) → Rests L M s (orders.copy_ask_row s from order name after)
  copy_ask_row s from order name after = rests-if _ (rests-sends s s _ refl (tt, tt)) (rests-still s s refl)

  installed_over : (s : BrickState) (from : NodeNo) (order : ℕ) (leaf : Leaf) (own : Option Leaf) → Rests L M s (orders.installed_over s from order leaf own)
  installed_over s from order leaf None = rests-still s s refl
  installed_over s from order leaf (Some own) = rests-if _ (rests-sends s (record s { leaves = takes.replaced s.leaves own leaf }) _ refl (tt, tt))
      (rests-still s s refl)

  pub install_row : (s : BrickState) (from : NodeNo) (order : ℕ) (leaf : Leaf) → Rests L M s (orders.install_row s from order leaf)
  install_row s from order leaf = rests-if _ (installed_over s from order leaf _) (rests-still s s refl)

  -- an order of the brick's own
  answers : (s : BrickState) (reply : OrderReply) → GivesOrder M reply → Rests L M s (own_order.answers s reply)
  answers s reply h = record { same = refl; letters = tt; replies = (h, tt) }

  -- it is over, and its leases are given back; the brick may serve other leaves from here on
  closes : (s u : BrickState) (o : OpenOrder) (b : Bool) (nodes : List NodeNo) (reply : OrderReply) → whole u ≡ whole s → GivesOrder M reply
      → Rests L M s (and_then (sends (record (if b then u else orders.releasing u o.name u.number) { order = None })
      (to_each nodes (letter.Release o.number o.name))) (λ t. own_order.answers t reply))
  closes s u o true nodes reply e h = rests-then s _ _ (rests-sends s (record u { order = None }) _ e
      (orders-each L nodes (letter.Release o.number o.name) (λ n. tt))) (λ v. answers v reply h)
  closes s u o false nodes reply e h = rests-then s _ _ (rests-sends s (record (orders.releasing u o.name u.number) { order = None }) _ e
      (orders-each L nodes (letter.Release o.number o.name) (λ n. tt))) (λ v. answers v reply h)

  pub ends : (s : BrickState) (o : OpenOrder) (reply : OrderReply) → GivesOrder M reply → Rests L M s (own_order.ends s o reply)
  ends s o reply h = closes s s o _ (unknown o.asked s.known) reply refl h

  finishes : (s : BrickState) (o : OpenOrder) (made : Leaf) → Rests L M s (own_order.finishes s o made)
  finishes s o made = closes s (own_order.serving s o made o.task) o (is_join o.task) (unknown o.granted s.known) answered.Done (served s o made o.task) tt

  installs_from : (s u : BrickState) (o : OpenOrder) (made : Leaf) (nodes : List NodeNo) → whole u ≡ whole s
      → Rests L M s (own_order.installs_from u o made nodes)
  installs_from s u o made [] e = rests-from s u _ e (finishes u o made)
  installs_from s u o made (n ∷ ns) e = rests-sends s _ _ e (orders-each L (n ∷ ns) (letter.Install o.number made) (λ n. tt))

  installs : (s : BrickState) (o : OpenOrder) (leaf : Leaf) → Rests L M s (own_order.installs s o leaf)
  installs s o leaf = installs_from s (record s { made = _ }) o _ _ refl

  copies_from : (s : BrickState) (o : OpenOrder) (nodes : List ℕ) → Rests L M s (own_order.copies_from s o nodes)
  copies_from s o [] = ends s o answered.NoSource tt
  copies_from s o (n ∷ ns) = record { same = refl; letters = (tt, tt); replies = tt }

  pub copies : (s : BrickState) (o : OpenOrder) (leaf : Leaf) → Rests L M s (own_order.copies s o leaf)
  copies s o leaf = copies_from s o _

  pub going_on : (s : BrickState) (o : OpenOrder) → Rests L M s (still (own_order.going_on s o))
  going_on s o = rests-still s _ refl

  leased_all : (s : BrickState) (o : OpenOrder) (leaf : Leaf) (t : Task) → Rests L M s (own_order.leased_all s o leaf t)
  leased_all s o leaf (task.Join via) = copies s o leaf
  leased_all s o leaf task.Split = installs s o leaf

  leased_all_at : (s : BrickState) (o : OpenOrder) (leaf : Option Leaf) → Rests L M s (own_order.leased_all_at s o leaf)
  leased_all_at s o None = going_on s o
  leased_all_at s o (Some leaf) = leased_all s o leaf o.task

  pub leases_on : (s : BrickState) (o : OpenOrder) → Rests L M s (own_order.leases_on s o)
  leases_on s o = rests-if _ (leased_all_at s o o.leaf) (going_on s o)

  -- the orders themselves
  join_order : (s : BrickState) (name : Name) (via : NodeNo) → Rests L M s (own_order.join_order s name via)
  join_order s name via = rests-if _ (answers s answered.Stopped tt) (rests-if _ (answers s answered.OrderOpen tt)
      (rests-if _ (answers s answered.AlreadyThere tt) (rests-if _ (answers s answered.NoSource tt) (rests-sends s _ _ refl (tt, tt)))))

  split_opens : (s : BrickState) (leaf : Leaf) → Rests L M s (own_order.split_opens s leaf)
  split_opens s leaf = rests-then s _ _ (rests-sends s (record (orders.leasing s leaf.name s.number) { orders = s.orders + 1 }) _ refl
      (orders-each L (unknown_others leaf.list s.number s.known) (letter.Lease s.orders (wanted.Leaf leaf)) (λ n. tt)))
      (λ u. leases_on u (own_order.new_split s leaf))

-- what a split met at its own brick
abbrev pub SplitMet : BrickState → Name → Given
SplitMet s name m =
    (leaf : Leaf) × (why : Refusal) × (get s.leaves name ≡ Some leaf) × (split_refusal s leaf.name ≡ Some why) × (own_order.met_of why s.number ≡ m)

split_free : {L : Sent} {M : Given} (s : BrickState) (leaf : Leaf) (a c : Bool) → (a ≡ true → M (met.Lease s.number))
    → (a ≡ false → c ≡ true → M (met.Lock s.number))
    → Rests L M s (if a then own_order.answers s (answered.Refused (met.Lease s.number)) else
    (if c then own_order.answers s (answered.Refused (met.Lock s.number)) else own_order.split_opens s leaf))
split_free s leaf true c h k = answers s (answered.Refused (met.Lease s.number)) (h refl)
split_free s leaf false true h k = answers s (answered.Refused (met.Lock s.number)) (k refl refl)
split_free s leaf false false h k = split_opens s leaf

refused-lease : (a c : Bool) → a ≡ true → first_some (when a refusal.Lease) (when c refusal.Lock) ≡ Some refusal.Lease
refused-lease true c e = refl
refused-lease false c e = cc

refused-lock : (a c : Bool) → a ≡ false → c ≡ true → first_some (when a refusal.Lease) (when c refusal.Lock) ≡ Some refusal.Lock
refused-lock false true e h = refl
refused-lock true c e h = cc
refused-lock false false e h = cc

split_leaf : {L : Sent} (s : BrickState) (name : Name) (leaf : Leaf) → get s.leaves name ≡ Some leaf → Rests L (SplitMet s name) s (own_order.split_leaf s leaf)
split_leaf s name leaf is =
    let a = is_some (leased s.locks.leases leaf.name) in
    let c = any_under s.locks.pending leaf.name in
    rests-if _ (answers s answered.Deepest tt) (rests-if _ (answers s answered.Worn tt)
    (split_free s leaf a c (λ e. (leaf, refusal.Lease, is, refused-lease a c e, refl)) (λ e h. (leaf, refusal.Lock, is, refused-lock a c e h, refl))))

split_named : {L : Sent} (s : BrickState) (name : Name) (leaf : Option Leaf) → get s.leaves name ≡ leaf
    → Rests L (SplitMet s name) s (own_order.split_named s leaf)
split_named s name None is = answers s answered.NotServing tt
split_named s name (Some leaf) is = split_leaf s name leaf is

split_order : {L : Sent} (s : BrickState) (name : Name) → Rests L (SplitMet s name) s (own_order.split_order s name)
split_order s name = rests-if _ (answers s answered.Stopped tt) (rests-if _ (answers s answered.OrderOpen tt) (split_named s name (get s.leaves name) refl))

-- what an order may be answered at its input
abbrev pub InputMet : BrickState → Order → Given
InputMet s (the_order.Join brick name via) m = ⊥
InputMet s (the_order.Split brick name) m = SplitMet s name m

pub order-rests : {L : Sent} (s : BrickState) (o : Order) → Rests L (InputMet s o) s (brick_input s o)
order-rests s (the_order.Join brick name via) = join_order s name via
order-rests s (the_order.Split brick name) = split_order s name

pub order-tells : {L : Sent} (s : BrickState) (o : Order) → Tells L (InputMet s o) s (brick_input s o)
order-tells s o = rests-tells (order-rests s o)

pub order-silent : (s : BrickState) (o : Order) → s.stopped ≡ true → (brick_input s o).out.letters ≡ []
order-silent s (the_order.Join brick name via) e = rw e refl
order-silent s (the_order.Split brick name) e = rw e refl

-- letters to the open order
has-number : (number : ℕ) (test : OpenOrder → Bool) (o : Option OpenOrder) (x : OpenOrder) → own_order.is_at number test o ≡ true → o ≡ Some x
    → x.number ≡ number
has-number number test None x h e = cc
has-number number test (Some o) x h e = let is : o ≡ x = cc in eqb-true x.number number (and_parts (x.number == number) (test x) (rw is at h)).0

module _ {L : Sent} {M : Given} where
  pub with_order : (s : BrickState) (row : BrickState → OpenOrder → BrickTurn) (o : Option OpenOrder)
      → ((t : BrickState) (x : OpenOrder) → o ≡ Some x → Rests L M t (row t x)) → Rests L M s (own_order.with_order s row o)
  with_order s row None h = rests-still s s refl
  with_order s row (Some o) h = rests-from s (record s { order = None }) _ refl (h (record s { order = None }) o refl)

  at_order : (s : BrickState) (number : ℕ) (test : OpenOrder → Bool) (row : BrickState → OpenOrder → BrickTurn)
      → ((t : BrickState) (x : OpenOrder) → s.order ≡ Some x → x.number ≡ number → Rests L M t (row t x)) → Rests L M s (own_order.at_order s number test row)
  at_order s number test row h = rests-when _ (λ k. with_order s row s.order (λ t x e. h t x e (has-number number test s.order x k e))) (rests-still s s refl)

  fixed : (s : BrickState) (o : OpenOrder) (from : NodeNo) (leaf : Leaf) → Rests L M s (own_order.fixed s o from leaf)
  fixed s o from leaf =
      rests-then s _ _ (rests-sends s s _ refl (orders-each L (unknown_others leaf.list from s.known) (letter.Lease o.number (wanted.Leaf leaf)) (λ n. tt)))
      (λ u. leases_on u (own_order.widened s o from leaf))

  fixes : (s : BrickState) (o : OpenOrder) (from : NodeNo) (leaf : Leaf) → Rests L M s (own_order.fixes s o from leaf)
  fixes s o from leaf = rests-if _ (ends s o answered.Worn tt) (rests-if _ (ends s o answered.GroupFull tt) (fixed s o from leaf))

  granted_join : (s : BrickState) (o : OpenOrder) (from : NodeNo) (leaf : Leaf) (own : Option Leaf) → Rests L M s (own_order.granted_join s o from leaf own)
  granted_join s o from leaf None = fixes s o from leaf
  granted_join s o from leaf (Some own) = leases_on s o

  grants : (s : BrickState) (o : OpenOrder) (from : NodeNo) (leaf : Leaf) (t : Task) → Rests L M s (own_order.grants s o from leaf t)
  grants s o from leaf (task.Join via) = granted_join s o from leaf o.leaf
  grants s o from leaf task.Split = leases_on s o

  pub granted_row : (s : BrickState) (from : NodeNo) (number : ℕ) (leaf : Leaf) → Rests L M s (own_order.granted_row s from number leaf)
  granted_row s from number leaf = at_order s number _ _ (λ t o e k. grants t (own_order.with_grant o from) from leaf o.task)

  pub lease_refused_row : (s : BrickState) (from : NodeNo) (number : ℕ) (r : Refusal)
      → ((o : OpenOrder) → s.order ≡ Some o → o.number ≡ number → M (own_order.met_of r from)) → Rests L M s (own_order.lease_refused_row s from number r)
  lease_refused_row s from number r h = at_order s number _ _ (λ t o e k. ends t o (answered.Refused (own_order.met_of r from)) (h o e k))

  copied_all : (s : BrickState) (o : OpenOrder) (leaf : Option Leaf) → Rests L M s (own_order.copied_all s o leaf)
  copied_all s o None = going_on s o
  copied_all s o (Some leaf) = installs s o leaf

  copied_on : (s : BrickState) (o : OpenOrder) (source : NodeNo) (last : Bool) → Rests L M s (own_order.copied_on s o source last)
  copied_on s o source true = copied_all s o o.leaf
  copied_on s o source false = record { same = refl; letters = (tt, tt); replies = tt }

  pub copy_part_row : (s : BrickState) (from : NodeNo) (number : ℕ) (last : Bool) (pairs : List Pair)
      → Rests L M s (own_order.copy_part_row s from number last pairs)
  copy_part_row s from number last pairs = at_order s number _ _ (λ t o e k. copied_on t (record o { copied = o.copied ++ pairs }) from last)

  pub installs_on : (s : BrickState) (o : OpenOrder) (made : Leaf) → Rests L M s (own_order.installs_on s o made)
  installs_on s o made = rests-if _ (finishes s o made) (going_on s o)

  installed_in : (s : BrickState) (o : OpenOrder) (phase : OrderPhase) → Rests L M s (own_order.installed_in s o phase)
  installed_in s o Leasing = rests-still s s refl
  installed_in s o (Copying source) = rests-still s s refl
  installed_in s o (Installing made) = installs_on s o made

  pub installed_row : (s : BrickState) (from : NodeNo) (number : ℕ) → Rests L M s (own_order.installed_row s from number)
  installed_row s from number = at_order s number _ _ (λ t o e k. installed_in t (record o { waiting = without o.waiting from }) o.phase)
