use Rattle.std.proofs.Common.{◌≡◌, ℕ, ◌+◌, ◌==◌, ◌&&◌, ◌||◌, Bool, true, false, not, Option, Some, None, List, [], ◌∷◌, refl, sym, subst, arith}
use Rattle.std.proofs.lemmas.Bool.{and_parts}
use Rattle.std.proofs.lemmas.Bool.Decides.{nat_tests}
use Rattle.std.specs.List.{AllByRecursion}
use Rattle.std.specs.Prelude.{if◌then◌else◌, nat_lt}
use Rattle.dds_base.specs.BrickList.{has}
use Rattle.dds_base.specs.Name.{Name}
use Rattle.dds_base.specs.NodeSet.{has_node}
use Rattle.dds_base.specs.declared.leaf.Leaf.{Leaf}
use Rattle.dds_base.specs.declared.number.NodeNo.{NodeNo}
use Rattle.dds_base.specs.declared.op.OrderReply.{OrderReply}
use Rattle.dds_base.specs.declared.op.OrderReply.TheVariants as answered
use Rattle.dds_base.specs.declared.op.Order.{Order}
use Rattle.dds_base.specs.declared.op.Order.TheVariants as the_order
use Rattle.dds_base.specs.declared.op.Met.TheVariants as met
use Rattle.dds_brick_rows.specs.Refusal.{is_join}
use Rattle.dds_brick_rows.specs.Take as takes
use Rattle.dds_core.specs.Brick.{brick_input}
use Rattle.dds_core.proofs.Lists.{all-append, all-filter}
use Rattle.dds_letters.specs.declared.letter.Letter.TheVariants as letter
use Rattle.dds_letters.specs.declared.refusal.Refusal.{Refusal}
use Rattle.dds_letters.specs.declared.refusal.Wanted.{Wanted}
use Rattle.dds_letters.specs.declared.refusal.Wanted.TheVariants as wanted
use Rattle.dds_net.specs.Event.{is_ordered}
use Rattle.dds_net.specs.Net.{Sizes}
use Rattle.dds_order_rows.specs.Orders as orders
use Rattle.dds_order_rows.specs.OwnOrder as own_order
use Rattle.dds_states.specs.Turn.{and_then, sends, still, to_each, unknown, unknown_others, without}
use Rattle.dds_states.specs.declared.brick_state.BrickState.{BrickState}
use Rattle.dds_states.specs.declared.brick_state.OpenOrder.{OpenOrder}
use Rattle.dds_states.specs.declared.brick_state.OrderPhase.{OrderPhase}
use Rattle.dds_states.specs.declared.brick_state.OrderPhase.TheVariants.{Copying, Installing}
use Rattle.dds_states.specs.declared.brick_state.Task.{Task}
use Rattle.dds_states.specs.declared.brick_state.Task.TheVariants as task
use Rattle.dds_base.specs.Number.{Txn}
use Rattle.dds_books.proofs.Fine.{Fine, between, fine-if, fine-sends, fine-still, fine-then}
use Rattle.dds_books.proofs.Refusals.{all-without-first, lease-refusal-ok, replaced-ok}
use Rattle.dds_books.proofs.BrickRows.{take-ok}
use Rattle.dds_books.proofs.Fine.{said-each, with-leases, with-leaves}
use Rattle.dds_books.proofs.Numbers.{all-live, bricks-filter, bricks-live, bricks-more, bricks-others, get-ok, not-there, put-ok, remove-ok}
use Rattle.dds_books.specs.Placed.{AreBricks, BrickOk, IsBrick, LeafOk, OfSome, OrderOk, OrderPhaseOk, RefusalOk, TaskOk}
use Rattle.dds_books.specs.Placed.{WantedOk}

-- The rows of a brick for others' orders, and how its own order goes on, keep the numbers in range.

-- a join's leaf doesn't list the brick
pub grant-task : (me : ℕ) (leaf : Leaf) (t : Task) (same : Bool) → (not (is_join t) || (same && not (has leaf.list me))) ≡ true → TaskOk me t (Some leaf)
grant-task me leaf (task.Join via) same e = not-true (has leaf.list me) (and_parts same (not (has leaf.list me)) e).1
  where
    not-true : (b : Bool) → not b ≡ true → b ≡ false
    not-true true e = cc
    not-true false e = refl
grant-task me leaf task.Split same e = tt

pub all-bricks : (z : Sizes) (xs : List ℕ) (n : ℕ) → AllByRecursion (IsBrick z) xs → AllByRecursion (IsBrick z) (without xs n)
all-bricks z xs n h = all-filter (IsBrick z) (λ m. not (m == n)) xs h

-- Parts of an order that change

pub with-steps : {z : Sizes} {at : ℕ} (o : OpenOrder) (ws : List NodeNo) (p : OrderPhase) → OrderOk z at o → AllByRecursion (IsBrick z) ws → OrderPhaseOk z p
    → OrderOk z at (record o { waiting = ws; phase = p })
with-steps o ws p h k g =
    record {
      its_task = h.its_task;
      its_leaf = h.its_leaf;
      its_asked = h.its_asked;
      its_granted = h.its_granted;
      its_waiting = k;
      its_step = g;
    }

parting-ok : {z : Sizes} (s : BrickState) (o : OpenOrder) (leaf : Leaf) → LeafOk z leaf → AreBricks z (own_order.parting s o leaf)
parting-ok s o leaf m = bricks-filter (own_order.takes_part s o) _ (bricks-live leaf.list (has_node s.known) m)

pub with-grant-ok : {z : Sizes} {at : ℕ} (o : OpenOrder) (from : NodeNo) → OrderOk z at o → IsBrick z from → OrderOk z at (own_order.with_grant o from)
with-grant-ok {z = z} o from k there =
    record {
      its_task = k.its_task;
      its_leaf = k.its_leaf;
      its_asked = k.its_asked;
      its_granted = all-append (IsBrick z) o.granted (from ∷ []) k.its_granted (there, tt);
      its_waiting = all-bricks z o.waiting from k.its_waiting;
      its_step = k.its_step;
    }

pub widened-ok : {z : Sizes} {at : ℕ} (s : BrickState) (o : OpenOrder) (from : NodeNo) (leaf : Leaf) → OrderOk z at o → LeafOk z leaf
    → TaskOk at o.task (Some leaf)
    → OrderOk z at (own_order.widened s o from leaf)
widened-ok {z = z} s o from leaf k m e =
    let bricks = (bricks-others leaf.list from s.known m).bricks in
    record {
      its_task = e;
      its_leaf = m;
      its_asked = all-append (IsBrick z) o.asked _ k.its_asked bricks;
      its_granted = k.its_granted;
      its_waiting = all-append (IsBrick z) o.waiting _ k.its_waiting bricks;
      its_step = k.its_step;
    }

-- Parts of a state that change

module _ {T : Txn → Type 0} {z : Sizes} {at : ℕ} where
  pub with-order : (s : BrickState) (o : Option OpenOrder) → BrickOk T z at s → OfSome (OrderOk z at) o → BrickOk T z at (record s { order = o })
  with-order s o h k =
      record {
        its_number = h.its_number;
        inside = h.inside;
        its_leaves = h.its_leaves;
        its_locks = h.its_locks;
        its_deferred = h.its_deferred;
        its_resolving = h.its_resolving;
        its_order = k;
      }

  leasing-ok : (s : BrickState) (name : Name) (holder : ℕ) → BrickOk T z at s → IsBrick z holder → BrickOk T z at (orders.leasing s name holder)
  leasing-ok s name holder h k = with-leases s _ h (all-append _ s.locks.leases (record { name = name; holder = holder } ∷ []) h.its_locks.1 (k, tt))

  releasing-ok : (s : BrickState) (name : Name) (holder : ℕ) → BrickOk T z at s → BrickOk T z at (orders.releasing s name holder)
  releasing-ok s name holder h = with-leases s _ h (all-without-first _ _ s.locks.leases h.its_locks.1)

  own-inside : (s : BrickState) → BrickOk T z at s → IsBrick z s.number
  own-inside s h = subst (IsBrick z) (sym h.its_number) h.inside

  -- Orders of others

  granted : (s : BrickState) (from : NodeNo) (order : ℕ) (name : Name) (leaf : Option Leaf) → BrickOk T z at s → IsBrick z from → OfSome (LeafOk z) leaf
      → Fine T z at (orders.granted s from order name leaf)
  granted s from order name None h there k = fine-still s h
  granted s from order name (Some leaf) h there k =
      fine-sends (orders.leasing s name from) ((from, letter.Granted order leaf) ∷ []) (leasing-ok s name from h there)
      ((between z at from h.inside there, k), tt)

  lease_answered : (s : BrickState) (from : NodeNo) (order : ℕ) (name : Name) (r : Option Refusal) → BrickOk T z at s → IsBrick z from
      → OfSome (RefusalOk z) r → Fine T z at (orders.lease_answered s from order name r)
  lease_answered s from order name None h there k = granted s from order name _ h there (get-ok z s.leaves name h.its_leaves)
  lease_answered s from order name (Some r) h there k =
      fine-sends s ((from, letter.LeaseRefused order r) ∷ []) h ((between z at from h.inside there, k), tt)

  pub lease_row : (s : BrickState) (from : NodeNo) (order : ℕ) (what : Wanted) → BrickOk T z at s → IsBrick z from → WantedOk z what
      → Fine T z at (orders.lease_row s from order what)
  lease_row s from order (wanted.Name name) h there k = lease_answered s from order name _ h there (lease-refusal-ok z s name None h.its_leaves)
  lease_row s from order (wanted.Leaf leaf) h there k =
      let u = takes.take s leaf in
      let g : BrickOk T z at u = take-ok s leaf h k in
      lease_answered u from order leaf.name _ g there (lease-refusal-ok z u leaf.name (Some leaf.stamp) g.its_leaves)

  pub release_row : (s : BrickState) (from : NodeNo) (name : Name) → BrickOk T z at s → Fine T z at (orders.release_row s from name)
  release_row s from name h = fine-still _ (releasing-ok s name from h)

  pub copy_ask_row : (s : BrickState) (from : NodeNo) (order : ℕ) (name : Name) (after : Option ℕ) → BrickOk T z at s → IsBrick z from
      → Fine T z at (orders.copy_ask_row s from order name after)
  copy_ask_row s from order name after h there =
      fine-if _ (record { after = h; letters = (between z at from h.inside there, tt) }) (fine-still s h)

  installed_over : (s : BrickState) (from : NodeNo) (order : ℕ) (leaf : Leaf) (own : Option Leaf) → BrickOk T z at s → IsBrick z from → LeafOk z leaf
      → Fine T z at (orders.installed_over s from order leaf own)
  installed_over s from order leaf None h there k = fine-still s h
  installed_over s from order leaf (Some own) h there k =
      fine-if _ (fine-sends (record s { leaves = takes.replaced s.leaves own leaf }) ((from, letter.Installed order own.name) ∷ [])
      (with-leaves s _ h (replaced-ok z s.leaves own leaf h.its_leaves k)) (between z at from h.inside there, tt)) (fine-still s h)

  pub install_row : (s : BrickState) (from : NodeNo) (order : ℕ) (leaf : Leaf) → BrickOk T z at s → IsBrick z from → LeafOk z leaf
      → Fine T z at (orders.install_row s from order leaf)
  install_row s from order leaf h there k = fine-if _ (installed_over s from order leaf _ h there k) (fine-still s h)

  -- An order of the brick's own

  answers : (s : BrickState) (reply : OrderReply) → BrickOk T z at s → Fine T z at (own_order.answers s reply)
  answers s reply h = record { after = h; letters = tt }

  -- it is over
  over-ok : (c : Bool) (u v : BrickState) → BrickOk T z at u → BrickOk T z at v → BrickOk T z at (record (if c then u else v) { order = None })
  over-ok true u v h k = with-order u None h tt
  over-ok false u v h k = with-order v None k tt

  closed-ok : (s : BrickState) (o : OpenOrder) → BrickOk T z at s → BrickOk T z at (own_order.closed s o)
  closed-ok s o h = over-ok (is_join o.task) s (orders.releasing s o.name s.number) h (releasing-ok s o.name s.number h)

  gives-back : (s u : BrickState) (o : OpenOrder) (nodes : List NodeNo) (reply : OrderReply) → BrickOk T z at u → AllByRecursion (IsBrick z) nodes
      → Fine T z at (and_then (sends u (to_each nodes (letter.Release o.number o.name))) (λ t. own_order.answers t reply))
  gives-back s u o nodes reply h k =
      fine-then _ _ (fine-sends u (to_each nodes (letter.Release o.number o.name)) h
      (said-each T z at nodes (letter.Release o.number o.name) (IsBrick z) k (λ n there. between z at n h.inside there))) (λ v g. answers v reply g)

  pub ends : (s : BrickState) (o : OpenOrder) (reply : OrderReply) → BrickOk T z at s → OrderOk z at o → Fine T z at (own_order.ends s o reply)
  ends s o reply h k =
      gives-back s (own_order.closed s o) o (unknown o.asked s.known) reply (closed-ok s o h) (all-live (IsBrick z) o.asked (has_node s.known) k.its_asked)

  serving-ok : (s : BrickState) (o : OpenOrder) (made : Leaf) (t : Task) → BrickOk T z at s → LeafOk z made
      → BrickOk T z at (own_order.serving s o made t)
  serving-ok s o made (task.Join via) h k = with-leaves s _ h (put-ok z s.leaves made h.its_leaves k)
  serving-ok s o made task.Split h k = with-leaves s _ h (put-ok z _ _ (put-ok z _ made (remove-ok z s.leaves o.name h.its_leaves) k) k)

  pub finishes : (s : BrickState) (o : OpenOrder) (made : Leaf) → BrickOk T z at s → OrderOk z at o → LeafOk z made
      → Fine T z at (own_order.finishes s o made)
  finishes s o made h k m =
      let u = own_order.serving s o made o.task in
      gives-back s (own_order.closed u o) o (unknown o.granted s.known) answered.Done (closed-ok u o (serving-ok s o made o.task h m))
      (all-live (IsBrick z) o.granted (has_node s.known) k.its_granted)

  pub going_on : (s : BrickState) (o : OpenOrder) → BrickOk T z at s → OrderOk z at o → Fine T z at (still (own_order.going_on s o))
  going_on s o h k = fine-still _ (with-order s (Some o) h k)

  installs_from : (s : BrickState) (o : OpenOrder) (made : Leaf) (nodes : List NodeNo) → BrickOk T z at s → OrderOk z at o → LeafOk z made
      → AllByRecursion (IsBrick z) nodes → Fine T z at (own_order.installs_from s o made nodes)
  installs_from s o made [] h k m ns = finishes s o made h k m
  installs_from s o made (n ∷ ns) h k m bricks =
      fine-sends (own_order.going_on s (record o { waiting = n ∷ ns; phase = Installing made })) (to_each (n ∷ ns) (letter.Install o.number made))
      (with-order s _ h (with-steps o (n ∷ ns) (Installing made) k bricks m))
      (said-each T z at (n ∷ ns) (letter.Install o.number made) (IsBrick z) bricks (λ j there. (between z at j h.inside there, m)))

  made-ok : (s : BrickState) (o : OpenOrder) (leaf : Leaf) (t : Task) → BrickOk T z at s → LeafOk z leaf → TaskOk at t (Some leaf)
      → LeafOk z (own_order.made_leaf s o leaf t)
  made-ok s o leaf (task.Join via) h m e =
      let apart = subst (λ i. AllByRecursion (λ x. x ≡ i → ⊥) leaf.list) (sym h.its_number) (not-there leaf.list at e) in
      bricks-more (own_order.parting s o leaf) s.number (parting-ok s o leaf m) (own-inside s h)
      (all-filter _ (own_order.takes_part s o) _ (all-live _ leaf.list (has_node s.known) apart))
  made-ok s o leaf task.Split h m e = parting-ok s o leaf m

  pub installs : (s : BrickState) (o : OpenOrder) (leaf : Leaf) → BrickOk T z at s → OrderOk z at o → LeafOk z leaf → TaskOk at o.task (Some leaf)
      → Fine T z at (own_order.installs s o leaf)
  installs s o leaf h k m e =
      installs_from (record s { made = s.made + 1 }) o (own_order.made_leaf s o leaf o.task) _ h k (made-ok s o leaf o.task h m e)
      (all-bricks z _ s.number (parting-ok s o leaf m).bricks)

  copies_from : (s : BrickState) (o : OpenOrder) (nodes : List ℕ) → BrickOk T z at s → OrderOk z at o → AllByRecursion (IsBrick z) nodes
      → Fine T z at (own_order.copies_from s o nodes)
  copies_from s o [] h k ns = ends s o answered.NoSource h k
  copies_from s o (n ∷ ns) h k bricks =
      fine-sends (own_order.going_on s (record o { copied = []; phase = Copying n })) ((n, letter.CopyAsk o.number o.name None) ∷ [])
      (with-order s _ h (with-steps o o.waiting (Copying n) k k.its_waiting bricks.0)) (between z at n h.inside bricks.0, tt)

  pub copies : (s : BrickState) (o : OpenOrder) (leaf : Leaf) → BrickOk T z at s → OrderOk z at o → LeafOk z leaf → Fine T z at (own_order.copies s o leaf)
  copies s o leaf h k m =
      copies_from s o _ h k (all-filter (IsBrick z) (λ node. has o.granted node) _ (all-live (IsBrick z) leaf.list (has_node s.known) m.bricks))

  leased_all : (s : BrickState) (o : OpenOrder) (leaf : Leaf) (t : Task) → BrickOk T z at s → OrderOk z at o → LeafOk z leaf
      → TaskOk at o.task (Some leaf) → Fine T z at (own_order.leased_all s o leaf t)
  leased_all s o leaf (task.Join via) h k m e = copies s o leaf h k m
  leased_all s o leaf task.Split h k m e = installs s o leaf h k m e

  leased_all_at : (s : BrickState) (o : OpenOrder) (leaf : Option Leaf) → BrickOk T z at s → OrderOk z at o → OfSome (LeafOk z) leaf
      → TaskOk at o.task leaf → Fine T z at (own_order.leased_all_at s o leaf)
  leased_all_at s o None h k m e = going_on s o h k
  leased_all_at s o (Some leaf) h k m e = leased_all s o leaf o.task h k m e

  pub leases_on : (s : BrickState) (o : OpenOrder) → BrickOk T z at s → OrderOk z at o → Fine T z at (own_order.leases_on s o)
  leases_on s o h k = fine-if _ (leased_all_at s o o.leaf h k k.its_leaf k.its_task) (going_on s o h k)

  -- The orders themselves

  join_opens : (s : BrickState) (name : Name) (via : NodeNo) → BrickOk T z at s → IsBrick z via → Fine T z at (own_order.join_opens s name via)
  join_opens s name via h there =
      fine-sends (record s { orders = s.orders + 1; order = Some (own_order.opens s (task.Join via) name None (via ∷ [])) })
      ((via, letter.Lease s.orders (wanted.Name name)) ∷ [])
      (with-order s (Some (own_order.opens s (task.Join via) name None (via ∷ []))) h
      (record { its_task = tt; its_leaf = tt; its_asked = (there, tt); its_granted = tt; its_waiting = (there, tt); its_step = tt }))
      ((between z at via h.inside there, tt), tt)

  join_order : (s : BrickState) (name : Name) (via : NodeNo) → BrickOk T z at s → IsBrick z via → Fine T z at (own_order.join_order s name via)
  join_order s name via h there =
      fine-if _ (answers s answered.Stopped h) (fine-if _ (answers s answered.OrderOpen h)
      (fine-if _ (answers s answered.AlreadyThere h) (fine-if _ (answers s answered.NoSource h)
      (join_opens s name via h there))))

  split_opens : (s : BrickState) (leaf : Leaf) → BrickOk T z at s → LeafOk z leaf → Fine T z at (own_order.split_opens s leaf)
  split_opens s leaf h m =
      let asked = unknown_others leaf.list s.number s.known in
      let bricks = (bricks-others leaf.list s.number s.known m).bricks in
      fine-then _ _ (fine-sends (record (orders.leasing s leaf.name s.number) { orders = s.orders + 1 })
      (to_each asked (letter.Lease s.orders (wanted.Leaf leaf))) (leasing-ok s leaf.name s.number h (own-inside s h))
      (said-each T z at asked (letter.Lease s.orders (wanted.Leaf leaf)) (IsBrick z) bricks (λ n there. (between z at n h.inside there, m))))
      (λ u g. leases_on u (own_order.new_split s leaf) g
      (record { its_task = tt; its_leaf = m; its_asked = bricks; its_granted = tt; its_waiting = bricks; its_step = tt }))

  split_leaf : (s : BrickState) (leaf : Leaf) → BrickOk T z at s → LeafOk z leaf → Fine T z at (own_order.split_leaf s leaf)
  split_leaf s leaf h m =
      fine-if _ (answers s answered.Deepest h) (fine-if _ (answers s answered.Worn h)
      (fine-if _ (answers s (answered.Refused (met.Lease s.number)) h) (fine-if _
      (answers s (answered.Refused (met.Lock s.number)) h) (split_opens s leaf h m))))

  split_named : (s : BrickState) (leaf : Option Leaf) → BrickOk T z at s → OfSome (LeafOk z) leaf → Fine T z at (own_order.split_named s leaf)
  split_named s None h m = answers s answered.NotServing h
  split_named s (Some leaf) h m = split_leaf s leaf h m

  split_order : (s : BrickState) (name : Name) → BrickOk T z at s → Fine T z at (own_order.split_order s name)
  split_order s name h =
      fine-if _ (answers s answered.Stopped h) (fine-if _ (answers s answered.OrderOpen h)
      (split_named s _ h (get-ok z s.leaves name h.its_leaves)))

  -- An order is told
  pub input-fine : (s : BrickState) (o : Order) → BrickOk T z at s → is_ordered z at o ≡ true → Fine T z at (brick_input s o)
  input-fine s (the_order.Join brick name via) h e =
      let p = and_parts (brick == at) (nat_lt at z.bricks && nat_lt via z.bricks) e in
      let q = and_parts (nat_lt at z.bricks) (nat_lt via z.bricks) p.1 in
      join_order s name via h (below-is q.1)
    where
      below-is : nat_lt via z.bricks ≡ true → IsBrick z via
      below-is e = grind (arith, nat_tests, e)
  input-fine s (the_order.Split brick name) h e = split_order s name h
