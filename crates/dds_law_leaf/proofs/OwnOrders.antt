use Rattle.std.proofs.Common.{◌≡◌, ℕ, ◌+◌, ◌==◌, ◌||◌, ◌++◌, Bool, true, false, not, Option, Some, None, List, [], ◌∷◌, refl, sym, ◌∙◌, arith}
use Rattle.std.proofs.lemmas.Bool.{and_parts}
use Rattle.std.proofs.lemmas.Bool.Decides.{nat_tests}
use Rattle.std.specs.FinMap.{get}
use Rattle.std.specs.Prelude.{filter, is_some, if◌then◌else◌}
use Rattle.dds_base.specs.BrickList.{has}
use Rattle.dds_base.specs.Name.{Name}
use Rattle.dds_base.specs.NodeSet.{has_node}
use Rattle.dds_base.specs.declared.leaf.Leaf.{Leaf}
use Rattle.dds_base.specs.declared.number.NodeNo.{NodeNo}
use Rattle.dds_base.specs.declared.op.Met.TheVariants as met
use Rattle.dds_base.specs.declared.op.OrderReply.{OrderReply}
use Rattle.dds_base.specs.declared.op.OrderReply.TheVariants as answered
use Rattle.dds_base.specs.declared.pair.Pair.{Pair}
use Rattle.dds_brick_rows.specs.Refusal.{is_join}
use Rattle.dds_groups.proofs.Members.{has-live}
use Rattle.dds_groups.specs.Leaves.{live}
use Rattle.dds_letters.specs.declared.letter.Letter.TheVariants as letter
use Rattle.dds_letters.specs.declared.refusal.Refusal.{Refusal}
use Rattle.dds_letters.specs.declared.refusal.Wanted.TheVariants as wanted
use Rattle.dds_locks.specs.Leases.{leased}
use Rattle.dds_locks.specs.Pending.{any_under}
use Rattle.dds_order_rows.specs.OwnOrder as own_order
use Rattle.dds_order_rows.specs.OwnOrder.{parting, takes_part}
use Rattle.dds_order_rows.specs.Orders as orders
use Rattle.dds_states.specs.Turn.{BrickTurn, and_then, sends, still, to_each, unknown, unknown_others, without}
use Rattle.dds_states.specs.declared.brick_state.BrickState.{BrickState}
use Rattle.dds_states.specs.declared.brick_state.OpenOrder.{OpenOrder}
use Rattle.dds_states.specs.declared.brick_state.OrderPhase.{OrderPhase}
use Rattle.dds_states.specs.declared.brick_state.OrderPhase.TheVariants.{Leasing, Copying, Installing}
use Rattle.dds_states.specs.declared.brick_state.Task.{Task}
use Rattle.dds_states.specs.declared.brick_state.Task.TheVariants as task
use Rattle.dds_world.specs.Groups.{made_leaf}
use Rattle.dds_law_leaf.proofs.Book.{Book, Each, InOrder, Known, Leafed}
use Rattle.dds_law_leaf.proofs.Making.{IsMade, makes}
use Rattle.dds_law_leaf.proofs.Maps.{in-put, in-remove}
use Rattle.dds_law_leaf.proofs.Turns.{Turned, letters-each, order-grown, turned, turned-if, turned-still, turned-then}

-- What the rows of a brick's own order do with leaves.

-- an order with known leaves
abbrev pub Held : Book → OpenOrder → Type 0
Held b o = InOrder (Known b) (Some o)

module _ {me : ℕ} {b : Book} where
  -- the brick with another order
  with : (s : BrickState) (o : Option OpenOrder) → Leafed me b s → InOrder (Known b) o → Leafed me b (record s { order = o })
  with s o h k = record { number = h.number; fresh = h.fresh; leaves = h.leaves; order = k }

  pub going_on : (s : BrickState) (o : OpenOrder) → Leafed me b s → Held b o → Turned me b (still (own_order.going_on s o))
  going_on s o h k = turned-still (own_order.going_on s o) (with s (Some o) h k)

  answers : (s : BrickState) (reply : OrderReply) → Leafed me b s → Turned me b (own_order.answers s reply)
  answers s reply h = turned (own_order.answers s reply) h tt

  -- it is over, and its leases are given back
  closes : (s : BrickState) (o : OpenOrder) (c : Bool) (nodes : List NodeNo) (reply : OrderReply) → Leafed me b s
      → Turned me b (and_then (sends (record (if c then s else orders.releasing s o.name s.number) { order = None })
      (to_each nodes (letter.Release o.number o.name))) (λ t. own_order.answers t reply))
  closes s o true nodes reply h =
      turned-then (record s { order = None }) _ (λ t. own_order.answers t reply) (letters-each b nodes (letter.Release o.number o.name) tt)
      (answers (record s { order = None }) reply (with s None h tt))
  closes s o false nodes reply h =
      let u = record (orders.releasing s o.name s.number) { order = None } in
      turned-then u _ (λ t. own_order.answers t reply) (letters-each b nodes (letter.Release o.number o.name) tt) (answers u reply (with s None h tt))

  pub ends : (s : BrickState) (o : OpenOrder) (reply : OrderReply) → Leafed me b s → Turned me b (own_order.ends s o reply)
  ends s o reply h = closes s o (is_join o.task) (unknown o.asked s.known) reply h

  serves : (s : BrickState) (o : OpenOrder) (made : Leaf) (t : Task) → Leafed me b s → Known b made → Leafed me b (own_order.serving s o made t)
  serves s o made (task.Join via) h k =
      record { number = h.number; fresh = h.fresh; leaves = in-put (Known b) s.leaves made k h.leaves; order = h.order }
  serves s o made task.Split h k =
      let halves = in-put (Known b) _ _ k (in-put (Known b) _ made k (in-remove (Known b) s.leaves o.name h.leaves)) in
      record { number = h.number; fresh = h.fresh; leaves = halves; order = h.order }

  pub finishes : (s : BrickState) (o : OpenOrder) (made : Leaf) → Leafed me b s → Known b made → Turned me b (own_order.finishes s o made)
  finishes s o made h k =
      closes (own_order.serving s o made o.task) o (is_join o.task) (unknown o.granted s.known) answered.Done (serves s o made o.task h k)

  installs_from : (s : BrickState) (o : OpenOrder) (made : Leaf) (nodes : List NodeNo) → Leafed me b s → Each (Known b) o.leaf → Known b made
      → Turned me b (own_order.installs_from s o made nodes)
  installs_from s o made [] h k m = finishes s o made h m
  installs_from s o made (n ∷ ns) h k m =
      turned _ (with s (Some (record o { waiting = n ∷ ns; phase = Installing made })) h (k, m)) (letters-each b (n ∷ ns) (letter.Install o.number made) m)

-- who takes part is a member of the leaf
filtered-if : (p : ℕ → Bool) (n m : ℕ) (ns : List ℕ) (c : Bool) → has (if c then n ∷ filter p ns else filter p ns) m ≡ true
    → (has (filter p ns) m ≡ true → has ns m ≡ true) → (n == m || has ns m) ≡ true
filtered-if p n m ns true h f = elim (n == m) as (λ t. (t || has (filter p ns) m) ≡ true → (t || has ns m) ≡ true) [ true ↦ λ k. refl | false ↦ f ] h
filtered-if p n m ns false h f = elim (n == m) as (λ t. (t || has ns m) ≡ true) [ true ↦ refl | false ↦ f h ]

filtered : (p : ℕ → Bool) (ns : List ℕ) (m : ℕ) → has (filter p ns) m ≡ true → has ns m ≡ true
filtered p [] m h = h
filtered p (n ∷ ns) m h = filtered-if p n m ns (p n) h (filtered p ns m)

parted : (s : BrickState) (o : OpenOrder) (leaf : Leaf) (n : ℕ) → has (parting s o leaf) n ≡ true → has leaf.list n ≡ true
parted s o leaf n h =
    let l : has (live leaf.list (has_node s.known)) n ≡ true = filtered (takes_part s o) (live leaf.list (has_node s.known)) n h in
    (and_parts (has leaf.list n) (not (has_node s.known n)) (sym (has-live leaf.list (has_node s.known) n) ∙ l)).0

joined-by : (ns : List ℕ) (j n : ℕ) → (n ≡ j → ⊥) → has (ns ++ j ∷ []) n ≡ true → has ns n ≡ true
joined-by [] j n ne h = absurd (ne (sym (last j n h)))
  where
    last : (j n : ℕ) → (j == n || false) ≡ true → j ≡ n
    last j n e = grind (arith, nat_tests, e)
joined-by (x ∷ ns) j n ne h =
    elim (x == n) as (λ t. (t || has (ns ++ j ∷ []) n) ≡ true → (t || has ns n) ≡ true) [ true ↦ λ k. refl | false ↦ joined-by ns j n ne ] h

is-made : (s : BrickState) (o : OpenOrder) (leaf : Leaf) (t : Task) → IsMade s leaf (own_order.made_leaf s o leaf t)
is-made s o leaf (task.Join via) =
    record { stamp = refl; prev = refl; epoch = refl; members = λ n ne h. parted s o leaf n (joined-by (parting s o leaf) s.number n ne h) }
is-made s o leaf task.Split = record { stamp = refl; prev = refl; epoch = refl; members = λ n ne h. parted s o leaf n h }

module _ {me : ℕ} {b : Book} where
  installs : (s : BrickState) (o : OpenOrder) (leaf : Leaf) → Leafed me b s → Held b o → Known b leaf → Turned me b (own_order.installs s o leaf)
  installs s o leaf h k old =
      let made = own_order.made_leaf s o leaf o.task in
      makes s leaf made (own_order.installs s o leaf) h old (is-made s o leaf o.task)
      (λ c g l m. installs_from (record s { made = s.made + 1 }) o made (without (parting s o leaf) s.number) l (order-grown b c (Some o) g k).0 m)

  copies_from : (s : BrickState) (o : OpenOrder) (nodes : List ℕ) → Leafed me b s → Held b o → Turned me b (own_order.copies_from s o nodes)
  copies_from s o [] h k = ends s o answered.NoSource h
  copies_from s o (n ∷ ns) h k = turned _ (with s (Some (record o { copied = []; phase = Copying n })) h (k.0, tt)) (tt, tt)

  pub copies : (s : BrickState) (o : OpenOrder) (leaf : Leaf) → Leafed me b s → Held b o → Turned me b (own_order.copies s o leaf)
  copies s o leaf h k = copies_from s o (own_order.sources s o leaf) h k

  leased_all : (s : BrickState) (o : OpenOrder) (leaf : Leaf) (t : Task) → Leafed me b s → Held b o → Known b leaf
      → Turned me b (own_order.leased_all s o leaf t)
  leased_all s o leaf (task.Join via) h k old = copies s o leaf h k
  leased_all s o leaf task.Split h k old = installs s o leaf h k old

  leased_all_at : (s : BrickState) (o : OpenOrder) (leaf : Option Leaf) → Leafed me b s → Held b o → Each (Known b) leaf
      → Turned me b (own_order.leased_all_at s o leaf)
  leased_all_at s o None h k old = going_on s o h k
  leased_all_at s o (Some leaf) h k old = leased_all s o leaf o.task h k old

  pub leases_on : (s : BrickState) (o : OpenOrder) → Leafed me b s → Held b o → Turned me b (own_order.leases_on s o)
  leases_on s o h k = turned-if _ (leased_all_at s o o.leaf h k k.0) (going_on s o h k)

  -- the orders themselves
  pub join_order : (s : BrickState) (name : Name) (via : NodeNo) → Leafed me b s → Turned me b (own_order.join_order s name via)
  join_order s name via h =
      turned-if _ (answers s answered.Stopped h) (turned-if _ (answers s answered.OrderOpen h)
      (turned-if _ (answers s answered.AlreadyThere h) (turned-if _ (answers s answered.NoSource h)
      (turned (own_order.join_opens s name via)
      (with (record s { orders = s.orders + 1 }) (Some (own_order.opens s (task.Join via) name None (via ∷ []))) h (tt, tt)) (tt, tt)))))

  split_opens : (s : BrickState) (leaf : Leaf) → Leafed me b s → Known b leaf → Turned me b (own_order.split_opens s leaf)
  split_opens s leaf h k =
      let u = record (orders.leasing s leaf.name s.number) { orders = s.orders + 1 } in
      turned-then u _ (λ t. own_order.leases_on t (own_order.new_split s leaf))
      (letters-each b (unknown_others leaf.list s.number s.known) (letter.Lease s.orders (wanted.Leaf leaf)) k)
      (leases_on u (own_order.new_split s leaf) h (k, tt))

  split_leaf : (s : BrickState) (leaf : Leaf) → Leafed me b s → Known b leaf → Turned me b (own_order.split_leaf s leaf)
  split_leaf s leaf h k =
      turned-if (leaf.name.depth == 16) (answers s answered.Deepest h) (turned-if (own_order.is_worn leaf) (answers s answered.Worn h)
      (turned-if (is_some (leased s.locks.leases leaf.name)) (answers s (answered.Refused (met.Lease s.number)) h)
      (turned-if (any_under s.locks.pending leaf.name) (answers s (answered.Refused (met.Lock s.number)) h) (split_opens s leaf h k))))

  split_named : (s : BrickState) (leaf : Option Leaf) → Leafed me b s → Each (Known b) leaf → Turned me b (own_order.split_named s leaf)
  split_named s None h k = answers s answered.NotServing h
  split_named s (Some leaf) h k = split_leaf s leaf h k

  pub split_order : (s : BrickState) (name : Name) → Leafed me b s → Turned me b (own_order.split_order s name)
  split_order s name h =
      turned-if _ (answers s answered.Stopped h) (turned-if _ (answers s answered.OrderOpen h) (split_named s (get s.leaves name) h (h.leaves name)))

  -- letters to the open order
  pub with_order : (s : BrickState) (row : BrickState → OpenOrder → BrickTurn) (o : Option OpenOrder) → Leafed me b s → InOrder (Known b) o
      → ((t : BrickState) (x : OpenOrder) → Leafed me b t → Held b x → Turned me b (row t x)) → Turned me b (own_order.with_order s row o)
  with_order s row None h k f = turned-still s h
  with_order s row (Some o) h k f = f (record s { order = None }) o (with s None h tt) k

  at_order : (s : BrickState) (number : ℕ) (test : OpenOrder → Bool) (row : BrickState → OpenOrder → BrickTurn) → Leafed me b s
      → ((t : BrickState) (x : OpenOrder) → Leafed me b t → Held b x → Turned me b (row t x)) → Turned me b (own_order.at_order s number test row)
  at_order s number test row h f = turned-if _ (with_order s row s.order h h.order f) (turned-still s h)

  fixed : (s : BrickState) (o : OpenOrder) (from : NodeNo) (leaf : Leaf) → Leafed me b s → Held b o → Known b leaf → Turned me b (own_order.fixed s o from leaf)
  fixed s o from leaf h k m =
      turned-then s _ (λ t. own_order.leases_on t (own_order.widened s o from leaf))
      (letters-each b (unknown_others leaf.list from s.known) (letter.Lease o.number (wanted.Leaf leaf)) m)
      (leases_on s (own_order.widened s o from leaf) h (m, k.1))

  granted_join : (s : BrickState) (o : OpenOrder) (from : NodeNo) (leaf : Leaf) (own : Option Leaf) → Leafed me b s → Held b o → Known b leaf
      → Turned me b (own_order.granted_join s o from leaf own)
  granted_join s o from leaf None h k m =
      turned-if _ (ends s o answered.Worn h) (turned-if _ (ends s o answered.GroupFull h) (fixed s o from leaf h k m))
  granted_join s o from leaf (Some own) h k m = leases_on s o h k

  grants : (s : BrickState) (o : OpenOrder) (from : NodeNo) (leaf : Leaf) (t : Task) → Leafed me b s → Held b o → Known b leaf
      → Turned me b (own_order.grants s o from leaf t)
  grants s o from leaf (task.Join via) h k m = granted_join s o from leaf o.leaf h k m
  grants s o from leaf task.Split h k m = leases_on s o h k

  pub granted_row : (s : BrickState) (from : NodeNo) (number : ℕ) (leaf : Leaf) → Leafed me b s → Known b leaf
      → Turned me b (own_order.granted_row s from number leaf)
  granted_row s from number leaf h m = at_order s number _ _ h (λ t o l k. grants t (own_order.with_grant o from) from leaf o.task l k m)

  pub lease_refused_row : (s : BrickState) (from : NodeNo) (number : ℕ) (r : Refusal) → Leafed me b s
      → Turned me b (own_order.lease_refused_row s from number r)
  lease_refused_row s from number r h = at_order s number _ _ h (λ t o l k. ends t o (answered.Refused (own_order.met_of r from)) l)

  copied_all : (s : BrickState) (o : OpenOrder) (leaf : Option Leaf) → Leafed me b s → Held b o → Each (Known b) leaf
      → Turned me b (own_order.copied_all s o leaf)
  copied_all s o None h k old = going_on s o h k
  copied_all s o (Some leaf) h k old = installs s o leaf h k old

  copied_on : (s : BrickState) (o : OpenOrder) (source : NodeNo) (last : Bool) → Leafed me b s → Held b o → Turned me b (own_order.copied_on s o source last)
  copied_on s o source true h k = copied_all s o o.leaf h k k.0
  copied_on s o source false h k = turned _ (with s (Some o) h k) (tt, tt)

  pub copy_part_row : (s : BrickState) (from : NodeNo) (number : ℕ) (last : Bool) (pairs : List Pair) → Leafed me b s
      → Turned me b (own_order.copy_part_row s from number last pairs)
  copy_part_row s from number last pairs h = at_order s number _ _ h (λ t o l k. copied_on t (record o { copied = o.copied ++ pairs }) from last l k)

  pub installs_on : (s : BrickState) (o : OpenOrder) (made : Leaf) → Leafed me b s → Held b o → Known b made → Turned me b (own_order.installs_on s o made)
  installs_on s o made h k m = turned-if _ (finishes s o made h m) (going_on s o h k)

  installed_in : (s : BrickState) (o : OpenOrder) (phase : OrderPhase) → Leafed me b s → Held b o → Each (Known b) (made_leaf phase)
      → Turned me b (own_order.installed_in s o phase)
  installed_in s o Leasing h k m = turned-still s h
  installed_in s o (Copying source) h k m = turned-still s h
  installed_in s o (Installing made) h k m = installs_on s o made h k m

  pub installed_row : (s : BrickState) (from : NodeNo) (number : ℕ) → Leafed me b s → Turned me b (own_order.installed_row s from number)
  installed_row s from number h = at_order s number _ _ h (λ t o l k. installed_in t (record o { waiting = without o.waiting from }) o.phase l k k.1)
