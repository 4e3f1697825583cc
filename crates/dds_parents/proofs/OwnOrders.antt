use Rattle.std.proofs.Common.{◌≡◌, ℕ, ◌+◌, ◌==◌, ◌&&◌, ◌||◌, ◌++◌, Bool, true, false, not, Option, Some, None, List, [], refl, sym, ap, ◌∙◌, subst}
use Rattle.std.proofs.lemmas.Bool.{and_parts, eqb-true, not-true}
use Rattle.std.specs.FinMap.{get}
use Rattle.std.specs.Prelude.{is_some, nat_le, length}
use Rattle.dds_base.specs.BrickList.{has}
use Rattle.dds_base.specs.Name.{Name, same_name}
use Rattle.dds_base.specs.NodeSet.{has_node}
use Rattle.dds_base.specs.declared.brick_list.TheConstants.{MEMBERS}
use Rattle.dds_base.specs.declared.leaf.Leaf.{Leaf}
use Rattle.dds_base.specs.declared.number.NodeNo.{NodeNo}
use Rattle.dds_base.specs.declared.op.OrderReply.TheVariants as answered
use Rattle.dds_base.specs.declared.pair.Pair.{Pair}
use Rattle.dds_brick_rows.specs.Refusal.{is_join}
use Rattle.dds_core.specs.Notice as notices
use Rattle.dds_groups.specs.Leaves.{live}
use Rattle.dds_law_leaf.proofs.Book.{Each, InMap, InOrder}
use Rattle.dds_law_own.proofs.Changes.{own}
use Rattle.dds_law_own.proofs.Lists.{has-last}
use Rattle.dds_law_own.proofs.OrderWays.{same-is}
use Rattle.dds_law_own.proofs.Ways.{is-none}
use Rattle.dds_letters.specs.declared.letter.Letter.TheVariants as letter
use Rattle.dds_letters.specs.declared.refusal.Refusal.{Refusal}
use Rattle.dds_locks.specs.Leases.{leased}
use Rattle.dds_locks.specs.Pending.{any_under}
use Rattle.dds_order_rows.specs.Orders as orders
use Rattle.dds_order_rows.specs.OwnOrder as order
use Rattle.dds_orders.proofs.Asked.{Orderly, heard-asked}
use Rattle.dds_orders.proofs.Deeds.{MayWiden, fixes, loses, seat, splits}
use Rattle.dds_orders.proofs.OwnRows.{holding, leasing-not, copying-ready}
use Rattle.dds_orders.proofs.Turns.{Finds, copies, grants, source-is}
use Rattle.dds_states.specs.Turn.{BrickTurn, without}
use Rattle.dds_states.specs.declared.brick_state.BrickState.{BrickState}
use Rattle.dds_states.specs.declared.brick_state.OpenOrder.{OpenOrder}
use Rattle.dds_states.specs.declared.brick_state.OrderPhase.{OrderPhase}
use Rattle.dds_states.specs.declared.brick_state.OrderPhase.TheVariants.{Copying, Installing, Leasing}
use Rattle.dds_states.specs.declared.brick_state.Task.{Task}
use Rattle.dds_states.specs.declared.brick_state.Task.TheVariants.{Join, Split}
use Rattle.dds_parents.proofs.Makes.{MakesFrom, copied_all, copies_from, deed-orderly, ends, installs_on, leases_on, makes-as, makes-when, no_leaf}

-- The rows of a brick's own order.

order-old : (Old : Leaf → Type 0) (q : Option OpenOrder) (o : OpenOrder) → q ≡ Some o → InOrder Old q → Each Old o.leaf
order-old Old None o e h = cc
order-old Old (Some p) o e h = let is : p ≡ o = cc in subst (λ (x : OpenOrder). Each Old x.leaf) is h.0

module _ (Old : Leaf → Type 0) (me : ℕ) where
  -- letters to the open order
  with-order : (s : BrickState) (number : ℕ) (test : OpenOrder → Bool) (row : BrickState → OpenOrder → BrickTurn) (q : Option OpenOrder) → s.order ≡ q
      → order.is_at number test q ≡ true → ((o : OpenOrder) → Finds (seat s) number test o → MakesFrom Old s (row (record s { order = None }) o))
      → MakesFrom Old s (order.with_order s row q)
  with-order s number test row None e h f = cc
  with-order s number test row (Some o) e h f =
      let p = and_parts (o.number == number) (test o) h in
      f o (record { there = e; same = eqb-true o.number number p.0; passes = p.1 })

  at-order : (s : BrickState) (number : ℕ) (test : OpenOrder → Bool) (row : BrickState → OpenOrder → BrickTurn)
      → ((o : OpenOrder) → Finds (seat s) number test o → MakesFrom Old s (row (record s { order = None }) o))
      → MakesFrom Old s (order.at_order s number test row)
  at-order s number test row f =
      makes-when Old s (order.is_at number test s.order) (λ h. with-order s number test row s.order refl h f) (λ h. no_leaf refl)

  -- the first lease of a join
  fixing : (s : BrickState) (o : OpenOrder) (from : NodeNo) (leaf : Leaf) → order.is_leasing o.phase ≡ true → MayWiden (holding s o) o from leaf → Old leaf
      → Orderly me (holding s o) → MakesFrom Old s (order.fixes s o from leaf)
  fixing s o from leaf leasing may old h =
      makes-when Old s (order.is_worn leaf) (λ e. ends Old me s o answered.Worn)
      (λ e. makes-when Old s (nat_le MEMBERS (length (live leaf.list (has_node s.known)))) (λ f. ends Old me s o answered.GroupFull)
      (λ f. makes-as Old s.known s.number s.made (order.leases_on s (order.widened s o from leaf)) (order.fixed s o from leaf) refl
      (leases_on Old me s (order.widened s o from leaf) old (leasing-not o.phase leasing)
      (deed-orderly me (holding s o) _ _ (fixes o from leaf refl may) h))))

  granted_join : (s : BrickState) (o : OpenOrder) (from : NodeNo) (leaf : Leaf) (q : Option Leaf) → o.leaf ≡ q → is_join o.task ≡ true → leaf.name ≡ o.name
      → has leaf.list s.number ≡ false → order.is_leasing o.phase ≡ true → has o.granted from ≡ true → Each Old o.leaf → Old leaf → Orderly me (holding s o)
      → MakesFrom Old s (order.granted_join s o from leaf q)
  granted_join s o from leaf None e j n apart leasing g first old h =
      fixing s o from leaf leasing (record { may = record { none = e; join = j; name = n; apart = apart }; granted = g; leasing = leasing }) old h
  granted_join s o from leaf (Some fixed) e j n apart leasing g first old h = leases_on Old me s o first (leasing-not o.phase leasing) h

  granting : (s : BrickState) (o : OpenOrder) (from : NodeNo) (leaf : Leaf) (t : Task) → o.task ≡ t → order.takes_grant s.number leaf o ≡ true
      → has o.granted from ≡ true → Each Old o.leaf → Old leaf → Orderly me (holding s o) → MakesFrom Old s (order.grants s o from leaf t)
  granting s o from leaf (Join via) e k g first old h =
      let join : is_join o.task ≡ true = ap is_join e in
      let its = same_name leaf.name o.name && not (has leaf.list s.number) in
      let may = and_parts (order.is_leasing o.phase) (not (is_join o.task) || its) k in
      let p = and_parts (same_name leaf.name o.name) (not (has leaf.list s.number)) (sym (ap (λ c. not c || its) join) ∙ may.1) in
      granted_join s o from leaf o.leaf refl join (same-is leaf.name o.name p.0) (not-true (has leaf.list s.number) p.1) may.0 g first old h
  granting s o from leaf Split e k g first old h =
      let may = and_parts (order.is_leasing o.phase) (not (is_join o.task) || (same_name leaf.name o.name && not (has leaf.list s.number))) k in
      leases_on Old me s o first (leasing-not o.phase may.0) h

  pub granted_row : (s : BrickState) (from : NodeNo) (number : ℕ) (leaf : Leaf) → InOrder Old s.order → Old leaf → Orderly me (seat s)
      → MakesFrom Old s (order.granted_row s from number leaf)
  granted_row s from number leaf first old h =
      at-order s number (order.takes_grant s.number leaf) (λ t o. order.grants t (order.with_grant o from) from leaf o.task)
      (λ o f. granting (record s { order = None }) (order.with_grant o from) from leaf o.task refl f.passes (has-last o.granted from)
      (order-old Old s.order o f.there first) old (heard-asked me from (letter.Granted number leaf) (seat s) _ [] (grants number leaf o f) h))

  pub lease_refused_row : (s : BrickState) (from : NodeNo) (number : ℕ) (why : Refusal) → MakesFrom Old s (order.lease_refused_row s from number why)
  lease_refused_row s from number why =
      at-order s number (λ o. order.is_leasing o.phase) (λ t o. order.ends t o (answered.Refused (order.met_of why from)))
      (λ o f. ends Old me (record s { order = None }) o (answered.Refused (order.met_of why from)))

  -- pairs
  copied_on : (s : BrickState) (o : OpenOrder) (source : NodeNo) (last : Bool) → o.phase ≡ Copying source → Each Old o.leaf → Orderly me (holding s o)
      → MakesFrom Old s (order.copied_on s o source last)
  copied_on s o source true e first h = copied_all Old me s o o.leaf refl first (copying-ready o source e) h
  copied_on s o source false e first h = no_leaf refl

  pub copy_part_row : (s : BrickState) (from : NodeNo) (number : ℕ) (last : Bool) (pairs : List Pair) → InOrder Old s.order → Orderly me (seat s)
      → MakesFrom Old s (order.copy_part_row s from number last pairs)
  copy_part_row s from number last pairs first h =
      at-order s number (λ o. order.is_source from o.phase && order.fits o pairs)
      (λ t o. order.copied_on t (record o { copied = o.copied ++ pairs }) from last)
      (λ o f. copied_on (record s { order = None }) (record o { copied = o.copied ++ pairs }) from last
      (source-is from o.phase (and_parts (order.is_source from o.phase) (order.fits o pairs) f.passes).0) (order-old Old s.order o f.there first)
      (heard-asked me from (letter.CopyPart number last pairs) (seat s) _ [] (copies number last pairs o f) h))

  installed_in : (s : BrickState) (o : OpenOrder) (phase : OrderPhase) → MakesFrom Old s (order.installed_in s o phase)
  installed_in s o Leasing = no_leaf refl
  installed_in s o (Copying source) = no_leaf refl
  installed_in s o (Installing made) = installs_on Old me s o made

  pub installed_row : (s : BrickState) (from : NodeNo) (number : ℕ) → MakesFrom Old s (order.installed_row s from number)
  installed_row s from number =
      at-order s number (λ o. order.is_installing o.phase) (λ t o. order.installed_in t (record o { waiting = without o.waiting from }) o.phase)
      (λ o f. installed_in (record s { order = None }) (record o { waiting = without o.waiting from }) o.phase)

  -- a node that stopped
  copies_again : (s : BrickState) (o : OpenOrder) (leaf : Option Leaf) → MakesFrom Old s (notices.copies_again s o leaf)
  copies_again s o None = no_leaf refl
  copies_again s o (Some leaf) = copies_from Old me s o (order.sources s o leaf)

  order_goes : (s : BrickState) (o : OpenOrder) (y : NodeNo) (phase : OrderPhase) → o.phase ≡ phase → has_node s.known y ≡ true → Each Old o.leaf
      → Orderly me (holding s o) → MakesFrom Old s (notices.order_goes s o y phase)
  order_goes s o y Leasing e k first h =
      makes-when Old s (notices.is_lost o y o.task) (λ f. ends Old me s o answered.NoSource)
      (λ f. leases_on Old me s (record o { waiting = without o.waiting y }) first (ap order.is_installing e)
      (deed-orderly me (holding s o) _ [] (loses o y refl k) h))
  order_goes s o y (Copying source) e k first h = copies_again s o o.leaf
  order_goes s o y (Installing made) e k first h = installs_on Old me s (record o { waiting = without o.waiting y }) made

  with-some : (s : BrickState) (y : NodeNo) (q : Option OpenOrder) → s.order ≡ q → has_node s.known y ≡ true → InOrder Old q → Orderly me (seat s)
      → MakesFrom Old s (order.with_order s (λ t o. notices.order_goes t o y o.phase) q)
  with-some s y None e k first h = no_leaf refl
  with-some s y (Some o) e k first h =
      order_goes (record s { order = None }) o y o.phase refl k first.0
      (subst (λ q. Orderly me (record (seat s) { own = record (own s) { order = q } })) e h)

  pub order_part : (s : BrickState) (y : NodeNo) → has_node s.known y ≡ true → InOrder Old s.order → Orderly me (seat s)
      → MakesFrom Old s (notices.order_part s y)
  order_part s y k first h =
      makes-when Old s (notices.concerns_some y s.order) (λ e. with-some s y s.order refl k first h) (λ e. no_leaf refl)

  -- an order comes
  split_free : (s : BrickState) (name : Name) (leaf : Leaf) → s.order ≡ None → get s.leaves name ≡ Some leaf → (leaf.name.depth == 16) ≡ false
      → is_some (leased s.locks.leases leaf.name) ≡ false → any_under s.locks.pending leaf.name ≡ false → Old leaf → Orderly me (seat s)
      → MakesFrom Old s (order.split_opens s leaf)
  split_free s name leaf open_none there deep e f old h =
      let u = record (orders.leasing s leaf.name s.number) { orders = s.orders + 1 } in
      makes-as Old s.known s.number s.made (order.leases_on u (order.new_split s leaf)) (order.split_opens s leaf) refl
      (leases_on Old me u (order.new_split s leaf) old refl
      (deed-orderly me (seat s) _ _ (splits leaf (record {
        none = open_none;
        at = name;
        there = there;
        deep = deep;
        unleased = is-none (leased s.locks.leases leaf.name) e;
        unlocked = f;
      })) h))

  split_leaf : (s : BrickState) (name : Name) (leaf : Leaf) → s.order ≡ None → get s.leaves name ≡ Some leaf → Old leaf → Orderly me (seat s)
      → MakesFrom Old s (order.split_leaf s leaf)
  split_leaf s name leaf open_none there old h =
      makes-when Old s (leaf.name.depth == 16) (λ d. no_leaf refl) (λ d. makes-when Old s (order.is_worn leaf) (λ w. no_leaf refl)
      (λ w. makes-when Old s (is_some (leased s.locks.leases leaf.name)) (λ e. no_leaf refl)
      (λ e. makes-when Old s (any_under s.locks.pending leaf.name) (λ f. no_leaf refl) (λ f. split_free s name leaf open_none there d e f old h))))

  split_named : (s : BrickState) (name : Name) (leaf : Option Leaf) → s.order ≡ None → get s.leaves name ≡ leaf → Each Old leaf → Orderly me (seat s)
      → MakesFrom Old s (order.split_named s leaf)
  split_named s name None open_none there old h = no_leaf refl
  split_named s name (Some leaf) open_none there old h = split_leaf s name leaf open_none there old h

  pub split_order : (s : BrickState) (name : Name) → InMap Old s.leaves → Orderly me (seat s) → MakesFrom Old s (order.split_order s name)
  split_order s name old h =
      makes-when Old s s.stopped (λ e. no_leaf refl) (λ e. makes-when Old s (is_some s.order) (λ f. no_leaf refl)
      (λ f. split_named s name (get s.leaves name) (is-none s.order f) refl (old name) h))
