use Rattle.std.proofs.Common.{ℕ, ◌==◌, Bool, true, false, not, Option, Some, None, List, [], ◌∷◌}
use Rattle.std.specs.FinMap.{get}
use Rattle.std.specs.Prelude.{is_some, if◌then◌else◌}
use Rattle.dds_base.specs.Name.{Name}
use Rattle.dds_base.specs.Number.{Txn, StampOf}
use Rattle.dds_base.specs.declared.leaf.Leaf.{Leaf}
use Rattle.dds_base.specs.declared.number.NodeNo.{NodeNo}
use Rattle.dds_base.specs.declared.op.Order.{Order}
use Rattle.dds_base.specs.declared.op.Order.TheVariants as the_order
use Rattle.dds_base.specs.declared.op.OrderReply.TheVariants as answered
use Rattle.dds_base.specs.declared.pending.Pending.{Pending}
use Rattle.dds_brick_rows.specs.Calls as calls
use Rattle.dds_brick_rows.specs.Refusal.{as_denial, get_refusal, has_no_room, is_found, is_locked, joins_key, joins_over, lease_refusal, stale_against}
use Rattle.dds_brick_rows.specs.Refusal.{update_denial, update_refusal}
use Rattle.dds_brick_rows.specs.Take as takes
use Rattle.dds_brick_rows.specs.declared.resolution.News.TheVariants as news
use Rattle.dds_core.specs.Brick.{brick_input, live_brick_turn}
use Rattle.dds_core.specs.Notice as notices
use Rattle.dds_groups.specs.Leaves.{sibling}
use Rattle.dds_letters.specs.declared.letter.Letter.{Letter}
use Rattle.dds_letters.specs.declared.letter.Letter.TheVariants as letter
use Rattle.dds_letters.specs.declared.refusal.Denial.{Denial}
use Rattle.dds_letters.specs.declared.refusal.Denial.TheVariants as denial
use Rattle.dds_letters.specs.declared.refusal.Refusal.{Refusal}
use Rattle.dds_letters.specs.declared.refusal.Refusal.TheVariants as refusal
use Rattle.dds_letters.specs.declared.refusal.Wanted.{Wanted}
use Rattle.dds_letters.specs.declared.refusal.Wanted.TheVariants as wanted
use Rattle.dds_locks.specs.Leases.{leased, lease_covers}
use Rattle.dds_locks.specs.Pending.{any_under}
use Rattle.dds_maps.specs.Own.{own_leaf}
use Rattle.dds_order_rows.specs.Orders as orders
use Rattle.dds_states.specs.Leaf.{leaf_for}
use Rattle.dds_states.specs.Turn.{first_some, sends, when, without}
use Rattle.dds_states.specs.declared.brick_state.BrickState.{BrickState}
use Rattle.dds_states.specs.declared.brick_state.OpenOrder.{OpenOrder}
use Rattle.dds_states.specs.declared.brick_state.OrderPhase.{OrderPhase}
use Rattle.dds_states.specs.declared.brick_state.OrderPhase.TheVariants.{Leasing, Copying, Installing}
use Rattle.dds_trie.specs.Trie.{LeafMap}
use Rattle.dds_world.specs.Groups.{denial_leaf, made_leaf, refusal_leaf}
use Rattle.dds_law_leaf.proofs.Book.{Book, Each, InLetter, InMap, Known, Leafed}
use Rattle.dds_law_leaf.proofs.Maps.{in-for, in-put, in-remove}
use Rattle.dds_law_leaf.proofs.OwnOrders as own
use Rattle.dds_law_leaf.proofs.Plain as plain
use Rattle.dds_law_leaf.proofs.Turns.{Turned, then-plain, turned, turned-if, turned-plain, turned-still}

-- What a brick's turn does with leaves.

-- the leaf of a refusal
abbrev pub OfRefusal : (Leaf → Type 0) → Option Refusal → Type 0
OfRefusal P None = Unit {0}
OfRefusal P (Some why) = Each P (refusal_leaf why)

abbrev pub OfDenial : (Leaf → Type 0) → Option Denial → Type 0
OfDenial P None = Unit {0}
OfDenial P (Some why) = Each P (denial_leaf why)

module _ (P : Leaf → Type 0) where
  of-first : (x y : Option Refusal) → OfRefusal P x → OfRefusal P y → OfRefusal P (first_some x y)
  of-first None y h k = k
  of-first (Some why) y h k = h

  of-when : (b : Bool) (why : Refusal) → Each P (refusal_leaf why) → OfRefusal P (when b why)
  of-when true why h = h
  of-when false why h = tt

  of-stale-if : (leaf : Leaf) (b : Bool) → P leaf → OfRefusal P (if b then None else Some (refusal.Stale (Some leaf)))
  of-stale-if leaf true h = tt
  of-stale-if leaf false h = h

  of-stale : (leaf : Option Leaf) (name : Name) (stamp : StampOf) → Each P leaf → OfRefusal P (stale_against leaf name stamp)
  of-stale None name stamp h = tt
  of-stale (Some leaf) name stamp h = of-stale-if leaf _ h

  pub of-denial : (x : Option Refusal) (b : Bool) → OfRefusal P x → OfDenial P (first_some (as_denial x) (when b denial.Full))
  of-denial None true h = tt
  of-denial None false h = tt
  of-denial (Some why) b h = h

  pub of-get : (s : BrickState) (key : ℕ) (name : Name) (stamp : StampOf) → InMap P s.leaves → OfRefusal P (get_refusal s key name stamp)
  of-get s key name stamp h =
      of-first (when (joins_key s.order key) refusal.Lease) _ (of-when (joins_key s.order key) refusal.Lease tt)
      (of-first (stale_against (leaf_for s.leaves key) name stamp) _ (of-stale (leaf_for s.leaves key) name stamp (in-for P s.leaves key h))
      (of-when (is_locked s key) refusal.Lock tt))

  pub of-update : (s : BrickState) (key : ℕ) (name : Name) (stamp : StampOf) → InMap P s.leaves → OfRefusal P (update_refusal s key name stamp)
  of-update s key name stamp h =
      of-first (when (joins_key s.order key) refusal.Lease) _ (of-when (joins_key s.order key) refusal.Lease tt)
      (of-first (stale_against (leaf_for s.leaves key) name stamp) _ (of-stale (leaf_for s.leaves key) name stamp (in-for P s.leaves key h))
      (of-first (when (lease_covers s.locks.leases key) refusal.Lease) _ (of-when (lease_covers s.locks.leases key) refusal.Lease tt)
      (of-when (is_locked s key) refusal.Lock tt)))

  pub of-lease : (s : BrickState) (name : Name) (stamp : Option StampOf) → InMap P s.leaves → OfRefusal P (lease_refusal s name stamp)
  of-lease s name stamp h =
      let other = not (is_found stamp (get s.leaves name)) in
      of-first (when (joins_over s.order name) refusal.Lease) _ (of-when (joins_over s.order name) refusal.Lease tt)
      (of-first (when other (refusal.Stale (leaf_for s.leaves name.bits))) _
      (of-when other (refusal.Stale (leaf_for s.leaves name.bits)) (in-for P s.leaves name.bits h))
      (of-first (when (is_some (leased s.locks.leases name)) refusal.Lease) (when (any_under s.locks.pending name) refusal.Lock)
      (of-when (is_some (leased s.locks.leases name)) refusal.Lease tt) (of-when (any_under s.locks.pending name) refusal.Lock tt)))

  pub no-leaf : (txn : Txn) (value : Option (List ℕ)) → InLetter P (letter.Got txn (calls.answer_of value))
  no-leaf txn None = tt
  no-leaf txn (Some value) = tt

  -- a leaf that is taken
  in-if : (c : Bool) (m n : LeafMap) → InMap P m → InMap P n → InMap P (if c then m else n)
  in-if true m n h k = h
  in-if false m n h k = k

  one-of : (b : Bool) (x y : Leaf) → P x → P y → P (if b then x else y)
  one-of true x y h k = h
  one-of false x y h k = k

-- the other half of a leaf that is known is known: it has the same stamp
in-replaced : (b : Book) (m : LeafMap) (own leaf : Leaf) → Known b leaf → InMap (Known b) m → InMap (Known b) (takes.replaced m own leaf)
in-replaced b m own leaf k h =
    let low = one-of (Known b) (takes.is_low leaf.name) leaf (sibling leaf) k k in
    let high = one-of (Known b) (takes.is_low leaf.name) (sibling leaf) leaf k k in
    in-if (Known b) (own.name.depth == leaf.name.depth) _ _ (in-put (Known b) m leaf k h)
    (in-put (Known b) _ (takes.high_of leaf) high (in-put (Known b) _ (takes.low_of leaf) low (in-remove (Known b) m own.name h)))

module _ {me : ℕ} {b : Book} where
  -- calls
  got : (s : BrickState) (from : NodeNo) (txn : Txn) (key : ℕ) (r : Option Refusal) → Leafed me b s → OfRefusal (Known b) r
      → Turned me b (calls.got s from txn key r)
  got s from txn key None h k = turned (calls.got s from txn key None) h (no-leaf (Known b) txn (get s.pairs key), tt)
  got s from txn key (Some why) h k = turned (calls.got s from txn key (Some why)) h (k, tt)

  voted : (s : BrickState) (from : NodeNo) (p : Pending) (d : Option Denial) → Leafed me b s → OfDenial (Known b) d → Turned me b (calls.voted s from p d)
  voted s from p None h k = turned (calls.voted s from p None) h (tt, tt)
  voted s from p (Some d) h k = turned (calls.voted s from p (Some d)) h (k, tt)

  -- leaves that are told
  over : (s : BrickState) (own leaf : Leaf) → Leafed me b s → Known b leaf → Leafed me b (record s { leaves = takes.replaced s.leaves own leaf })
  over s own leaf h k = record { number = h.number; fresh = h.fresh; leaves = in-replaced b s.leaves own leaf k h.leaves; order = h.order }

  took-if : (c : Bool) (s u : BrickState) → Leafed me b u → Leafed me b s → Leafed me b (if c then u else s)
  took-if true s u h k = h
  took-if false s u h k = k

  took : (s : BrickState) (leaf : Leaf) (own : Option Leaf) → Leafed me b s → Known b leaf → Leafed me b (takes.take_over s leaf own)
  took s leaf None h k = h
  took s leaf (Some own) h k = took-if _ s _ (over s own leaf h k) h

  take : (s : BrickState) (leaf : Leaf) → Leafed me b s → Known b leaf → Leafed me b (takes.take s leaf)
  take s leaf h k = took s leaf (own_leaf s.leaves leaf.name) h k

  -- orders of others
  granted : (s : BrickState) (from : NodeNo) (order : ℕ) (name : Name) (leaf : Option Leaf) → Leafed me b s → Each (Known b) leaf
      → Turned me b (orders.granted s from order name leaf)
  granted s from order name None h k = turned-still s h
  granted s from order name (Some leaf) h k = turned (orders.granted s from order name (Some leaf)) h (k, tt)

  lease_answered : (s : BrickState) (from : NodeNo) (order : ℕ) (name : Name) (r : Option Refusal) → Leafed me b s → OfRefusal (Known b) r
      → Turned me b (orders.lease_answered s from order name r)
  lease_answered s from order name None h k = granted s from order name (get s.leaves name) h (h.leaves name)
  lease_answered s from order name (Some why) h k = turned (orders.lease_answered s from order name (Some why)) h (k, tt)

  lease_row : (s : BrickState) (from : NodeNo) (order : ℕ) (what : Wanted) → Leafed me b s → InLetter (Known b) (letter.Lease order what)
      → Turned me b (orders.lease_row s from order what)
  lease_row s from order (wanted.Name name) h k = lease_answered s from order name _ h (of-lease (Known b) s name None h.leaves)
  lease_row s from order (wanted.Leaf leaf) h k =
      let t = take s leaf h k in
      lease_answered (takes.take s leaf) from order leaf.name _ t (of-lease (Known b) (takes.take s leaf) leaf.name (Some leaf.stamp) t.leaves)

  installed_over : (s : BrickState) (from : NodeNo) (order : ℕ) (leaf : Leaf) (own : Option Leaf) → Leafed me b s → Known b leaf
      → Turned me b (orders.installed_over s from order leaf own)
  installed_over s from order leaf None h k = turned-still s h
  installed_over s from order leaf (Some own) h k =
      turned-if _ (turned (sends (record s { leaves = takes.replaced s.leaves own leaf }) ((from, letter.Installed order own.name) ∷ []))
      (over s own leaf h k) (tt, tt)) (turned-still s h)

  -- a notice
  copies_again : (s : BrickState) (o : OpenOrder) (leaf : Option Leaf) → Leafed me b s → own.Held b o → Turned me b (notices.copies_again s o leaf)
  copies_again s o None h k = own.going_on s o h k
  copies_again s o (Some leaf) h k = own.copies s o leaf h k

  order_goes : (s : BrickState) (o : OpenOrder) (y : NodeNo) (phase : OrderPhase) → Leafed me b s → own.Held b o → Each (Known b) (made_leaf phase)
      → Turned me b (notices.order_goes s o y phase)
  order_goes s o y Leasing h k m = turned-if _ (own.ends s o answered.NoSource h) (own.leases_on s (record o { waiting = without o.waiting y }) h k)
  order_goes s o y (Copying source) h k m = copies_again s o o.leaf h k
  order_goes s o y (Installing made) h k m = own.installs_on s (record o { waiting = without o.waiting y }) made h k m

  order_part : (s : BrickState) (y : NodeNo) → Leafed me b s → Turned me b (notices.order_part s y)
  order_part s y h =
      turned-if _ (own.with_order s (λ t o. notices.order_goes t o y o.phase) s.order h h.order (λ t o l k. order_goes t o y o.phase l k k.1))
      (turned-still s h)

  notice_row : (s : BrickState) (y : NodeNo) → Leafed me b s → Turned me b (notices.notice_row s y)
  notice_row s y h =
      then-plain _ (λ t. notices.pending_part t y) (then-plain _ notices.deferred_part (then-plain _ (λ t. notices.resolving_part t y)
      (order_part (notices.learns s y) y h) (λ u. plain.all_hear u y news.Stopped)) (λ u. plain.deferred_part u)) (λ u. plain.pending_part u y)

  pub brick-turned : (s : BrickState) (from : NodeNo) (l : Letter) → Leafed me b s → InLetter (Known b) l → Turned me b (live_brick_turn s from l)
  brick-turned s from (letter.Get txn caller call key name stamp) h k =
      got s from txn key (get_refusal s key name stamp) h (of-get (Known b) s key name stamp h.leaves)
  brick-turned s from (letter.Prepare txn caller call below name stamp list op) h k =
      let u = calls.trim s txn.library below in
      voted u from (record { txn = txn; caller = caller; call = call; op = op; list = list }) (update_denial s op name stamp) h
      (of-denial (Known b) (update_refusal s _ name stamp) (has_no_room s op) (of-update (Known b) s _ name stamp h.leaves))
  brick-turned s from (letter.Commit txn) h k = turned-plain s _ h (plain.commit_row s from txn)
  brick-turned s from (letter.Abort txn) h k = turned-plain s _ h (plain.abort_row s from txn)
  brick-turned s from (letter.Push leaf) h k = turned-still (takes.take s leaf) (take s leaf h k)
  brick-turned s from (letter.MapAsk txn caller call key) h k = turned (calls.map_ask_row s from txn key) h (in-for (Known b) s.leaves key h.leaves, tt)
  brick-turned s from (letter.Help txn list) h k = turned-plain s _ h (plain.help_row s from txn list)
  brick-turned s from (letter.Query txn list) h k = turned-plain s _ h (plain.query_row s from txn list)
  brick-turned s from (letter.Status txn status) h k = turned-plain s _ h (plain.all_hear s from (news.Told txn status))
  brick-turned s from (letter.Outcome txn commit) h k = turned-plain s _ h (plain.outcome_row s txn commit)
  brick-turned s from (letter.Lease number what) h k = lease_row s from number what h k
  brick-turned s from (letter.Granted number leaf) h k = own.granted_row s from number leaf h k
  brick-turned s from (letter.LeaseRefused number why) h k = own.lease_refused_row s from number why h
  brick-turned s from (letter.Release number name) h k = turned-still (orders.releasing s name from) h
  brick-turned s from (letter.CopyAsk number name after) h k =
      turned-if _ (turned (orders.copy_part (orders.pairs_after s.pairs name after) from number s) h (tt, tt)) (turned-still s h)
  brick-turned s from (letter.CopyPart number last pairs) h k = own.copy_part_row s from number last pairs h
  brick-turned s from (letter.Install number leaf) h k =
      turned-if _ (installed_over s from number leaf (own_leaf s.leaves leaf.name) h k) (turned-still s h)
  brick-turned s from (letter.Installed number name) h k = own.installed_row s from number h
  brick-turned s from letter.Notice h k = notice_row s from h
  brick-turned s from other h k = turned-still s h

  pub order-turned : (s : BrickState) (o : Order) → Leafed me b s → Turned me b (brick_input s o)
  order-turned s (the_order.Join brick name via) h = own.join_order s name via h
  order-turned s (the_order.Split brick name) h = own.split_order s name h
