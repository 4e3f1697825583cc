use Rattle.std.proofs.Common.{◌≡◌, ℕ, ◌+◌, ◌==◌, ◌&&◌, ◌||◌, ◌++◌, Bool, true, false, Option, Some, None, List, refl, sym, ap, subst}
use Rattle.std.proofs.lemmas.Bool.{and_parts}
use Rattle.std.specs.FinMap.{get, keys}
use Rattle.std.specs.List.{list_any}
use Rattle.std.specs.Prelude.{is_some, if◌then◌else◌}
use Rattle.dds_base.specs.BrickList.{has}
use Rattle.dds_base.specs.Name.{Name, overlaps}
use Rattle.dds_base.specs.NodeSet.{has_node}
use Rattle.dds_base.specs.Number.{Txn}
use Rattle.dds_base.specs.declared.leaf.Leaf.{Leaf}
use Rattle.dds_base.specs.declared.name.TheConstants.{DEPTH}
use Rattle.dds_base.specs.declared.number.NodeNo.{NodeNo}
use Rattle.dds_base.specs.declared.op.Order.{Order}
use Rattle.dds_base.specs.declared.op.Order.TheVariants as the_order
use Rattle.dds_base.specs.declared.op.OrderReply.TheVariants as answered
use Rattle.dds_base.specs.declared.pair.Pair.{Pair}
use Rattle.dds_base.specs.declared.pending.Pending.{Pending}
use Rattle.dds_brick_rows.specs.Calls as calls
use Rattle.dds_brick_rows.specs.Refusal.{get_refusal, lease_refusal, update_denial}
use Rattle.dds_brick_rows.specs.Take as takes
use Rattle.dds_brick_rows.specs.Take.{replaced}
use Rattle.dds_brick_rows.specs.declared.resolution.News.TheVariants as news
use Rattle.dds_core.specs.Brick.{brick_input, live_brick_turn}
use Rattle.dds_core.specs.Notice as notices
use Rattle.dds_groups.specs.Leaves.{successor}
use Rattle.dds_groups.specs.Names.{low_half}
use Rattle.dds_groups.specs.Take.{may_take}
use Rattle.dds_law_leaf.proofs.Book.{Leafing, leafing}
use Rattle.dds_law_leaf.proofs.Plain as plain
use Rattle.dds_law_leaf.proofs.Turns.{Plain}
use Rattle.dds_law_own.proofs.Changes.{MayInstall, MayTake, own}
use Rattle.dds_law_own.proofs.OrderWays.{test-at}
use Rattle.dds_law_own.proofs.Owned.{Orderly, made_name}
use Rattle.dds_law_own.proofs.Ways.{may-take}
use Rattle.dds_letters.specs.declared.letter.Letter.{Letter}
use Rattle.dds_letters.specs.declared.letter.Letter.TheVariants as letter
use Rattle.dds_letters.specs.declared.refusal.Denial.{Denial}
use Rattle.dds_letters.specs.declared.refusal.Refusal.{Refusal}
use Rattle.dds_letters.specs.declared.refusal.Wanted.{Wanted}
use Rattle.dds_letters.specs.declared.refusal.Wanted.TheVariants as wanted
use Rattle.dds_locks.specs.Leases.{is_given, lease_of, leased}
use Rattle.dds_locks.specs.Pending.{any_under}
use Rattle.dds_maps.specs.Own.{own_leaf}
use Rattle.dds_order_rows.specs.Orders as orders
use Rattle.dds_order_rows.specs.OwnOrder as order
use Rattle.dds_states.specs.Turn.{BrickTurn, without}
use Rattle.dds_states.specs.declared.brick_state.BrickState.{BrickState}
use Rattle.dds_states.specs.declared.brick_state.OpenOrder.{OpenOrder}
use Rattle.dds_states.specs.declared.brick_state.Task.TheVariants.{Split}
use Rattle.dds_trie.specs.Trie.{LeafMap}
use Rattle.dds_pending.proofs.OrderLeaves as own_rows
use Rattle.dds_pending.proofs.OrderLeaves.{Ending, Ends, IsNamed, leaves, named, served_as, serves}

-- What a live brick's turn at a letter or an order does to its leaves: one constructor for each change, with what the row found in the
-- state before the turn. A turn changes leaves once, and before it changes what is pending.

pub data Leads (s : BrickState) (k : LeafMap) : Type 0 where
  rests : k ≡ s.leaves → Leads s k
  takes_it : (mine leaf : Leaf) → MayTake (own s) mine leaf → k ≡ replaced s.leaves mine leaf → Leads s k
  installs : (mine leaf : Leaf) (from : NodeNo) → MayInstall (own s) mine leaf from → k ≡ replaced s.leaves mine leaf → Leads s k
  ends : (o : OpenOrder) (made : Leaf) → s.order ≡ Some o → made.name ≡ made_name o.name o.task → k ≡ served_as s.leaves o.name made o.task → Leads s k
  splits : (at : Name) (leaf made : Leaf) → get s.leaves at ≡ Some leaf → any_under s.locks.pending leaf.name ≡ false → made.name ≡ low_half leaf.name
      → k ≡ served_as s.leaves leaf.name made Split → Leads s k

abbrev pub Goes : BrickState → BrickTurn → Type 0
Goes s t = Leads s t.state.leaves

goes-if : (s : BrickState) (c : Bool) (t u : BrickTurn) → (c ≡ true → Goes s t) → (c ≡ false → Goes s u) → Goes s (if c then t else u)
goes-if s true t u f g = f refl
goes-if s false t u f g = g refl

plainly : (s : BrickState) (t : BrickTurn) → Plain (leafing s) t → Goes s t
plainly s t p = rests (ap (λ (x : Leafing). x.leaves) p.same)

-- a turn, and then one that leaves the leaves
then-plain : (s : BrickState) (t u : BrickTurn) → Goes s t → Plain (leafing t.state) u → Goes s u
then-plain s t u h p = subst (Leads s) (sym (ap (λ (x : Leafing). x.leaves) p.same)) h

-- calls
got : (s : BrickState) (from : NodeNo) (txn : Txn) (key : ℕ) (r : Option Refusal) → Goes s (calls.got s from txn key r)
got s from txn key None = rests refl
got s from txn key (Some why) = rests refl

voted : (s u : BrickState) (from : NodeNo) (p : Pending) (d : Option Denial) → u.leaves ≡ s.leaves → Goes s (calls.voted u from p d)
voted s u from p None e = rests e
voted s u from p (Some why) e = rests e

-- leaves that are told
took-if : (s : BrickState) (c : Bool) (u : BrickState) → (c ≡ true → Leads s u.leaves) → Leads s (if c then u else s).leaves
took-if s true u f = f refl
took-if s false u f = rests refl

taking : (s : BrickState) (leaf : Leaf) (mine : Option Leaf) → own_leaf s.leaves leaf.name ≡ mine → Leads s (takes.take_over s leaf mine).leaves
taking s leaf None e = rests refl
taking s leaf (Some mine) e =
    took-if s (may_take s.number mine leaf (has_node s.known) (takes.is_free s mine.name)) (record s { leaves = takes.replaced s.leaves mine leaf })
    (λ f. takes_it mine leaf (may-take s mine leaf e f) refl)

take : (s : BrickState) (leaf : Leaf) → Leads s (takes.take s leaf).leaves
take s leaf = taking s leaf (own_leaf s.leaves leaf.name) refl

-- orders of other bricks
granted : (s u : BrickState) (from : NodeNo) (number : ℕ) (name : Name) (leaf : Option Leaf) → Leads s u.leaves
    → Goes s (orders.granted u from number name leaf)
granted s u from number name None h = h
granted s u from number name (Some leaf) h = h

answering : (s u : BrickState) (from : NodeNo) (number : ℕ) (name : Name) (r : Option Refusal) → Leads s u.leaves
    → Goes s (orders.lease_answered u from number name r)
answering s u from number name None h = granted s u from number name (get u.leaves name) h
answering s u from number name (Some why) h = h

lease_row : (s : BrickState) (from : NodeNo) (number : ℕ) (what : Wanted) → Goes s (orders.lease_row s from number what)
lease_row s from number (wanted.Name name) = answering s s from number name (lease_refusal s name None) (rests refl)
lease_row s from number (wanted.Leaf leaf) =
    let t = takes.take s leaf in
    answering s t from number leaf.name (lease_refusal t leaf.name (Some leaf.stamp)) (take s leaf)

installing : (s : BrickState) (from : NodeNo) (number : ℕ) (leaf : Leaf) (mine : Option Leaf) → own_leaf s.leaves leaf.name ≡ mine
    → is_some (lease_of s.locks.leases leaf.name from) ≡ true → has leaf.list s.number ≡ true → Goes s (orders.installed_over s from number leaf mine)
installing s from number leaf None there e f = rests refl
installing s from number leaf (Some mine) there e f =
    goes-if s (is_some (successor mine leaf)) _ _ (λ g. installs mine leaf from (record { there = there; leased = e; lists = f; comes = g }) refl)
    (λ g. rests refl)

install_row : (s : BrickState) (from : NodeNo) (number : ℕ) (leaf : Leaf) → Goes s (orders.install_row s from number leaf)
install_row s from number leaf =
    goes-if s (is_some (lease_of s.locks.leases leaf.name from) && has leaf.list s.number) _ _
    (λ e. let p = and_parts (is_some (lease_of s.locks.leases leaf.name from)) (has leaf.list s.number) e in
    installing s from number leaf (own_leaf s.leaves leaf.name) refl p.0 p.1)
    (λ e. rests refl)

-- the open order
ended : (s : BrickState) (o : OpenOrder) (t : BrickTurn) → s.order ≡ Some o → Ending s.leaves o t → Goes s t
ended s o t e (leaves is) = rests is
ended s o t e (serves made name is) = ends o made e name is

-- the order in a letter's row, that passes its test
abbrev Owes : BrickState → (OpenOrder → Bool) → (BrickState → OpenOrder → BrickTurn) → Type 0
Owes s test row = (o : OpenOrder) → test o ≡ true → IsNamed o → Ending s.leaves o (row (record s { order = None }) o)

with-order : (me : ℕ) (s : BrickState) (test : OpenOrder → Bool) (row : BrickState → OpenOrder → BrickTurn) (q : Option OpenOrder) → Orderly me q
    → s.order ≡ q → ((o : OpenOrder) → q ≡ Some o → test o ≡ true) → Owes s test row → Goes s (order.with_order s row q)
with-order me s test row None h e k f = rests refl
with-order me s test row (Some o) h e k f = ended s o (row (record s { order = None }) o) e (f o (k o refl) (named me o h))

at-order : (me : ℕ) (s : BrickState) (number : ℕ) (test : OpenOrder → Bool) (row : BrickState → OpenOrder → BrickTurn) → Orderly me s.order
    → Owes s test row → Goes s (order.at_order s number test row)
at-order me s number test row h f =
    goes-if s (order.is_at number test s.order) _ _ (λ e. with-order me s test row s.order h refl (λ o i. test-at number test s.order o e i) f)
    (λ e. rests refl)

granted_row : (me : ℕ) (s : BrickState) (from : NodeNo) (number : ℕ) (leaf : Leaf) → Orderly me s.order → Goes s (order.granted_row s from number leaf)
granted_row me s from number leaf h =
    at-order me s number (order.takes_grant s.number leaf) (λ t o. order.grants t (order.with_grant o from) from leaf o.task) h
    (λ o e n. own_rows.grants (record s { order = None }) (order.with_grant o from) from leaf o.task refl e n.leaf)

lease_refused_row : (me : ℕ) (s : BrickState) (from : NodeNo) (number : ℕ) (why : Refusal) → Orderly me s.order
    → Goes s (order.lease_refused_row s from number why)
lease_refused_row me s from number why h =
    at-order me s number (λ o. order.is_leasing o.phase) (λ t o. order.ends t o (answered.Refused (order.met_of why from))) h
    (λ o e n. own_rows.ends (record s { order = None }) o (answered.Refused (order.met_of why from)))

copy_part_row : (me : ℕ) (s : BrickState) (from : NodeNo) (number : ℕ) (last : Bool) (pairs : List Pair) → Orderly me s.order
    → Goes s (order.copy_part_row s from number last pairs)
copy_part_row me s from number last pairs h =
    at-order me s number (λ o. order.is_source from o.phase && order.fits o pairs)
    (λ t o. order.copied_on t (record o { copied = o.copied ++ pairs }) from last) h
    (λ o e n. own_rows.copied_on (record s { order = None }) (record o { copied = o.copied ++ pairs }) from last n.leaf)

installed_row : (me : ℕ) (s : BrickState) (from : NodeNo) (number : ℕ) → Orderly me s.order → Goes s (order.installed_row s from number)
installed_row me s from number h =
    at-order me s number (λ o. order.is_installing o.phase) (λ t o. order.installed_in t (record o { waiting = without o.waiting from }) o.phase) h
    (λ o e n. own_rows.installed_in (record s { order = None }) (record o { waiting = without o.waiting from }) o.phase n.made)

-- a notice
order-goes : (me : ℕ) (s : BrickState) (y : NodeNo) (q : Option OpenOrder) → s.order ≡ q → Orderly me q
    → Goes s (order.with_order (notices.learns s y) (λ t o. notices.order_goes t o y o.phase) q)
order-goes me s y None e h = rests refl
order-goes me s y (Some o) e h =
    let n = named me o h in
    let u = record (notices.learns s y) { order = None } in
    ended s o (notices.order_goes u o y o.phase) e (own_rows.order_goes u o y o.phase n.leaf n.made)

order_part : (me : ℕ) (s : BrickState) (y : NodeNo) → Orderly me s.order → Goes s (notices.order_part (notices.learns s y) y)
order_part me s y h = goes-if s (notices.concerns_some y s.order) _ _ (λ e. order-goes me s y s.order refl h) (λ e. rests refl)

notice_row : (me : ℕ) (s : BrickState) (y : NodeNo) → Orderly me s.order → Goes s (notices.notice_row s y)
notice_row me s y h =
    let a = notices.order_part (notices.learns s y) y in
    let b = notices.resolving_part a.state y in
    let c = notices.deferred_part b.state in
    let d = notices.pending_part c.state y in
    then-plain s c d (then-plain s b c (then-plain s a b (order_part me s y h) (plain.all_hear a.state y news.Stopped))
    (plain.deferred_part b.state)) (plain.pending_part c.state y)

-- each letter
pub letter-leads : (me : ℕ) (s : BrickState) (from : NodeNo) (l : Letter) → Orderly me s.order → Goes s (live_brick_turn s from l)
letter-leads me s from (letter.Get txn caller call key name stamp) h = got s from txn key (get_refusal s key name stamp)
letter-leads me s from (letter.Prepare txn caller call below name stamp list op) h =
    voted s (calls.trim s txn.library below) from _ (update_denial (calls.trim s txn.library below) op name stamp) refl
letter-leads me s from (letter.Commit txn) h = plainly s _ (plain.commit_row s from txn)
letter-leads me s from (letter.Abort txn) h = plainly s _ (plain.abort_row s from txn)
letter-leads me s from (letter.Push leaf) h = take s leaf
letter-leads me s from (letter.Help txn list) h = plainly s _ (plain.help_row s from txn list)
letter-leads me s from (letter.Query txn list) h = plainly s _ (plain.query_row s from txn list)
letter-leads me s from (letter.Status txn status) h = plainly s _ (plain.all_hear s from (news.Told txn status))
letter-leads me s from (letter.Outcome txn commit) h = plainly s _ (plain.outcome_row s txn commit)
letter-leads me s from (letter.Lease number what) h = lease_row s from number what
letter-leads me s from (letter.Granted number leaf) h = granted_row me s from number leaf h
letter-leads me s from (letter.LeaseRefused number why) h = lease_refused_row me s from number why h
letter-leads me s from (letter.CopyAsk number name place) h =
    goes-if s (is_given s.locks.leases name from && is_some (get s.leaves name)) _ _ (λ e. rests refl) (λ e. rests refl)
letter-leads me s from (letter.CopyPart number last pairs) h = copy_part_row me s from number last pairs h
letter-leads me s from (letter.Install number leaf) h = install_row s from number leaf
letter-leads me s from (letter.Installed number name) h = installed_row me s from number h
letter-leads me s from letter.Notice h = notice_row me s from h
letter-leads me s from other h = rests refl

-- an order
split_free : (s : BrickState) (name : Name) (leaf : Leaf) → get s.leaves name ≡ Some leaf → any_under s.locks.pending leaf.name ≡ false
    → Goes s (order.split_opens s leaf)
split_free s name leaf there free =
    let u = record (orders.leasing s leaf.name s.number) { orders = s.orders + 1 } in
    opened (own_rows.leases_on u (order.new_split s leaf) refl)
  where
    opened : {k : LeafMap} → Ends s.leaves leaf.name Split k → Leads s k
    opened (leaves is) = rests is
    opened (serves made is-named is) = splits name leaf made there free is-named is

split_leaf : (s : BrickState) (name : Name) (leaf : Leaf) → get s.leaves name ≡ Some leaf → Goes s (order.split_leaf s leaf)
split_leaf s name leaf there =
    goes-if s (leaf.name.depth == DEPTH) _ _ (λ d. rests refl) (λ d. goes-if s (order.is_worn leaf) _ _ (λ w. rests refl)
    (λ w. goes-if s (is_some (leased s.locks.leases leaf.name)) _ _ (λ e. rests refl)
    (λ e. goes-if s (any_under s.locks.pending leaf.name) _ _ (λ f. rests refl) (λ f. split_free s name leaf there f))))

split_named : (s : BrickState) (name : Name) (leaf : Option Leaf) → get s.leaves name ≡ leaf → Goes s (order.split_named s leaf)
split_named s name None there = rests refl
split_named s name (Some leaf) there = split_leaf s name leaf there

join_order : (s : BrickState) (name : Name) (via : NodeNo) → Goes s (order.join_order s name via)
join_order s name via =
    goes-if s s.stopped _ _ (λ a. rests refl) (λ a. goes-if s (is_some s.order) _ _ (λ b. rests refl)
    (λ b. goes-if s (list_any (λ other. overlaps other name) (keys s.leaves)) _ _ (λ c. rests refl)
    (λ c. goes-if s (via == s.number || has_node s.known via) _ _ (λ d. rests refl) (λ d. rests refl))))

pub order-leads : (s : BrickState) (o : Order) → Goes s (brick_input s o)
order-leads s (the_order.Join brick name via) = join_order s name via
order-leads s (the_order.Split brick name) =
    goes-if s s.stopped _ _ (λ a. rests refl) (λ a. goes-if s (is_some s.order) _ _ (λ b. rests refl) (λ b. split_named s name (get s.leaves name) refl))
