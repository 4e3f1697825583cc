use Rattle.std.proofs.Common.{◌≡◌, inl, ℕ, ◌+◌, ◌++◌, ◌==◌, ◌&&◌, ◌||◌, Bool, true, false, Option, Some, None, refl, sym, ap, ◌∙◌}
use Rattle.std.proofs.lemmas.Bool.{both_ways}
use Rattle.std.specs.FinMap.{get, keys}
use Rattle.std.specs.List.{list_any}
use Rattle.std.specs.Prelude.{is_some, if◌then◌else◌}
use Rattle.dds_base.specs.BrickList.{has}
use Rattle.dds_base.specs.Name.{Name, overlaps}
use Rattle.dds_base.specs.NodeSet.{has_node}
use Rattle.dds_base.specs.Number.{Txn}
use Rattle.dds_base.specs.declared.leaf.Leaf.{Leaf}
use Rattle.dds_base.specs.declared.number.NodeNo.{NodeNo}
use Rattle.dds_base.specs.declared.op.Order.{Order}
use Rattle.dds_base.specs.declared.op.Order.TheVariants as the_order
use Rattle.dds_base.specs.declared.op.OrderReply.TheVariants as answered
use Rattle.dds_base.specs.declared.pending.Pending.{Pending}
use Rattle.dds_brick_rows.specs.Calls as calls
use Rattle.dds_brick_rows.specs.Refusal.{get_refusal, lease_refusal, update_denial}
use Rattle.dds_brick_rows.specs.Take as takes
use Rattle.dds_brick_rows.specs.declared.resolution.News.TheVariants as news
use Rattle.dds_core.specs.Brick.{brick_input, live_brick_turn}
use Rattle.dds_core.specs.Notice as notices
use Rattle.dds_groups.specs.Leaves.{successor}
use Rattle.dds_groups.specs.Take.{is_better_rival, may_take}
use Rattle.dds_law_leaf.proofs.Book.{Leafing, leafing}
use Rattle.dds_law_leaf.proofs.Plain as plain
use Rattle.dds_law_leaf.proofs.Turns.{Plain}
use Rattle.dds_law_own.proofs.Ways.{is-none, may-take}
use Rattle.dds_letters.specs.declared.letter.Letter.{Letter}
use Rattle.dds_letters.specs.declared.letter.Letter.TheVariants as letter
use Rattle.dds_letters.specs.declared.refusal.Denial.{Denial}
use Rattle.dds_letters.specs.declared.refusal.Refusal.{Refusal}
use Rattle.dds_letters.specs.declared.refusal.Wanted.{Wanted}
use Rattle.dds_letters.specs.declared.refusal.Wanted.TheVariants as wanted
use Rattle.dds_locks.specs.Leases.{is_given, lease_of, leased}
use Rattle.dds_locks.specs.Pending.{any_under}
use Rattle.dds_maps.specs.Own.{own_leaf}
use Rattle.dds_net.proofs.Puts.{if-keeps}
use Rattle.dds_order_rows.specs.Orders as orders
use Rattle.dds_order_rows.specs.OwnOrder as order
use Rattle.dds_parents.proofs.Makes.{served-leafing}
use Rattle.dds_states.specs.Turn.{BrickTurn, without}
use Rattle.dds_states.specs.declared.brick_state.BrickState.{BrickState}
use Rattle.dds_states.specs.declared.brick_state.OpenOrder.{OpenOrder}
use Rattle.dds_states.specs.declared.brick_state.Task.{Task}
use Rattle.dds_states.specs.declared.brick_state.Task.TheVariants.{Join, Split}
use Rattle.dds_world.specs.Groups.{letter_leaf}
use Rattle.dds_serving.proofs.Finishes as own
use Rattle.dds_serving.proofs.Finishes.{Finish, FinishOf, finish, goes_on}
use Rattle.dds_serving.specs.Once.{ChangeOnce, IsOpen, LeavesChangeOnce, TakeOnce}
use Rattle.dds_serving.specs.Once.ChangeOnce.{rests, serves}
use Rattle.dds_serving.specs.Once.IsOpen.{opens, was_open}
use Rattle.dds_serving.specs.Once.TakeOnce.{stays, takes as taken}

-- Each turn of a brick changes its leaves once at the most.

once-when : (s : BrickState) (told : Option Leaf) (c : Bool) {t u : BrickTurn} → (c ≡ true → ChangeOnce s told t) → (c ≡ false → ChangeOnce s told u)
    → ChangeOnce s told (if c then t else u)
once-when s told c {t = t} {u = u} f g = if-keeps (ChangeOnce s told) c t u f g

once-as : (s : BrickState) (told : Option Leaf) (t u : BrickTurn) → u.state.leaves ≡ t.state.leaves → ChangeOnce s told t → ChangeOnce s told u
once-as s told t u e (rests (stays f)) = rests (stays (e ∙ f))
once-as s told t u e (rests (taken mine leaf is there comes gone f)) = rests (taken mine leaf is there comes gone (e ∙ f))
once-as s told t u e (serves p made o h f) = serves p made o h (e ∙ f)

plain-once : (s : BrickState) (told : Option Leaf) (t : BrickTurn) → Plain (leafing s) t → ChangeOnce s told t
plain-once s told t p = rests (stays (ap (λ (x : Leafing). x.leaves) p.same))

-- the open order goes on, or is over
of-order : (s : BrickState) (told : Option Leaf) (p : OpenOrder) (t : BrickTurn) → IsOpen s p → FinishOf p s t → ChangeOnce s told t
of-order s told p t o (goes_on e) = rests (stays e)
of-order s told p t o (finish made h e) = serves p made o h (e ∙ sym (ap (λ (x : Leafing). x.leaves) (served-leafing s p made p.task)))

with-order : (s : BrickState) (told : Option Leaf) (row : BrickState → OpenOrder → BrickTurn) (q : Option OpenOrder) → s.order ≡ q
    → ((p : OpenOrder) → FinishOf p s (row (record s { order = None }) p)) → ChangeOnce s told (order.with_order s row q)
with-order s told row None e f = rests (stays refl)
with-order s told row (Some p) e f = of-order s told p (row (record s { order = None }) p) (was_open e) (f p)

at-order : (s : BrickState) (told : Option Leaf) (number : ℕ) (test : OpenOrder → Bool) (row : BrickState → OpenOrder → BrickTurn)
    → ((p : OpenOrder) → FinishOf p s (row (record s { order = None }) p)) → ChangeOnce s told (order.at_order s number test row)
at-order s told number test row f =
    once-when s told (order.is_at number test s.order) (λ h. with-order s told row s.order refl f) (λ h. rests (stays refl))

-- calls
got : (s : BrickState) (from : NodeNo) (txn : Txn) (key : ℕ) (r : Option Refusal) → ChangeOnce s None (calls.got s from txn key r)
got s from txn key None = rests (stays refl)
got s from txn key (Some why) = rests (stays refl)

voted : (s : BrickState) (from : NodeNo) (p : Pending) (d : Option Denial) → (calls.voted s from p d).state.leaves ≡ s.leaves
voted s from p None = refl
voted s from p (Some d) = refl

-- a leaf that is told
took-if : (s : BrickState) (mine leaf : Leaf) (t : BrickTurn) (c : Bool) → own_leaf s.leaves leaf.name ≡ Some mine
    → may_take s.number mine leaf (has_node s.known) (takes.is_free s mine.name) ≡ c
    → t.state.leaves ≡ (if c then record s { leaves = takes.replaced s.leaves mine leaf } else s).leaves → TakeOnce s (Some leaf) t
took-if s mine leaf t true there e f =
    let k = may-take s mine leaf there e in
    taken mine leaf refl there k.comes (λ no. k.maker) f
took-if s mine leaf t false there e f = stays f

pub took : (s : BrickState) (leaf : Leaf) (t : BrickTurn) (mine : Option Leaf) → own_leaf s.leaves leaf.name ≡ mine
    → t.state.leaves ≡ (takes.take_over s leaf mine).leaves → TakeOnce s (Some leaf) t
took s leaf t None e f = stays f
took s leaf t (Some mine) e f =
    took-if s mine leaf t (may_take s.number mine leaf (has_node s.known) (takes.is_free s mine.name)) e refl f

granted : (s : BrickState) (from : NodeNo) (number : ℕ) (name : Name) (leaf : Option Leaf) → (orders.granted s from number name leaf).state.leaves ≡ s.leaves
granted s from number name None = refl
granted s from number name (Some leaf) = refl

lease_answered : (s : BrickState) (from : NodeNo) (number : ℕ) (name : Name) (r : Option Refusal)
    → (orders.lease_answered s from number name r).state.leaves ≡ s.leaves
lease_answered s from number name None = granted s from number name (get s.leaves name)
lease_answered s from number name (Some why) = refl

pub lease_row : (s : BrickState) (from : NodeNo) (number : ℕ) (what : Wanted)
    → TakeOnce s (letter_leaf (letter.Lease number what)) (orders.lease_row s from number what)
lease_row s from number (wanted.Name name) = stays (lease_answered s from number name (lease_refusal s name None))
lease_row s from number (wanted.Leaf leaf) =
    let t = takes.take s leaf in
    took s leaf (orders.lease_row s from number (wanted.Leaf leaf)) (own_leaf s.leaves leaf.name) refl
    (lease_answered t from number leaf.name (lease_refusal t leaf.name (Some leaf.stamp)))

installed_over : (s : BrickState) (from : NodeNo) (number : ℕ) (leaf : Leaf) (mine : Option Leaf) → own_leaf s.leaves leaf.name ≡ mine
    → TakeOnce s (Some leaf) (orders.installed_over s from number leaf mine)
installed_over s from number leaf None there = stays refl
installed_over s from number leaf (Some mine) there =
    if-keeps (TakeOnce s (Some leaf)) (is_some (successor mine leaf)) _ _
    (λ e. taken mine leaf refl there (ap (λ c. c || is_better_rival (has_node s.known) mine leaf) e) (λ no. absurd (both_ways _ no e)) refl)
    (λ e. stays refl)

pub install_row : (s : BrickState) (from : NodeNo) (number : ℕ) (leaf : Leaf) → TakeOnce s (Some leaf) (orders.install_row s from number leaf)
install_row s from number leaf =
    if-keeps (TakeOnce s (Some leaf)) (is_some (lease_of s.locks.leases leaf.name from) && has leaf.list s.number) _ _
    (λ e. installed_over s from number leaf (own_leaf s.leaves leaf.name) refl) (λ e. stays refl)

-- a notice
notice_row : (s : BrickState) (y : NodeNo) → ChangeOnce s None (notices.notice_row s y)
notice_row s y =
    let a = notices.learns s y in
    let b = (notices.order_part a y).state in
    let c = (notices.resolving_part b y).state in
    let d = (notices.deferred_part c).state in
    let same : leafing (notices.pending_part d y).state ≡ leafing b =
    (plain.pending_part d y).same ∙ (plain.deferred_part c).same ∙ (plain.all_hear b y news.Stopped).same in
    once-as s None (notices.order_part a y) (notices.notice_row s y) (ap (λ (x : Leafing). x.leaves) same)
    (learned (once-when a None (notices.concerns_some y a.order)
    (λ e. with-order a None (λ t o. notices.order_goes t o y o.phase) a.order refl (λ p. own.order_goes p (record a { order = None }) y p.phase refl))
    (λ e. rests (stays refl))))
  where
    again : (p : OpenOrder) (made : Leaf) (t : Task) → (order.serving (notices.learns s y) p made t).leaves ≡ (order.serving s p made t).leaves
    again p made (Join via) = refl
    again p made Split = refl

    learned : {t : BrickTurn} → ChangeOnce (notices.learns s y) None t → ChangeOnce s None t
    learned (rests (stays e)) = rests (stays e)
    learned (rests (taken mine leaf is there comes gone e)) = cc
    learned (serves p made (was_open o) h e) = serves p made (was_open o) h (e ∙ again p made p.task)
    learned (serves p made (opens at leaf n there l name task phase) h e) =
        serves p made (opens at leaf n there l name task phase) h (e ∙ again p made p.task)

letter-once : (s : BrickState) (from : NodeNo) (l : Letter) → ChangeOnce s (letter_leaf l) (live_brick_turn s from l)
letter-once s from (letter.Get txn caller call key name stamp) = got s from txn key (get_refusal s key name stamp)
letter-once s from (letter.Prepare txn caller call below name stamp list op) =
    rests (stays (voted (calls.trim s txn.library below) from (record { txn = txn; caller = caller; call = call; op = op; list = list })
    (update_denial s op name stamp)))
letter-once s from (letter.Commit txn) = plain-once s None _ (plain.commit_row s from txn)
letter-once s from (letter.Abort txn) = plain-once s None _ (plain.abort_row s from txn)
letter-once s from (letter.Push leaf) = rests (took s leaf (takes.push_row s leaf) (own_leaf s.leaves leaf.name) refl refl)
letter-once s from (letter.Help txn list) = plain-once s None _ (plain.help_row s from txn list)
letter-once s from (letter.Query txn list) = plain-once s None _ (plain.query_row s from txn list)
letter-once s from (letter.Status txn status) = plain-once s None _ (plain.all_hear s from (news.Told txn status))
letter-once s from (letter.Outcome txn commit) = plain-once s None _ (plain.outcome_row s txn commit)
letter-once s from (letter.Lease number what) = rests (lease_row s from number what)
letter-once s from (letter.Granted number leaf) =
    at-order s (Some leaf) number (order.takes_grant s.number leaf) (λ t o. order.grants t (order.with_grant o from) from leaf o.task)
    (λ p. own.grants p (record s { order = None }) (order.with_grant p from) from leaf p.task refl (refl, refl, refl, inl refl))
letter-once s from (letter.LeaseRefused number why) =
    at-order s _ number (λ o. order.is_leasing o.phase) (λ t o. order.ends t o (answered.Refused (order.met_of why from)))
    (λ p. own.ends p (record s { order = None }) p (answered.Refused (order.met_of why from)))
letter-once s from (letter.CopyAsk number name place) =
    once-when s None (is_given s.locks.leases name from && is_some (get s.leaves name)) (λ e. rests (stays refl)) (λ e. rests (stays refl))
letter-once s from (letter.CopyPart number last pairs) =
    at-order s None number (λ o. order.is_source from o.phase && order.fits o pairs)
    (λ t o. order.copied_on t (record o { copied = o.copied ++ pairs }) from last)
    (λ p. own.copied_on p (record s { order = None }) (record p { copied = p.copied ++ pairs }) from last (refl, refl, refl, inl refl) refl)
letter-once s from (letter.Install number leaf) = rests (install_row s from number leaf)
letter-once s from (letter.Installed number name) =
    at-order s None number (λ o. order.is_installing o.phase) (λ t o. order.installed_in t (record o { waiting = without o.waiting from }) o.phase)
    (λ p. own.installed_in p (record s { order = None }) (record p { waiting = without p.waiting from }) p.phase refl (refl, refl, refl, inl refl))
letter-once s from letter.Notice = notice_row s from
letter-once s from other = rests (stays refl)

-- orders
split_leaf : (s : BrickState) (name : Name) (leaf : Leaf) → s.order ≡ None → get s.leaves name ≡ Some leaf → ChangeOnce s None (order.split_leaf s leaf)
split_leaf s name leaf none there =
    let u = record (orders.leasing s leaf.name s.number) { orders = s.orders + 1 } in
    let p = order.new_split s leaf in
    once-when s None (leaf.name.depth == 16) (λ d. rests (stays refl)) (λ d. once-when s None (order.is_worn leaf) (λ w. rests (stays refl))
    (λ w. once-when s None (is_some (leased s.locks.leases leaf.name)) (λ e. rests (stays refl))
    (λ e. once-when s None (any_under s.locks.pending leaf.name) (λ f. rests (stays refl))
    (λ f. once-as s None (order.leases_on u p) (order.split_opens s leaf) refl
    (of-order s None p (order.leases_on u p) (opens name leaf none there refl refl refl refl) (own.leases_on p u p (refl, refl, refl, inl refl)))))))

split_named : (s : BrickState) (name : Name) (leaf : Option Leaf) → s.order ≡ None → get s.leaves name ≡ leaf
    → ChangeOnce s None (order.split_named s leaf)
split_named s name None none there = rests (stays refl)
split_named s name (Some leaf) none there = split_leaf s name leaf none there

order-once : (s : BrickState) (o : Order) → ChangeOnce s None (brick_input s o)
order-once s (the_order.Join brick name via) =
    once-when s None s.stopped (λ e. rests (stays refl)) (λ e. once-when s None (is_some s.order) (λ f. rests (stays refl))
    (λ f. once-when s None (list_any (λ other. overlaps other name) (keys s.leaves)) (λ g. rests (stays refl))
    (λ g. once-when s None (via == s.number || has_node s.known via) (λ i. rests (stays refl)) (λ i. rests (stays refl)))))
order-once s (the_order.Split brick name) =
    once-when s None s.stopped (λ e. rests (stays refl))
    (λ e. once-when s None (is_some s.order) (λ f. rests (stays refl)) (λ f. split_named s name (get s.leaves name) (is-none s.order f) refl))

pub change-once : LeavesChangeOnce
change-once = record { letters = letter-once; orders = order-once }
