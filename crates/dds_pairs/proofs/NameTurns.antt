use Rattle.std.proofs.Common.{◌≡◌, ℕ, ◌≤◌, ◌==◌, Bool, true, false, Option, Some, None, [], ◌∷◌, refl, ap}
use Rattle.std.proofs.lemmas.Bool.{both_ways, eq-eqb}
use Rattle.std.specs.FinMap.{get}
use Rattle.std.specs.Prelude.{if◌then◌else◌}
use Rattle.dds_base.specs.Name.{Name}
use Rattle.dds_base.specs.Number.{Txn}
use Rattle.dds_base.specs.declared.leaf.Leaf.{Leaf}
use Rattle.dds_base.specs.declared.number.NodeNo.{NodeNo}
use Rattle.dds_base.specs.declared.op.Order.{Order}
use Rattle.dds_base.specs.declared.op.Order.TheVariants as the_order
use Rattle.dds_base.specs.declared.op.OrderReply.TheVariants as answered
use Rattle.dds_base.specs.declared.pending.Pending.{Pending}
use Rattle.dds_brick_rows.specs.Calls as calls
use Rattle.dds_brick_rows.specs.Refusal.{get_refusal, has_no_room}
use Rattle.dds_brick_rows.specs.Refusal.{update_denial, update_refusal}
use Rattle.dds_brick_rows.specs.Take as takes
use Rattle.dds_brick_rows.specs.declared.resolution.News.TheVariants as news
use Rattle.dds_core.specs.Brick.{brick_input, live_brick_turn}
use Rattle.dds_core.specs.Notice as notices
use Rattle.dds_groups.specs.Leaves.{sibling}
use Rattle.dds_letters.specs.declared.letter.Letter.{Letter}
use Rattle.dds_letters.specs.declared.letter.Letter.TheVariants as letter
use Rattle.dds_letters.specs.declared.refusal.Denial.{Denial}
use Rattle.dds_letters.specs.declared.refusal.Refusal.{Refusal}
use Rattle.dds_letters.specs.declared.refusal.Wanted.{Wanted}
use Rattle.dds_letters.specs.declared.refusal.Wanted.TheVariants as wanted
use Rattle.dds_maps.specs.Own.{own_leaf}
use Rattle.dds_order_rows.specs.Orders as orders
use Rattle.dds_states.specs.Turn.{sends, without}
use Rattle.dds_states.specs.declared.brick_state.BrickState.{BrickState}
use Rattle.dds_states.specs.declared.brick_state.OpenOrder.{OpenOrder}
use Rattle.dds_states.specs.declared.brick_state.OrderPhase.{OrderPhase}
use Rattle.dds_states.specs.declared.brick_state.OrderPhase.TheVariants.{Leasing, Copying, Installing}
use Rattle.dds_trie.specs.Trie.{LeafMap}
use Rattle.dds_world.specs.Groups.{made_leaf}
use Rattle.dds_law_leaf.proofs.Book.{Each, InLetter, InMap}
use Rattle.dds_law_leaf.proofs.Bricks.{OfDenial, OfRefusal, no-leaf, of-denial, of-get, of-lease, of-update}
use Rattle.dds_law_leaf.proofs.Maps.{in-for, in-put, in-remove}
use Rattle.dds_law_leaf.proofs.Plain as plain
use Rattle.dds_law_own.proofs.Disjoint.{Replaces, half, replaces, same_name}
use Rattle.dds_pairs.proofs.NameOrders as own
use Rattle.dds_pairs.proofs.Names.{Fit, Fits, IsFit, fits, fits-if, fits-plain, fits-still, other-named, then-plain}

-- Leaves at a brick, and in what it sends, have partitions' names after its turn.

-- leaves stand under their names
abbrev pub Keyed : LeafMap → Type 0
Keyed m = (name : Name) (leaf : Leaf) → get m name ≡ Some leaf → leaf.name ≡ name

-- a leaf that is taken
in-when : (c : Bool) (m n : LeafMap) → (c ≡ true → InMap IsFit m) → (c ≡ false → InMap IsFit n) → InMap IsFit (if c then m else n)
in-when true m n h k = h refl
in-when false m n h k = k refl

one-of : (b : Bool) (x y : Leaf) → IsFit x → IsFit y → IsFit (if b then x else y)
one-of true x y h k = h
one-of false x y h k = k

deep-of : (m : LeafMap) (mine leaf : Leaf) → Replaces m mine leaf → (mine.name.depth == leaf.name.depth) ≡ false → 1 ≤ leaf.name.depth
deep-of m mine leaf (same_name there is) e =
    absurd (both_ways (mine.name.depth == leaf.name.depth) e (eq-eqb mine.name.depth leaf.name.depth (ap (λ (n : Name). n.depth) is)))
deep-of m mine leaf (half there is deep) e = deep

in-replaced : (m : LeafMap) (mine leaf : Leaf) → Keyed m → own_leaf m leaf.name ≡ Some mine → IsFit leaf → InMap IsFit m
    → InMap IsFit (takes.replaced m mine leaf)
in-replaced m mine leaf keyed there k h =
    in-when (mine.name.depth == leaf.name.depth) _ _ (λ e. in-put IsFit m leaf k h) (λ e.
    let other = other-named leaf.name k (deep-of m mine leaf (replaces m mine leaf (λ n i. keyed n mine i) there) e) in
    let low = one-of (takes.is_low leaf.name) leaf (sibling leaf) k other in
    let high = one-of (takes.is_low leaf.name) (sibling leaf) leaf other k in
    in-put IsFit _ (takes.high_of leaf) high (in-put IsFit _ (takes.low_of leaf) low (in-remove IsFit m mine.name h)))

-- calls
got : (s : BrickState) (from : NodeNo) (txn : Txn) (key : ℕ) (r : Option Refusal) → Fit s → OfRefusal IsFit r
    → Fits (calls.got s from txn key r)
got s from txn key None h k = fits (calls.got s from txn key None) h (no-leaf IsFit txn (get s.pairs key), tt)
got s from txn key (Some why) h k = fits (calls.got s from txn key (Some why)) h (k, tt)

voted : (s : BrickState) (from : NodeNo) (p : Pending) (d : Option Denial) → Fit s → OfDenial IsFit d → Fits (calls.voted s from p d)
voted s from p None h k = fits (calls.voted s from p None) (record { is = h.is }) (tt, tt)
voted s from p (Some d) h k = fits (calls.voted s from p (Some d)) h (k, tt)

-- leaves that are told
over : (s : BrickState) (mine leaf : Leaf) → Keyed s.leaves → own_leaf s.leaves leaf.name ≡ Some mine → Fit s → IsFit leaf
    → Fit (record s { leaves = takes.replaced s.leaves mine leaf })
over s mine leaf keyed there h k = record { is = (in-replaced s.leaves mine leaf keyed there k h.is.0, h.is.1) }

took-if : (c : Bool) (s u : BrickState) → Fit u → Fit s → Fit (if c then u else s)
took-if true s u h k = h
took-if false s u h k = k

took : (s : BrickState) (leaf : Leaf) (mine : Option Leaf) → Keyed s.leaves → own_leaf s.leaves leaf.name ≡ mine → Fit s → IsFit leaf
    → Fit (takes.take_over s leaf mine)
took s leaf None keyed there h k = h
took s leaf (Some mine) keyed there h k = took-if _ s _ (over s mine leaf keyed there h k) h

take : (s : BrickState) (leaf : Leaf) → Keyed s.leaves → Fit s → IsFit leaf → Fit (takes.take s leaf)
take s leaf keyed h k = took s leaf (own_leaf s.leaves leaf.name) keyed refl h k

-- orders of others
granted : (s : BrickState) (from : NodeNo) (order : ℕ) (name : Name) (leaf : Option Leaf) → Fit s → Each IsFit leaf
    → Fits (orders.granted s from order name leaf)
granted s from order name None h k = fits-still s h
granted s from order name (Some leaf) h k = fits (orders.granted s from order name (Some leaf)) (record { is = h.is }) (k, tt)

lease_answered : (s : BrickState) (from : NodeNo) (order : ℕ) (name : Name) (r : Option Refusal) → Fit s → OfRefusal IsFit r
    → Fits (orders.lease_answered s from order name r)
lease_answered s from order name None h k = granted s from order name (get s.leaves name) h (h.is.0 name)
lease_answered s from order name (Some why) h k = fits (orders.lease_answered s from order name (Some why)) h (k, tt)

lease_row : (s : BrickState) (from : NodeNo) (order : ℕ) (what : Wanted) → Keyed s.leaves → Fit s → InLetter IsFit (letter.Lease order what)
    → Fits (orders.lease_row s from order what)
lease_row s from order (wanted.Name name) keyed h k = lease_answered s from order name _ h (of-lease IsFit s name None h.is.0)
lease_row s from order (wanted.Leaf leaf) keyed h k =
    let t = take s leaf keyed h k in
    lease_answered (takes.take s leaf) from order leaf.name _ t (of-lease IsFit (takes.take s leaf) leaf.name (Some leaf.stamp) t.is.0)

installed_over : (s : BrickState) (from : NodeNo) (order : ℕ) (leaf : Leaf) (mine : Option Leaf) → Keyed s.leaves → own_leaf s.leaves leaf.name ≡ mine
    → Fit s → IsFit leaf → Fits (orders.installed_over s from order leaf mine)
installed_over s from order leaf None keyed there h k = fits-still s h
installed_over s from order leaf (Some mine) keyed there h k =
    fits-if _ (fits (sends (record s { leaves = takes.replaced s.leaves mine leaf }) ((from, letter.Installed order mine.name) ∷ []))
    (over s mine leaf keyed there h k) (tt, tt)) (fits-still s h)

-- a notice
copies_again : (s : BrickState) (o : OpenOrder) (leaf : Option Leaf) → Fit s → own.Held o → Fits (notices.copies_again s o leaf)
copies_again s o None h k = own.going_on s o h k
copies_again s o (Some leaf) h k = own.copies s o leaf h k

order_goes : (s : BrickState) (o : OpenOrder) (y : NodeNo) (phase : OrderPhase) → Fit s → own.Held o → Each (own.IsMade o.task) (made_leaf phase)
    → Fits (notices.order_goes s o y phase)
order_goes s o y Leasing h k m = fits-if _ (own.ends s o answered.NoSource h) (own.leases_on s (record o { waiting = without o.waiting y }) h k)
order_goes s o y (Copying source) h k m = copies_again s o o.leaf h k
order_goes s o y (Installing made) h k m = own.installs_on s (record o { waiting = without o.waiting y }) made h k m

order_part : (s : BrickState) (y : NodeNo) → Fit s → Fits (notices.order_part s y)
order_part s y h =
    fits-if _ (own.with_order s (λ t o. notices.order_goes t o y o.phase) s.order h h.is.1
    (λ t o l k. order_goes t o y o.phase l k (own.all-made o.task o.leaf (made_leaf o.phase) k.1 k.2)))
    (fits-still s h)

notice_row : (s : BrickState) (y : NodeNo) → Fit s → Fits (notices.notice_row s y)
notice_row s y h =
    then-plain _ (λ t. notices.pending_part t y) (then-plain _ notices.deferred_part (then-plain _ (λ t. notices.resolving_part t y)
    (order_part (notices.learns s y) y (record { is = h.is })) (λ u. plain.all_hear u y news.Stopped))
    (λ u. plain.deferred_part u)) (λ u. plain.pending_part u y)

pub brick-fits : (s : BrickState) (from : NodeNo) (l : Letter) → Keyed s.leaves → Fit s → InLetter IsFit l → Fits (live_brick_turn s from l)
brick-fits s from (letter.Get txn caller call key name stamp) keyed h k =
    got s from txn key (get_refusal s key name stamp) h (of-get IsFit s key name stamp h.is.0)
brick-fits s from (letter.Prepare txn caller call below name stamp list op) keyed h k =
    let u = calls.trim s txn.library below in
    voted u from (record { txn = txn; caller = caller; call = call; op = op; list = list }) (update_denial s op name stamp) (record { is = h.is })
    (of-denial IsFit (update_refusal s _ name stamp) (has_no_room s op) (of-update IsFit s _ name stamp h.is.0))
brick-fits s from (letter.Commit txn) keyed h k = fits-plain s _ h (plain.commit_row s from txn)
brick-fits s from (letter.Abort txn) keyed h k = fits-plain s _ h (plain.abort_row s from txn)
brick-fits s from (letter.Push leaf) keyed h k = fits-still (takes.take s leaf) (take s leaf keyed h k)
brick-fits s from (letter.MapAsk txn caller call key) keyed h k = fits (calls.map_ask_row s from txn key) h (in-for IsFit s.leaves key h.is.0, tt)
brick-fits s from (letter.Help txn list) keyed h k = fits-plain s _ h (plain.help_row s from txn list)
brick-fits s from (letter.Query txn list) keyed h k = fits-plain s _ h (plain.query_row s from txn list)
brick-fits s from (letter.Status txn status) keyed h k = fits-plain s _ h (plain.all_hear s from (news.Told txn status))
brick-fits s from (letter.Outcome txn commit) keyed h k = fits-plain s _ h (plain.outcome_row s txn commit)
brick-fits s from (letter.Lease number what) keyed h k = lease_row s from number what keyed h k
brick-fits s from (letter.Granted number leaf) keyed h k = own.granted_row s from number leaf h k
brick-fits s from (letter.LeaseRefused number why) keyed h k = own.lease_refused_row s from number why h
brick-fits s from (letter.Release number name) keyed h k = fits-still (orders.releasing s name from) (record { is = h.is })
brick-fits s from (letter.CopyAsk number name after) keyed h k =
    fits-if _ (fits (orders.copy_part (orders.pairs_after s.pairs name after) from number s) h (tt, tt)) (fits-still s h)
brick-fits s from (letter.CopyPart number last pairs) keyed h k = own.copy_part_row s from number last pairs h
brick-fits s from (letter.Install number leaf) keyed h k =
    fits-if _ (installed_over s from number leaf (own_leaf s.leaves leaf.name) keyed refl h k) (fits-still s h)
brick-fits s from (letter.Installed number name) keyed h k = own.installed_row s from number h
brick-fits s from letter.Notice keyed h k = notice_row s from h
brick-fits s from other keyed h k = fits-still s h

pub order-fits : (s : BrickState) (o : Order) → Fit s → Fits (brick_input s o)
order-fits s (the_order.Join brick name via) h = own.join_order s name via h
order-fits s (the_order.Split brick name) h = own.split_order s name h
