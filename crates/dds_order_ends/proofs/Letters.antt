use Rattle.std.proofs.Common.{◌≡◌, ℕ, ◌+◌, ◌<◌, ◌==◌, ◌&&◌, ◌||◌, ◌++◌, Bool, true, false, not, Option, Some, None, List, [], ◌∷◌, refl, sym, ap, ◌∙◌, subst}
use Rattle.std.proofs.lemmas.Bool.{and_parts, both_ways, ne_eqb}
use Rattle.std.specs.FinMap.{get, keys}
use Rattle.std.specs.List.{list_any}
use Rattle.std.specs.Prelude.{is_none, is_some, if◌then◌else◌}
use Rattle.dds_base.specs.BrickList.{has}
use Rattle.dds_base.specs.Name.{Name, overlaps, same_name}
use Rattle.dds_base.specs.NodeSet.{has_node, with_node}
use Rattle.dds_base.specs.declared.leaf.Leaf.{Leaf}
use Rattle.dds_base.specs.declared.name.TheConstants.{DEPTH}
use Rattle.dds_base.specs.declared.node_set.NodeSet.{NodeSet}
use Rattle.dds_base.specs.declared.number.NodeNo.{NodeNo}
use Rattle.dds_base.specs.declared.op.Met.TheVariants as met
use Rattle.dds_base.specs.declared.op.Order.TheVariants as the_order
use Rattle.dds_base.specs.declared.op.Order.{Order}
use Rattle.dds_base.specs.declared.op.OrderReply.TheVariants as answered
use Rattle.dds_base.specs.declared.op.OrderReply.{OrderReply}
use Rattle.dds_base.specs.declared.pair.Pair.{Pair}
use Rattle.dds_brick_rows.specs.Refusal.{is_join}
use Rattle.dds_core.proofs.Known.{has-with}
use Rattle.dds_core.proofs.Tells.{is_notice}
use Rattle.dds_core.specs.Brick.{brick_input, live_brick_turn}
use Rattle.dds_core.specs.Notice as notices
use Rattle.dds_law_leaf.proofs.Book.{Leafing}
use Rattle.dds_law_notice.proofs.Views.{View, brick-does, brick-takes, view}
use Rattle.dds_law_notice.proofs.Views.{learns as view_learns}
use Rattle.dds_letters.specs.declared.letter.Letter.TheVariants as letter
use Rattle.dds_letters.specs.declared.letter.Letter.{Letter}
use Rattle.dds_letters.specs.declared.refusal.Refusal.{Refusal}
use Rattle.dds_locks.specs.Leases.{leased}
use Rattle.dds_locks.specs.Pending.{any_under}
use Rattle.dds_net.specs.Net.{a_brick}
use Rattle.dds_order_rows.specs.Orders as orders
use Rattle.dds_order_rows.specs.OwnOrder as order
use Rattle.dds_order_talk.proofs.BrickSide.{leasing-is}
use Rattle.dds_order_talk.proofs.Members.{in-without, one-only}
use Rattle.dds_share.proofs.JoinTurns as join_turns
use Rattle.dds_share.proofs.JoinTurns.{IsOfOrder, Rests, copies_on, letter-rests, notice-same, of_order, refuses, rests, says_so, tells}
use Rattle.dds_states.specs.Turn.{BrickTurn, still, without}
use Rattle.dds_states.specs.declared.brick_state.BrickState.{BrickState}
use Rattle.dds_states.specs.declared.brick_state.OpenOrder.{OpenOrder}
use Rattle.dds_states.specs.declared.brick_state.OrderPhase.TheVariants.{Copying, Installing, Leasing}
use Rattle.dds_states.specs.declared.brick_state.OrderPhase.{OrderPhase}
use Rattle.dds_states.specs.declared.brick_state.Task.TheVariants.{Join}
use Rattle.dds_states.specs.declared.brick_state.Task.{Task}
use Rattle.dds_order_ends.proofs.Rows as rows
use Rattle.dds_order_ends.proofs.Rows.{After, OrderWaits, after-if, installing-unknown, leasing-unknown, leasing-waits, none-waits, others-unknown, that-waits}
use Rattle.dds_order_ends.specs.Waiting.{Waits, WaitsForWay, awaited}

-- A live brick's turn at a letter, or at an order that it is told, keeps that its open order waits for somebody that may live.

-- what the brick knows afterwards
heard-known : (s : BrickState) (from : NodeNo) (l : Letter) → s.stopped ≡ false
    → (live_brick_turn s from l).state.known ≡ (view_learns from l (view (a_brick s))).known
heard-known s from l live = ap (λ (v : View). v.known) (brick-takes s from l live).after

told-known : (s : BrickState) (o : Order) → (brick_input s o).state.known ≡ s.known
told-known s o = ap (λ (v : View). v.known) (brick-does s o).after

-- a letter to the open order
with-order : (known : NodeSet) (s : BrickState) (number : ℕ) (test : OpenOrder → Bool) (row : BrickState → OpenOrder → BrickTurn) (q : Option OpenOrder)
    → s.order ≡ q → order.is_at number test q ≡ true → OrderWaits known s.order
    → ((o : OpenOrder) → s.order ≡ Some o → test o ≡ true → After known (row (record s { order = None }) o)) → After known (order.with_order s row q)
with-order known s number test row None e at h f = cc
with-order known s number test row (Some o) e at h f = f o e (and_parts (o.number == number) (test o) at).1

at-order : (known : NodeSet) (s : BrickState) (number : ℕ) (test : OpenOrder → Bool) (row : BrickState → OpenOrder → BrickTurn) → OrderWaits known s.order
    → ((o : OpenOrder) → s.order ≡ Some o → test o ≡ true → After known (row (record s { order = None }) o))
    → After known (order.at_order s number test row)
at-order known s number test row h f =
    after-if known (order.is_at number test s.order) (order.with_order s row s.order) (still s)
    (λ at. with-order known s number test row s.order refl at h f) (λ at. h)

granted-row : (s : BrickState) (from : NodeNo) (number : ℕ) (leaf : Leaf) → OrderWaits s.known s.order
    → After s.known (order.granted_row s from number leaf)
granted-row s from number leaf h =
    at-order s.known s number (order.takes_grant s.number leaf) (λ t o. order.grants t (order.with_grant o from) from leaf o.task) h
    (λ o e g.
    let leasing = (and_parts (order.is_leasing o.phase) (not (is_join o.task) || (same_name leaf.name o.name && not (has leaf.list s.number))) g).0 in
    rows.granted (record s { order = None }) s.known o from leaf refl (leasing-is o.phase leasing) (h o e))

refused-row : (s : BrickState) (from : NodeNo) (number : ℕ) (why : Refusal) → OrderWaits s.known s.order
    → After s.known (order.lease_refused_row s from number why)
refused-row s from number why h =
    at-order s.known s number (λ o. order.is_leasing o.phase) (λ t o. order.ends t o (answered.Refused (order.met_of why from))) h
    (λ o e g. none-waits s.known)

part-row : (s : BrickState) (from : NodeNo) (number : ℕ) (last : Bool) (pairs : List Pair) → OrderWaits s.known s.order
    → After s.known (order.copy_part_row s from number last pairs)
part-row s from number last pairs h =
    at-order s.known s number (λ o. order.is_source from o.phase && order.fits o pairs)
    (λ t o. order.copied_on t (record o { copied = o.copied ++ pairs }) from last) h
    (λ o e g. rows.copied (record s { order = None }) o from last pairs (h o e))

installed-row : (s : BrickState) (from : NodeNo) (number : ℕ) → OrderWaits s.known s.order → After s.known (order.installed_row s from number)
installed-row s from number h =
    at-order s.known s number (λ o. order.is_installing o.phase) (λ t o. order.installed_in t (record o { waiting = without o.waiting from }) o.phase) h
    (λ o e g. rows.installed_in (record s { order = None }) o from o.phase refl g (h o e))

-- a notice
abbrev with_it : BrickState → NodeNo → NodeSet
with_it s y = with_node s.known y

still-unknown : (known : NodeSet) (y m : ℕ) → y < 80 → has_node known m ≡ false → (m ≡ y → ⊥) → has_node (with_node known y) m ≡ false
still-unknown known y m below e ne = has-with known y m below ∙ ap (λ c. c || has_node known m) (ne_eqb m y ne) ∙ e

left-unknown : (known : NodeSet) (ns : List NodeNo) (y : ℕ) → y < 80 → ((m : NodeNo) → has ns m ≡ true → has_node known m ≡ false)
    → (m : NodeNo) → has (without ns y) m ≡ true → has_node (with_node known y) m ≡ false
left-unknown known ns y below f m h = let r = in-without ns y m h in still-unknown known y m below (f m r.1) r.0

right-false : (a b : Bool) → (a || b) ≡ false → b ≡ false
right-false true b h = cc
right-false false b h = h

not-awaited : (o : OpenOrder) (y : NodeNo) (p : OrderPhase) → notices.concerns_in o y p ≡ false → has (awaited p o.waiting) y ≡ false
not-awaited o y Leasing h = right-false (notices.is_lost o y o.task) (has o.waiting y) h
not-awaited o y (Copying source) h = ap (λ c. c || false) h
not-awaited o y (Installing made) h = h

unconcerned : (known : NodeSet) (o : OpenOrder) (y : NodeNo) → y < 80 → notices.concerns y o ≡ false → Waits known o → Waits (with_node known y) o
unconcerned known o y below c h =
    let off = not-awaited o y o.phase c in
    record {
      some = h.some;
      unknown = λ m k. still-unknown known y m below (h.unknown m k)
          (λ e. both_ways (has (awaited o.phase o.waiting) y) off (ap (has (awaited o.phase o.waiting)) (sym e) ∙ k));
      first = h.first;
    }

one-left : (via y : ℕ) → (via == y) ≡ false → without (via ∷ []) y ≡ via ∷ []
one-left via y e = ap (λ c. if not c then via ∷ [] else []) e

not-lost : (o : OpenOrder) (y : NodeNo) (t : Task) (via : NodeNo) → t ≡ Join via → o.leaf ≡ None → notices.is_lost o y t ≡ false → (via == y) ≡ false
not-lost o y t via e none h =
    sym (ap (λ q. is_none q && via == y) none) ∙ sym (ap (notices.is_lost o y) e) ∙ h

way-left : (o : OpenOrder) (y : NodeNo) → notices.is_lost o y o.task ≡ false → o.leaf ≡ None → WaitsForWay o
    → WaitsForWay (record o { waiting = without o.waiting y })
way-left o y h none w =
    record {
      via = w.via;
      task = w.task;
      phase = w.phase;
      waiting = ap (λ ns. without ns y) w.waiting ∙ one-left w.via y (not-lost o y o.task w.via w.task none h);
    }

copies-again : (s : BrickState) (o : OpenOrder) (q : Option Leaf) → o.leaf ≡ q → (o.leaf ≡ None → ⊥) → After s.known (notices.copies_again s o q)
copies-again s o None e f = absurd (f e)
copies-again s o (Some leaf) e f = rows.copies s o leaf e

not-leasing : (o : OpenOrder) (p : OrderPhase) → o.phase ≡ p → order.is_leasing p ≡ false → (o.leaf ≡ None → WaitsForWay o) → o.leaf ≡ None → ⊥
not-leasing o p e off f none = both_ways (order.is_leasing p) off (sym (ap order.is_leasing e) ∙ ap order.is_leasing (f none).phase)

order-goes : (s : BrickState) (known : NodeSet) (o : OpenOrder) (y : NodeNo) (p : OrderPhase) → y < 80 → s.known ≡ with_node known y → o.phase ≡ p
    → Waits known o → After s.known (notices.order_goes s o y p)
order-goes s known o y Leasing below is e h =
    after-if s.known (notices.is_lost o y o.task) (order.ends s o answered.NoSource)
    (order.leases_on s (record o { waiting = without o.waiting y }))
    (λ c. none-waits s.known)
    (λ c. rows.leases_on s (record o { waiting = without o.waiting y }) e
    (λ m k. ap (λ x. has_node x m) is ∙ left-unknown known o.waiting y below (leasing-unknown known o e h) m k)
    (λ n. way-left o y c n (h.first n)))
order-goes s known o y (Copying source) below is e h = copies-again s o o.leaf refl (not-leasing o (Copying source) e refl h.first)
order-goes s known o y (Installing made) below is e h =
    rows.installs_on s (record o { waiting = without o.waiting y }) made e
    (λ m k. ap (λ x. has_node x m) is ∙ left-unknown known o.waiting y below (installing-unknown known o made e h) m k)
    (not-leasing o (Installing made) e refl h.first)

part-of : (s : BrickState) (y : NodeNo) (q : Option OpenOrder) → s.order ≡ q → y < 80 → OrderWaits s.known s.order
    → After (with_it s y) (if notices.concerns_some y q then order.with_order (notices.learns s y) (λ t o. notices.order_goes t o y o.phase) q
    else still (notices.learns s y))
part-of s y None e below h = subst (OrderWaits (with_it s y)) (sym e) (none-waits (with_it s y))
part-of s y (Some o) e below h =
    after-if (with_it s y) (notices.concerns y o) (notices.order_goes (record (notices.learns s y) { order = None }) o y o.phase)
    (still (notices.learns s y))
    (λ c. order-goes (record (notices.learns s y) { order = None }) s.known o y o.phase below refl refl (h o e))
    (λ c. subst (OrderWaits (with_it s y)) (sym e) (that-waits (with_it s y) o (unconcerned s.known o y below c (h o e))))

notice-row : (s : BrickState) (y : NodeNo) → y < 80 → OrderWaits s.known s.order → After (with_it s y) (notices.notice_row s y)
notice-row s y below h =
    subst (OrderWaits (with_it s y)) (sym (ap (λ (x : Leafing). x.order) (notice-same s y))) (part-of s y s.order refl below h)

-- each letter
not-told : (s : BrickState) (from : NodeNo) (l : Letter) → IsOfOrder l → is_notice l ≡ false → OrderWaits s.known s.order
    → After s.known (live_brick_turn s from l)
not-told s from _ (join_turns.grants number leaf) n h = granted-row s from number leaf h
not-told s from _ (refuses number why) n h = refused-row s from number why h
not-told s from _ (copies_on number last pairs) n h = part-row s from number last pairs h
not-told s from _ (says_so number name) n h = installed-row s from number h
not-told s from _ tells n h = cc

rested : (s : BrickState) (from : NodeNo) (l : Letter) → Rests s l (live_brick_turn s from l) → is_notice l ≡ false → OrderWaits s.known s.order
    → After s.known (live_brick_turn s from l)
rested s from l (rests e f) n h = subst (OrderWaits s.known) (sym e) h
rested s from l (of_order it) n h = not-told s from l it n h

letter-after : (s : BrickState) (from : NodeNo) (l : Letter) → from < 80 → OrderWaits s.known s.order
    → OrderWaits (view_learns from l (view (a_brick s))).known (live_brick_turn s from l).state.order
letter-after s from letter.Notice below h = notice-row s from below h
letter-after s from other below h = rested s from other (letter-rests s from other) refl h

pub letter-waits : (s : BrickState) (from : NodeNo) (l : Letter) → s.stopped ≡ false → from < 80 → OrderWaits s.known s.order
    → OrderWaits (live_brick_turn s from l).state.known (live_brick_turn s from l).state.order
letter-waits s from l live below h =
    subst (λ k. OrderWaits k (live_brick_turn s from l).state.order) (sym (heard-known s from l live)) (letter-after s from l below h)

-- an order comes
joins : (s : BrickState) (name : Name) (via : NodeNo) → has_node s.known via ≡ false → After s.known (order.join_opens s name via)
joins s name via e =
    let p = order.opens s (Join via) name None (via ∷ []) in
    that-waits s.known p (leasing-waits s.known p refl refl (λ m h. subst (λ k. has_node s.known k ≡ false) (sym (one-only via m h)) e)
    (λ n. record { via = via; task = refl; phase = refl; waiting = refl }))

may-join : (s : BrickState) (name : Name) (via : NodeNo) (a b c d : Bool) → (d ≡ false → has_node s.known via ≡ false) → OrderWaits s.known s.order
    → After s.known (if a then order.answers s answered.Stopped
    else (if b then order.answers s answered.OrderOpen
    else (if c then order.answers s answered.AlreadyThere
    else (if d then order.answers s answered.NoSource
    else order.join_opens s name via))))
may-join s name via true b c d f h = h
may-join s name via false true c d f h = h
may-join s name via false false true d f h = h
may-join s name via false false false true f h = h
may-join s name via false false false false f h = joins s name via (f refl)

splits : (s : BrickState) (leaf : Leaf) → After s.known (order.split_opens s leaf)
splits s leaf =
    rows.leases_on (record (orders.leasing s leaf.name s.number) { orders = s.orders + 1 }) (order.new_split s leaf) refl
    (others-unknown leaf.list s.number s.known) (λ n. let no : Some leaf ≡ None = n in cc)

may-split : (s : BrickState) (leaf : Leaf) (r q : OrderReply) (a b c d : Bool) → OrderWaits s.known s.order
    → After s.known (if a then order.answers s answered.Deepest
    else (if b then order.answers s answered.Worn
    else (if c then order.answers s r
    else (if d then order.answers s q
    else order.split_opens s leaf))))
may-split s leaf r q true b c d h = h
may-split s leaf r q false true c d h = h
may-split s leaf r q false false true d h = h
may-split s leaf r q false false false true h = h
may-split s leaf r q false false false false h = splits s leaf

split-named : (s : BrickState) (q : Option Leaf) → OrderWaits s.known s.order → After s.known (order.split_named s q)
split-named s None h = h
split-named s (Some leaf) h =
    may-split s leaf (answered.Refused (met.Lease s.number)) (answered.Refused (met.Lock s.number)) (leaf.name.depth == DEPTH) (order.is_worn leaf)
    (is_some (leased s.locks.leases leaf.name)) (any_under s.locks.pending leaf.name) h

may-name : (s : BrickState) (name : Name) (a b : Bool) → OrderWaits s.known s.order
    → After s.known (if a then order.answers s answered.Stopped
    else (if b then order.answers s answered.OrderOpen
    else order.split_named s (get s.leaves name)))
may-name s name true b h = h
may-name s name false true h = h
may-name s name false false h = split-named s (get s.leaves name) h

told-after : (s : BrickState) (o : Order) → OrderWaits s.known s.order → After s.known (brick_input s o)
told-after s (the_order.Join brick name via) h =
    may-join s name via s.stopped (is_some s.order) (list_any (λ other. overlaps other name) (keys s.leaves)) (via == s.number || has_node s.known via)
    (right-false (via == s.number) (has_node s.known via)) h
told-after s (the_order.Split brick name) h = may-name s name s.stopped (is_some s.order) h

pub told-waits : (s : BrickState) (o : Order) → OrderWaits s.known s.order → OrderWaits (brick_input s o).state.known (brick_input s o).state.order
told-waits s o h = subst (λ k. OrderWaits k (brick_input s o).state.order) (sym (told-known s o)) (told-after s o h)
