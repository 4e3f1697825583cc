use Rattle.std.proofs.Common.{◌≡◌, ℕ, ◌+◌, ◌==◌, ◌&&◌, ◌||◌, ◌++◌, Bool, true, false, not, Option, Some, None, List, [], ◌∷◌, refl, sym, ap, ◌∙◌, subst}
use Rattle.std.proofs.lemmas.Bool.{and_parts, eqb-true, not-true}
use Rattle.std.specs.FinMap.{get, keys}
use Rattle.std.specs.List.{list_any}
use Rattle.std.specs.Prelude.{is_some, if◌then◌else◌}
use Rattle.dds_base.specs.BrickList.{has}
use Rattle.dds_base.specs.Name.{Name, overlaps, same_name}
use Rattle.dds_base.specs.NodeSet.{has_node}
use Rattle.dds_base.specs.declared.leaf.Leaf.{Leaf}
use Rattle.dds_base.specs.declared.number.NodeNo.{NodeNo}
use Rattle.dds_base.specs.declared.op.OrderReply.{OrderReply}
use Rattle.dds_base.specs.declared.op.OrderReply.TheVariants as answered
use Rattle.dds_base.specs.declared.pair.Pair.{Pair}
use Rattle.dds_brick_rows.specs.Refusal.{is_join}
use Rattle.dds_core.specs.Notice as notices
use Rattle.dds_letters.specs.declared.refusal.Refusal.{Refusal}
use Rattle.dds_locks.specs.Leases.{leased, released}
use Rattle.dds_locks.specs.Pending.{any_under}
use Rattle.dds_order_rows.specs.Orders as orders
use Rattle.dds_order_rows.specs.OwnOrder as order
use Rattle.dds_states.specs.Turn.{BrickTurn, unknown_others, without}
use Rattle.dds_states.specs.declared.brick_state.BrickState.{BrickState}
use Rattle.dds_states.specs.declared.brick_state.OpenOrder.{OpenOrder}
use Rattle.dds_states.specs.declared.brick_state.OrderPhase.{OrderPhase}
use Rattle.dds_states.specs.declared.brick_state.OrderPhase.TheVariants.{Leasing, Copying, Installing}
use Rattle.dds_states.specs.declared.brick_state.Task.{Task}
use Rattle.dds_states.specs.declared.brick_state.Task.TheVariants.{Join, Split}
use Rattle.dds_law_own.proofs.Changes.{Change, Goes, MayFix, MayMake, Own, Way, after, closes, copies, does, fixes, goes-if, goes-when, joins, makes, one}
use Rattle.dds_law_own.proofs.Changes.{own, same, served, serves, splits, through, waits}
use Rattle.dds_law_own.proofs.Ways.{is-none}

-- The changes of the rows of a brick's own order. A row has the order in its hands; what it had before is the brick with it.

abbrev pub having : BrickState → OpenOrder → Own
having s o = own (order.going_on s o)

-- the order is over
pub closed-if : (s : BrickState) (o : OpenOrder) (c : Bool) → own (record (if c then s else orders.releasing s o.name s.number) { order = None })
    ≡ record (own s) { order = None; leases = if c then s.locks.leases else released s.locks.leases o.name s.number }
closed-if s o true = refl
closed-if s o false = refl

pub ends : (s : BrickState) (o : OpenOrder) (reply : OrderReply) → Goes (having s o) (order.ends s o reply)
ends s o reply = record { way = subst (Way (having s o)) (sym (closed-if s o (is_join o.task))) (one (closes o refl)) }

pub served-if : (s : BrickState) (o : OpenOrder) (made : Leaf) (t : Task)
    → own (record (if is_join t then order.serving s o made t else orders.releasing (order.serving s o made t) o.name (order.serving s o made t).number)
    { order = None }) ≡ record (own s) {
      leaves = served s.leaves o made t;
      order = None;
      leases = if is_join t then s.locks.leases else released s.locks.leases o.name s.number;
    }
served-if s o made (Join via) = refl
served-if s o made Split = refl

finishes : (s : BrickState) (o : OpenOrder) (made : Leaf) → o.phase ≡ Installing made → Goes (having s o) (order.finishes s o made)
finishes s o made e = record { way = subst (Way (having s o)) (sym (served-if s o made o.task)) (one (serves o made refl e)) }

-- it goes on
installs_from : (s u : BrickState) (o : OpenOrder) (leaf made : Leaf) (nodes : List NodeNo) → own u ≡ own s → o.leaf ≡ Some leaf
    → made ≡ order.made_leaf s o leaf o.task → Goes (having s o) (order.installs_from u o made nodes)
installs_from s u o leaf made [] is-same fixed is =
    let q = record o { waiting = []; phase = Installing made } in
    let may : MayMake (having s o) o made = record { leaf = leaf; fixed = fixed; state = s; number = refl; known = refl; is = is } in
    let w = subst (λ (x : Own). Way (record x { order = Some q }) (own (order.finishes u o made).state)) is-same (finishes u q made refl).way in
    record { way = through (one (makes o made [] refl may)) w }
installs_from s u o leaf made (n ∷ ns) is-same fixed is =
    let q = record o { waiting = n ∷ ns; phase = Installing made } in
    let may : MayMake (having s o) o made = record { leaf = leaf; fixed = fixed; state = s; number = refl; known = refl; is = is } in
    record { way = subst (λ (x : Own). Way (having s o) (record x { order = Some q })) (sym is-same) (one (makes o made (n ∷ ns) refl may)) }

installs : (s : BrickState) (o : OpenOrder) (leaf : Leaf) → o.leaf ≡ Some leaf → Goes (having s o) (order.installs s o leaf)
installs s o leaf fixed =
    installs_from s (record s { made = s.made + 1 }) o leaf (order.made_leaf s o leaf o.task) (without (order.parting s o leaf) s.number) refl fixed refl

copies_from : (s : BrickState) (o : OpenOrder) (nodes : List NodeNo) → Goes (having s o) (order.copies_from s o nodes)
copies_from s o [] = ends s o answered.NoSource
copies_from s o (n ∷ ns) = does _ (copies o n refl)

leased_all : (s : BrickState) (o : OpenOrder) (leaf : Leaf) (t : Task) → o.leaf ≡ Some leaf → Goes (having s o) (order.leased_all s o leaf t)
leased_all s o leaf (Join via) fixed = copies_from s o (order.sources s o leaf)
leased_all s o leaf Split fixed = installs s o leaf fixed

leased_all_at : (s : BrickState) (o : OpenOrder) (leaf : Option Leaf) → o.leaf ≡ leaf → Goes (having s o) (order.leased_all_at s o leaf)
leased_all_at s o None fixed = same _
leased_all_at s o (Some leaf) fixed = leased_all s o leaf o.task fixed

pub leases_on : (s : BrickState) (o : OpenOrder) → Goes (having s o) (order.leases_on s o)
leases_on s o = goes-if _ (leased_all_at s o o.leaf refl) (same _)

pub copies_again : (s : BrickState) (o : OpenOrder) (leaf : Option Leaf) → Goes (having s o) (notices.copies_again s o leaf)
copies_again s o None = same _
copies_again s o (Some leaf) = copies_from s o (order.sources s o leaf)

pub installs_on : (s : BrickState) (o : OpenOrder) (made : Leaf) → o.phase ≡ Installing made → Goes (having s o) (order.installs_on s o made)
installs_on s o made e = goes-if _ (finishes s o made e) (same _)

-- an order comes
pub join_order : (s : BrickState) (name : Name) (via : NodeNo) → Goes (own s) (order.join_order s name via)
join_order s name via =
    let o = order.opens s (Join via) name None (via ∷ []) in
    goes-if s.stopped (same _) (goes-when (is_some s.order) (λ e. same _)
    (λ e. goes-when (list_any (λ other. overlaps other name) (keys s.leaves)) (λ f. same _)
    (λ f. goes-if (via == s.number || has_node s.known via) (same _)
    (does (order.join_opens s name via)
    (joins o (record { none = is-none s.order e; via = via; task = refl; leaf = refl; phase = refl; apart = f }))))))

split_free : (s : BrickState) (name : Name) (leaf : Leaf) → s.order ≡ None → get s.leaves name ≡ Some leaf → is_some (leased s.locks.leases leaf.name) ≡ false
    → any_under s.locks.pending leaf.name ≡ false → Goes (own s) (order.split_opens s leaf)
split_free s name leaf none there e f =
    let u = record (orders.leasing s leaf.name s.number) { orders = s.orders + 1 } in
    let o = order.new_split s leaf in
    let new : Change (own s) (having u o) = splits o leaf (record {
      none = none;
      at = name;
      there = there;
      unleased = is-none (leased s.locks.leases leaf.name) e;
      unlocked = f;
      task = refl;
      name = refl;
      fixed = refl;
      phase = refl;
    }) in
    record { way = through (one new) (leases_on u o).way }

split_leaf : (s : BrickState) (name : Name) (leaf : Leaf) → s.order ≡ None → get s.leaves name ≡ Some leaf → Goes (own s) (order.split_leaf s leaf)
split_leaf s name leaf none there =
    goes-if (leaf.name.depth == 16) (same _) (goes-if (order.is_worn leaf) (same _)
    (goes-when (is_some (leased s.locks.leases leaf.name)) (λ e. same _)
    (λ e. goes-when (any_under s.locks.pending leaf.name) (λ f. same _) (λ f. split_free s name leaf none there e f))))

split_named : (s : BrickState) (name : Name) (leaf : Option Leaf) → s.order ≡ None → get s.leaves name ≡ leaf → Goes (own s) (order.split_named s leaf)
split_named s name None none there = same _
split_named s name (Some leaf) none there = split_leaf s name leaf none there

pub split_order : (s : BrickState) (name : Name) → Goes (own s) (order.split_order s name)
split_order s name =
    goes-if s.stopped (same _)
    (goes-when (is_some s.order) (λ e. same _) (λ e. split_named s name (get s.leaves name) (is-none s.order e) refl))

-- a letter to the open order
in-hand : (s : BrickState) (o : OpenOrder) (z : Own) → s.order ≡ Some o → Way (having (record s { order = None }) o) z → Way (own s) z
in-hand s o z e w = subst (λ x. Way x z) (sym (ap (λ q. record (own s) { order = q }) e)) w

-- what the row owes where the order passes a test
abbrev Owes : BrickState → (OpenOrder → Bool) → (BrickState → OpenOrder → BrickTurn) → Type 0
Owes s test row = (t : BrickState) (o : OpenOrder) → t.number ≡ s.number → test o ≡ true → Goes (having t o) (row t o)

with-order : (s : BrickState) (test : OpenOrder → Bool) (row : BrickState → OpenOrder → BrickTurn) (q : Option OpenOrder) → s.order ≡ q
    → ((o : OpenOrder) → q ≡ Some o → test o ≡ true) → Owes s test row → Goes (own s) (order.with_order s row q)
with-order s test row None e k f = same _
with-order s test row (Some o) e k f = record { way = in-hand s o _ e (f (record s { order = None }) o refl (k o refl)).way }

pub test-at : (number : ℕ) (test : OpenOrder → Bool) (q : Option OpenOrder) (o : OpenOrder) → order.is_at number test q ≡ true → q ≡ Some o → test o ≡ true
test-at number test None o h e = cc
test-at number test (Some x) o h e =
    let is : x ≡ o = cc in subst (λ (y : OpenOrder). test y ≡ true) is (and_parts (x.number == number) (test x) h).1

at-order : (s : BrickState) (number : ℕ) (test : OpenOrder → Bool) (row : BrickState → OpenOrder → BrickTurn) → Owes s test row
    → Goes (own s) (order.at_order s number test row)
at-order s number test row f =
    goes-when (order.is_at number test s.order) (λ h. with-order s test row s.order refl (λ o e. test-at number test s.order o h e) f) (λ h. same _)

fixing : (s : BrickState) (o : OpenOrder) (from : NodeNo) (leaf : Leaf) → MayFix (having s o) o leaf → Goes (having s o) (order.fixes s o from leaf)
fixing s o from leaf may =
    let asked = o.asked ++ unknown_others leaf.list from s.known in
    let waiting = o.waiting ++ unknown_others leaf.list from s.known in
    goes-if _ (ends s o answered.Worn) (goes-if _ (ends s o answered.GroupFull)
    (record { way = through (one (fixes o leaf asked waiting refl may)) (leases_on s (order.widened s o from leaf)).way }))

granted_join : (s : BrickState) (o : OpenOrder) (from : NodeNo) (leaf : Leaf) (q : Option Leaf) → o.leaf ≡ q → is_join o.task ≡ true → leaf.name ≡ o.name
    → has leaf.list s.number ≡ false → Goes (having s o) (order.granted_join s o from leaf q)
granted_join s o from leaf None e j n h = fixing s o from leaf (record { none = e; join = j; name = n; apart = h })
granted_join s o from leaf (Some fixed) e j n h = leases_on s o

pub same-is : (x y : Name) → same_name x y ≡ true → x ≡ y
same-is x y e =
    let p = and_parts (x.bits == y.bits) (x.depth == y.depth) e in
    λ i. record { bits = eqb-true x.bits y.bits p.0 i; depth = eqb-true x.depth y.depth p.1 i }

grants : (s : BrickState) (o : OpenOrder) (from : NodeNo) (leaf : Leaf) (t : Task) → o.task ≡ t → order.takes_grant s.number leaf o ≡ true
    → Goes (having s o) (order.grants s o from leaf t)
grants s o from leaf (Join via) e h =
    let join : is_join o.task ≡ true = ap is_join e in
    let its = same_name leaf.name o.name && not (has leaf.list s.number) in
    let may = (and_parts (order.is_leasing o.phase) (not (is_join o.task) || its) h).1 in
    let p = and_parts (same_name leaf.name o.name) (not (has leaf.list s.number)) (sym (ap (λ c. not c || its) join) ∙ may) in
    granted_join s o from leaf o.leaf refl join (same-is leaf.name o.name p.0) (not-true (has leaf.list s.number) p.1)
grants s o from leaf Split e h = leases_on s o

pub granted_row : (s : BrickState) (from : NodeNo) (number : ℕ) (leaf : Leaf) → Goes (own s) (order.granted_row s from number leaf)
granted_row s from number leaf =
    at-order s number (order.takes_grant s.number leaf) (λ t o. order.grants t (order.with_grant o from) from leaf o.task) (λ t o n h.
    let q = order.with_grant o from in
    after _ (one (waits o q.granted q.waiting o.copied refl))
    (grants t q from leaf o.task refl (subst (λ i. order.takes_grant i leaf o ≡ true) (sym n) h)))

pub lease_refused_row : (s : BrickState) (from : NodeNo) (number : ℕ) (r : Refusal) → Goes (own s) (order.lease_refused_row s from number r)
lease_refused_row s from number r =
    at-order s number (λ o. order.is_leasing o.phase) (λ t o. order.ends t o (answered.Refused (order.met_of r from)))
    (λ t o n h. ends t o (answered.Refused (order.met_of r from)))

copied_all : (s : BrickState) (o : OpenOrder) (leaf : Option Leaf) → o.leaf ≡ leaf → Goes (having s o) (order.copied_all s o leaf)
copied_all s o None e = same _
copied_all s o (Some leaf) e = installs s o leaf e

copied_on : (s : BrickState) (o : OpenOrder) (source : NodeNo) (last : Bool) → Goes (having s o) (order.copied_on s o source last)
copied_on s o source true = copied_all s o o.leaf refl
copied_on s o source false = same _

pub copy_part_row : (s : BrickState) (from : NodeNo) (number : ℕ) (last : Bool) (pairs : List Pair)
    → Goes (own s) (order.copy_part_row s from number last pairs)
copy_part_row s from number last pairs =
    at-order s number (λ o. order.is_source from o.phase && order.fits o pairs) (λ t o. order.copied_on t (record o { copied = o.copied ++ pairs }) from last)
    (λ t o n h. after _ (one (waits o o.granted o.waiting (o.copied ++ pairs) refl)) (copied_on t (record o { copied = o.copied ++ pairs }) from last))

installed_in : (s : BrickState) (o : OpenOrder) (phase : OrderPhase) → o.phase ≡ phase → order.is_installing phase ≡ true
    → Goes (having s o) (order.installed_in s o phase)
installed_in s o Leasing e h = cc
installed_in s o (Copying source) e h = cc
installed_in s o (Installing made) e h = installs_on s o made e

pub installed_row : (s : BrickState) (from : NodeNo) (number : ℕ) → Goes (own s) (order.installed_row s from number)
installed_row s from number =
    at-order s number (λ o. order.is_installing o.phase) (λ t o. order.installed_in t (record o { waiting = without o.waiting from }) o.phase)
    (λ t o n h. after _ (one (waits o o.granted (without o.waiting from) o.copied refl))
    (installed_in t (record o { waiting = without o.waiting from }) o.phase refl h))

-- a notice
order_goes : (s : BrickState) (o : OpenOrder) (y : NodeNo) (phase : OrderPhase) → o.phase ≡ phase → Goes (having s o) (notices.order_goes s o y phase)
order_goes s o y Leasing e =
    let q = record o { waiting = without o.waiting y } in
    goes-if _ (ends s o answered.NoSource) (after _ (one (waits o o.granted (without o.waiting y) o.copied refl)) (leases_on s q))
order_goes s o y (Copying source) e = copies_again s o o.leaf
order_goes s o y (Installing made) e =
    let q = record o { waiting = without o.waiting y } in
    after _ (one (waits o o.granted (without o.waiting y) o.copied refl)) (installs_on s q made e)

pub order_part : (s : BrickState) (y : NodeNo) → Goes (own s) (notices.order_part s y)
order_part s y =
    goes-if _ (with-order s (λ o. true) (λ t o. notices.order_goes t o y o.phase) s.order refl (λ o e. refl) (λ t o n h. order_goes t o y o.phase refl))
    (same _)
