use Rattle.std.proofs.Common.{◌≡◌, ℕ, ◌+◌, ◌==◌, ◌&&◌, ◌||◌, Bool, true, false, not, Option, Some, None, List, [], ◌∷◌, refl, sym, ap, ◌∙◌, subst, arith}
use Rattle.std.proofs.lemmas.Bool.{and_parts, eqb-false, not-true}
use Rattle.std.proofs.lemmas.Bool.Decides.{nat_tests}
use Rattle.std.specs.FinMap.{get, keys}
use Rattle.std.specs.List.{list_any}
use Rattle.std.specs.Prelude.{filter, is_some, if◌then◌else◌}
use Rattle.dds_base.specs.BrickList.{has}
use Rattle.dds_base.specs.Name.{Name, overlaps, same_name}
use Rattle.dds_base.specs.NodeSet.{has_node}
use Rattle.dds_base.specs.declared.leaf.Leaf.{Leaf}
use Rattle.dds_base.specs.declared.number.NodeNo.{NodeNo}
use Rattle.dds_base.specs.declared.op.OrderReply.{OrderReply}
use Rattle.dds_base.specs.declared.op.OrderReply.TheVariants as answered
use Rattle.dds_brick_rows.specs.Refusal.{is_join}
use Rattle.dds_core.specs.Notice as notices
use Rattle.dds_groups.proofs.Members.{has-live}
use Rattle.dds_groups.specs.Leaves.{live}
use Rattle.dds_law_own.proofs.Changes.{MayFix, kept_leases, own}
use Rattle.dds_law_own.proofs.OrderWays.{closed-if, same-is, served-if}
use Rattle.dds_law_own.proofs.Ways.{is-none}
use Rattle.dds_letters.specs.declared.letter.Letter.TheVariants as letter
use Rattle.dds_letters.specs.declared.refusal.Wanted.TheVariants as wanted
use Rattle.dds_locks.specs.Leases.{leased}
use Rattle.dds_locks.specs.Pending.{any_under}
use Rattle.dds_order_rows.specs.Orders as orders
use Rattle.dds_order_rows.specs.OwnOrder as order
use Rattle.dds_states.specs.Turn.{is_none_left, to_each, unknown_others, without}
use Rattle.dds_states.specs.declared.brick_state.BrickState.{BrickState}
use Rattle.dds_states.specs.declared.brick_state.OpenOrder.{OpenOrder}
use Rattle.dds_states.specs.declared.brick_state.OrderPhase.{OrderPhase}
use Rattle.dds_states.specs.declared.brick_state.OrderPhase.TheVariants.{Copying, Installing, Leasing}
use Rattle.dds_states.specs.declared.brick_state.Task.{Task}
use Rattle.dds_states.specs.declared.brick_state.Task.TheVariants.{Join, Split}
use Rattle.dds_orders.proofs.Deeds.{Deed, Goes, GoesFrom, IsReady, IsUnsourced, Leaves, MakesAt, MayBegin, MayCopy, Seat, Stage, Trip, after, arrives}
use Rattle.dds_orders.proofs.Deeds.{asks_more, by_leases, by_pairs, closes, copies, copies_none, does, fixes, goes, goes-if, goes-when, joins, leaf_owed}
use Rattle.dds_orders.proofs.Deeds.{leaves, loses, makes, nothing_owed, one, owed_at, part_owed, plain, refuses, says, seat, serves, splits, splits_none}
use Rattle.dds_orders.proofs.Deeds.{stays, through, told_order}

-- The deeds of the rows of a brick's own order. A row has the order in its hands; what it had before is the brick with it.

abbrev pub holding : BrickState → OpenOrder → Seat
holding s o = seat (order.going_on s o)

-- the order is over
closed-seat : (s : BrickState) (o : OpenOrder) (c : Bool) → seat (record (if c then s else orders.releasing s o.name s.number) { order = None })
    ≡ record (seat s) { own = own (record (if c then s else orders.releasing s o.name s.number) { order = None }) }
closed-seat s o true = refl
closed-seat s o false = refl

pub ended-seat : (s : BrickState) (o : OpenOrder) (reply : OrderReply)
    → seat (order.ends s o reply).state ≡ record (seat s) { own = record (own s) { order = None; leases = kept_leases (own s) o } }
ended-seat s o reply = closed-seat s o (is_join o.task) ∙ ap (λ y. record (seat s) { own = y }) (closed-if s o (is_join o.task))

pub ends : {a : Stage} (s : BrickState) (o : OpenOrder) (reply : OrderReply) → order.is_installing o.phase ≡ false → IsUnsourced (holding s o) o
    → GoesFrom a (holding s o) (order.ends s o reply)
ends {a = a} s o reply before free =
    goes _ (subst (Trip a (holding s o) (order.ends s o reply).out.letters nothing_owed) (sym (ended-seat s o reply))
    (through (one (closes o refl) (record { before = before; unsourced = free; next = refl })) (arrives nothing_owed _)))

served-seat : (s : BrickState) (o : OpenOrder) (made : Leaf) (t : Task)
    → seat (record (if is_join t then order.serving s o made t else orders.releasing (order.serving s o made t) o.name (order.serving s o made t).number)
    { order = None }) ≡ record (seat s) {
      own = own (record (if is_join t then order.serving s o made t else orders.releasing (order.serving s o made t) o.name (order.serving s o made t).number)
          { order = None });
    }
served-seat s o made (Join via) = refl
served-seat s o made Split = refl

finishes : (s : BrickState) (o : OpenOrder) (made : Leaf) → o.phase ≡ Installing made → is_none_left o.waiting ≡ true
    → Goes (holding s o) (order.finishes s o made)
finishes s o made e none =
    let f = served-seat s o made o.task ∙ ap (λ y. record (seat s) { own = y }) (served-if s o made o.task) in
    goes _ (subst (Trip nothing_owed (holding s o) (order.finishes s o made).out.letters nothing_owed) (sym f)
    (through (one (serves o made refl e) (refl, refl, none)) (arrives nothing_owed _)))

-- it goes on
begins : (s : BrickState) (o : OpenOrder) (leaf made : Leaf) (nodes : List NodeNo) → o.leaf ≡ Some leaf → made ≡ order.made_leaf s o leaf o.task
    → IsReady o → nodes ≡ without (order.parting s o leaf) s.number → MayBegin (holding s o) o made nodes
begins s o leaf made nodes fixed is before e =
    record {
      ready = before;
      may = record { leaf = leaf; fixed = fixed; state = s; number = refl; known = refl; is = is };
      count = refl;
      nodes_are = e;
    }

installs_from : {a : Stage} (s : BrickState) (o : OpenOrder) (leaf made : Leaf) (nodes : List NodeNo) → o.leaf ≡ Some leaf
    → made ≡ order.made_leaf s o leaf o.task → IsReady o → nodes ≡ without (order.parting s o leaf) s.number → MakesAt o a
    → GoesFrom a (holding s o) (order.installs_from (record s { made = s.made + 1 }) o made nodes)
installs_from s o leaf made [] fixed is before e at =
    let q = record o { waiting = []; phase = Installing made } in
    let u = record s { made = s.made + 1 } in
    after _ (one (makes o made [] refl (begins s o leaf made [] fixed is before e)) (at, refl)) (goes _ (finishes u q made refl refl).trip)
installs_from s o leaf made (n ∷ ns) fixed is before e at =
    does _ (makes o made (n ∷ ns) refl (begins s o leaf made (n ∷ ns) fixed is before e)) (at, refl)

installs : {a : Stage} (s : BrickState) (o : OpenOrder) (leaf : Leaf) → o.leaf ≡ Some leaf → IsReady o → MakesAt o a
    → GoesFrom a (holding s o) (order.installs s o leaf)
installs s o leaf fixed before at =
    installs_from s o leaf (order.made_leaf s o leaf o.task) (without (order.parting s o leaf) s.number) fixed refl before refl at

-- the first of the members that may be copied from
or-same : (a b : ℕ) (rest : Bool) → a ≡ b → (a == b || rest) ≡ true
or-same a b rest h = grind (arith, nat_tests, h)

or-true : (a : Bool) → (a || true) ≡ true
or-true true = refl
or-true false = refl

abbrev Passes : (ℕ → Bool) → List ℕ → ℕ → Type 0
Passes p ns n = (p n ≡ true) × (has ns n ≡ true)

first-if : (p : ℕ → Bool) (k : ℕ) (ns : List ℕ) (n : ℕ) (ms : List ℕ) (c : Bool) → p k ≡ c → (filter p ns ≡ n ∷ ms → Passes p ns n)
    → (if c then k ∷ filter p ns else filter p ns) ≡ n ∷ ms → Passes p (k ∷ ns) n
first-if p k ns n ms true f later g = let is : k ≡ n = cc in (ap p (sym is) ∙ f, or-same k n (has ns n) is)
first-if p k ns n ms false f later g = let h = later g in (h.0, ap (λ c. k == n || c) h.1 ∙ or-true (k == n))

first-passes : (p : ℕ → Bool) (ns : List ℕ) (n : ℕ) (ms : List ℕ) → filter p ns ≡ n ∷ ms → Passes p ns n
first-passes p [] n ms e = cc
first-passes p (k ∷ ns) n ms e = first-if p k ns n ms (p k) refl (first-passes p ns n ms) e

not-known : (a b : Bool) → (a && not b) ≡ true → (a ≡ true) × (b ≡ false)
not-known a true h = absurd (both-false a h)
  where
    both-false : (a : Bool) → (a && false) ≡ true → ⊥
    both-false true h = cc
    both-false false h = cc
not-known true false h = (refl, refl)
not-known false false h = cc

may-copy : (s : BrickState) (o : OpenOrder) (leaf : Leaf) (n : NodeNo) (ns : List NodeNo) → o.leaf ≡ Some leaf → IsReady o
    → order.sources s o leaf ≡ n ∷ ns → MayCopy (holding s o) o leaf n
may-copy s o leaf n ns fixed before e =
    let p = first-passes (λ node. has o.granted node) (live leaf.list (has_node s.known)) n ns e in
    let q = not-known (has leaf.list n) (has_node s.known n) (sym (has-live leaf.list (has_node s.known) n) ∙ p.1) in
    record { fixed = fixed; granted = p.0; lists = q.0; unknown = q.1; ready = before }

copies_from : (s : BrickState) (o : OpenOrder) (leaf : Leaf) (nodes : List NodeNo) → o.leaf ≡ Some leaf → IsReady o
    → order.sources s o leaf ≡ nodes → IsUnsourced (holding s o) o → Goes (holding s o) (order.copies_from s o nodes)
copies_from s o leaf [] fixed before e free = ends s o answered.NoSource before.before free
copies_from s o leaf (n ∷ ns) fixed before e free =
    does _ (copies o leaf n refl (may-copy s o leaf n ns fixed before e)) (refl, refl, free)

-- an order that leases
pub leasing-not : (p : OrderPhase) → order.is_leasing p ≡ true → order.is_installing p ≡ false
leasing-not Leasing h = refl
leasing-not (Copying source) h = cc
leasing-not (Installing made) h = cc

leasing-unsourced : (x : Seat) (o : OpenOrder) → order.is_leasing o.phase ≡ true → IsUnsourced x o
leasing-unsourced x o h n e = let no : true ≡ false = sym h ∙ ap order.is_leasing e in cc

leased_all : (s : BrickState) (o : OpenOrder) (leaf : Leaf) (t : Task) → o.leaf ≡ Some leaf → IsReady o → order.is_leasing o.phase ≡ true
    → Goes (holding s o) (order.leased_all s o leaf t)
leased_all s o leaf (Join via) fixed before leasing =
    copies_from s o leaf (order.sources s o leaf) fixed before refl (leasing-unsourced (holding s o) o leasing)
leased_all s o leaf Split fixed before leasing = installs s o leaf fixed before (by_leases leasing refl)

leased_all_at : (s : BrickState) (o : OpenOrder) (leaf : Option Leaf) → o.leaf ≡ leaf → IsReady o → order.is_leasing o.phase ≡ true
    → Goes (holding s o) (order.leased_all_at s o leaf)
leased_all_at s o None fixed before leasing = plain _ refl tt
leased_all_at s o (Some leaf) fixed before leasing = leased_all s o leaf o.task fixed before leasing

pub leases_on : (s : BrickState) (o : OpenOrder) → order.is_leasing o.phase ≡ true → Goes (holding s o) (order.leases_on s o)
leases_on s o leasing =
    goes-when (is_none_left o.waiting)
    (λ n. leased_all_at s o o.leaf refl (record { before = leasing-not o.phase leasing; none = λ e. n }) leasing) (λ n. plain _ refl tt)

-- an order that copies
pub copying-ready : (o : OpenOrder) (source : NodeNo) → o.phase ≡ Copying source → IsReady o
copying-ready o source e =
    record { before = ap order.is_installing e; none = λ h. let no : true ≡ false = sym h ∙ ap order.is_leasing e in cc }

pub copies_again : (s : BrickState) (o : OpenOrder) (leaf : Option Leaf) → o.leaf ≡ leaf → IsReady o → IsUnsourced (holding s o) o
    → Goes (holding s o) (notices.copies_again s o leaf)
copies_again s o None fixed before free = plain _ refl tt
copies_again s o (Some leaf) fixed before free = copies_from s o leaf (order.sources s o leaf) fixed before refl free

pub installs_on : (s : BrickState) (o : OpenOrder) (made : Leaf) → o.phase ≡ Installing made → Goes (holding s o) (order.installs_on s o made)
installs_on s o made e = goes-when (is_none_left o.waiting) (λ n. finishes s o made e n) (λ n. plain _ refl tt)

-- an order comes
answered-so : (s : BrickState) (r : OrderReply) → GoesFrom told_order (seat s) (order.answers s r)
answered-so s r = leaves _ refl tt (refuses refl refl)

or-parts : (a b : Bool) → (a || b) ≡ false → (a ≡ false) × (b ≡ false)
or-parts true b h = cc
or-parts false b h = (refl, h)

pub join_order : (s : BrickState) (name : Name) (via : NodeNo) → GoesFrom told_order (seat s) (order.join_order s name via)
join_order s name via =
    goes-if s.stopped (answered-so s answered.Stopped) (goes-when (is_some s.order) (λ e. answered-so s answered.OrderOpen)
    (λ e. goes-when (list_any (λ other. overlaps other name) (keys s.leaves)) (λ f. answered-so s answered.AlreadyThere)
    (λ f. goes-when (via == s.number || has_node s.known via) (λ g. answered-so s answered.NoSource)
    (λ g. let p = or-parts (via == s.number) (has_node s.known via) g in
    does (order.join_opens s name via)
    (joins name via (record { none = is-none s.order e; apart = f; other = eqb-false via s.number p.0; unknown = p.1 })) (refl, refl)))))

split_free : (s : BrickState) (name : Name) (leaf : Leaf) → s.order ≡ None → get s.leaves name ≡ Some leaf → (leaf.name.depth == 16) ≡ false
    → is_some (leased s.locks.leases leaf.name) ≡ false → any_under s.locks.pending leaf.name ≡ false
    → GoesFrom told_order (seat s) (order.split_opens s leaf)
split_free s name leaf none there deep e f =
    let u = record (orders.leasing s leaf.name s.number) { orders = s.orders + 1 } in
    let o = order.new_split s leaf in
    let new : Deed (seat s) (to_each (unknown_others leaf.list s.number s.known) (letter.Lease s.orders (wanted.Leaf leaf))) (holding u o) =
    splits leaf (record {
      none = none;
      at = name;
      there = there;
      deep = deep;
      unleased = is-none (leased s.locks.leases leaf.name) e;
      unlocked = f;
    }) in
    goes _ (through (one new (refl, refl)) (leases_on u o refl).trip)

split_leaf : (s : BrickState) (name : Name) (leaf : Leaf) → s.order ≡ None → get s.leaves name ≡ Some leaf
    → GoesFrom told_order (seat s) (order.split_leaf s leaf)
split_leaf s name leaf none there =
    goes-when (leaf.name.depth == 16) (λ d. answered-so s answered.Deepest) (λ d. goes-if (order.is_worn leaf) (answered-so s answered.Worn)
    (goes-when (is_some (leased s.locks.leases leaf.name)) (λ e. answered-so s _)
    (λ e. goes-when (any_under s.locks.pending leaf.name) (λ f. answered-so s _) (λ f. split_free s name leaf none there d e f))))

split_named : (s : BrickState) (name : Name) (leaf : Option Leaf) → s.order ≡ None → get s.leaves name ≡ leaf
    → GoesFrom told_order (seat s) (order.split_named s leaf)
split_named s name None none there = answered-so s answered.NotServing
split_named s name (Some leaf) none there = split_leaf s name leaf none there

pub split_order : (s : BrickState) (name : Name) → GoesFrom told_order (seat s) (order.split_order s name)
split_order s name =
    goes-if s.stopped (answered-so s answered.Stopped)
    (goes-when (is_some s.order) (λ e. answered-so s answered.OrderOpen) (λ e. split_named s name (get s.leaves name) (is-none s.order e) refl))

-- the first lease of a join
fixing : (s : BrickState) (o : OpenOrder) (from : NodeNo) (leaf : Leaf) → order.is_leasing o.phase ≡ true → has o.granted from ≡ true
    → MayFix (own s) o leaf → GoesFrom (leaf_owed from leaf) (holding s o) (order.fixes s o from leaf)
fixing s o from leaf leasing given may =
    let before = leasing-not o.phase leasing in
    let free = leasing-unsourced (holding s o) o leasing in
    goes-if _ (ends s o answered.Worn before free) (goes-if _ (ends s o answered.GroupFull before free)
    (goes _ (through (one (fixes o from leaf refl (record {
      may = record { none = may.none; join = may.join; name = may.name; apart = may.apart };
      granted = given;
      leasing = leasing;
    })) (refl, refl)) (leases_on s (order.widened s o from leaf) leasing).trip)))

granted_join : (s : BrickState) (o : OpenOrder) (from : NodeNo) (leaf : Leaf) (q : Option Leaf) → o.leaf ≡ q → is_join o.task ≡ true → leaf.name ≡ o.name
    → has leaf.list s.number ≡ false → order.is_leasing o.phase ≡ true → has o.granted from ≡ true
    → GoesFrom (owed_at q from leaf) (holding s o) (order.granted_join s o from leaf q)
granted_join s o from leaf None e j n h leasing g = fixing s o from leaf leasing g (record { none = e; join = j; name = n; apart = h })
granted_join s o from leaf (Some fixed) e j n h leasing g = leases_on s o leasing

split-owes : (x : Seat) (o : OpenOrder) (from : NodeNo) (leaf : Leaf) (q : Option Leaf) → o.leaf ≡ q → o.task ≡ Split → x.own.order ≡ Some o
    → Leaves x (owed_at q from leaf) nothing_owed
split-owes x o from leaf None e t there = splits_none o there e (ap is_join t) refl
split-owes x o from leaf (Some fixed) e t there = stays refl

pub granting : (s : BrickState) (o : OpenOrder) (from : NodeNo) (leaf : Leaf) (t : Task) → o.task ≡ t → order.takes_grant s.number leaf o ≡ true
    → has o.granted from ≡ true → GoesFrom (owed_at o.leaf from leaf) (holding s o) (order.grants s o from leaf t)
granting s o from leaf (Join via) e h g =
    let join : is_join o.task ≡ true = ap is_join e in
    let its = same_name leaf.name o.name && not (has leaf.list s.number) in
    let may = and_parts (order.is_leasing o.phase) (not (is_join o.task) || its) h in
    let p = and_parts (same_name leaf.name o.name) (not (has leaf.list s.number)) (sym (ap (λ c. not c || its) join) ∙ may.1) in
    granted_join s o from leaf o.leaf refl join (same-is leaf.name o.name p.0) (not-true (has leaf.list s.number) p.1) may.0 g
granting s o from leaf Split e h g =
    let may = and_parts (order.is_leasing o.phase) (not (is_join o.task) || (same_name leaf.name o.name && not (has leaf.list s.number))) h in
    goes _ (through (one (says [] tt) (split-owes (holding s o) o from leaf o.leaf refl e refl))
    (leases_on s o may.0).trip)

-- the last pairs
copied_all : (s : BrickState) (o : OpenOrder) (source : NodeNo) (leaf : Option Leaf) → o.leaf ≡ leaf → o.phase ≡ Copying source
    → GoesFrom part_owed (holding s o) (order.copied_all s o leaf)
copied_all s o source None e copying = leaves _ refl tt (copies_none o refl e refl refl)
copied_all s o source (Some leaf) e copying = installs s o leaf e (copying-ready o source copying) (by_pairs source copying refl)

pub copied_on : (s : BrickState) (o : OpenOrder) (source : NodeNo) (last : Bool) → o.phase ≡ Copying source
    → GoesFrom part_owed (holding s o) (order.copied_on s o source last)
copied_on s o source true e = copied_all s o source o.leaf refl e
copied_on s o source false e = does _ (asks_more o source refl e) (refl, refl)

-- a notice
pub order_goes : (s : BrickState) (o : OpenOrder) (y : NodeNo) (phase : OrderPhase) → o.phase ≡ phase → has_node s.known y ≡ true
    → ((n : NodeNo) → phase ≡ Copying n → has_node s.known n ≡ true) → Goes (holding s o) (notices.order_goes s o y phase)
order_goes s o y Leasing e k none =
    let q = record o { waiting = without o.waiting y } in
    goes-if _ (ends s o answered.NoSource (ap order.is_installing e) (leasing-unsourced (holding s o) o (ap order.is_leasing e)))
    (after _ (one (loses o y refl k) (refl, refl)) (leases_on s q (ap order.is_leasing e)))
order_goes s o y (Copying source) e k gone = copies_again s o o.leaf refl (copying-ready o source e) (λ n f. gone n (sym e ∙ f))
order_goes s o y (Installing made) e k none =
    let q = record o { waiting = without o.waiting y } in
    after _ (one (loses o y refl k) (refl, refl)) (installs_on s q made e)
