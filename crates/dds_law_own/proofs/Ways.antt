use Rattle.std.proofs.Common.{◌≡◌, ℕ, ◌&&◌, ◌||◌, ◌++◌, Bool, true, false, not, Option, Some, None, List, [], ◌∷◌, refl, sym, ap, ◌∙◌, subst}
use Rattle.std.proofs.lemmas.Bool.{and_parts, not-true}
use Rattle.std.specs.FinMap.{get}
use Rattle.std.specs.Prelude.{is_some, if◌then◌else◌}
use Rattle.dds_base.specs.BrickList.{has}
use Rattle.dds_base.specs.Name.{Name, same_name}
use Rattle.dds_base.specs.NodeSet.{has_node}
use Rattle.dds_base.specs.Number.{Txn, StampOf}
use Rattle.dds_base.specs.Op.{the_key}
use Rattle.dds_base.specs.declared.leaf.Leaf.{Leaf}
use Rattle.dds_base.specs.declared.number.NodeNo.{NodeNo}
use Rattle.dds_base.specs.declared.pending.Pending.{Pending}
use Rattle.dds_brick_rows.specs.Calls as calls
use Rattle.dds_brick_rows.specs.Refusal.{as_denial, has_no_room, is_found, is_locked, joins_key, joins_over, lease_refusal, stale_against}
use Rattle.dds_brick_rows.specs.Refusal.{update_denial, update_refusal}
use Rattle.dds_brick_rows.specs.Resolution as resolution
use Rattle.dds_brick_rows.specs.Take as takes
use Rattle.dds_brick_rows.specs.declared.resolution.News.{News}
use Rattle.dds_core.specs.Notice as notices
use Rattle.dds_groups.specs.Leaves.{successor}
use Rattle.dds_groups.specs.Names.{is_half}
use Rattle.dds_groups.specs.Take.{is_better_rival, maker_known, may_take}
use Rattle.dds_letters.specs.declared.letter.Letter.TheVariants as letter
use Rattle.dds_letters.specs.declared.refusal.Denial.{Denial}
use Rattle.dds_letters.specs.declared.refusal.Denial.TheVariants as denial
use Rattle.dds_letters.specs.declared.refusal.Refusal.{Refusal}
use Rattle.dds_letters.specs.declared.refusal.Refusal.TheVariants as refusal
use Rattle.dds_letters.specs.declared.refusal.Wanted.{Wanted}
use Rattle.dds_letters.specs.declared.refusal.Wanted.TheVariants as wanted
use Rattle.dds_locks.specs.Leases.{leased, lease_covers, lease_of}
use Rattle.dds_locks.specs.Pending.{any_under, holder}
use Rattle.dds_maps.specs.Own.{own_leaf}
use Rattle.dds_order_rows.specs.Orders as orders
use Rattle.dds_states.specs.Leaf.{leaf_for}
use Rattle.dds_states.specs.Turn.{BrickTurn, first_some, sends, to_each, unknown, unknown_others, when}
use Rattle.dds_states.specs.declared.brick_state.BrickState.{BrickState}
use Rattle.dds_states.specs.declared.brick_state.Deferred.{Deferred}
use Rattle.dds_states.specs.declared.brick_state.Question.{Question}
use Rattle.dds_states.specs.declared.brick_state.Question.TheVariants.{Help, Query}
use Rattle.dds_states.specs.declared.brick_state.Resolving.{Resolving}
use Rattle.dds_law_own.proofs.Changes.{Goes, IsFree, MayPend, MayTake, Own, Way, after, does, drops, gives, goes-if, goes-then, goes-to}
use Rattle.dds_law_own.proofs.Changes.{goes-when, installs, one, over, own, pends, same, takes as taken}

-- The changes of a brick's rows for calls, for leaves that it is told, for the orders of other bricks, and to resolve.

-- what a refusal that isn't one says
pub is-none : {X : Type 0} (x : Option X) → is_some x ≡ false → x ≡ None
is-none None e = refl
is-none (Some x) e = cc

pub first-none : {X : Type 0} (x rest : Option X) → first_some x rest ≡ None → (x ≡ None) × (rest ≡ None)
first-none None rest e = (refl, e)
first-none (Some x) rest e = cc

pub when-none : {X : Type 0} (c : Bool) (x : X) → when c x ≡ None → c ≡ false
when-none true x e = cc
when-none false x e = refl

pub free-lease : (s : BrickState) (name : Name) (stamp : Option StampOf) → lease_refusal s name stamp ≡ None → IsFree (own s) name
free-lease s name stamp e =
    let a = first-none (when (joins_over s.order name) refusal.Lease) _ e in
    let b = first-none (when (not (is_found stamp (get s.leaves name))) (refusal.Stale (leaf_for s.leaves name.bits))) _ a.1 in
    let c = first-none (when (is_some (leased s.locks.leases name)) refusal.Lease) (when (any_under s.locks.pending name) refusal.Lock) b.1 in
    record {
      unleased = is-none (leased s.locks.leases name) (when-none _ refusal.Lease c.0);
      unlocked = when-none _ refusal.Lock c.1;
      unjoined = when-none _ refusal.Lease a.0;
    }

pub none-denied : (r : Option Refusal) → as_denial r ≡ None → r ≡ None
none-denied None e = refl
none-denied (Some why) e = cc

covering : (leaf : Option Leaf) (name : Name) (stamp : StampOf) → stale_against leaf name stamp ≡ None → (l : Leaf) × (leaf ≡ Some l)
covering None name stamp e = cc
covering (Some l) name stamp e = (l, refl)

pub may-pend : (s : BrickState) (p : Pending) (name : Name) (stamp : StampOf) → update_denial s p.op name stamp ≡ None → MayPend (own s) p
may-pend s p name stamp e =
    let key = the_key p.op in
    let denied = first-none (as_denial (update_refusal s key name stamp)) (when (has_no_room s p.op) denial.Full) e in
    let r = none-denied (update_refusal s key name stamp) denied.0 in
    let a = first-none (when (joins_key s.order key) refusal.Lease) _ r in
    let b = first-none (stale_against (leaf_for s.leaves key) name stamp) _ a.1 in
    let c = first-none (when (lease_covers s.locks.leases key) refusal.Lease) (when (is_locked s key) refusal.Lock) b.1 in
    let l = covering (leaf_for s.leaves key) name stamp b.0 in
    record {
      unjoined = when-none _ refusal.Lease a.0;
      leaf = l.0;
      covers = l.1;
      unleased = when-none _ refusal.Lease c.0;
      unlocked = is-none (holder s.locks.pending key) (when-none _ refusal.Lock c.1);
    }

-- calls
got : (s : BrickState) (from : NodeNo) (txn : Txn) (key : ℕ) (r : Option Refusal) → Goes (own s) (calls.got s from txn key r)
got s from txn key None = same _
got s from txn key (Some why) = same _

pub get_row : (s : BrickState) (from : NodeNo) (txn : Txn) (key : ℕ) (name : Name) (stamp : StampOf)
    → Goes (own s) (calls.get_row s from txn key name stamp)
get_row s from txn key name stamp = got s from txn key _

voted : (s u : BrickState) (from : NodeNo) (p : Pending) (name : Name) (stamp : StampOf) (d : Option Denial) → own u ≡ own s
    → update_denial s p.op name stamp ≡ d → Goes (own s) (calls.voted u from p d)
voted s u from p name stamp None is e =
    record { way = subst (λ (x : Own). Way (own s) (record x { pending = x.pending ++ p ∷ [] })) (sym is) (one (pends p (may-pend s p name stamp e))) }
voted s u from p name stamp (Some why) is e = record { way = subst (Way (own s)) (sym is) (over (own s)) }

pub prepare_row : (s : BrickState) (from : NodeNo) (p : Pending) (below : ℕ) (name : Name) (stamp : StampOf)
    → Goes (own s) (calls.prepare_row s from p below name stamp)
prepare_row s from p below name stamp = voted s (calls.trim s p.txn.library below) from p name stamp (update_denial s p.op name stamp) refl refl

found : (u : BrickState) (from : NodeNo) (p : Option Pending) → own (calls.commit_found u from p).state ≡ own u
found u from None = refl
found u from (Some p) = refl

pub commit_row : (s : BrickState) (from : NodeNo) (txn : Txn) → Goes (own s) (calls.commit_row s from txn)
commit_row s from txn = goes-to (calls.dropped s txn) _ (found (calls.dropped s txn) from _) (one (drops txn))

aborted : (u : BrickState) (p : Option Pending) → own (calls.aborted u p) ≡ own u
aborted u None = refl
aborted u (Some p) = refl

pub abort_row : (s : BrickState) (from : NodeNo) (txn : Txn) → Goes (own s) (calls.abort_row s from txn)
abort_row s from txn = goes-to (calls.dropped s txn) _ (aborted (calls.dropped s txn) _) (one (drops txn))

-- resolving
settled : (u : BrickState) (commit : Bool) (p : Option Pending) → own (resolution.settled u commit p).state ≡ own u
settled u commit None = refl
settled u true (Some p) = refl
settled u false (Some p) = refl

pub outcome_row : (s : BrickState) (txn : Txn) (commit : Bool) → Goes (own s) (resolution.outcome_row s txn commit)
outcome_row s txn commit = goes-to (calls.dropped s txn) _ (settled (calls.dropped s txn) commit _) (one (drops txn))

decides : (s : BrickState) (r : Resolving) → Goes (own s) (resolution.decides s r)
decides s r =
    let c = resolution.verdict r in
    let t = resolution.outcome_row s r.txn c in
    let row : BrickState → BrickTurn = (λ u. sends u (to_each (unknown_others r.list u.number u.known) (letter.Outcome r.txn c))) in
    goes-then t row (outcome_row s r.txn c) (same (row t.state))

resolves_on : (s : BrickState) (r : Resolving) → Goes (own s) (resolution.resolves_on s r)
resolves_on s r = goes-if _ (decides s r) (same _)

resolve : (s : BrickState) (txn : Txn) (list : List ℕ) → Goes (own s) (resolution.resolve s txn list)
resolve s txn list =
    let asking = sends s (to_each (unknown_others list s.number s.known) (letter.Query txn list)) in
    goes-then asking (λ t. resolution.resolves_on t (resolution.started s txn list)) (same asking) (resolves_on s (resolution.started s txn list))

pub help_row : (s : BrickState) (from : NodeNo) (txn : Txn) (list : List ℕ) → Goes (own s) (resolution.help_row s from txn list)
help_row s from txn list = goes-if _ (goes-if _ (same _) (resolve s txn list)) (same _)

pub query_row : (s : BrickState) (from : NodeNo) (txn : Txn) (list : List ℕ) → Goes (own s) (resolution.query_row s from txn list)
query_row s from txn list = goes-if _ (same _) (same _)

resolving_goes : (s : BrickState) (from : NodeNo) (n : News) (r : Resolving) → Goes (own s) (resolution.resolving_goes s from n r)
resolving_goes s from n r = goes-if _ (resolves_on s (resolution.with_news r from n)) (same _)

resolvings_go : (s : BrickState) (from : NodeNo) (n : News) (rs : List Resolving) → Goes (own s) (resolution.resolvings_go s from n rs)
resolvings_go s from n [] = same _
resolvings_go s from n (r ∷ rs) =
    let t = resolution.resolving_goes s from n r in
    goes-then t (λ u. resolution.resolvings_go u from n rs) (resolving_goes s from n r) (resolvings_go t.state from n rs)

pub all_hear : (s : BrickState) (from : NodeNo) (n : News) → Goes (own s) (resolution.all_hear s from n)
all_hear s from n = resolvings_go (record s { resolving = [] }) from n s.resolving

-- the last parts of a notice
asked_again : (s : BrickState) (d : Deferred) (q : Question) → Goes (own s) (notices.asked_again s d q)
asked_again s d Help = help_row s d.from d.txn d.list
asked_again s d Query = query_row s d.from d.txn d.list

asked_all_again : (s : BrickState) (ds : List Deferred) → Goes (own s) (notices.asked_all_again s ds)
asked_all_again s [] = same _
asked_all_again s (d ∷ ds) =
    let t = notices.asked_again s d d.question in
    goes-then t (λ u. notices.asked_all_again u ds) (asked_again s d d.question) (asked_all_again t.state ds)

pub deferred_part : (s : BrickState) → Goes (own s) (notices.deferred_part s)
deferred_part s = asked_all_again (record s { deferred = [] }) s.deferred

helped_by : (s : BrickState) (y : NodeNo) (txn : Txn) (list fs : List ℕ) → Goes (own s) (notices.helped_by s y txn list fs)
helped_by s y txn list [] = same _
helped_by s y txn list (f ∷ fs) = goes-if _ (resolve s txn list) (goes-if _ (same _) (same _))

pending_goes : (s : BrickState) (y : NodeNo) (txn : Txn) (list : List ℕ) → Goes (own s) (notices.pending_goes s y txn list)
pending_goes s y txn list = goes-if _ (helped_by s y txn list (unknown list s.known)) (same _)

pendings_go : (s : BrickState) (y : NodeNo) (ps : List (Txn × List ℕ)) → Goes (own s) (notices.pendings_go s y ps)
pendings_go s y [] = same _
pendings_go s y (p ∷ ps) =
    let t = notices.pending_goes s y p.0 p.1 in
    goes-then t (λ u. notices.pendings_go u y ps) (pending_goes s y p.0 p.1) (pendings_go t.state y ps)

pub pending_part : (s : BrickState) (y : NodeNo) → Goes (own s) (notices.pending_part s y)
pending_part s y = pendings_go s y (notices.numbered s.locks.pending)

-- leaves that are told
free-name : (s : BrickState) (name : Name) → takes.is_free s name ≡ true → IsFree (own s) name
free-name s name e =
    let under = not (any_under s.locks.pending name) in
    let p = and_parts (not (is_some (leased s.locks.leases name))) (under && not (joins_over s.order name)) e in
    let q = and_parts under (not (joins_over s.order name)) p.1 in
    record {
      unleased = is-none (leased s.locks.leases name) (not-true (is_some (leased s.locks.leases name)) p.0);
      unlocked = not-true (any_under s.locks.pending name) q.0;
      unjoined = not-true (joins_over s.order name) q.1;
    }

took-if : {x : Own} (c : Bool) (s u : BrickState) → (c ≡ true → Way x (own u)) → Way x (own s) → Way x (own (if c then u else s))
took-if true s u f w = f refl
took-if false s u f w = w

pub may-take : (s : BrickState) (mine leaf : Leaf) → own_leaf s.leaves leaf.name ≡ Some mine
    → may_take s.number mine leaf (has_node s.known) (takes.is_free s mine.name) ≡ true → MayTake (own s) mine leaf
may-take s mine leaf there e =
    let known = has_node s.known in
    let free = takes.is_free s mine.name in
    let lists = has leaf.list s.number in
    let maker = maker_known known leaf.stamp in
    let named = same_name mine.name leaf.name || is_half mine.name leaf.name in
    let a = and_parts (free && lists && maker && named) (is_some (successor mine leaf) || is_better_rival known mine leaf) e in
    let b = and_parts (free && lists && maker) named a.0 in
    let c = and_parts (free && lists) maker b.0 in
    let d = and_parts free lists c.0 in
    record { there = there; free = free-name s mine.name d.0; lists = d.1; maker = c.1; comes = a.1 }

taking : (s : BrickState) (leaf : Leaf) (mine : Option Leaf) → own_leaf s.leaves leaf.name ≡ mine → Way (own s) (own (takes.take_over s leaf mine))
taking s leaf None e = over (own s)
taking s leaf (Some mine) e =
    took-if (may_take s.number mine leaf (has_node s.known) (takes.is_free s mine.name)) s
    (record s { leaves = takes.replaced s.leaves mine leaf }) (λ f. one (taken mine leaf (may-take s mine leaf e f))) (over (own s))

pub take : (s : BrickState) (leaf : Leaf) → Way (own s) (own (takes.take s leaf))
take s leaf = taking s leaf (own_leaf s.leaves leaf.name) refl

known-if : (c : Bool) (s u : BrickState) → u.known ≡ s.known → (if c then u else s).known ≡ s.known
known-if true s u e = e
known-if false s u e = refl

pub take-known : (s : BrickState) (leaf : Leaf) (mine : Option Leaf) → (takes.take_over s leaf mine).known ≡ s.known
take-known s leaf None = refl
take-known s leaf (Some mine) =
    known-if (may_take s.number mine leaf (has_node s.known) (takes.is_free s mine.name)) s
    (record s { leaves = takes.replaced s.leaves mine leaf }) refl

-- orders of other bricks
granting : (s : BrickState) (from : NodeNo) (order : ℕ) (name : Name) (leaf : Option Leaf) → get s.leaves name ≡ leaf → IsFree (own s) name
    → has_node s.known from ≡ false → Goes (own s) (orders.granted s from order name leaf)
granting s from order name None e f u = same _
granting s from order name (Some leaf) e f u = does _ (gives name leaf from e f u)

answered : (s : BrickState) (from : NodeNo) (order : ℕ) (name : Name) (stamp : Option StampOf) (r : Option Refusal) → lease_refusal s name stamp ≡ r
    → has_node s.known from ≡ false → Goes (own s) (orders.lease_answered s from order name r)
answered s from order name stamp None e u = granting s from order name (get s.leaves name) refl (free-lease s name stamp e) u
answered s from order name stamp (Some why) e u = same _

pub lease_row : (s : BrickState) (from : NodeNo) (order : ℕ) (what : Wanted) → has_node s.known from ≡ false
    → Goes (own s) (orders.lease_row s from order what)
lease_row s from order (wanted.Name name) u = answered s from order name None (lease_refusal s name None) refl u
lease_row s from order (wanted.Leaf leaf) u =
    let t = takes.take s leaf in
    let known : has_node t.known from ≡ false = ap (λ k. has_node k from) (take-known s leaf (own_leaf s.leaves leaf.name)) ∙ u in
    after _ (take s leaf) (answered t from order leaf.name (Some leaf.stamp) (lease_refusal t leaf.name (Some leaf.stamp)) refl known)

pub copy_ask_row : (s : BrickState) (from : NodeNo) (order : ℕ) (name : Name) (after : Option ℕ) → Goes (own s) (orders.copy_ask_row s from order name after)
copy_ask_row s from order name after = goes-if _ (same _) (same _)

installing : (s : BrickState) (from : NodeNo) (order : ℕ) (leaf : Leaf) (mine : Option Leaf) → own_leaf s.leaves leaf.name ≡ mine
    → is_some (lease_of s.locks.leases leaf.name from) ≡ true → has leaf.list s.number ≡ true → Goes (own s) (orders.installed_over s from order leaf mine)
installing s from order leaf None there e f = same _
installing s from order leaf (Some mine) there e f =
    goes-when _ (λ g. does _ (installs mine leaf from (record { there = there; leased = e; lists = f; comes = g }))) (λ g. same _)

pub install_row : (s : BrickState) (from : NodeNo) (order : ℕ) (leaf : Leaf) → Goes (own s) (orders.install_row s from order leaf)
install_row s from order leaf =
    goes-when _ (λ e. let p = and_parts (is_some (lease_of s.locks.leases leaf.name from)) (has leaf.list s.number) e in
    installing s from order leaf (own_leaf s.leaves leaf.name) refl p.0 p.1) (λ e. same _)
