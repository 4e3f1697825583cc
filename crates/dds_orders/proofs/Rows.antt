use Rattle.std.proofs.Common.{◌≡◌, ℕ, ◌++◌, Bool, true, false, Option, Some, None, List, [], ◌∷◌, refl, ap}
use Rattle.std.specs.Prelude.{if◌then◌else◌}
use Rattle.dds_base.specs.NodeSet.{has_node}
use Rattle.dds_base.specs.Number.{Txn, StampOf}
use Rattle.dds_base.specs.Name.{Name}
use Rattle.dds_base.specs.declared.leaf.Leaf.{Leaf}
use Rattle.dds_base.specs.declared.number.NodeNo.{NodeNo}
use Rattle.dds_base.specs.declared.pending.Pending.{Pending}
use Rattle.dds_brick_rows.specs.Calls as calls
use Rattle.dds_brick_rows.specs.Refusal.{update_denial}
use Rattle.dds_brick_rows.specs.Resolution as resolution
use Rattle.dds_brick_rows.specs.Take as takes
use Rattle.dds_brick_rows.specs.declared.resolution.News.{News}
use Rattle.dds_core.specs.Notice as notices
use Rattle.dds_groups.specs.Take.{may_take}
use Rattle.dds_law_own.proofs.Changes.{own}
use Rattle.dds_law_own.proofs.Ways.{may-pend, may-take}
use Rattle.dds_letters.specs.declared.letter.Letter.TheVariants as letter
use Rattle.dds_letters.specs.declared.refusal.Denial.{Denial}
use Rattle.dds_letters.specs.declared.refusal.Refusal.{Refusal}
use Rattle.dds_maps.specs.Own.{own_leaf}
use Rattle.dds_states.specs.Turn.{BrickTurn, sends, to_each, unknown, unknown_others}
use Rattle.dds_states.specs.declared.brick_state.BrickState.{BrickState}
use Rattle.dds_states.specs.declared.brick_state.Deferred.{Deferred}
use Rattle.dds_states.specs.declared.brick_state.Question.{Question}
use Rattle.dds_states.specs.declared.brick_state.Question.TheVariants.{Help, Query}
use Rattle.dds_states.specs.declared.brick_state.Resolving.{Resolving}
use Rattle.dds_orders.proofs.Deeds.{Goes, Seat, Trip, after, arrives, drops, goes-if, goes-then, goes-to, nothing_owed, one, others-each, pends}
use Rattle.dds_orders.proofs.Deeds.{plain, seat}
use Rattle.dds_orders.proofs.Deeds.{takes as taken}

-- The deeds of a brick's rows for calls, to resolve, and for leaves that it is told. Their letters aren't of orders.

-- calls
got : (s : BrickState) (from : NodeNo) (txn : Txn) (key : ℕ) (r : Option Refusal) → Goes (seat s) (calls.got s from txn key r)
got s from txn key None = plain _ refl (refl, tt)
got s from txn key (Some why) = plain _ refl (refl, tt)

pub get_row : (s : BrickState) (from : NodeNo) (txn : Txn) (key : ℕ) (name : Name) (stamp : StampOf)
    → Goes (seat s) (calls.get_row s from txn key name stamp)
get_row s from txn key name stamp = got s from txn key _

voted : (s u : BrickState) (from : NodeNo) (p : Pending) (name : Name) (stamp : StampOf) (d : Option Denial) → seat u ≡ seat s
    → update_denial s p.op name stamp ≡ d → Goes (seat s) (calls.voted u from p d)
voted s u from p name stamp None is e =
    goes-to (record (seat s) { own = record (own s) { pending = s.locks.pending ++ p ∷ [] } }) _
    (ap (λ (x : Seat). record x { own = record x.own { pending = x.own.pending ++ p ∷ [] } }) is) (refl, tt)
    (one (pends p (may-pend s p name stamp e)) (refl, refl))
voted s u from p name stamp (Some why) is e = plain _ is (refl, tt)

pub prepare_row : (s : BrickState) (from : NodeNo) (p : Pending) (below : ℕ) (name : Name) (stamp : StampOf)
    → Goes (seat s) (calls.prepare_row s from p below name stamp)
prepare_row s from p below name stamp = voted s (calls.trim s p.txn.library below) from p name stamp (update_denial s p.op name stamp) refl refl

found : (u : BrickState) (from : NodeNo) (p : Option Pending) → Goes (seat u) (calls.commit_found u from p)
found u from None = plain _ refl tt
found u from (Some p) = plain _ refl (refl, tt)

pub commit_row : (s : BrickState) (from : NodeNo) (txn : Txn) → Goes (seat s) (calls.commit_row s from txn)
commit_row s from txn = after _ (one (drops txn) (refl, refl)) (found (calls.dropped s txn) from _)

aborted : (u : BrickState) (p : Option Pending) → seat (calls.aborted u p) ≡ seat u
aborted u None = refl
aborted u (Some p) = refl

pub abort_row : (s : BrickState) (from : NodeNo) (txn : Txn) → Goes (seat s) (calls.abort_row s from txn)
abort_row s from txn = goes-to (seat (calls.dropped s txn)) _ (aborted (calls.dropped s txn) _) (refl, tt) (one (drops txn) (refl, refl))

-- resolving
settled : (u : BrickState) (commit : Bool) (p : Option Pending) → Goes (seat u) (resolution.settled u commit p)
settled u commit None = plain _ refl tt
settled u true (Some p) = plain _ refl tt
settled u false (Some p) = plain _ refl tt

pub outcome_row : (s : BrickState) (txn : Txn) (commit : Bool) → Goes (seat s) (resolution.outcome_row s txn commit)
outcome_row s txn commit = after _ (one (drops txn) (refl, refl)) (settled (calls.dropped s txn) commit _)

decides : (s : BrickState) (r : Resolving) → Goes (seat s) (resolution.decides s r)
decides s r =
    let c = resolution.verdict r in
    let t = resolution.outcome_row s r.txn c in
    let row : BrickState → BrickTurn = (λ u. sends u (to_each (unknown_others r.list u.number u.known) (letter.Outcome r.txn c))) in
    goes-then t row (outcome_row s r.txn c)
    (plain (row t.state) refl (others-each (unknown_others r.list t.state.number t.state.known) (letter.Outcome r.txn c) refl))

resolves_on : (s : BrickState) (r : Resolving) → Goes (seat s) (resolution.resolves_on s r)
resolves_on s r = goes-if _ (decides s r) (plain _ refl tt)

resolve : (s : BrickState) (txn : Txn) (list : List ℕ) → Goes (seat s) (resolution.resolve s txn list)
resolve s txn list =
    let asking = sends s (to_each (unknown_others list s.number s.known) (letter.Query txn list)) in
    goes-then asking (λ t. resolution.resolves_on t (resolution.started s txn list))
    (plain asking refl (others-each (unknown_others list s.number s.known) (letter.Query txn list) refl)) (resolves_on s (resolution.started s txn list))

pub help_row : (s : BrickState) (from : NodeNo) (txn : Txn) (list : List ℕ) → Goes (seat s) (resolution.help_row s from txn list)
help_row s from txn list = goes-if _ (goes-if _ (plain _ refl tt) (resolve s txn list)) (plain _ refl tt)

pub query_row : (s : BrickState) (from : NodeNo) (txn : Txn) (list : List ℕ) → Goes (seat s) (resolution.query_row s from txn list)
query_row s from txn list = goes-if _ (plain _ refl (refl, tt)) (plain _ refl tt)

resolving_goes : (s : BrickState) (from : NodeNo) (n : News) (r : Resolving) → Goes (seat s) (resolution.resolving_goes s from n r)
resolving_goes s from n r = goes-if _ (resolves_on s (resolution.with_news r from n)) (plain _ refl tt)

resolvings_go : (s : BrickState) (from : NodeNo) (n : News) (rs : List Resolving) → Goes (seat s) (resolution.resolvings_go s from n rs)
resolvings_go s from n [] = plain _ refl tt
resolvings_go s from n (r ∷ rs) =
    let t = resolution.resolving_goes s from n r in
    goes-then t (λ u. resolution.resolvings_go u from n rs) (resolving_goes s from n r) (resolvings_go t.state from n rs)

pub all_hear : (s : BrickState) (from : NodeNo) (n : News) → Goes (seat s) (resolution.all_hear s from n)
all_hear s from n = resolvings_go (record s { resolving = [] }) from n s.resolving

-- the last parts of a notice
asked_again : (s : BrickState) (d : Deferred) (q : Question) → Goes (seat s) (notices.asked_again s d q)
asked_again s d Help = help_row s d.from d.txn d.list
asked_again s d Query = query_row s d.from d.txn d.list

asked_all_again : (s : BrickState) (ds : List Deferred) → Goes (seat s) (notices.asked_all_again s ds)
asked_all_again s [] = plain _ refl tt
asked_all_again s (d ∷ ds) =
    let t = notices.asked_again s d d.question in
    goes-then t (λ u. notices.asked_all_again u ds) (asked_again s d d.question) (asked_all_again t.state ds)

pub deferred_part : (s : BrickState) → Goes (seat s) (notices.deferred_part s)
deferred_part s = asked_all_again (record s { deferred = [] }) s.deferred

helped_by : (s : BrickState) (y : NodeNo) (txn : Txn) (list fs : List ℕ) → Goes (seat s) (notices.helped_by s y txn list fs)
helped_by s y txn list [] = plain _ refl tt
helped_by s y txn list (f ∷ fs) = goes-if _ (resolve s txn list) (goes-if _ (plain _ refl (refl, tt)) (plain _ refl tt))

pending_goes : (s : BrickState) (y : NodeNo) (txn : Txn) (list : List ℕ) → Goes (seat s) (notices.pending_goes s y txn list)
pending_goes s y txn list = goes-if _ (helped_by s y txn list (unknown list s.known)) (plain _ refl tt)

pendings_go : (s : BrickState) (y : NodeNo) (ps : List (Txn × List ℕ)) → Goes (seat s) (notices.pendings_go s y ps)
pendings_go s y [] = plain _ refl tt
pendings_go s y (p ∷ ps) =
    let t = notices.pending_goes s y p.0 p.1 in
    goes-then t (λ u. notices.pendings_go u y ps) (pending_goes s y p.0 p.1) (pendings_go t.state y ps)

pub pending_part : (s : BrickState) (y : NodeNo) → Goes (seat s) (notices.pending_part s y)
pending_part s y = pendings_go s y (notices.numbered s.locks.pending)

-- leaves that are told
-- what doesn't change what an order owes
abbrev pub Idle : Seat → Seat → Type 0
Idle x y = Trip nothing_owed x [] nothing_owed y

took-if : {x : Seat} (c : Bool) (s u : BrickState) → (c ≡ true → Idle x (seat u)) → Idle x (seat s) → Idle x (seat (if c then u else s))
took-if true s u f w = f refl
took-if false s u f w = w

taking : (s : BrickState) (leaf : Leaf) (mine : Option Leaf) → own_leaf s.leaves leaf.name ≡ mine → Idle (seat s) (seat (takes.take_over s leaf mine))
taking s leaf None e = arrives nothing_owed (seat s)
taking s leaf (Some mine) e =
    took-if (may_take s.number mine leaf (has_node s.known) (takes.is_free s mine.name)) s
    (record s { leaves = takes.replaced s.leaves mine leaf }) (λ f. one (taken mine leaf (may-take s mine leaf e f)) (refl, refl))
    (arrives nothing_owed (seat s))

pub take : (s : BrickState) (leaf : Leaf) → Idle (seat s) (seat (takes.take s leaf))
take s leaf = taking s leaf (own_leaf s.leaves leaf.name) refl

order-if : (c : Bool) (s u : BrickState) → u.order ≡ s.order → (if c then u else s).order ≡ s.order
order-if true s u e = e
order-if false s u e = refl

taken-order : (s : BrickState) (leaf : Leaf) (mine : Option Leaf) → (takes.take_over s leaf mine).order ≡ s.order
taken-order s leaf None = refl
taken-order s leaf (Some mine) =
    order-if (may_take s.number mine leaf (has_node s.known) (takes.is_free s mine.name)) s
    (record s { leaves = takes.replaced s.leaves mine leaf }) refl

pub take-order : (s : BrickState) (leaf : Leaf) → (takes.take s leaf).order ≡ s.order
take-order s leaf = taken-order s leaf (own_leaf s.leaves leaf.name)
