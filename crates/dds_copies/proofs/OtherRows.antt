use Rattle.std.proofs.Common.{◌≡◌, ℕ, ◌==◌, ◌&&◌, ◌||◌, ◌++◌, Bool, true, false, not, Option, Some, None, List, [], ◌∷◌, refl, ◌∙◌}
use Rattle.std.specs.Prelude.{if◌then◌else◌}
use Rattle.dds_base.specs.BrickList.{has}
use Rattle.dds_base.specs.NodeSet.{has_node}
use Rattle.dds_base.specs.Number.{Txn, StampOf}
use Rattle.dds_base.specs.Name.{Name}
use Rattle.dds_base.specs.declared.leaf.Leaf.{Leaf}
use Rattle.dds_base.specs.declared.number.NodeNo.{NodeNo}
use Rattle.dds_base.specs.declared.pending.Pending.{Pending}
use Rattle.dds_brick_rows.specs.Calls as calls
use Rattle.dds_brick_rows.specs.Refusal.{update_denial}
use Rattle.dds_brick_rows.specs.Resolution as resolution
use Rattle.dds_brick_rows.specs.Take as takes
use Rattle.dds_brick_rows.specs.declared.resolution.News.{News}
use Rattle.dds_core.proofs.Lists.{all-append}
use Rattle.dds_core.specs.Notice as notices
use Rattle.dds_groups.specs.Take.{may_take}
use Rattle.dds_letters.specs.declared.letter.Letter.{Letter}
use Rattle.dds_letters.specs.declared.letter.Letter.TheVariants as letter
use Rattle.dds_letters.specs.declared.refusal.Denial.{Denial}
use Rattle.dds_letters.specs.declared.refusal.Refusal.{Refusal}
use Rattle.dds_locks.specs.Status.{status}
use Rattle.dds_maps.specs.Own.{own_leaf}
use Rattle.dds_orders.proofs.Deeds.{AreOthers, is_of_orders, others-each}
use Rattle.dds_states.specs.Turn.{BrickTurn, and_then, is_none_left, sends, still, to_each, unknown, unknown_others}
use Rattle.dds_states.specs.declared.brick_state.BrickState.{BrickState}
use Rattle.dds_states.specs.declared.brick_state.Deferred.{Deferred}
use Rattle.dds_states.specs.declared.brick_state.Question.{Question}
use Rattle.dds_states.specs.declared.brick_state.Question.TheVariants.{Help, Query}
use Rattle.dds_states.specs.declared.brick_state.Resolving.{Resolving}

-- A brick's rows for calls, to resolve, and for leaves that it is told leave its open order as it is, and send no letters of orders.

pub record Leaves (s : BrickState) (t : BrickTurn) : Type 0 where
  pub order : t.state.order ≡ s.order
  pub others : AreOthers t.out.letters

pub leaves-then : {s : BrickState} (t : BrickTurn) (row : BrickState → BrickTurn) → Leaves s t → Leaves t.state (row t.state) → Leaves s (and_then t row)
leaves-then t row g h =
    record {
      order = h.order ∙ g.order;
      others = all-append (λ (p : NodeNo × Letter). is_of_orders p.1 ≡ false) t.out.letters (row t.state).out.letters g.others h.others;
    }

pub leaves-if : {s : BrickState} (c : Bool) {t u : BrickTurn} → Leaves s t → Leaves s u → Leaves s (if c then t else u)
leaves-if true g h = g
leaves-if false g h = h

pub plain : {s : BrickState} (t : BrickTurn) → t.state.order ≡ s.order → AreOthers t.out.letters → Leaves s t
plain t e h = record { order = e; others = h }

-- calls
got : (s : BrickState) (from : NodeNo) (txn : Txn) (key : ℕ) (r : Option Refusal) → Leaves s (calls.got s from txn key r)
got s from txn key None = plain _ refl (refl, tt)
got s from txn key (Some why) = plain _ refl (refl, tt)

pub get_row : (s : BrickState) (from : NodeNo) (txn : Txn) (key : ℕ) (name : Name) (stamp : StampOf)
    → Leaves s (calls.get_row s from txn key name stamp)
get_row s from txn key name stamp = got s from txn key _

voted : (s u : BrickState) (from : NodeNo) (p : Pending) (d : Option Denial) → u.order ≡ s.order → Leaves s (calls.voted u from p d)
voted s u from p None is = plain _ is (refl, tt)
voted s u from p (Some why) is = plain _ is (refl, tt)

pub prepare_row : (s : BrickState) (from : NodeNo) (p : Pending) (below : ℕ) (name : Name) (stamp : StampOf)
    → Leaves s (calls.prepare_row s from p below name stamp)
prepare_row s from p below name stamp = voted s (calls.trim s p.txn.library below) from p (update_denial s p.op name stamp) refl

found : (u : BrickState) (from : NodeNo) (p : Option Pending) → Leaves u (calls.commit_found u from p)
found u from None = plain _ refl tt
found u from (Some p) = plain _ refl (refl, tt)

pub commit_row : (s : BrickState) (from : NodeNo) (txn : Txn) → Leaves s (calls.commit_row s from txn)
commit_row s from txn = let h = found (calls.dropped s txn) from _ in plain _ h.order h.others

aborted : (u : BrickState) (p : Option Pending) → (calls.aborted u p).order ≡ u.order
aborted u None = refl
aborted u (Some p) = refl

pub abort_row : (s : BrickState) (from : NodeNo) (txn : Txn) → Leaves s (calls.abort_row s from txn)
abort_row s from txn = plain _ (aborted (calls.dropped s txn) _) (refl, tt)

-- resolving
settled : (u : BrickState) (commit : Bool) (p : Option Pending) → Leaves u (resolution.settled u commit p)
settled u commit None = plain _ refl tt
settled u true (Some p) = plain _ refl tt
settled u false (Some p) = plain _ refl tt

pub outcome_row : (s : BrickState) (txn : Txn) (commit : Bool) → Leaves s (resolution.outcome_row s txn commit)
outcome_row s txn commit = let h = settled (calls.dropped s txn) commit _ in plain _ h.order h.others

decides : (s : BrickState) (r : Resolving) → Leaves s (resolution.decides s r)
decides s r =
    let c = resolution.verdict r in
    let t = resolution.outcome_row s r.txn c in
    let row : BrickState → BrickTurn = (λ u. sends u (to_each (unknown_others r.list u.number u.known) (letter.Outcome r.txn c))) in
    leaves-then t row (outcome_row s r.txn c)
    (plain (row t.state) refl (others-each (unknown_others r.list t.state.number t.state.known) (letter.Outcome r.txn c) refl))

resolves_on : (s : BrickState) (r : Resolving) → Leaves s (resolution.resolves_on s r)
resolves_on s r = leaves-if (is_none_left r.waiting) (decides s r) (plain (still (record s { resolving = s.resolving ++ r ∷ [] })) refl tt)

resolve : (s : BrickState) (txn : Txn) (list : List ℕ) → Leaves s (resolution.resolve s txn list)
resolve s txn list =
    let asking = sends s (to_each (unknown_others list s.number s.known) (letter.Query txn list)) in
    leaves-then asking (λ t. resolution.resolves_on t (resolution.started s txn list))
    (plain asking refl (others-each (unknown_others list s.number s.known) (letter.Query txn list) refl)) (resolves_on s (resolution.started s txn list))

pub help_row : (s : BrickState) (from : NodeNo) (txn : Txn) (list : List ℕ) → Leaves s (resolution.help_row s from txn list)
help_row s from txn list =
    leaves-if (resolution.is_ready s.known txn list s.number)
    (leaves-if (resolution.is_resolved s txn) (plain (still s) refl tt) (resolve s txn list)) (plain (resolution.defers s from Help txn list) refl tt)

pub query_row : (s : BrickState) (from : NodeNo) (txn : Txn) (list : List ℕ) → Leaves s (resolution.query_row s from txn list)
query_row s from txn list =
    leaves-if (resolution.is_ready s.known txn list from)
    (plain (sends s ((from, letter.Status txn (status s.locks txn)) ∷ [])) refl (refl, tt)) (plain (resolution.defers s from Query txn list) refl tt)

resolving_goes : (s : BrickState) (from : NodeNo) (n : News) (r : Resolving) → Leaves s (resolution.resolving_goes s from n r)
resolving_goes s from n r =
    leaves-if (resolution.is_awaited r from n) (resolves_on s (resolution.with_news r from n))
    (plain (still (record s { resolving = s.resolving ++ r ∷ [] })) refl tt)

resolvings_go : (s : BrickState) (from : NodeNo) (n : News) (rs : List Resolving) → Leaves s (resolution.resolvings_go s from n rs)
resolvings_go s from n [] = plain _ refl tt
resolvings_go s from n (r ∷ rs) =
    let t = resolution.resolving_goes s from n r in
    leaves-then t (λ u. resolution.resolvings_go u from n rs) (resolving_goes s from n r) (resolvings_go t.state from n rs)

pub all_hear : (s : BrickState) (from : NodeNo) (n : News) → Leaves s (resolution.all_hear s from n)
all_hear s from n = let h = resolvings_go (record s { resolving = [] }) from n s.resolving in plain _ h.order h.others

-- the last parts of a notice
asked_again : (s : BrickState) (d : Deferred) (q : Question) → Leaves s (notices.asked_again s d q)
asked_again s d Help = help_row s d.from d.txn d.list
asked_again s d Query = query_row s d.from d.txn d.list

asked_all_again : (s : BrickState) (ds : List Deferred) → Leaves s (notices.asked_all_again s ds)
asked_all_again s [] = plain _ refl tt
asked_all_again s (d ∷ ds) =
    let t = notices.asked_again s d d.question in
    leaves-then t (λ u. notices.asked_all_again u ds) (asked_again s d d.question) (asked_all_again t.state ds)

pub deferred_part : (s : BrickState) → Leaves s (notices.deferred_part s)
deferred_part s = let h = asked_all_again (record s { deferred = [] }) s.deferred in plain _ h.order h.others

helped_by : (s : BrickState) (y : NodeNo) (txn : Txn) (list fs : List ℕ) → Leaves s (notices.helped_by s y txn list fs)
helped_by s y txn list [] = plain _ refl tt
helped_by s y txn list (f ∷ fs) =
    leaves-if (f == s.number) (resolve s txn list)
    (leaves-if (y == txn.library || has (resolution.before list f) y) (plain (sends s ((f, letter.Help txn list) ∷ [])) refl (refl, tt))
    (plain (still s) refl tt))

pending_goes : (s : BrickState) (y : NodeNo) (txn : Txn) (list : List ℕ) → Leaves s (notices.pending_goes s y txn list)
pending_goes s y txn list =
    leaves-if (has_node s.known txn.library && not (resolution.is_resolved s txn)) (helped_by s y txn list (unknown list s.known)) (plain (still s) refl tt)

pendings_go : (s : BrickState) (y : NodeNo) (ps : List (Txn × List ℕ)) → Leaves s (notices.pendings_go s y ps)
pendings_go s y [] = plain _ refl tt
pendings_go s y (p ∷ ps) =
    let t = notices.pending_goes s y p.0 p.1 in
    leaves-then t (λ u. notices.pendings_go u y ps) (pending_goes s y p.0 p.1) (pendings_go t.state y ps)

pub pending_part : (s : BrickState) (y : NodeNo) → Leaves s (notices.pending_part s y)
pending_part s y = pendings_go s y (notices.numbered s.locks.pending)

-- leaves that are told
take-if : (c : Bool) (s u : BrickState) → u.order ≡ s.order → (if c then u else s).order ≡ s.order
take-if true s u e = e
take-if false s u e = refl

taking : (s : BrickState) (leaf : Leaf) (mine : Option Leaf) → (takes.take_over s leaf mine).order ≡ s.order
taking s leaf None = refl
taking s leaf (Some mine) =
    take-if (may_take s.number mine leaf (has_node s.known) (takes.is_free s mine.name)) s (record s { leaves = takes.replaced s.leaves mine leaf }) refl

pub take : (s : BrickState) (leaf : Leaf) → (takes.take s leaf).order ≡ s.order
take s leaf = taking s leaf (own_leaf s.leaves leaf.name)
