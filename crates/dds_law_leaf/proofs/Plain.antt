use Rattle.std.proofs.Common.{◌≡◌, ℕ, Bool, true, false, Option, Some, None, List, [], ◌∷◌, refl, ◌∙◌}
use Rattle.std.specs.List.{AllByRecursion}
use Rattle.std.specs.Prelude.{if◌then◌else◌}
use Rattle.dds_base.specs.Number.{Txn}
use Rattle.dds_base.specs.declared.number.NodeNo.{NodeNo}
use Rattle.dds_base.specs.declared.pending.Pending.{Pending}
use Rattle.dds_brick_rows.specs.Calls as calls
use Rattle.dds_brick_rows.specs.Resolution as resolution
use Rattle.dds_brick_rows.specs.declared.resolution.News.{News}
use Rattle.dds_core.proofs.Lists.{all-append}
use Rattle.dds_core.specs.Notice as notices
use Rattle.dds_letters.specs.declared.letter.Letter.{Letter}
use Rattle.dds_letters.specs.declared.letter.Letter.TheVariants as letter
use Rattle.dds_states.specs.Turn.{BrickTurn, and_then, sends, still, to_each, unknown, unknown_others}
use Rattle.dds_states.specs.declared.brick_state.BrickState.{BrickState}
use Rattle.dds_states.specs.declared.brick_state.Deferred.{Deferred}
use Rattle.dds_states.specs.declared.brick_state.Question.{Question}
use Rattle.dds_states.specs.declared.brick_state.Question.TheVariants.{Help, Query}
use Rattle.dds_states.specs.declared.brick_state.Resolving.{Resolving}
use Rattle.dds_world.specs.Groups.{letter_leaf}
use Rattle.dds_law_leaf.proofs.Book.{Leafing, leafing}
use Rattle.dds_law_leaf.proofs.Turns.{Plain}

-- The rows of a brick that have nothing to do with leaves: updates that end, and resolving.

pub plain-still : (s : BrickState) → Plain (leafing s) (still s)
plain-still s = record { same = refl; letters = tt }

plain-if : {x : Leafing} (c : Bool) {t u : BrickTurn} → Plain x t → Plain x u → Plain x (if c then t else u)
plain-if true h k = h
plain-if false h k = k

plain-then : {x : Leafing} (t : BrickTurn) (row : BrickState → BrickTurn) → Plain x t → ((u : BrickState) → Plain (leafing u) (row u))
    → Plain x (and_then t row)
plain-then t row h f =
    let g = f t.state in
    record { same = g.same ∙ h.same; letters = all-append _ t.out.letters (row t.state).out.letters h.letters g.letters }

plain-each : (s : BrickState) (ns : List NodeNo) (l : Letter) → letter_leaf l ≡ None → Plain (leafing s) (sends s (to_each ns l))
plain-each s ns l h = record { same = refl; letters = each ns }
  where
    each : (ns : List NodeNo) → AllByRecursion (λ (p : NodeNo × Letter). letter_leaf p.1 ≡ None) (to_each ns l)
    each [] = tt
    each (n ∷ ns) = (h, each ns)

-- updates
applied : (s : BrickState) (p : Pending) → Plain (leafing s) (calls.applied s p)
applied s p = record { same = refl; letters = tt }

commit_found : (s : BrickState) (from : NodeNo) (p : Option Pending) → Plain (leafing s) (calls.commit_found s from p)
commit_found s from None = plain-still s
commit_found s from (Some p) =
    plain-then (calls.applied s p) (λ t. sends t ((from, letter.Applied p.txn (calls.flag_at s p)) ∷ [])) (applied s p)
    (λ u. record { same = refl; letters = (refl, tt) })

pub commit_row : (s : BrickState) (from : NodeNo) (txn : Txn) → Plain (leafing s) (calls.commit_row s from txn)
commit_row s from txn = commit_found (calls.dropped s txn) from _

aborting : (s : BrickState) (from : NodeNo) (txn : Txn) (p : Option Pending) → Plain (leafing s) (sends (calls.aborted s p) ((from, letter.Aborted txn) ∷ []))
aborting s from txn None = record { same = refl; letters = (refl, tt) }
aborting s from txn (Some p) = record { same = refl; letters = (refl, tt) }

pub abort_row : (s : BrickState) (from : NodeNo) (txn : Txn) → Plain (leafing s) (calls.abort_row s from txn)
abort_row s from txn = aborting (calls.dropped s txn) from txn _

-- resolving
settled : (s : BrickState) (commit : Bool) (p : Option Pending) → Plain (leafing s) (resolution.settled s commit p)
settled s commit None = plain-still s
settled s true (Some p) = applied s p
settled s false (Some p) = record { same = refl; letters = tt }

pub outcome_row : (s : BrickState) (txn : Txn) (commit : Bool) → Plain (leafing s) (resolution.outcome_row s txn commit)
outcome_row s txn commit = settled (calls.dropped s txn) commit _

decides : (s : BrickState) (r : Resolving) → Plain (leafing s) (resolution.decides s r)
decides s r =
    plain-then (resolution.outcome_row s r.txn (resolution.verdict r)) _ (outcome_row s r.txn (resolution.verdict r))
    (λ u. plain-each u (unknown_others r.list u.number u.known) (letter.Outcome r.txn (resolution.verdict r)) refl)

resolves_on : (s : BrickState) (r : Resolving) → Plain (leafing s) (resolution.resolves_on s r)
resolves_on s r = plain-if _ (decides s r) (record { same = refl; letters = tt })

resolve : (s : BrickState) (txn : Txn) (list : List ℕ) → Plain (leafing s) (resolution.resolve s txn list)
resolve s txn list =
    plain-then (sends s (to_each (unknown_others list s.number s.known) (letter.Query txn list)))
    (λ t. resolution.resolves_on t (resolution.started s txn list)) (plain-each s (unknown_others list s.number s.known) (letter.Query txn list) refl)
    (λ u. resolves_on u (resolution.started s txn list))

pub help_row : (s : BrickState) (from : NodeNo) (txn : Txn) (list : List ℕ) → Plain (leafing s) (resolution.help_row s from txn list)
help_row s from txn list = plain-if _ (plain-if _ (plain-still s) (resolve s txn list)) (record { same = refl; letters = tt })

pub query_row : (s : BrickState) (from : NodeNo) (txn : Txn) (list : List ℕ) → Plain (leafing s) (resolution.query_row s from txn list)
query_row s from txn list = plain-if _ (record { same = refl; letters = (refl, tt) }) (record { same = refl; letters = tt })

resolving_goes : (s : BrickState) (from : NodeNo) (n : News) (r : Resolving) → Plain (leafing s) (resolution.resolving_goes s from n r)
resolving_goes s from n r = plain-if _ (resolves_on s (resolution.with_news r from n)) (record { same = refl; letters = tt })

resolvings_go : (s : BrickState) (from : NodeNo) (n : News) (rs : List Resolving) → Plain (leafing s) (resolution.resolvings_go s from n rs)
resolvings_go s from n [] = plain-still s
resolvings_go s from n (r ∷ rs) =
    plain-then (resolution.resolving_goes s from n r) (λ t. resolution.resolvings_go t from n rs) (resolving_goes s from n r) (λ u. resolvings_go u from n rs)

pub all_hear : (s : BrickState) (from : NodeNo) (n : News) → Plain (leafing s) (resolution.all_hear s from n)
all_hear s from n = resolvings_go (record s { resolving = [] }) from n s.resolving

-- the last three parts of a notice
asked_again : (s : BrickState) (d : Deferred) (q : Question) → Plain (leafing s) (notices.asked_again s d q)
asked_again s d Help = help_row s d.from d.txn d.list
asked_again s d Query = query_row s d.from d.txn d.list

asked_all_again : (s : BrickState) (ds : List Deferred) → Plain (leafing s) (notices.asked_all_again s ds)
asked_all_again s [] = plain-still s
asked_all_again s (d ∷ ds) =
    plain-then (notices.asked_again s d d.question) (λ t. notices.asked_all_again t ds) (asked_again s d d.question) (λ u. asked_all_again u ds)

pub deferred_part : (s : BrickState) → Plain (leafing s) (notices.deferred_part s)
deferred_part s = asked_all_again (record s { deferred = [] }) s.deferred

helped_by : (s : BrickState) (y : NodeNo) (txn : Txn) (list fs : List ℕ) → Plain (leafing s) (notices.helped_by s y txn list fs)
helped_by s y txn list [] = plain-still s
helped_by s y txn list (f ∷ fs) = plain-if _ (resolve s txn list) (plain-if _ (record { same = refl; letters = (refl, tt) }) (plain-still s))

pending_goes : (s : BrickState) (y : NodeNo) (txn : Txn) (list : List ℕ) → Plain (leafing s) (notices.pending_goes s y txn list)
pending_goes s y txn list = plain-if _ (helped_by s y txn list (unknown list s.known)) (plain-still s)

pendings_go : (s : BrickState) (y : NodeNo) (ps : List (Txn × List ℕ)) → Plain (leafing s) (notices.pendings_go s y ps)
pendings_go s y [] = plain-still s
pendings_go s y (p ∷ ps) =
    plain-then (notices.pending_goes s y p.0 p.1) (λ t. notices.pendings_go t y ps) (pending_goes s y p.0 p.1) (λ u. pendings_go u y ps)

pub pending_part : (s : BrickState) (y : NodeNo) → Plain (leafing s) (notices.pending_part s y)
pending_part s y = pendings_go s y (notices.numbered s.locks.pending)
