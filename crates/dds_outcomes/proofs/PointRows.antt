use Rattle.std.proofs.Common.{◌≡◌, ℕ, ◌==◌, ◌&&◌, ◌||◌, ◌++◌, Bool, true, false, not, cond, List, [], ◌∷◌, Option, Some, None, refl, sym, ap, subst}
use Rattle.std.specs.List.{AllByRecursion}
use Rattle.std.specs.Prelude.{if◌then◌else◌}
use Rattle.dds_base.specs.BrickList.{has}
use Rattle.dds_base.specs.NodeSet.{has_node}
use Rattle.dds_base.specs.Number.{Txn, same_txn}
use Rattle.dds_base.specs.declared.number.NodeNo.{NodeNo}
use Rattle.dds_base.specs.declared.pending.Pending.{Pending}
use Rattle.dds_brick_rows.specs.Calls as calls
use Rattle.dds_brick_rows.specs.Refusal.{get_refusal, update_denial}
use Rattle.dds_brick_rows.specs.Resolution as rows
use Rattle.dds_brick_rows.specs.declared.resolution.News.{News}
use Rattle.dds_brick_rows.specs.declared.resolution.News.TheVariants as news
use Rattle.dds_core.proofs.LetterTells.{Any, Each, order_part}
use Rattle.dds_core.proofs.Lists.{all-append}
use Rattle.dds_core.proofs.Rests.{Whole}
use Rattle.dds_core.specs.Brick.{live_brick_turn}
use Rattle.dds_core.specs.Notice as notices
use Rattle.dds_letters.specs.declared.letter.Letter.{Letter}
use Rattle.dds_letters.specs.declared.letter.Letter.TheVariants as letter
use Rattle.dds_letters.specs.declared.refusal.Denial.{Denial}
use Rattle.dds_letters.specs.declared.refusal.Refusal.{Refusal}
use Rattle.dds_locks.specs.Pending.{first_of, without}
use Rattle.dds_outcomes.proofs.PendingRows.{AllPending}
use Rattle.dds_outcomes.proofs.Pointless.{NoPoints, copy-ask-none, copy-part-none, granted-row-none, install-none, installed-none, lease-none}
use Rattle.dds_outcomes.proofs.Pointless.{order-part-none, refused-none}
use Rattle.dds_states.specs.Turn.{BrickTurn, still, sends, and_then, to_each, is_none_left, unknown, unknown_others}
use Rattle.dds_states.specs.declared.brick_state.BrickState.{BrickState}
use Rattle.dds_states.specs.declared.brick_state.Deferred.{Deferred}
use Rattle.dds_states.specs.declared.brick_state.Question.{Question}
use Rattle.dds_states.specs.declared.brick_state.Question.TheVariants.{Help, Query}
use Rattle.dds_states.specs.declared.brick_state.Resolving.{Resolving}
use Rattle.dds_states.specs.declared.turn.Point.{Point}
use Rattle.dds_states.specs.declared.turn.Point.TheVariants as point

-- What is so of each pending update is so of each one that a brick applies.

abbrev pub PointHas : (Pending → Type 0) → Point → Type 0
PointHas P (point.Read txn value) = Unit {0}
PointHas P (point.Applied p was) = P p

abbrev pub AllHave : (Pending → Type 0) → BrickTurn → Type 0
AllHave P r = AllByRecursion (PointHas P) r.out.points

pub record Draws (P : Pending → Type 0) (s : BrickState) (r : BrickTurn) : Type 0 where
  pub keeps : AllPending P s → AllPending P r.state
  pub points : AllPending P s → AllHave P r

draws-then : (P : Pending → Type 0) (s : BrickState) (r : BrickTurn) (row : BrickState → BrickTurn) → Draws P s r → ((u : BrickState) → Draws P u (row u))
    → Draws P s (and_then r row)
draws-then P s r row a b =
    let c : Draws P r.state (row r.state) = b r.state in
    record {
      keeps = λ h. c.keeps (a.keeps h);
      points = λ h. all-append (PointHas P) r.out.points (row r.state).out.points (a.points h) (c.points (a.keeps h));
    }

draws-if : (P : Pending → Type 0) (s : BrickState) (c : Bool) (r q : BrickTurn) → Draws P s r → Draws P s q → Draws P s (if c then r else q)
draws-if P s true r q h g = h
draws-if P s false r q h g = g

-- a turn that leaves what is pending, and applies nothing
draws-kept : (P : Pending → Type 0) (s u : BrickState) (ls : List (NodeNo × Letter)) → u.locks.pending ≡ s.locks.pending → Draws P s (sends u ls)
draws-kept P s u ls e = record { keeps = λ h. subst (AllByRecursion P) (sym e) h; points = λ h. tt }

draws-still : (P : Pending → Type 0) (s u : BrickState) → u.locks.pending ≡ s.locks.pending → Draws P s (still u)
draws-still P s u e = draws-kept P s u [] e

draws-from : (P : Pending → Type 0) (s u : BrickState) (r : BrickTurn) → u.locks.pending ≡ s.locks.pending → Draws P u r → Draws P s r
draws-from P s u r e d =
    record { keeps = λ h. d.keeps (subst (AllByRecursion P) (sym e) h); points = λ h. d.points (subst (AllByRecursion P) (sym e) h) }

-- one that is pending
first-if : (P : Pending → Type 0) (b : Bool) (x p : Pending) (r : Option Pending) → P x → (r ≡ Some p → P p) → cond b (Some x) r ≡ Some p → P p
first-if P true x p r h f e = let is : x ≡ p = cc in subst P is h
first-if P false x p r h f e = f e

first-is : (P : Pending → Type 0) (ps : List Pending) (t : Txn) (p : Pending) → AllByRecursion P ps → first_of ps t ≡ Some p → P p
first-is P [] t p h e = cc
first-is P (x ∷ ps) t p h e = first-if P (same_txn x.txn t) x p (first_of ps t) h.0 (first-is P ps t p h.1) e

without-all : (P : Pending → Type 0) (ps : List Pending) (t : Txn) → AllByRecursion P ps → AllByRecursion P (without ps t)
without-all P [] t h = tt
without-all P (p ∷ ps) t h =
    elim (same_txn p.txn t) as (λ b. AllByRecursion P (cond b ps (p ∷ without ps t))) [ true ↦ h.1 | false ↦ (h.0, without-all P ps t h.1) ]

settled-draws : (P : Pending → Type 0) (s : BrickState) (x : Txn) (c : Bool) (q : Option Pending) → first_of s.locks.pending x ≡ q
    → Draws P s (rows.settled (calls.dropped s x) c q)
settled-draws P s x c None e = record { keeps = λ h. without-all P s.locks.pending x h; points = λ h. tt }
settled-draws P s x true (Some p) e =
    record { keeps = λ h. without-all P s.locks.pending x h; points = λ h. (first-is P s.locks.pending x p h e, tt) }
settled-draws P s x false (Some p) e = record { keeps = λ h. without-all P s.locks.pending x h; points = λ h. tt }

outcome-draws : (P : Pending → Type 0) (s : BrickState) (x : Txn) (c : Bool) → Draws P s (rows.outcome_row s x c)
outcome-draws P s x c = settled-draws P s x c (first_of s.locks.pending x) refl

-- resolving
resolves-draws : (P : Pending → Type 0) (s : BrickState) (r : Resolving) → Draws P s (rows.resolves_on s r)
resolves-draws P s r =
    draws-if P s (is_none_left r.waiting) (rows.decides s r) (still (record s { resolving = s.resolving ++ r ∷ [] }))
    (draws-then P s (rows.outcome_row s r.txn (rows.verdict r))
    (λ t. sends t (to_each (unknown_others r.list t.number t.known) (letter.Outcome r.txn (rows.verdict r))))
    (outcome-draws P s r.txn (rows.verdict r)) (λ u. draws-kept P u u _ refl)) (draws-still P s _ refl)

resolve-draws : (P : Pending → Type 0) (s : BrickState) (x : Txn) (list : List ℕ) → Draws P s (rows.resolve s x list)
resolve-draws P s x list =
    draws-then P s (sends s (to_each (unknown_others list s.number s.known) (letter.Query x list))) (λ t. rows.resolves_on t (rows.started s x list))
    (draws-kept P s s _ refl) (λ u. resolves-draws P u (rows.started s x list))

help-draws : (P : Pending → Type 0) (s : BrickState) (from : NodeNo) (x : Txn) (list : List ℕ) → Draws P s (rows.help_row s from x list)
help-draws P s from x list =
    draws-if P s (rows.is_ready s.known x list s.number) (if rows.is_resolved s x then still s else rows.resolve s x list) (rows.defers s from Help x list)
    (draws-if P s (rows.is_resolved s x) (still s) (rows.resolve s x list) (draws-still P s s refl) (resolve-draws P s x list)) (draws-still P s _ refl)

query-draws : (P : Pending → Type 0) (s : BrickState) (from : NodeNo) (x : Txn) (list : List ℕ) → Draws P s (rows.query_row s from x list)
query-draws P s from x list =
    draws-if P s (rows.is_ready s.known x list from) _ (rows.defers s from Query x list) (draws-kept P s s _ refl) (draws-still P s _ refl)

resolving-draws : (P : Pending → Type 0) (s : BrickState) (y : NodeNo) (n : News) (r : Resolving) → Draws P s (rows.resolving_goes s y n r)
resolving-draws P s y n r =
    draws-if P s (rows.is_awaited r y n) (rows.resolves_on s (rows.with_news r y n)) (still (record s { resolving = s.resolving ++ r ∷ [] }))
    (resolves-draws P s (rows.with_news r y n)) (draws-still P s _ refl)

resolvings-draws : (P : Pending → Type 0) (s : BrickState) (y : NodeNo) (n : News) (rs : List Resolving) → Draws P s (rows.resolvings_go s y n rs)
resolvings-draws P s y n [] = draws-still P s s refl
resolvings-draws P s y n (r ∷ rs) =
    draws-then P s (rows.resolving_goes s y n r) (λ t. rows.resolvings_go t y n rs) (resolving-draws P s y n r) (λ u. resolvings-draws P u y n rs)

hear-draws : (P : Pending → Type 0) (s : BrickState) (y : NodeNo) (n : News) → Draws P s (rows.all_hear s y n)
hear-draws P s y n = draws-from P s (record s { resolving = [] }) _ refl (resolvings-draws P (record s { resolving = [] }) y n s.resolving)

-- a notice
asked-draws : (P : Pending → Type 0) (s : BrickState) (d : Deferred) (q : Question) → Draws P s (notices.asked_again s d q)
asked-draws P s d Help = help-draws P s d.from d.txn d.list
asked-draws P s d Query = query-draws P s d.from d.txn d.list

all-asked-draws : (P : Pending → Type 0) (s : BrickState) (ds : List Deferred) → Draws P s (notices.asked_all_again s ds)
all-asked-draws P s [] = draws-still P s s refl
all-asked-draws P s (d ∷ ds) =
    draws-then P s (notices.asked_again s d d.question) (λ t. notices.asked_all_again t ds) (asked-draws P s d d.question) (λ u. all-asked-draws P u ds)

helped-draws : (P : Pending → Type 0) (s : BrickState) (y : NodeNo) (x : Txn) (list fs : List ℕ) → Draws P s (notices.helped_by s y x list fs)
helped-draws P s y x list [] = draws-still P s s refl
helped-draws P s y x list (f ∷ fs) =
    let l = letter.Help x list in
    let c = y == x.library || has (rows.before list f) y in
    draws-if P s (f == s.number) (rows.resolve s x list) (if c then sends s ((f, l) ∷ []) else still s) (resolve-draws P s x list)
    (draws-if P s c (sends s ((f, l) ∷ [])) (still s) (draws-kept P s s _ refl) (draws-still P s s refl))

pendings-draws : (P : Pending → Type 0) (s : BrickState) (y : NodeNo) (ps : List (Txn × List ℕ)) → Draws P s (notices.pendings_go s y ps)
pendings-draws P s y [] = draws-still P s s refl
pendings-draws P s y (p ∷ ps) =
    draws-then P s (notices.pending_goes s y p.0 p.1) (λ t. notices.pendings_go t y ps)
    (draws-if P s (has_node s.known p.0.library && not (rows.is_resolved s p.0)) (notices.helped_by s y p.0 p.1 (unknown p.1 s.known)) (still s)
    (helped-draws P s y p.0 p.1 (unknown p.1 s.known)) (draws-still P s s refl)) (λ u. pendings-draws P u y ps)

order-draws : (P : Pending → Type 0) (s : BrickState) (y : NodeNo) → Draws P s (notices.order_part s y)
order-draws P s y =
    let r = notices.order_part s y in
    record {
      keeps = λ h. subst (AllByRecursion P) (sym (ap (λ (w : Whole). w.pending) (order_part {L = Any} {M = Each} s y).same)) h;
      points = λ h. subst (AllByRecursion (PointHas P)) (sym (order-part-none s y).none) tt;
    }

notice-draws : (P : Pending → Type 0) (s : BrickState) (y : NodeNo) → Draws P s (notices.notice_row s y)
notice-draws P s y =
    let l = notices.learns s y in
    let first = notices.order_part l y in
    let second = and_then first (λ t. notices.resolving_part t y) in
    let third = and_then second notices.deferred_part in
    draws-from P s l (notices.notice_row s y) refl
    (draws-then P l third (λ t. notices.pending_part t y)
    (draws-then P l second notices.deferred_part
    (draws-then P l first (λ t. notices.resolving_part t y) (order-draws P l y) (λ u. hear-draws P u y news.Stopped))
    (λ u. draws-from P u (record u { deferred = [] }) _ refl (all-asked-draws P (record u { deferred = [] }) u.deferred)))
    (λ u. pendings-draws P u y (notices.numbered u.locks.pending)))

-- each letter
none-have : (P : Pending → Type 0) (r : BrickTurn) → NoPoints r → AllHave P r
none-have P r h = subst (AllByRecursion (PointHas P)) (sym h.none) tt

got-have : (P : Pending → Type 0) (s : BrickState) (from : NodeNo) (x : Txn) (key : ℕ) (o : Option Refusal) → AllHave P (calls.got s from x key o)
got-have P s from x key None = (tt, tt)
got-have P s from x key (Some why) = tt

voted-have : (P : Pending → Type 0) (s : BrickState) (from : NodeNo) (p : Pending) (d : Option Denial) → AllHave P (calls.voted s from p d)
voted-have P s from p None = tt
voted-have P s from p (Some d) = tt

commit-have : (P : Pending → Type 0) (s u : BrickState) (from : NodeNo) (x : Txn) (q : Option Pending) → first_of s.locks.pending x ≡ q → AllPending P s
    → AllHave P (calls.commit_found u from q)
commit-have P s u from x None e h = tt
commit-have P s u from x (Some p) e h = (first-is P s.locks.pending x p h e, tt)

pub turn-points : (P : Pending → Type 0) (s : BrickState) (from : NodeNo) (l : Letter) → AllPending P s → AllHave P (live_brick_turn s from l)
turn-points P s from (letter.Get txn caller call key name stamp) h = got-have P s from txn key (get_refusal s key name stamp)
turn-points P s from (letter.Prepare txn caller call below name stamp list op) h =
    voted-have P (calls.trim s txn.library below) from _ (update_denial (calls.trim s txn.library below) op name stamp)
turn-points P s from (letter.Commit txn) h = commit-have P s (calls.dropped s txn) from txn (first_of s.locks.pending txn) refl h
turn-points P s from (letter.Abort txn) h = tt
turn-points P s from (letter.Push leaf) h = tt
turn-points P s from (letter.MapAsk txn caller call key) h = tt
turn-points P s from (letter.Help txn list) h = (help-draws P s from txn list).points h
turn-points P s from (letter.Query txn list) h = (query-draws P s from txn list).points h
turn-points P s from (letter.Status txn st) h = (hear-draws P s from (news.Told txn st)).points h
turn-points P s from (letter.Outcome txn c) h = (outcome-draws P s txn c).points h
turn-points P s from (letter.Lease number what) h = none-have P _ (lease-none s from number what)
turn-points P s from (letter.Granted number leaf) h = none-have P _ (granted-row-none s from number leaf)
turn-points P s from (letter.LeaseRefused number why) h = none-have P _ (refused-none s from number why)
turn-points P s from (letter.Release number name) h = tt
turn-points P s from (letter.CopyAsk number name after) h = none-have P _ (copy-ask-none s from number name after)
turn-points P s from (letter.CopyPart number last pairs) h = none-have P _ (copy-part-none s from number last pairs)
turn-points P s from (letter.Install number leaf) h = none-have P _ (install-none s from number leaf)
turn-points P s from (letter.Installed number name) h = none-have P _ (installed-none s from number)
turn-points P s from letter.Notice h = (notice-draws P s from).points h
turn-points P s from other h = tt
