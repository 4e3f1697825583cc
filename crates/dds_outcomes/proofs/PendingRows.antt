use Rattle.std.proofs.Common.{ℕ, ◌==◌, ◌&&◌, ◌||◌, ◌++◌, Bool, true, false, not, cond, List, [], ◌∷◌, Option, Some, None, sym, ap, subst}
use Rattle.std.specs.List.{AllByRecursion}
use Rattle.std.specs.Prelude.{if◌then◌else◌}
use Rattle.dds_base.specs.BrickList.{has}
use Rattle.dds_base.specs.NodeSet.{has_node}
use Rattle.dds_base.specs.Number.{Txn, same_txn}
use Rattle.dds_base.specs.declared.number.NodeNo.{NodeNo}
use Rattle.dds_base.specs.declared.pending.Pending.{Pending}
use Rattle.dds_brick_rows.specs.Calls as calls
use Rattle.dds_brick_rows.specs.Refusal.{get_refusal, update_denial}
use Rattle.dds_brick_rows.specs.Resolution as rows
use Rattle.dds_brick_rows.specs.declared.resolution.News.{News}
use Rattle.dds_brick_rows.specs.declared.resolution.News.TheVariants as news
use Rattle.dds_core.proofs.LetterTells.{Any, Each, letter-rests, order_part}
use Rattle.dds_core.proofs.Lists.{all-append}
use Rattle.dds_core.proofs.Rests.{Whole}
use Rattle.dds_core.specs.Brick.{live_brick_turn}
use Rattle.dds_core.specs.Notice as notices
use Rattle.dds_letters.specs.declared.letter.Letter.{Letter}
use Rattle.dds_letters.specs.declared.letter.Letter.TheVariants as letter
use Rattle.dds_letters.specs.declared.refusal.Denial.{Denial}
use Rattle.dds_letters.specs.declared.refusal.Refusal.{Refusal}
use Rattle.dds_locks.specs.Pending.{first_of, without}
use Rattle.dds_states.specs.Turn.{BrickTurn, still, sends, is_none_left, unknown}
use Rattle.dds_states.specs.declared.brick_state.BrickState.{BrickState}
use Rattle.dds_states.specs.declared.brick_state.Deferred.{Deferred}
use Rattle.dds_states.specs.declared.brick_state.Question.{Question}
use Rattle.dds_states.specs.declared.brick_state.Question.TheVariants.{Help, Query}
use Rattle.dds_states.specs.declared.brick_state.Resolving.{Resolving}

-- What is so of each pending update stays so in a turn, where it is so of the one that a Prepare asks for.

abbrev pub AllPending : (Pending → Type 0) → BrickState → Type 0
AllPending P s = AllByRecursion P s.locks.pending

without-all : (P : Pending → Type 0) (ps : List Pending) (t : Txn) → AllByRecursion P ps → AllByRecursion P (without ps t)
without-all P [] t h = tt
without-all P (p ∷ ps) t h =
    elim (same_txn p.txn t) as (λ b. AllByRecursion P (cond b ps (p ∷ without ps t))) [ true ↦ h.1 | false ↦ (h.0, without-all P ps t h.1) ]

pending-if : (P : Pending → Type 0) (c : Bool) (r q : BrickTurn) → AllPending P r.state → AllPending P q.state → AllPending P (if c then r else q).state
pending-if P true r q h g = h
pending-if P false r q h g = g

-- resolving
settled-all : (P : Pending → Type 0) (s : BrickState) (x : Txn) (c : Bool) (q : Option Pending) → AllPending P s
    → AllPending P (rows.settled (calls.dropped s x) c q).state
settled-all P s x c None h = without-all P s.locks.pending x h
settled-all P s x true (Some p) h = without-all P s.locks.pending x h
settled-all P s x false (Some p) h = without-all P s.locks.pending x h

resolves-all : (P : Pending → Type 0) (s : BrickState) (r : Resolving) → AllPending P s → AllPending P (rows.resolves_on s r).state
resolves-all P s r h =
    pending-if P (is_none_left r.waiting) (rows.decides s r) (still (record s { resolving = s.resolving ++ r ∷ [] }))
    (settled-all P s r.txn (rows.verdict r) (first_of s.locks.pending r.txn) h) h

help-all : (P : Pending → Type 0) (s : BrickState) (from : NodeNo) (x : Txn) (list : List ℕ) → AllPending P s
    → AllPending P (rows.help_row s from x list).state
help-all P s from x list h =
    pending-if P (rows.is_ready s.known x list s.number) (if rows.is_resolved s x then still s else rows.resolve s x list) (rows.defers s from Help x list)
    (pending-if P (rows.is_resolved s x) (still s) (rows.resolve s x list) h (resolves-all P s (rows.started s x list) h)) h

query-all : (P : Pending → Type 0) (s : BrickState) (from : NodeNo) (x : Txn) (list : List ℕ) → AllPending P s
    → AllPending P (rows.query_row s from x list).state
query-all P s from x list h = pending-if P (rows.is_ready s.known x list from) _ (rows.defers s from Query x list) h h

resolvings-all : (P : Pending → Type 0) (s : BrickState) (y : NodeNo) (n : News) (rs : List Resolving) → AllPending P s
    → AllPending P (rows.resolvings_go s y n rs).state
resolvings-all P s y n [] h = h
resolvings-all P s y n (r ∷ rs) h =
    resolvings-all P (rows.resolving_goes s y n r).state y n rs
    (pending-if P (rows.is_awaited r y n) (rows.resolves_on s (rows.with_news r y n)) (still (record s { resolving = s.resolving ++ r ∷ [] }))
    (resolves-all P s (rows.with_news r y n) h) h)

hear-all : (P : Pending → Type 0) (s : BrickState) (y : NodeNo) (n : News) → AllPending P s → AllPending P (rows.all_hear s y n).state
hear-all P s y n h = resolvings-all P (record s { resolving = [] }) y n s.resolving h

-- a notice
asked-all : (P : Pending → Type 0) (s : BrickState) (d : Deferred) (q : Question) → AllPending P s → AllPending P (notices.asked_again s d q).state
asked-all P s d Help h = help-all P s d.from d.txn d.list h
asked-all P s d Query h = query-all P s d.from d.txn d.list h

all-asked-all : (P : Pending → Type 0) (s : BrickState) (ds : List Deferred) → AllPending P s → AllPending P (notices.asked_all_again s ds).state
all-asked-all P s [] h = h
all-asked-all P s (d ∷ ds) h = all-asked-all P (notices.asked_again s d d.question).state ds (asked-all P s d d.question h)

helped-all : (P : Pending → Type 0) (s : BrickState) (y : NodeNo) (x : Txn) (list fs : List ℕ) → AllPending P s
    → AllPending P (notices.helped_by s y x list fs).state
helped-all P s y x list [] h = h
helped-all P s y x list (f ∷ fs) h =
    let l = letter.Help x list in
    let c = y == x.library || has (rows.before list f) y in
    pending-if P (f == s.number) (rows.resolve s x list) (if c then sends s ((f, l) ∷ []) else still s) (resolves-all P s (rows.started s x list) h)
    (pending-if P c (sends s ((f, l) ∷ [])) (still s) h h)

pendings-all : (P : Pending → Type 0) (s : BrickState) (y : NodeNo) (ps : List (Txn × List ℕ)) → AllPending P s
    → AllPending P (notices.pendings_go s y ps).state
pendings-all P s y [] h = h
pendings-all P s y (p ∷ ps) h =
    pendings-all P (notices.pending_goes s y p.0 p.1).state y ps
    (pending-if P (has_node s.known p.0.library && not (rows.is_resolved s p.0)) (notices.helped_by s y p.0 p.1 (unknown p.1 s.known)) (still s)
    (helped-all P s y p.0 p.1 (unknown p.1 s.known) h) h)

notice-all : (P : Pending → Type 0) (s : BrickState) (y : NodeNo) → AllPending P s → AllPending P (notices.notice_row s y).state
notice-all P s y h =
    let l = notices.learns s y in
    let o = notices.order_part l y in
    let one : AllPending P o.state = subst (AllByRecursion P) (sym (ap (λ (w : Whole). w.pending) (order_part {L = Any} {M = Each} l y).same)) h in
    let u = (rows.all_hear o.state y news.Stopped).state in
    let v = (notices.deferred_part u).state in
    pendings-all P v y (notices.numbered v.locks.pending)
    (all-asked-all P (record u { deferred = [] }) u.deferred (hear-all P o.state y news.Stopped one))

-- calls
got-all : (P : Pending → Type 0) (s : BrickState) (from : NodeNo) (x : Txn) (key : ℕ) (o : Option Refusal) → AllPending P s
    → AllPending P (calls.got s from x key o).state
got-all P s from x key None h = h
got-all P s from x key (Some why) h = h

voted-all : (P : Pending → Type 0) (s : BrickState) (from : NodeNo) (p : Pending) (d : Option Denial) → P p → AllPending P s
    → AllPending P (calls.voted s from p d).state
voted-all P s from p None i h = all-append P s.locks.pending (p ∷ []) h (i, tt)
voted-all P s from p (Some d) i h = h

commit-all : (P : Pending → Type 0) (s : BrickState) (from : NodeNo) (q : Option Pending) → AllPending P s → AllPending P (calls.commit_found s from q).state
commit-all P s from None h = h
commit-all P s from (Some p) h = h

abort-all : (P : Pending → Type 0) (s : BrickState) (q : Option Pending) → AllPending P s → AllPending P (calls.aborted s q)
abort-all P s None h = h
abort-all P s (Some p) h = h

-- of the update that a letter asks for
abbrev pub AsksFor : (Pending → Type 0) → Letter → Type 0
AsksFor P (letter.Prepare txn caller call below name stamp list op) = P (record { txn = txn; caller = caller; call = call; op = op; list = list })
AsksFor P other = Unit {0}

pub turn-all : (P : Pending → Type 0) (s : BrickState) (from : NodeNo) (l : Letter) → AsksFor P l → AllPending P s
    → AllPending P (live_brick_turn s from l).state
turn-all P s from (letter.Get txn caller call key name stamp) i h = got-all P s from txn key (get_refusal s key name stamp) h
turn-all P s from (letter.Prepare txn caller call below name stamp list op) i h =
    voted-all P (calls.trim s txn.library below) from _ (update_denial (calls.trim s txn.library below) op name stamp) i h
turn-all P s from (letter.Commit txn) i h =
    commit-all P (calls.dropped s txn) from (first_of s.locks.pending txn) (without-all P s.locks.pending txn h)
turn-all P s from (letter.Abort txn) i h = abort-all P (calls.dropped s txn) (first_of s.locks.pending txn) (without-all P s.locks.pending txn h)
turn-all P s from (letter.MapAsk txn caller call key) i h = h
turn-all P s from (letter.Got txn w) i h = h
turn-all P s from (letter.Vote txn vote) i h = h
turn-all P s from (letter.Applied txn was) i h = h
turn-all P s from (letter.Aborted txn) i h = h
turn-all P s from (letter.MapTell txn leaf) i h = h
turn-all P s from (letter.Help txn list) i h = help-all P s from txn list h
turn-all P s from (letter.Query txn list) i h = query-all P s from txn list h
turn-all P s from (letter.Status txn st) i h = hear-all P s from (news.Told txn st) h
turn-all P s from (letter.Outcome txn c) i h = settled-all P s txn c (first_of s.locks.pending txn) h
turn-all P s from letter.Notice i h = notice-all P s from h
turn-all P s from other i h = subst (AllByRecursion P) (sym (ap (λ (w : Whole). w.pending) (letter-rests s from from other tt).same)) h
