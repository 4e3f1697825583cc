use Rattle.std.proofs.Common.{◌≡◌, ℕ, ◌==◌, ◌&&◌, ◌||◌, inl, inr, Bool, true, not, List, [], ◌∷◌, Option, Some, None, refl, sym, ap, ◌∙◌, subst}
use Rattle.std.specs.FinMap.{get}
use Rattle.std.specs.List.{AllByRecursion}
use Rattle.std.specs.Prelude.{if◌then◌else◌}
use Rattle.dds_base.specs.BrickList.{has}
use Rattle.dds_base.specs.NodeSet.{has_node}
use Rattle.dds_base.specs.Number.{Txn}
use Rattle.dds_base.specs.declared.number.NodeNo.{NodeNo}
use Rattle.dds_base.specs.declared.pending.Pending.{Pending}
use Rattle.dds_brick_rows.specs.Calls as calls
use Rattle.dds_brick_rows.specs.Refusal.{get_refusal, update_denial}
use Rattle.dds_brick_rows.specs.Resolution as rows
use Rattle.dds_brick_rows.specs.declared.resolution.News.TheVariants as news
use Rattle.dds_core.proofs.LetterTells.{Any, Each, letter-rests, order_part}
use Rattle.dds_core.proofs.Lists.{all-map}
use Rattle.dds_core.proofs.Rests.{AllOrders, Orders, Whole}
use Rattle.dds_core.specs.Brick.{live_brick_turn}
use Rattle.dds_core.specs.Notice as notices
use Rattle.dds_letters.specs.declared.letter.Letter.{Letter}
use Rattle.dds_letters.specs.declared.letter.Letter.TheVariants as letter
use Rattle.dds_letters.specs.declared.refusal.Denial.{Denial}
use Rattle.dds_letters.specs.declared.refusal.Refusal.{Refusal}
use Rattle.dds_locks.specs.Outcomes.{OutcomeMap}
use Rattle.dds_locks.specs.Pending.{first_of}
use Rattle.dds_locks.specs.State.{LockState}
use Rattle.dds_locks.specs.Status.{status}
use Rattle.dds_resolve.specs.Law.{Differ, txns}
use Rattle.dds_states.specs.Turn.{BrickTurn, still, sends, and_then, unknown}
use Rattle.dds_states.specs.declared.brick_state.BrickState.{BrickState}
use Rattle.dds_states.specs.declared.brick_state.Deferred.{Deferred}
use Rattle.dds_states.specs.declared.brick_state.Question.{Question}
use Rattle.dds_states.specs.declared.brick_state.Question.TheVariants.{Help, Query}
use Rattle.dds_states.specs.declared.brick_state.Resolving.{Resolving}
use Rattle.dds_talk.specs.Seen.{Once, is_pending}
use Rattle.dds_outcomes.proofs.Marks.{order-marks, quiet-one, tale-over}
use Rattle.dds_outcomes.proofs.Verdicts.{AllSaid, Fair, SaidOk, Speaks, Sure, hear-speaks, outcome-speaks, resolve-speaks, speaks-after}
use Rattle.dds_outcomes.proofs.Verdicts.{speaks-if, speaks-kept, speaks-still}

-- The same of each letter that a brick takes.

help-speaks : (D : Txn → Bool) (s : BrickState) (from : NodeNo) (x : Txn) (list : List ℕ) → Once s.locks.pending → Speaks D s (rows.help_row s from x list)
help-speaks D s from x list o =
    speaks-if D s (rows.is_ready s.known x list s.number) (if rows.is_resolved s x then still s else rows.resolve s x list) (rows.defers s from Help x list)
    (λ e. speaks-if D s (rows.is_resolved s x) (still s) (rows.resolve s x list) (λ i. speaks-still D s s refl) (resolve-speaks D s x list o))
    (speaks-still D s (rows.defers s from Help x list).state refl)

query-speaks : (D : Txn → Bool) (s : BrickState) (from : NodeNo) (x : Txn) (list : List ℕ) → Speaks D s (rows.query_row s from x list)
query-speaks D s from x list =
    speaks-if D s (rows.is_ready s.known x list from) (sends s ((from, letter.Status x (status s.locks x)) ∷ [])) (rows.defers s from Query x list)
    (λ e. speaks-kept D s ((from, letter.Status x (status s.locks x)) ∷ []) (quiet-one (letter.Status x (status s.locks x)) from refl) (tt, tt))
    (speaks-still D s (rows.defers s from Query x list).state refl)

-- a notice
asked-speaks : (D : Txn → Bool) (s : BrickState) (d : Deferred) (q : Question) → Once s.locks.pending → Speaks D s (notices.asked_again s d q)
asked-speaks D s d Help o = help-speaks D s d.from d.txn d.list o
asked-speaks D s d Query o = query-speaks D s d.from d.txn d.list

all-asked-speak : (D : Txn → Bool) (s : BrickState) (ds : List Deferred) → Once s.locks.pending → Speaks D s (notices.asked_all_again s ds)
all-asked-speak D s [] o = speaks-still D s s refl
all-asked-speak D s (d ∷ ds) o =
    let one = asked-speaks D s d d.question o in
    speaks-after D s (notices.asked_again s d d.question) (λ t. notices.asked_all_again t ds) o one
    (all-asked-speak D (notices.asked_again s d d.question).state ds (one.tale.once o))

deferred-speaks : (D : Txn → Bool) (s : BrickState) → Once s.locks.pending → Speaks D s (notices.deferred_part s)
deferred-speaks D s o =
    let k = all-asked-speak D (record s { deferred = [] }) s.deferred o in
    record { tale = tale-over s (record s { deferred = [] }) (notices.deferred_part s) refl k.tale; said_ok = k.said_ok }

helped-speaks : (D : Txn → Bool) (s : BrickState) (y : NodeNo) (x : Txn) (list fs : List ℕ) → Once s.locks.pending
    → Speaks D s (notices.helped_by s y x list fs)
helped-speaks D s y x list [] o = speaks-still D s s refl
helped-speaks D s y x list (f ∷ fs) o =
    let l = letter.Help x list in
    let c = y == x.library || has (rows.before list f) y in
    speaks-if D s (f == s.number) (rows.resolve s x list) (if c then sends s ((f, l) ∷ []) else still s) (λ e. resolve-speaks D s x list o)
    (speaks-if D s c (sends s ((f, l) ∷ [])) (still s) (λ e. speaks-kept D s ((f, l) ∷ []) (quiet-one l f refl) (tt, tt)) (speaks-still D s s refl))

pending-speaks : (D : Txn → Bool) (s : BrickState) (y : NodeNo) (x : Txn) (list : List ℕ) → Once s.locks.pending
    → Speaks D s (notices.pending_goes s y x list)
pending-speaks D s y x list o =
    speaks-if D s (has_node s.known x.library && not (rows.is_resolved s x)) (notices.helped_by s y x list (unknown list s.known)) (still s)
    (λ e. helped-speaks D s y x list (unknown list s.known) o) (speaks-still D s s refl)

pendings-speak : (D : Txn → Bool) (s : BrickState) (y : NodeNo) (ps : List (Txn × List ℕ)) → Once s.locks.pending → Speaks D s (notices.pendings_go s y ps)
pendings-speak D s y [] o = speaks-still D s s refl
pendings-speak D s y (p ∷ ps) o =
    let one = pending-speaks D s y p.0 p.1 o in
    speaks-after D s (notices.pending_goes s y p.0 p.1) (λ t. notices.pendings_go t y ps) o one
    (pendings-speak D (notices.pending_goes s y p.0 p.1).state y ps (one.tale.once o))

order-said : (D : Txn → Bool) (k : LockState) (to : NodeNo) (l : Letter) → Orders Any to l → SaidOk D k l
order-said D k to (letter.Outcome txn c) h = absurd h
order-said D k to other h = tt

orders-said : (D : Txn → Bool) (k : LockState) (ls : List (NodeNo × Letter)) → AllOrders Any ls → AllSaid D k ls
orders-said D k [] h = tt
orders-said D k (l ∷ ls) h = (order-said D k l.0 l.1 h.0, orders-said D k ls h.1)

order-speaks : (D : Txn → Bool) (s : BrickState) (y : NodeNo) → Speaks D s (notices.order_part s y)
order-speaks D s y =
    record {
      tale = (order-marks s y).tale;
      said_ok = orders-said D (notices.order_part s y).state.locks (notices.order_part s y).out.letters (order_part {L = Any} {M = Each} s y).letters;
    }

-- with the same locks, a resolving is as fair
sure-same : (D : Txn → Bool) (k j : LockState) (t : Txn) → j.pending ≡ k.pending → j.outcomes ≡ k.outcomes → Sure D k t → Sure D j t
sure-same D k j t p o (inl h) = inl h
sure-same D k j t p o (inr h) = inr (ap (λ (m : OutcomeMap). get m t) o ∙ h.0, ap (λ ps. is_pending ps t) p ∙ h.1)

fair-same : (D : Txn → Bool) (k j : LockState) (r : Resolving) → j.pending ≡ k.pending → j.outcomes ≡ k.outcomes → Fair D k r → Fair D j r
fair-same D k j r p o f =
    record { commit = λ e. sure-same D k j r.txn p o (f.commit e); open_here = λ e g. ap (λ ps. is_pending ps r.txn) p ∙ f.open_here e g }

notice-speaks : (D : Txn → Bool) (s : BrickState) (y : NodeNo) → Once s.locks.pending → Differ (txns s.resolving)
    → AllByRecursion (Fair D s.locks) s.resolving → Speaks D (notices.learns s y) (notices.notice_row s y)
notice-speaks D s y o a f =
    let l = notices.learns s y in
    let r = notices.order_part l y in
    let same = (order_part {L = Any} {M = Each} l y).same in
    let resolving = ap (λ (w : Whole). w.resolving) same in
    let one = order-speaks D l y in
    let fair = all-map (Fair D s.locks) (Fair D r.state.locks) s.resolving
    (λ x h. fair-same D s.locks r.state.locks x (ap (λ (w : Whole). w.pending) same) (ap (λ (w : Whole). w.outcomes) same) h) f in
    let hears = hear-speaks D r.state y news.Stopped (one.tale.once o) tt (subst (λ rs. Differ (txns rs)) (sym resolving) a)
    (subst (AllByRecursion (Fair D r.state.locks)) (sym resolving) fair) in
    let two = speaks-after D l r (λ t. notices.resolving_part t y) o one hears in
    let second = and_then r (λ t. notices.resolving_part t y) in
    let three = speaks-after D l second notices.deferred_part o two (deferred-speaks D second.state (two.tale.once o)) in
    let third = and_then second notices.deferred_part in
    speaks-after D l third (λ t. notices.pending_part t y) o three
    (pendings-speak D third.state y (notices.numbered third.state.locks.pending) (three.tale.once o))

-- calls
abbrev NothingSaid : (Txn → Bool) → BrickTurn → Type 0
NothingSaid D r = AllSaid D r.state.locks r.out.letters

got-said : (D : Txn → Bool) (s : BrickState) (from : NodeNo) (x : Txn) (key : ℕ) (o : Option Refusal) → NothingSaid D (calls.got s from x key o)
got-said D s from x key None = (tt, tt)
got-said D s from x key (Some why) = (tt, tt)

voted-said : (D : Txn → Bool) (s : BrickState) (from : NodeNo) (p : Pending) (d : Option Denial) → NothingSaid D (calls.voted s from p d)
voted-said D s from p None = (tt, tt)
voted-said D s from p (Some d) = (tt, tt)

commit-said : (D : Txn → Bool) (s : BrickState) (from : NodeNo) (q : Option Pending) → NothingSaid D (calls.commit_found s from q)
commit-said D s from None = tt
commit-said D s from (Some p) = (tt, tt)

-- what is heard in a letter
abbrev pub NewsOk : (Txn → Bool) → Letter → Type 0
NewsOk D (letter.Status txn st) = rows.is_commit st ≡ true → D txn ≡ true
NewsOk D other = Unit {0}

pub turn-said : (D : Txn → Bool) (s : BrickState) (from : NodeNo) (l : Letter) → Once s.locks.pending → Differ (txns s.resolving)
    → AllByRecursion (Fair D s.locks) s.resolving → NewsOk D l → NothingSaid D (live_brick_turn s from l)
turn-said D s from (letter.Get txn caller call key name stamp) o a f h = got-said D s from txn key (get_refusal s key name stamp)
turn-said D s from (letter.Prepare txn caller call below name stamp list op) o a f h =
    voted-said D (calls.trim s txn.library below) from _ (update_denial (calls.trim s txn.library below) op name stamp)
turn-said D s from (letter.Commit txn) o a f h = commit-said D (calls.dropped s txn) from (first_of s.locks.pending txn)
turn-said D s from (letter.Abort txn) o a f h = (tt, tt)
turn-said D s from (letter.MapAsk txn caller call key) o a f h = (tt, tt)
turn-said D s from (letter.Got txn w) o a f h = tt
turn-said D s from (letter.Vote txn vote) o a f h = tt
turn-said D s from (letter.Applied txn was) o a f h = tt
turn-said D s from (letter.Aborted txn) o a f h = tt
turn-said D s from (letter.MapTell txn leaf) o a f h = tt
turn-said D s from (letter.Help txn list) o a f h = (help-speaks D s from txn list o).said_ok
turn-said D s from (letter.Query txn list) o a f h = (query-speaks D s from txn list).said_ok
turn-said D s from (letter.Status txn st) o a f h = (hear-speaks D s from (news.Told txn st) o h a f).said_ok
turn-said D s from (letter.Outcome txn c) o a f h = (outcome-speaks D s txn c).said_ok
turn-said D s from letter.Notice o a f h = (notice-speaks D s from o a f).said_ok
turn-said D s from other o a f h =
    orders-said D (live_brick_turn s from other).state.locks (live_brick_turn s from other).out.letters (letter-rests s from from other tt).letters
