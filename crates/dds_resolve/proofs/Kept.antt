use Rattle.std.proofs.Common.{◌≡◌, ℕ, ◌==◌, ◌&&◌, ◌||◌, Bool, true, false, not, Option, Some, None, List, [], ◌∷◌, ap, ◌∙◌, refl, sym}
use Rattle.std.specs.FinMap.{get}
use Rattle.std.specs.Prelude.{if◌then◌else◌}
use Rattle.dds_base.specs.BrickList.{has}
use Rattle.dds_base.specs.NodeSet.{has_node}
use Rattle.dds_base.specs.Number.{Txn, same_txn}
use Rattle.dds_base.specs.declared.number.NodeNo.{NodeNo}
use Rattle.dds_base.specs.declared.pending.Pending.{Pending}
use Rattle.dds_brick_rows.specs.Calls as calls
use Rattle.dds_brick_rows.specs.Refusal.{get_refusal, update_denial}
use Rattle.dds_brick_rows.specs.Resolution as rows
use Rattle.dds_brick_rows.specs.declared.resolution.News.{News}
use Rattle.dds_brick_rows.specs.declared.resolution.News.TheVariants as news
use Rattle.dds_core.proofs.LetterTells.{Any, Each, letter-rests, order_part}
use Rattle.dds_core.proofs.Rests.{Whole}
use Rattle.dds_core.specs.Brick.{live_brick_turn}
use Rattle.dds_core.specs.Notice as notices
use Rattle.dds_letters.specs.declared.letter.Letter.{Letter}
use Rattle.dds_letters.specs.declared.letter.Letter.TheVariants as letter
use Rattle.dds_letters.specs.declared.refusal.Denial.{Denial}
use Rattle.dds_letters.specs.declared.refusal.Refusal.{Refusal}
use Rattle.dds_locks.specs.Pending.{first_of}
use Rattle.dds_states.specs.Turn.{BrickTurn, first_some, is_none_left, sends, still, unknown}
use Rattle.dds_states.specs.declared.brick_state.BrickState.{BrickState}
use Rattle.dds_states.specs.declared.brick_state.Deferred.{Deferred}
use Rattle.dds_states.specs.declared.brick_state.Question.{Question}
use Rattle.dds_states.specs.declared.brick_state.Question.TheVariants.{Help, Query}
use Rattle.dds_states.specs.declared.brick_state.Resolving.{Resolving}
use Rattle.dds_talk.proofs.Parts.{get-other, get-this, is-same}
use Rattle.dds_talk.specs.Seen.{noting}
use Rattle.dds_resolve.proofs.CallRows.{Untrimmed}

-- `kept`, at a brick: a turn leaves what is noted of an attempt, or notes an outcome of it, where trimming spares it. So what stands
-- there is what the books have of it.

pub data Holds (s u : BrickState) (t : Txn) : Type 0 where
  left : get u.locks.outcomes t ≡ get s.locks.outcomes t → Holds s u t
  anew : (c : Bool) → get u.locks.outcomes t ≡ Some c → Holds s u t

same-first : (g : Option Bool) → first_some g g ≡ g
same-first None = refl
same-first (Some c) = refl

pub held : (s u : BrickState) (noted : Txn → Option Bool) (t : Txn) → Holds s u t → noted t ≡ get s.locks.outcomes t →
    noting u.locks.outcomes noted t ≡ get u.locks.outcomes t
held s u noted t (left e) h = ap (λ g. first_some g (noted t)) e ∙ ap (first_some (get s.locks.outcomes t)) h ∙ same-first (get s.locks.outcomes t) ∙ sym e
held s u noted t (anew c e) h = ap (λ g. first_some g (noted t)) e ∙ sym e

holds-then : {s u v : BrickState} {t : Txn} → Holds s u t → Holds u v t → Holds s v t
holds-then (left e) (left f) = left (f ∙ e)
holds-then (anew c e) (left f) = anew c (f ∙ e)
holds-then h (anew c f) = anew c f

noted-holds : (s u : BrickState) (x t : Txn) (c : Bool) → u.locks.outcomes ≡ (calls.noted s x c).locks.outcomes → Holds s u t
noted-holds s u x t c e = pick (same_txn x t) refl
  where
    pick : (k : Bool) → same_txn x t ≡ k → Holds s u t
    pick true i = anew c (ap (λ m. get m t) e ∙ ap (λ y. get (calls.noted s y c).locks.outcomes t) (is-same x t i) ∙ get-this s.locks.outcomes t c)
    pick false i = left (ap (λ m. get m t) e ∙ get-other s.locks.outcomes x t c i)

-- resolving
settled-holds : (s : BrickState) (x : Txn) (c : Bool) (p : Option Pending) (t : Txn) → Holds s (rows.settled (calls.dropped s x) c p).state t
settled-holds s x c None t = left refl
settled-holds s x true (Some p) t = noted-holds s (rows.settled (calls.dropped s x) true (Some p)).state p.txn t true refl
settled-holds s x false (Some p) t = noted-holds s (rows.settled (calls.dropped s x) false (Some p)).state p.txn t false refl

outcome-holds : (s : BrickState) (x : Txn) (c : Bool) (t : Txn) → Holds s (rows.outcome_row s x c).state t
outcome-holds s x c t = settled-holds s x c (first_of s.locks.pending x) t

holds-if : {s : BrickState} {t : Txn} (c : Bool) (r q : BrickTurn) → Holds s r.state t → Holds s q.state t → Holds s (if c then r else q).state t
holds-if true r q f g = f
holds-if false r q f g = g

resolves-holds : (s : BrickState) (r : Resolving) (t : Txn) → Holds s (rows.resolves_on s r).state t
resolves-holds s r t = holds-if (is_none_left r.waiting) (rows.decides s r) _ (outcome-holds s r.txn (rows.verdict r) t) (left refl)

help-holds : (s : BrickState) (from : NodeNo) (x : Txn) (list : List ℕ) (t : Txn) → Holds s (rows.help_row s from x list).state t
help-holds s from x list t =
    holds-if (rows.is_ready s.known x list s.number) _ (rows.defers s from Help x list)
    (holds-if (rows.is_resolved s x) (still s) (rows.resolve s x list) (left refl) (resolves-holds s (rows.started s x list) t)) (left refl)

query-holds : (s : BrickState) (from : NodeNo) (x : Txn) (list : List ℕ) (t : Txn) → Holds s (rows.query_row s from x list).state t
query-holds s from x list t = holds-if (rows.is_ready s.known x list from) _ (rows.defers s from Query x list) (left refl) (left refl)

goes-holds : (s : BrickState) (from : NodeNo) (n : News) (rs : List Resolving) (t : Txn) → Holds s (rows.resolvings_go s from n rs).state t
goes-holds s from n [] t = left refl
goes-holds s from n (r ∷ rs) t =
    holds-then (holds-if (rows.is_awaited r from n) (rows.resolves_on s (rows.with_news r from n)) _ (resolves-holds s (rows.with_news r from n) t)
    (left refl)) (goes-holds (rows.resolving_goes s from n r).state from n rs t)

hear-holds : (s : BrickState) (from : NodeNo) (n : News) (t : Txn) → Holds s (rows.all_hear s from n).state t
hear-holds s from n t = holds-then {s = s} {u = record s { resolving = [] }} (left refl) (goes-holds (record s { resolving = [] }) from n s.resolving t)

-- a notice
asked-holds : (s : BrickState) (d : Deferred) (q : Question) (t : Txn) → Holds s (notices.asked_again s d q).state t
asked-holds s d Help t = help-holds s d.from d.txn d.list t
asked-holds s d Query t = query-holds s d.from d.txn d.list t

all-asked-holds : (s : BrickState) (ds : List Deferred) (t : Txn) → Holds s (notices.asked_all_again s ds).state t
all-asked-holds s [] t = left refl
all-asked-holds s (d ∷ ds) t = holds-then (asked-holds s d d.question t) (all-asked-holds (notices.asked_again s d d.question).state ds t)

helped-holds : (s : BrickState) (y : NodeNo) (x : Txn) (list fs : List ℕ) (t : Txn) → Holds s (notices.helped_by s y x list fs).state t
helped-holds s y x list [] t = left refl
helped-holds s y x list (f ∷ fs) t =
    holds-if (f == s.number) (rows.resolve s x list) _ (resolves-holds s (rows.started s x list) t)
    (holds-if (y == x.library || has (rows.before list f) y) (sends s ((f, letter.Help x list) ∷ [])) (still s) (left refl) (left refl))

pendings-holds : (s : BrickState) (y : NodeNo) (ps : List (Txn × List ℕ)) (t : Txn) → Holds s (notices.pendings_go s y ps).state t
pendings-holds s y [] t = left refl
pendings-holds s y (p ∷ ps) t =
    holds-then (holds-if (has_node s.known p.0.library && not (rows.is_resolved s p.0)) (notices.helped_by s y p.0 p.1 (unknown p.1 s.known)) (still s)
    (helped-holds s y p.0 p.1 (unknown p.1 s.known) t) (left refl))
    (pendings-holds (notices.pending_goes s y p.0 p.1).state y ps t)

notice-holds : (s : BrickState) (y : NodeNo) (t : Txn) → Holds s (notices.notice_row s y).state t
notice-holds s y t =
    let l = notices.learns s y in
    let o = notices.order_part l y in
    let one : Holds s o.state t = left (ap (λ (w : Whole). get w.outcomes t) (order_part {L = Any} {M = Each} l y).same) in
    let u = (rows.all_hear o.state y news.Stopped).state in
    let two = holds-then one (hear-holds o.state y news.Stopped t) in
    let v = (notices.deferred_part u).state in
    let three = holds-then two (holds-then {u = record u { deferred = [] }} (left refl) (all-asked-holds (record u { deferred = [] }) u.deferred t)) in
    holds-then three (pendings-holds v y (notices.numbered v.locks.pending) t)

-- calls
got-holds : (s : BrickState) (from : NodeNo) (x : Txn) (key : ℕ) (o : Option Refusal) (t : Txn) → Holds s (calls.got s from x key o).state t
got-holds s from x key None t = left refl
got-holds s from x key (Some r) t = left refl

voted-holds : (s u : BrickState) (from : NodeNo) (p : Pending) (d : Option Denial) (t : Txn) → get u.locks.outcomes t ≡ get s.locks.outcomes t →
    Holds s (calls.voted u from p d).state t
voted-holds s u from p None t e = left e
voted-holds s u from p (Some d) t e = left e

commit-holds : (s : BrickState) (from : NodeNo) (x : Txn) (p : Option Pending) (t : Txn) → Holds s (calls.commit_found (calls.dropped s x) from p).state t
commit-holds s from x None t = left refl
commit-holds s from x (Some p) t = noted-holds s (calls.commit_found (calls.dropped s x) from (Some p)).state p.txn t true refl

abort-holds : (s : BrickState) (x : Txn) (p : Option Pending) (t : Txn) → Holds s (calls.aborted (calls.dropped s x) p) t
abort-holds s x None t = left refl
abort-holds s x (Some p) t = noted-holds s (calls.aborted (calls.dropped s x) (Some p)) p.txn t false refl

pub turn-holds : (s : BrickState) (from : NodeNo) (l : Letter) (t : Txn) → Untrimmed s t l → Holds s (live_brick_turn s from l).state t
turn-holds s from (letter.Get txn caller call key name stamp) t h = got-holds s from txn key (get_refusal s key name stamp) t
turn-holds s from (letter.Prepare txn caller call below name stamp list op) t h =
    voted-holds s (calls.trim s txn.library below) from _ (update_denial (calls.trim s txn.library below) op name stamp) t h
turn-holds s from (letter.Commit txn) t h = commit-holds s from txn (first_of s.locks.pending txn) t
turn-holds s from (letter.Abort txn) t h = abort-holds s txn (first_of s.locks.pending txn) t
turn-holds s from (letter.MapAsk txn caller call key) t h = left refl
turn-holds s from (letter.Got txn a) t h = left refl
turn-holds s from (letter.Vote txn vote) t h = left refl
turn-holds s from (letter.Applied txn was) t h = left refl
turn-holds s from (letter.Aborted txn) t h = left refl
turn-holds s from (letter.MapTell txn leaf) t h = left refl
turn-holds s from (letter.Help txn list) t h = help-holds s from txn list t
turn-holds s from (letter.Query txn list) t h = query-holds s from txn list t
turn-holds s from (letter.Status txn st) t h = hear-holds s from (news.Told txn st) t
turn-holds s from (letter.Outcome txn c) t h = outcome-holds s txn c t
turn-holds s from letter.Notice t h = notice-holds s from t
turn-holds s from other t h = left (ap (λ (w : Whole). get w.outcomes t) (letter-rests s from from other tt).same)
