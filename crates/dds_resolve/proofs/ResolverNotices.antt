use Rattle.std.proofs.Common.{◌≡◌, ℕ, ◌<◌, ◌==◌, ◌&&◌, ◌||◌, Bool, true, false, not, Some, None, List, []}
use Rattle.std.proofs.Common.{◌∷◌, ◌++◌, find, refl, sym, ap, ◌∙◌, subst, append_assoc}
use Rattle.std.proofs.lemmas.Bool.{and_parts}
use Rattle.std.proofs.lemmas.List.{append-nil}
use Rattle.std.specs.List.{AllByRecursion, list_any}
use Rattle.std.specs.Prelude.{if◌then◌else◌}
use Rattle.dds_base.specs.BrickList.{has}
use Rattle.dds_base.specs.NodeSet.{has_node}
use Rattle.dds_base.specs.Number.{Txn, same_txn}
use Rattle.dds_base.specs.declared.number.NodeNo.{NodeNo}
use Rattle.dds_base.specs.declared.pending.Pending.{Pending}
use Rattle.dds_brick_rows.specs.Resolution as rows
use Rattle.dds_brick_rows.specs.declared.resolution.News.TheVariants as news
use Rattle.dds_core.proofs.LetterTells.{Any, Each, order_part}
use Rattle.dds_core.proofs.Rests.{Whole}
use Rattle.dds_core.specs.Notice as notices
use Rattle.dds_letters.specs.declared.letter.Letter.{Letter}
use Rattle.dds_letters.specs.declared.letter.Letter.TheVariants as letter
use Rattle.dds_states.specs.Turn.{BrickTurn, still, sends, and_then, unknown}
use Rattle.dds_states.specs.declared.brick_state.BrickState.{BrickState}
use Rattle.dds_states.specs.declared.brick_state.Deferred.{Deferred}
use Rattle.dds_states.specs.declared.brick_state.Question.{Question}
use Rattle.dds_states.specs.declared.brick_state.Question.TheVariants.{Help, Query}
use Rattle.dds_states.specs.declared.brick_state.Resolving.{Resolving}
use Rattle.dds_talk.specs.Seen.{Once}
use Rattle.dds_talk.proofs.Parts.{is-same}
use Rattle.dds_resolve.specs.Resolving.{tell_in}
use Rattle.dds_resolve.specs.Conversations.{Round, RoundOk, Talking}
use Rattle.dds_resolve.proofs.TeamTurns as team
use Rattle.dds_resolve.proofs.TeamNotices as team_notices
use Rattle.dds_resolve.proofs.TeamTurns.{Good}
use Rattle.dds_resolve.specs.Team.{Ground, AskedOk, DeferredOk, BrickOk, PendingOk}
use Rattle.dds_resolve.proofs.MemberTurns.{quiet-one}
use Rattle.dds_resolve.proofs.ResolverStages.{Stage, resolve-stage}
use Rattle.dds_resolve.proofs.ResolverTurns.{talking-aside}
use Rattle.dds_resolve.proofs.ResolverStages.{stage-if, talking-same}
use Rattle.dds_resolve.proofs.Leaving.{stage-leaves, leaves-sends, leaves-still, leaves-defers, leaves-if, resolve-leaves, query-leaves, frame-leaves}
use Rattle.dds_resolve.proofs.Hearing.{OnceIn, hear-stage, stopped-told}

-- A notice at a resolver: its conversations about an attempt go on.

-- it is asked for help, or has the attempt pending
abbrev pub Alike : Round → Txn → List ℕ → Type 0
Alike z x list = same_txn x z.txn ≡ true → list ≡ z.list

none-resolved : (t : Txn) (rs : List Resolving) → list_any (rows.is_of t) rs ≡ false → find (rows.is_of t) rs ≡ None
none-resolved t [] e = refl
none-resolved t (r ∷ rs) e = pick (rows.is_of t r) (λ h. none-resolved t rs h) e
  where
    pick : (c : Bool) → (list_any (rows.is_of t) rs ≡ false → find (rows.is_of t) rs ≡ None) → (c || list_any (rows.is_of t) rs) ≡ false →
        (if c then Some r else find (rows.is_of t) rs) ≡ None
    pick true w h = cc
    pick false w h = w h

pub begins-stage : (z : Round) (s : BrickState) (x : Txn) (list : List ℕ) (sent : List (NodeNo × Letter)) → RoundOk z → Alike z x list →
    rows.is_resolved s x ≡ false → Stage z s sent → Stage z (rows.resolve s x list).state (sent ++ (rows.resolve s x list).out.letters)
begins-stage z s x list sent ok alike new h = pick (same_txn x z.txn) refl
  where
    pick : (c : Bool) → same_txn x z.txn ≡ c → Stage z (rows.resolve s x list).state (sent ++ (rows.resolve s x list).out.letters)
    pick true e =
        let xt : x ≡ z.txn = is-same x z.txn e in
        let none : find (rows.is_of z.txn) s.resolving ≡ None =
        none-resolved z.txn s.resolving (ap (λ t. list_any (rows.is_of t) s.resolving) (sym xt) ∙ new) in
        resolve-stage z s x list sent ok h.once xt (alike e) none (talking-same z _ None s s sent none refl refl refl h.now)
    pick false e = stage-leaves z s (rows.resolve s x list) sent (resolve-leaves s x list e) h

pub help-stage : (z : Round) (s : BrickState) (from : NodeNo) (x : Txn) (list : List ℕ) (sent : List (NodeNo × Letter)) → RoundOk z → Alike z x list →
    Stage z s sent → Stage z (rows.help_row s from x list).state (sent ++ (rows.help_row s from x list).out.letters)
help-stage z s from x list sent ok alike h =
    stage-if z (rows.is_ready s.known x list s.number) _ _ sent
    (λ e. stage-if z (rows.is_resolved s x) (still s) (rows.resolve s x list) sent (λ i. stage-leaves z s (still s) sent (leaves-still s) h)
    (λ i. begins-stage z s x list sent ok alike i h))
    (λ e. stage-leaves z s (rows.defers s from Help x list) sent (leaves-defers s _) h)

asked-stage : (z : Round) (s : BrickState) (d : Deferred) (q : Question) (sent : List (NodeNo × Letter)) → RoundOk z → Alike z d.txn d.list → Stage z s sent →
    Stage z (notices.asked_again s d q).state (sent ++ (notices.asked_again s d q).out.letters)
asked-stage z s d Help sent ok alike h = help-stage z s d.from d.txn d.list sent ok alike h
asked-stage z s d Query sent ok alike h = stage-leaves z s (rows.query_row s d.from d.txn d.list) sent (query-leaves s d.from d.txn d.list) h

pub all-asked-stage : (z : Round) (s : BrickState) (ds : List Deferred) (sent : List (NodeNo × Letter)) → RoundOk z →
    AllByRecursion (λ (d : Deferred). Alike z d.txn d.list) ds → Stage z s sent →
    Stage z (notices.asked_all_again s ds).state (sent ++ (notices.asked_all_again s ds).out.letters)
all-asked-stage z s [] sent ok alike h = subst (Stage z s) (sym (append-nil sent)) h
all-asked-stage z s (d ∷ ds) sent ok alike h =
    let u = notices.asked_again s d d.question in
    subst (Stage z (notices.asked_all_again u.state ds).state) (append_assoc sent u.out.letters (notices.asked_all_again u.state ds).out.letters)
    (all-asked-stage z u.state ds (sent ++ u.out.letters) ok alike.1 (asked-stage z s d d.question sent ok alike.0 h))

helped-stage : (z : Round) (s : BrickState) (y : NodeNo) (x : Txn) (list fs : List ℕ) (sent : List (NodeNo × Letter)) → RoundOk z → Alike z x list →
    rows.is_resolved s x ≡ false → Stage z s sent → Stage z (notices.helped_by s y x list fs).state (sent ++ (notices.helped_by s y x list fs).out.letters)
helped-stage z s y x list [] sent ok alike new h = stage-leaves z s (still s) sent (leaves-still s) h
helped-stage z s y x list (f ∷ fs) sent ok alike new h =
    stage-if z (f == s.number) _ _ sent (λ e. begins-stage z s x list sent ok alike new h)
    (λ e. stage-leaves z s (if y == x.library || has (rows.before list f) y then sends s ((f, letter.Help x list) ∷ []) else still s) sent
    (leaves-if (y == x.library || has (rows.before list f) y) _ _ (leaves-sends s _ (λ m. quiet-one tell_in z.txn m f (letter.Help x list) refl))
    (leaves-still s)) h)

not-true : (b : Bool) → not b ≡ true → b ≡ false
not-true true e = cc
not-true false e = refl

pending-stage : (z : Round) (s : BrickState) (y : NodeNo) (x : Txn) (list : List ℕ) (sent : List (NodeNo × Letter)) → RoundOk z → Alike z x list →
    Stage z s sent → Stage z (notices.pending_goes s y x list).state (sent ++ (notices.pending_goes s y x list).out.letters)
pending-stage z s y x list sent ok alike h =
    stage-if z (has_node s.known x.library && not (rows.is_resolved s x)) (notices.helped_by s y x list (unknown list s.known)) (still s) sent
    (λ e. helped-stage z s y x list (unknown list s.known) sent ok alike
    (not-true (rows.is_resolved s x) (and_parts (has_node s.known x.library) (not (rows.is_resolved s x)) e).1) h)
    (λ e. stage-leaves z s (still s) sent (leaves-still s) h)

pub pendings-stage : (z : Round) (s : BrickState) (y : NodeNo) (ps : List (Txn × List ℕ)) (sent : List (NodeNo × Letter)) → RoundOk z →
    AllByRecursion (λ (p : Txn × List ℕ). Alike z p.0 p.1) ps → Stage z s sent →
    Stage z (notices.pendings_go s y ps).state (sent ++ (notices.pendings_go s y ps).out.letters)
pendings-stage z s y [] sent ok alike h = subst (Stage z s) (sym (append-nil sent)) h
pendings-stage z s y (p ∷ ps) sent ok alike h =
    let u = notices.pending_goes s y p.0 p.1 in
    subst (Stage z (notices.pendings_go u.state y ps).state) (append_assoc sent u.out.letters (notices.pendings_go u.state y ps).out.letters)
    (pendings-stage z u.state y ps (sent ++ u.out.letters) ok alike.1 (pending-stage z s y p.0 p.1 sent ok alike.0 h))

-- what the brick defers and has pending has the lists that prepares told
pub alike-of : (z : Round) (g : Ground) (x : Txn) (list : List ℕ) → g.list z.txn ≡ z.list → g.list x ≡ list → Alike z x list
alike-of z g x list e f i = sym f ∙ ap g.list (is-same x z.txn i) ∙ e

asked-listed : (g : Ground) (at : ℕ) (d : Deferred) (q : Question) → AskedOk g at d q → g.list d.txn ≡ d.list
asked-listed g at d Help h = h.members.listed
asked-listed g at d Query h = h.0.members.listed

all-alike : (z : Round) (g : Ground) (at : ℕ) (ds : List Deferred) → g.list z.txn ≡ z.list → AllByRecursion (DeferredOk g at) ds →
    AllByRecursion (λ (d : Deferred). Alike z d.txn d.list) ds
all-alike z g at [] e h = tt
all-alike z g at (d ∷ ds) e h = (alike-of z g d.txn d.list e (asked-listed g at d d.question h.0), all-alike z g at ds e h.1)

pendings-alike : (z : Round) (g : Ground) (at : ℕ) (ps : List Pending) → g.list z.txn ≡ z.list → AllByRecursion (PendingOk g at) ps →
    AllByRecursion (λ (p : Txn × List ℕ). Alike z p.0 p.1) (notices.numbered ps)
pendings-alike z g at [] e h = tt
pendings-alike z g at (p ∷ ps) e h = (alike-of z g p.txn p.list e h.0.0.listed, pendings-alike z g at ps e h.1)

-- one turn after another
then-stage : (z : Round) (g : Ground) (me : ℕ) (r : BrickTurn) (row : BrickState → BrickTurn) (sent : List (NodeNo × Letter)) → Good g me r →
    Stage z r.state (sent ++ r.out.letters) →
    ((u : BrickState) (sent : List (NodeNo × Letter)) → BrickOk g me u → Stage z u sent → Stage z (row u).state (sent ++ (row u).out.letters)) →
    Stage z (and_then r row).state (sent ++ (and_then r row).out.letters)
then-stage z g me r row sent good h next =
    subst (Stage z (row r.state).state) (append_assoc sent r.out.letters (row r.state).out.letters) (next r.state (sent ++ r.out.letters) good.state h)

-- the order's part leaves the list of resolvings as it is
order-same : (s : BrickState) (y : NodeNo) → (notices.order_part s y).state.resolving ≡ s.resolving
order-same s y = ap (λ (w : Whole). w.resolving) (order_part {L = Any} {M = Each} s y).same

undeferred : (z : Round) (u : BrickState) (sent : List (NodeNo × Letter)) → Stage z u sent → Stage z (record u { deferred = [] }) sent
undeferred z u sent t = record { decided = t.decided; now = talking-same z _ _ u (record u { deferred = [] }) sent refl refl refl refl t.now; once = t.once }

-- a notice
pub notice-stage : (z : Round) (g : Ground) (me : ℕ) (s : BrickState) (y : NodeNo) → RoundOk z → y < 80 → g.stopped y ≡ true → g.list z.txn ≡ z.list →
    ((m : ℕ) → z.live m ≡ true → (m == y) ≡ false) → BrickOk g me s → OnceIn z.txn s.resolving → Once s.locks.pending →
    Talking z z.before (find (rows.is_of z.txn) s.resolving) (notices.learns s y) [] →
    Stage z (notices.notice_row s y).state (notices.notice_row s y).out.letters
notice-stage z g me s y ok low stop listed apart b alone once h =
    let l = notices.learns s y in
    let o = notices.order_part l y in
    let first = team_notices.frame-good {M = Each} l o (order_part l y) (team_notices.learns-ok s y low stop b) in
    let leaves = frame-leaves {t = z.txn} l o (order_part l y) in
    let one : Talking z z.before (find (rows.is_of z.txn) o.state.resolving) o.state ([] ++ o.out.letters) =
    talking-same z _ _ o.state o.state o.out.letters (sym leaves.aside.found) refl refl refl (talking-aside z _ l o [] leaves.aside h) in
    let lone : OnceIn z.txn o.state.resolving = subst (OnceIn z.txn) (sym (order-same l y)) alone in
    let two-good = team.good-then o (λ v. notices.resolving_part v y) first (λ u k. team.hear-good u y news.Stopped k) in
    let two : Stage z (and_then o (λ v. notices.resolving_part v y)).state ([] ++ (and_then o (λ v. notices.resolving_part v y)).out.letters) =
    hear-stage z.back z o.state y news.Stopped o.out.letters ok (stopped-told z y apart) lone (leaves.once once) one in
    let three-good = team.good-then (and_then o (λ v. notices.resolving_part v y)) notices.deferred_part two-good
    (λ u k. team.all-asked-good (record u { deferred = [] }) u.deferred
    (record { number = k.number; known = k.known; pending = k.pending; deferred = tt; resolving = k.resolving }) k.deferred) in
    let three = then-stage z g me (and_then o (λ v. notices.resolving_part v y)) notices.deferred_part [] two-good two
    (λ u sent k t. all-asked-stage z (record u { deferred = [] }) u.deferred sent ok (all-alike z g me u.deferred listed k.deferred)
    (undeferred z u sent t)) in
    then-stage z g me (and_then (and_then o (λ v. notices.resolving_part v y)) notices.deferred_part) (λ v. notices.pending_part v y) [] three-good three
    (λ u sent k t. pendings-stage z u y (notices.numbered u.locks.pending) sent ok (pendings-alike z g me u.locks.pending listed k.pending) t)
