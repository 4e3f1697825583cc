use Rattle.std.proofs.Common.{◌≡◌, ℕ, ◌==◌, ◌&&◌, ◌||◌, Bool, true, false, not, List, [], ◌∷◌, Option, Some, None, refl, sym, ap, ◌∙◌, subst}
use Rattle.std.specs.FinMap.{get}
use Rattle.std.specs.List.{AllByRecursion}
use Rattle.std.specs.Prelude.{if◌then◌else◌}
use Rattle.dds_base.specs.BrickList.{has}
use Rattle.dds_base.specs.NodeSet.{has_node}
use Rattle.dds_base.specs.Number.{Txn}
use Rattle.dds_base.specs.declared.number.NodeNo.{NodeNo}
use Rattle.dds_base.specs.declared.pending.Pending.{Pending}
use Rattle.dds_brick_rows.specs.Calls as calls
use Rattle.dds_brick_rows.specs.Refusal.{get_refusal, update_denial}
use Rattle.dds_brick_rows.specs.Resolution as resolution
use Rattle.dds_brick_rows.specs.declared.resolution.News.{News}
use Rattle.dds_brick_rows.specs.declared.resolution.News.TheVariants as news
use Rattle.dds_core.proofs.LetterTells.{Any, Each, order_part}
use Rattle.dds_core.proofs.Lists.{all-append, all-map}
use Rattle.dds_core.proofs.Rests.{AllOrders, Orders, Whole}
use Rattle.dds_core.specs.Brick.{live_brick_turn}
use Rattle.dds_core.specs.Notice as notices
use Rattle.dds_letters.specs.declared.letter.Letter.{Letter}
use Rattle.dds_letters.specs.declared.letter.Letter.TheVariants as letter
use Rattle.dds_letters.specs.declared.refusal.Denial.{Denial}
use Rattle.dds_letters.specs.declared.refusal.Refusal.{Refusal}
use Rattle.dds_locks.proofs.Locked.{found-numbered}
use Rattle.dds_locks.specs.Pending.{first_of}
use Rattle.dds_locks.specs.State.{LockState}
use Rattle.dds_locks.specs.Status.{status}
use Rattle.dds_states.specs.Turn.{BrickTurn, still, sends, and_then, to_each, is_none_left, unknown, unknown_others}
use Rattle.dds_states.specs.declared.brick_state.BrickState.{BrickState}
use Rattle.dds_states.specs.declared.brick_state.Deferred.{Deferred}
use Rattle.dds_states.specs.declared.brick_state.Question.{Question}
use Rattle.dds_states.specs.declared.brick_state.Question.TheVariants.{Help, Query}
use Rattle.dds_states.specs.declared.brick_state.Resolving.{Resolving}
use Rattle.dds_states.specs.declared.turn.Point.{Point}
use Rattle.dds_states.specs.declared.turn.Point.TheVariants as point
use Rattle.dds_talk.proofs.Letters.{NoneAbout, none-each}
use Rattle.dds_talk.proofs.Parts.{get-this, is-same, pending-gone}
use Rattle.dds_talk.proofs.Tales.{Done, Tale, outcome-tale, tale-kept, tale-rests, tale-still, tale-then}
use Rattle.dds_talk.proofs.Tales.Done.{same, ended}
use Rattle.dds_talk.specs.Seen.{Once, is_pending, of, said}
use Rattle.dds_outcomes.proofs.Pointless.{NoPoints, copy-ask-none, copy-part-none, granted-row-none, install-none, installed-none, lease-none}
use Rattle.dds_outcomes.proofs.Pointless.{order-part-none, refused-none}

-- What a brick applies in a turn it has noted as committed at the turn's end.

-- a point's attempt is noted as committed, and pending no more
abbrev pub PointOk : BrickState → Point → Type 0
PointOk u (point.Read txn value) = Unit {0}
PointOk u (point.Applied p was) = (get u.locks.outcomes p.txn ≡ Some true) × (is_pending u.locks.pending p.txn ≡ false)

pub record Marks (s : BrickState) (r : BrickTurn) : Type 0 where
  pub tale : Tale s r
  pub points : Once s.locks.pending → AllByRecursion (PointOk r.state) r.out.points

-- it stays so
pub stays-done : (u v : BrickState) (t : Txn) → Done u v t → get u.locks.outcomes t ≡ Some true → is_pending u.locks.pending t ≡ false
    → (get v.locks.outcomes t ≡ Some true) × (is_pending v.locks.pending t ≡ false)
stays-done u v t (same a b) h k = (b ∙ h, a ∙ k)
stays-done u v t (ended c a b d) h k = let no : true ≡ false = sym a ∙ k in cc

point-later : (u v : BrickState) (x : Point) → ((t : Txn) → Done u v t) → PointOk u x → PointOk v x
point-later u v (point.Read txn value) d h = tt
point-later u v (point.Applied p was) d h = stays-done u v p.txn (d p.txn) h.0 h.1

marks-then : (s : BrickState) (r : BrickTurn) (row : BrickState → BrickTurn) → Marks s r → ((u : BrickState) → Marks u (row u)) → Marks s (and_then r row)
marks-then s r row a b =
    let c : Marks r.state (row r.state) = b r.state in
    let v = (row r.state).state in
    record {
      tale = tale-then s r row a.tale (λ u. (b u).tale);
      points = λ o. all-append (PointOk v) r.out.points (row r.state).out.points
          (all-map (PointOk r.state) (PointOk v) r.out.points (λ x h. point-later r.state v x (c.tale.done (a.tale.once o)) h) (a.points o))
          (c.points (a.tale.once o));
    }

marks-if : (s : BrickState) (c : Bool) (r q : BrickTurn) → Marks s r → Marks s q → Marks s (if c then r else q)
marks-if s true r q h g = h
marks-if s false r q h g = g

marks-kept : (s u : BrickState) (ls : List (NodeNo × Letter)) → u.locks ≡ s.locks → ((t : Txn) → NoneAbout said t ls) → Marks s (sends u ls)
marks-kept s u ls e q = record { tale = tale-kept s u ls e q; points = λ o. tt }

marks-still : (s u : BrickState) → u.locks ≡ s.locks → Marks s (still u)
marks-still s u e = record { tale = tale-still s u e; points = λ o. tt }

pub quiet-one : (l : Letter) (to : NodeNo) → said l ≡ None → (t : Txn) → NoneAbout said t ((to, l) ∷ [])
quiet-one l to e t = (ap (of t) e, tt)

pub quiet-each : (l : Letter) (ns : List NodeNo) → said l ≡ None → (t : Txn) → NoneAbout said t (to_each ns l)
quiet-each l ns e t = none-each said t l ns (ap (of t) e)

-- an update that was pending is applied
pub applied-here : (s : BrickState) (x : Txn) (p : Pending) → first_of s.locks.pending x ≡ Some p → Once s.locks.pending
    → (get (calls.applied (calls.dropped s x) p).state.locks.outcomes p.txn ≡ Some true)
    × (is_pending (calls.dropped s x).locks.pending p.txn ≡ false)
applied-here s x p f o =
    let px : p.txn ≡ x = is-same p.txn x (found-numbered s.locks.pending p x f) in
    (get-this s.locks.outcomes p.txn true, ap (is_pending (calls.dropped s x).locks.pending) px ∙ pending-gone s.locks.pending x o)

settled-points : (s : BrickState) (x : Txn) (c : Bool) (q : Option Pending) → first_of s.locks.pending x ≡ q → Once s.locks.pending
    → AllByRecursion (PointOk (resolution.settled (calls.dropped s x) c q).state) (resolution.settled (calls.dropped s x) c q).out.points
settled-points s x c None f o = tt
settled-points s x true (Some p) f o = (applied-here s x p f o, tt)
settled-points s x false (Some p) f o = tt

outcome-marks : (s : BrickState) (x : Txn) (c : Bool) → Marks s (resolution.outcome_row s x c)
outcome-marks s x c = record { tale = outcome-tale s x c; points = λ o. settled-points s x c (first_of s.locks.pending x) refl o }

-- resolving
decides-marks : (s : BrickState) (r : Resolving) → Marks s (resolution.decides s r)
decides-marks s r = marks-then s _ _ (outcome-marks s r.txn (resolution.verdict r)) (λ u. marks-kept u u _ refl (quiet-each (letter.Outcome r.txn
    (resolution.verdict r)) (unknown_others r.list u.number u.known) refl))

resolves-marks : (s : BrickState) (r : Resolving) → Marks s (resolution.resolves_on s r)
resolves-marks s r = marks-if s (is_none_left r.waiting) _ _ (decides-marks s r) (marks-still s _ refl)

resolve-marks : (s : BrickState) (x : Txn) (list : List ℕ) → Marks s (resolution.resolve s x list)
resolve-marks s x list = marks-then s _ _ (marks-kept s s _ refl (quiet-each (letter.Query x list) (unknown_others list s.number s.known) refl))
    (λ u. resolves-marks u (resolution.started s x list))

help-marks : (s : BrickState) (from : NodeNo) (x : Txn) (list : List ℕ) → Marks s (resolution.help_row s from x list)
help-marks s from x list = marks-if s (resolution.is_ready s.known x list s.number) _ _ (marks-if s (resolution.is_resolved s x) _ _ (marks-still s s refl)
    (resolve-marks s x list)) (marks-still s _ refl)

query-marks : (s : BrickState) (from : NodeNo) (x : Txn) (list : List ℕ) → Marks s (resolution.query_row s from x list)
query-marks s from x list = marks-if s (resolution.is_ready s.known x list from) _ _ (marks-kept s s _ refl (quiet-one (letter.Status x
    (status s.locks x)) from refl)) (marks-still s _ refl)

-- over a state that differs in what isn't locks
moved-done : (s u v : BrickState) (t : Txn) → u.locks ≡ s.locks → Done u v t → Done s v t
moved-done s u v t e (same a b) = same (a ∙ ap (λ (k : LockState). is_pending k.pending t) e) (b ∙ ap (λ (k : LockState). get k.outcomes t) e)
moved-done s u v t e (ended c a b d) = ended c (sym (ap (λ (k : LockState). is_pending k.pending t) e) ∙ a) b d

pub tale-over : (s u : BrickState) (r : BrickTurn) → u.locks ≡ s.locks → Tale u r → Tale s r
tale-over s u r e h = record {
  once = λ o. h.once (rw e o);
  done = λ o t. moved-done s u r.state t e (h.done (rw e o) t);
  apart = λ o. h.apart (rw e o);
  quiet = h.quiet;
}

marks-from : (s u : BrickState) (r : BrickTurn) → u.locks ≡ s.locks → Marks u r → Marks s r
marks-from s u r e h = record { tale = tale-over s u r e h.tale; points = λ o. h.points (rw e o) }

resolving-marks : (s : BrickState) (y : NodeNo) (n : News) (r : Resolving) → Marks s (resolution.resolving_goes s y n r)
resolving-marks s y n r = marks-if s (resolution.is_awaited r y n) _ _ (resolves-marks s (resolution.with_news r y n)) (marks-still s _ refl)

resolvings-marks : (s : BrickState) (y : NodeNo) (n : News) (rs : List Resolving) → Marks s (resolution.resolvings_go s y n rs)
resolvings-marks s y n [] = marks-still s s refl
resolvings-marks s y n (r ∷ rs) = marks-then s _ (λ u. resolution.resolvings_go u y n rs) (resolving-marks s y n r) (λ u. resolvings-marks u y n rs)

hear-marks : (s : BrickState) (y : NodeNo) (n : News) → Marks s (resolution.all_hear s y n)
hear-marks s y n = marks-from s (record s { resolving = [] }) _ refl (resolvings-marks (record s { resolving = [] }) y n s.resolving)

asked-marks : (s : BrickState) (d : Deferred) (q : Question) → Marks s (notices.asked_again s d q)
asked-marks s d Help = help-marks s d.from d.txn d.list
asked-marks s d Query = query-marks s d.from d.txn d.list

all-asked-marks : (s : BrickState) (ds : List Deferred) → Marks s (notices.asked_all_again s ds)
all-asked-marks s [] = marks-still s s refl
all-asked-marks s (d ∷ ds) = marks-then s _ _ (asked-marks s d d.question) (λ u. all-asked-marks u ds)

helped-marks : (s : BrickState) (y : NodeNo) (x : Txn) (list fs : List ℕ) → Marks s (notices.helped_by s y x list fs)
helped-marks s y x list [] = marks-still s s refl
helped-marks s y x list (f ∷ fs) =
    marks-if s (f == s.number) _ _ (resolve-marks s x list) (marks-if s (y == x.library || has (resolution.before list f) y) _ _
    (marks-kept s s _ refl (quiet-one (letter.Help x list) f refl)) (marks-still s s refl))

pending-marks : (s : BrickState) (y : NodeNo) (x : Txn) (list : List ℕ) → Marks s (notices.pending_goes s y x list)
pending-marks s y x list = marks-if s (has_node s.known x.library && not (resolution.is_resolved s x)) _ _ (helped-marks s y x list (unknown list s.known))
    (marks-still s s refl)

pendings-marks : (s : BrickState) (y : NodeNo) (ps : List (Txn × List ℕ)) → Marks s (notices.pendings_go s y ps)
pendings-marks s y [] = marks-still s s refl
pendings-marks s y (p ∷ ps) = marks-then s _ _ (pending-marks s y p.0 p.1) (λ u. pendings-marks u y ps)

-- the order's part of a notice
orders-quiet : (ls : List (NodeNo × Letter)) (t : Txn) → AllOrders Any ls → NoneAbout said t ls
orders-quiet [] t h = tt
orders-quiet (l ∷ ls) t h = (one-quiet l.0 l.1 h.0, orders-quiet ls t h.1)
  where
    one-quiet : (to : NodeNo) (m : Letter) → Orders Any to m → of t (said m) ≡ []
    one-quiet to (letter.Vote txn vote) k = absurd k
    one-quiet to (letter.Applied txn was) k = absurd k
    one-quiet to (letter.Aborted txn) k = absurd k
    one-quiet to other k = refl

pub order-marks : (s : BrickState) (y : NodeNo) → Marks s (notices.order_part s y)
order-marks s y =
    let k = order_part {L = Any} {M = Each} s y in
    record {
      tale = tale-rests s (notices.order_part s y) (ap (λ (w : Whole). w.pending) k.same) (ap (λ (w : Whole). w.outcomes) k.same)
          (λ t. orders-quiet (notices.order_part s y).out.letters t k.letters);
      points = λ o. subst (AllByRecursion (PointOk (notices.order_part s y).state)) (sym (order-part-none s y).none) tt;
    }

notice-marks : (s : BrickState) (y : NodeNo) → Marks (notices.learns s y) (notices.notice_row s y)
notice-marks s y =
    let l = notices.learns s y in
    let deferreds : (u : BrickState) → Marks u (notices.deferred_part u) =
    (λ u. marks-from u (record u { deferred = [] }) _ refl (all-asked-marks (record u { deferred = [] }) u.deferred)) in
    marks-then l (and_then (and_then (notices.order_part l y) (λ t. notices.resolving_part t y)) notices.deferred_part) (λ t. notices.pending_part t y)
    (marks-then l (and_then (notices.order_part l y) (λ t. notices.resolving_part t y)) notices.deferred_part
    (marks-then l (notices.order_part l y) (λ t. notices.resolving_part t y) (order-marks l y) (λ u. hear-marks u y news.Stopped)) deferreds)
    (λ u. pendings-marks u y (notices.numbered u.locks.pending))

-- each letter
abbrev AllMarked : BrickTurn → Type 0
AllMarked r = AllByRecursion (PointOk r.state) r.out.points

none-marked : (r : BrickTurn) → NoPoints r → AllMarked r
none-marked r h = subst (AllByRecursion (PointOk r.state)) (sym h.none) tt

got-marked : (s : BrickState) (from : NodeNo) (x : Txn) (key : ℕ) (o : Option Refusal) → AllMarked (calls.got s from x key o)
got-marked s from x key None = (tt, tt)
got-marked s from x key (Some why) = tt

voted-marked : (s : BrickState) (from : NodeNo) (p : Pending) (d : Option Denial) → AllMarked (calls.voted s from p d)
voted-marked s from p None = tt
voted-marked s from p (Some d) = tt

commit-marked : (s : BrickState) (from : NodeNo) (x : Txn) (q : Option Pending) → first_of s.locks.pending x ≡ q → Once s.locks.pending
    → AllMarked (calls.commit_found (calls.dropped s x) from q)
commit-marked s from x None f o = tt
commit-marked s from x (Some p) f o = (applied-here s x p f o, tt)

pub turn-marked : (s : BrickState) (from : NodeNo) (l : Letter) → Once s.locks.pending → AllMarked (live_brick_turn s from l)
turn-marked s from (letter.Get txn caller call key name stamp) o = got-marked s from txn key (get_refusal s key name stamp)
turn-marked s from (letter.Prepare txn caller call below name stamp list op) o =
    voted-marked (calls.trim s txn.library below) from _ (update_denial (calls.trim s txn.library below) op name stamp)
turn-marked s from (letter.Commit txn) o = commit-marked s from txn (first_of s.locks.pending txn) refl o
turn-marked s from (letter.Abort txn) o = tt
turn-marked s from (letter.Push leaf) o = tt
turn-marked s from (letter.MapAsk txn caller call key) o = tt
turn-marked s from (letter.Help txn list) o = (help-marks s from txn list).points o
turn-marked s from (letter.Query txn list) o = (query-marks s from txn list).points o
turn-marked s from (letter.Status txn st) o = (hear-marks s from (news.Told txn st)).points o
turn-marked s from (letter.Outcome txn c) o = (outcome-marks s txn c).points o
turn-marked s from (letter.Lease number what) o = none-marked _ (lease-none s from number what)
turn-marked s from (letter.Granted number leaf) o = none-marked _ (granted-row-none s from number leaf)
turn-marked s from (letter.LeaseRefused number why) o = none-marked _ (refused-none s from number why)
turn-marked s from (letter.Release number name) o = tt
turn-marked s from (letter.CopyAsk number name after) o = none-marked _ (copy-ask-none s from number name after)
turn-marked s from (letter.CopyPart number last pairs) o = none-marked _ (copy-part-none s from number last pairs)
turn-marked s from (letter.Install number leaf) o = none-marked _ (install-none s from number leaf)
turn-marked s from (letter.Installed number name) o = none-marked _ (installed-none s from number)
turn-marked s from letter.Notice o = (notice-marks s from).points o
turn-marked s from other o = tt
