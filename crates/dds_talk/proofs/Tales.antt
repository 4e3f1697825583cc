use Rattle.std.proofs.Common.{◌≡◌, ℕ, ◌==◌, ◌&&◌, ◌||◌, Bool, true, false, not, List, [], ◌∷◌, Option, Some, None, is_some, refl, sym, ap, ◌∙◌, subst}
use Rattle.std.specs.Prelude.{if◌then◌else◌}
use Rattle.std.specs.FinMap.{get}
use Rattle.dds_base.specs.BrickList.{has}
use Rattle.dds_base.specs.NodeSet.{has_node}
use Rattle.dds_base.specs.Number.{Txn, same_txn}
use Rattle.dds_base.specs.declared.number.NodeNo.{NodeNo}
use Rattle.dds_base.specs.declared.pending.Pending.{Pending}
use Rattle.dds_base.specs.declared.pending.TxnStatus.{TxnStatus}
use Rattle.dds_brick_rows.specs.Calls as calls
use Rattle.dds_brick_rows.specs.Resolution as resolution
use Rattle.dds_core.specs.Notice as notices
use Rattle.dds_letters.specs.declared.letter.Letter.{Letter}
use Rattle.dds_letters.specs.declared.letter.Letter.TheVariants as letter
use Rattle.dds_locks.proofs.Locked.{found-numbered}
use Rattle.dds_locks.specs.Pending.{first_of}
use Rattle.dds_locks.specs.Status.{status}
use Rattle.dds_states.specs.Turn.{BrickTurn, still, sends, and_then, to_each, is_none_left, unknown, unknown_others}
use Rattle.dds_states.specs.declared.brick_state.BrickState.{BrickState}
use Rattle.dds_states.specs.declared.brick_state.Deferred.{Deferred}
use Rattle.dds_states.specs.declared.brick_state.Question.{Question}
use Rattle.dds_states.specs.declared.brick_state.Question.TheVariants.{Help, Query}
use Rattle.dds_states.specs.declared.brick_state.Resolving.{Resolving}
use Rattle.dds_talk.specs.Seen.{said, of, is_pending, Once}
use Rattle.dds_talk.proofs.Letters.{NoneAbout, none-each}
use Rattle.dds_talk.proofs.Parts.{is-same, pending-other, pending-gone, once-without, get-other, get-this}
use Rattle.dds_core.proofs.Lists.{all-append}
use Rattle.dds_brick_rows.specs.declared.resolution.News.{News}
use Rattle.dds_brick_rows.specs.declared.resolution.News.TheVariants as news
use Rattle.dds_locks.proofs.Locked.{apart-without}
use Rattle.dds_locks.specs.Pending.{is_numbered, IsApart}

-- What resolving does to pending attempts: each stays as it is, or is ended with an outcome; and nothing is said to libraries.

-- an attempt stays as it is, or is ended
pub data Done (s u : BrickState) (t : Txn) : Type 0 where
  same : is_pending u.locks.pending t ≡ is_pending s.locks.pending t → get u.locks.outcomes t ≡ get s.locks.outcomes t → Done s u t
  ended : (c : Bool) → is_pending s.locks.pending t ≡ true → is_pending u.locks.pending t ≡ false → get u.locks.outcomes t ≡ Some c → Done s u t

pub record Tale (s : BrickState) (r : BrickTurn) : Type 0 where
  pub once : Once s.locks.pending → Once r.state.locks.pending
  pub done : Once s.locks.pending → (t : Txn) → Done s r.state t
  pub apart : IsApart s.locks.pending → IsApart r.state.locks.pending
  pub quiet : (t : Txn) → NoneAbout said t r.out.letters

done-then : (s u v : BrickState) (t : Txn) → Done s u t → Done u v t → Done s v t
done-then s u v t (same a b) (same c d) = same (c ∙ a) (d ∙ b)
done-then s u v t (same a b) (ended c p q r) = ended c (sym a ∙ p) q r
done-then s u v t (ended c p q r) (same e f) = ended c p (e ∙ q) (f ∙ r)
done-then s u v t (ended c p q r) (ended d e f g) = let no : false ≡ true = sym q ∙ e in cc

-- turns put together
pub tale-then : (s : BrickState) (r : BrickTurn) (row : BrickState → BrickTurn) → Tale s r → ((u : BrickState) → Tale u (row u)) → Tale s (and_then r row)
tale-then s r row a b =
    let c : Tale r.state (row r.state) = b r.state in
    record {
      once = λ o. c.once (a.once o);
      done = λ o t. done-then s r.state (row r.state).state t (a.done o t) (c.done (a.once o) t);
      apart = λ o. c.apart (a.apart o);
      quiet = λ t. all-append _ r.out.letters (row r.state).out.letters (a.quiet t) (c.quiet t);
    }

-- a turn that leaves the locks, and sends letters that say nothing
pub tale-kept : (s u : BrickState) (ls : List (NodeNo × Letter)) → u.locks ≡ s.locks → ((t : Txn) → NoneAbout said t ls) → Tale s (sends u ls)
tale-kept s u ls e q = record { once = λ o. rw e o; done = λ o t. same (rw e refl) (rw e refl); apart = λ o. rw e o; quiet = q }

-- a turn that leaves what is pending and noted
pub tale-rests : (s : BrickState) (r : BrickTurn) → r.state.locks.pending ≡ s.locks.pending → r.state.locks.outcomes ≡ s.locks.outcomes
    → ((t : Txn) → NoneAbout said t r.out.letters) → Tale s r
tale-rests s r p o q =
    record {
      once = λ k. subst Once (sym p) k;
      done = λ k t. same (ap (λ ps. is_pending ps t) p) (ap (λ m. get m t) o);
      apart = λ k. subst IsApart (sym p) k;
      quiet = q;
    }

pub tale-still : (s u : BrickState) → u.locks ≡ s.locks → Tale s (still u)
tale-still s u e = tale-kept s u [] e (λ t. tt)

pub tale-if : (s : BrickState) (b : Bool) (r q : BrickTurn) → Tale s r → Tale s q → Tale s (if b then r else q)
tale-if s true r q h g = h
tale-if s false r q h g = g

quiet-one : (l : Letter) (to : NodeNo) → said l ≡ None → (t : Txn) → NoneAbout said t ((to, l) ∷ [])
quiet-one l to e t = (ap (of t) e, tt)

quiet-each : (l : Letter) (ns : List NodeNo) → said l ≡ None → (t : Txn) → NoneAbout said t (to_each ns l)
quiet-each l ns e t = none-each said t l ns (ap (of t) e)

-- Outcome
pub dropped-none : (s : BrickState) (u : Txn) (t : Txn) → first_of s.locks.pending u ≡ None → Once s.locks.pending
    → is_pending (calls.dropped s u).locks.pending t ≡ is_pending s.locks.pending t
dropped-none s u t f o =
    elim (same_txn u t) as (λ b. same_txn u t ≡ b → is_pending (calls.dropped s u).locks.pending t ≡ is_pending s.locks.pending t) [
      | true ↦ λ e. let ut : u ≡ t = is-same u t e in ap (is_pending (calls.dropped s u).locks.pending) (sym ut) ∙ pending-gone s.locks.pending u o
          ∙ sym (ap is_some f) ∙ ap (is_pending s.locks.pending) ut
      | false ↦ λ e. pending-other s.locks.pending u t e
    ] refl

pub ends-one : (s u : BrickState) (x : Txn) (p : Pending) (c : Bool) (t : Txn) → u.locks.pending ≡ (calls.dropped s x).locks.pending
    → u.locks.outcomes ≡ (calls.noted (calls.dropped s x) p.txn c).locks.outcomes → first_of s.locks.pending x ≡ Some p → Once s.locks.pending → Done s u t
ends-one s u x p c t pe oe f o =
    let px : p.txn ≡ x = is-same p.txn x (found-numbered s.locks.pending p x f) in
    elim (same_txn x t) as (λ b. same_txn x t ≡ b → Done s u t) [
      | true ↦ λ e. let xt : x ≡ t = is-same x t e in ended c (ap (is_pending s.locks.pending) (sym xt) ∙ ap is_some f) (ap (λ ps. is_pending ps t) pe
          ∙ ap (is_pending (calls.dropped s x).locks.pending) (sym xt) ∙ pending-gone s.locks.pending x o) (ap (λ m. get m t) oe
          ∙ ap (λ v. get (calls.noted (calls.dropped s x) v c).locks.outcomes t) (px ∙ xt) ∙ get-this s.locks.outcomes t c)
      | false ↦ λ e. same (ap (λ ps. is_pending ps t) pe ∙ pending-other s.locks.pending x t e) (ap (λ m. get m t) oe
          ∙ get-other s.locks.outcomes p.txn t c (ap (λ v. same_txn v t) px ∙ e))
    ] refl

settled-tale : (s : BrickState) (x : Txn) (commit : Bool) (q : Option Pending) → first_of s.locks.pending x ≡ q
    → Tale s (resolution.settled (calls.dropped s x) commit q)
settled-tale s x commit None f = record {
  once = λ o. once-without s.locks.pending x o;
  done = λ o t. same
      (dropped-none s x t f o) refl;
  apart = λ o. apart-without (is_numbered x) s.locks.pending o;
  quiet = λ t. tt;
}
settled-tale s x true (Some p) f = record {
  once = λ o. once-without s.locks.pending x o;
  done = λ o t. ends-one s (calls.applied
      (calls.dropped s x) p).state x p true t refl refl f o;
  apart = λ o. apart-without (is_numbered x) s.locks.pending o;
  quiet = λ t. tt;
}
settled-tale s x false (Some p) f = record {
  once = λ o. once-without s.locks.pending x o;
  done = λ o t. ends-one s (calls.aborted (calls.dropped s x)
      (Some p)) x p false t refl refl f o;
  apart = λ o. apart-without (is_numbered x) s.locks.pending o;
  quiet = λ t. tt;
}

pub outcome-tale : (s : BrickState) (x : Txn) (commit : Bool) → Tale s (resolution.outcome_row s x commit)
outcome-tale s x commit = settled-tale s x commit (first_of s.locks.pending x) refl

-- resolving
decides-tale : (s : BrickState) (r : Resolving) → Tale s (resolution.decides s r)
decides-tale s r = tale-then s _ _ (outcome-tale s r.txn (resolution.verdict r)) (λ u. tale-kept u u _ refl (quiet-each (letter.Outcome r.txn
    (resolution.verdict r)) (unknown_others r.list u.number u.known) refl))

resolves-tale : (s : BrickState) (r : Resolving) → Tale s (resolution.resolves_on s r)
resolves-tale s r = tale-if s (is_none_left r.waiting) _ _ (decides-tale s r) (tale-still s _ refl)

resolve-tale : (s : BrickState) (x : Txn) (list : List ℕ) → Tale s (resolution.resolve s x list)
resolve-tale s x list = tale-then s _ _ (tale-kept s s _ refl (quiet-each (letter.Query x list) (unknown_others list s.number s.known) refl))
    (λ u. resolves-tale u (resolution.started s x list))

pub help-tale : (s : BrickState) (from : NodeNo) (x : Txn) (list : List ℕ) → Tale s (resolution.help_row s from x list)
help-tale s from x list = tale-if s (resolution.is_ready s.known x list s.number) _ _ (tale-if s (resolution.is_resolved s x) _ _ (tale-still s s refl)
    (resolve-tale s x list)) (tale-still s _ refl)

pub query-tale : (s : BrickState) (from : NodeNo) (x : Txn) (list : List ℕ) → Tale s (resolution.query_row s from x list)
query-tale s from x list = tale-if s (resolution.is_ready s.known x list from) _ _ (tale-kept s s _ refl (quiet-one (letter.Status x
    (status s.locks x)) from refl)) (tale-still s _ refl)

-- over a state that differs in what isn't locks
tale-from : (s u : BrickState) (r : BrickTurn) → u.locks ≡ s.locks → Tale u r → Tale s r
tale-from s u r e h =
    record {
      once = λ o. h.once (rw e o);
      done = λ o t. done-then s u r.state t (same (rw e refl) (rw e refl)) (h.done (rw e o) t);
      apart = λ o. h.apart (rw e o);
      quiet = h.quiet;
    }

-- resolvings that hear of a member
resolving-tale : (s : BrickState) (y : NodeNo) (n : News) (r : Resolving) → Tale s (resolution.resolving_goes s y n r)
resolving-tale s y n r = tale-if s (resolution.is_awaited r y n) _ _ (resolves-tale s (resolution.with_news r y n)) (tale-still s _ refl)

resolvings-tale : (s : BrickState) (y : NodeNo) (n : News) (rs : List Resolving) → Tale s (resolution.resolvings_go s y n rs)
resolvings-tale s y n [] = tale-still s s refl
resolvings-tale s y n (r ∷ rs) = tale-then s _ (λ u. resolution.resolvings_go u y n rs) (resolving-tale s y n r) (λ u. resolvings-tale u y n rs)

hear-tale : (s : BrickState) (y : NodeNo) (n : News) → Tale s (resolution.all_hear s y n)
hear-tale s y n = tale-from s (record s { resolving = [] }) _ refl (resolvings-tale (record s { resolving = [] }) y n s.resolving)

pub status-tale : (s : BrickState) (from : NodeNo) (x : Txn) (st : TxnStatus) → Tale s (resolution.status_row s from x st)
status-tale s from x st = hear-tale s from (news.Told x st)

asked-tale : (s : BrickState) (d : Deferred) (q : Question) → Tale s (notices.asked_again s d q)
asked-tale s d Help = help-tale s d.from d.txn d.list
asked-tale s d Query = query-tale s d.from d.txn d.list

all-asked-tale : (s : BrickState) (ds : List Deferred) → Tale s (notices.asked_all_again s ds)
all-asked-tale s [] = tale-still s s refl
all-asked-tale s (d ∷ ds) = tale-then s _ _ (asked-tale s d d.question) (λ u. all-asked-tale u ds)

helped-tale : (s : BrickState) (y : NodeNo) (x : Txn) (list fs : List ℕ) → Tale s (notices.helped_by s y x list fs)
helped-tale s y x list [] = tale-still s s refl
helped-tale s y x list (f ∷ fs) =
    tale-if s (f == s.number) _ _ (resolve-tale s x list) (tale-if s (y == x.library || has (resolution.before list f) y) _ _ (tale-kept s s _ refl (quiet-one
    (letter.Help x list) f refl)) (tale-still s s refl))

pending-tale : (s : BrickState) (y : NodeNo) (x : Txn) (list : List ℕ) → Tale s (notices.pending_goes s y x list)
pending-tale s y x list = tale-if s (has_node s.known x.library && not (resolution.is_resolved s x)) _ _ (helped-tale s y x list (unknown list s.known))
    (tale-still s s refl)

pendings-tale : (s : BrickState) (y : NodeNo) (ps : List (Txn × List ℕ)) → Tale s (notices.pendings_go s y ps)
pendings-tale s y [] = tale-still s s refl
pendings-tale s y (p ∷ ps) = tale-then s _ _ (pending-tale s y p.0 p.1) (λ u. pendings-tale u y ps)

-- a notice, but for the order
pub notice-tale : (s : BrickState) (y : NodeNo) → Tale (notices.learns s y) (notices.order_part (notices.learns s y) y)
    → Tale (notices.learns s y) (notices.notice_row s y)
notice-tale s y order =
    let l = notices.learns s y in
    let deferreds : (u : BrickState) → Tale u (notices.deferred_part u) =
    (λ u. tale-from u (record u { deferred = [] }) _ refl (all-asked-tale (record u { deferred = [] }) u.deferred)) in
    tale-then l (and_then (and_then (notices.order_part l y) (λ t. notices.resolving_part t y)) notices.deferred_part) (λ t. notices.pending_part t y)
    (tale-then l (and_then (notices.order_part l y) (λ t. notices.resolving_part t y)) notices.deferred_part
    (tale-then l (notices.order_part l y) (λ t. notices.resolving_part t y) order (λ u. hear-tale u y news.Stopped)) deferreds)
    (λ u. pendings-tale u y (notices.numbered u.locks.pending))
