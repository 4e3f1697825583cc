use Rattle.std.proofs.Common.{◌≡◌, ℕ, ◌≤◌, ◌==◌, ◌&&◌, ◌||◌, ◌⊎◌, inl, inr, Bool, true, false, not, cond, List, Option, Some, None, is_some, refl, sym}
use Rattle.std.proofs.Common.{ap, ◌∙◌, subst, arith}
use Rattle.std.proofs.lemmas.Bool.{eqb-true}
use Rattle.std.proofs.lemmas.Bool.Decides.{nat_tests}
use Rattle.std.specs.FinMap.{get}
use Rattle.std.specs.Prelude.{nat_lt}
use Rattle.dds_base.specs.Name.{Name}
use Rattle.dds_base.specs.Number.{Txn, StampOf, same_txn}
use Rattle.dds_base.specs.Op.{the_key}
use Rattle.dds_base.specs.declared.number.NodeNo.{NodeNo}
use Rattle.dds_base.specs.declared.op.Op.{Op}
use Rattle.dds_base.specs.declared.pending.Pending.{Pending}
use Rattle.dds_brick_rows.specs.Calls as calls
use Rattle.dds_brick_rows.specs.Refusal.{as_denial, has_no_room, is_locked, joins_key, stale_against, update_denial, update_refusal}
use Rattle.dds_letters.specs.declared.refusal.Denial.{Denial}
use Rattle.dds_letters.specs.declared.refusal.Denial.TheVariants as denial
use Rattle.dds_letters.specs.declared.refusal.Refusal.{Refusal}
use Rattle.dds_letters.specs.declared.refusal.Refusal.TheVariants as refusal
use Rattle.dds_locks.proofs.Locked.{apart-push, apart-without}
use Rattle.dds_locks.proofs.Trims.{get-trimmed}
use Rattle.dds_locks.specs.Leases.{lease_covers}
use Rattle.dds_locks.specs.Outcomes.{OutcomeMap, is_below, trimmed}
use Rattle.dds_locks.specs.Pending.{IsApart, first_of, holder, is_numbered}
use Rattle.dds_states.specs.Leaf.{leaf_for}
use Rattle.dds_states.specs.Turn.{BrickTurn, first_some, when}
use Rattle.dds_states.specs.declared.brick_state.BrickState.{BrickState}
use Rattle.dds_talk.proofs.Parts.{is-same, once-push, once-without, pending-push, trim-agrees}
use Rattle.dds_talk.proofs.Tales.{Done, Tale, dropped-none, ends-one}
use Rattle.dds_talk.proofs.Tales.Done.{same, ended}
use Rattle.dds_talk.specs.Parts.{BrickOk}
use Rattle.dds_talk.specs.Seen.{Once, at, at_of, is_pending, noting}
use Rattle.dds_talk.specs.Table.At.{Unprepared}

-- What is pending and noted at a brick after a turn: `note`, `apart`, and `kept`.

twice : (g n : Option Bool) → first_some g (first_some g n) ≡ first_some g n
twice None n = refl
twice (Some c) n = refl

-- a turn from s to u
pub record Locks (noted : Txn → Option Bool) (u : BrickState) : Type 0 where
  pub free : (t : Txn) → is_pending u.locks.pending t ≡ true → noting u.locks.outcomes noted t ≡ None
  pub once : Once u.locks.pending
  pub apart : IsApart u.locks.pending

pub locks-ok : (noted : Txn → Option Bool) (u : BrickState) → Locks noted u → BrickOk (noting u.locks.outcomes noted) u
locks-ok noted u h = record { agrees = λ t. twice (get u.locks.outcomes t) (noted t); free = h.free; once = h.once; apart = h.apart }

-- what becomes of an outcome that stood: it stands, or another one does
pub data Holds (s u : BrickState) (t : Txn) : Type 0 where
  left : get u.locks.outcomes t ≡ get s.locks.outcomes t → Holds s u t
  anew : (c : Bool) → get u.locks.outcomes t ≡ Some c → Holds s u t

self-first : (x : Option Bool) → first_some x x ≡ x
self-first None = refl
self-first (Some c) = refl

pub holds-kept : (noted : Txn → Option Bool) (s u : BrickState) (t : Txn) → Holds s u t → noted t ≡ get s.locks.outcomes t
    → noting u.locks.outcomes noted t ≡ get u.locks.outcomes t
holds-kept noted s u t (left e) h = ap (first_some (get u.locks.outcomes t)) (h ∙ sym e) ∙ self-first (get u.locks.outcomes t)
holds-kept noted s u t (anew c e) h = ap (λ x. first_some x (noted t)) e ∙ sym e

-- Turns that leave what is pending and noted, and tales

pub rest-locks : (noted : Txn → Option Bool) (s u : BrickState) → u.locks.pending ≡ s.locks.pending → u.locks.outcomes ≡ s.locks.outcomes → BrickOk noted s
    → Locks noted u
rest-locks noted s u p o ok =
    record {
      free = λ t e. ap (λ m. noting m noted t) o ∙ ok.agrees t ∙ ok.free t (ap (λ ps. is_pending ps t) (sym p) ∙ e);
      once = subst Once (sym p) ok.once;
      apart = subst IsApart (sym p) ok.apart;
    }

pub rest-holds : (s u : BrickState) (t : Txn) → u.locks.outcomes ≡ s.locks.outcomes → Holds s u t
rest-holds s u t o = left (ap (λ m. get m t) o)

done-free : (noted : Txn → Option Bool) (s u : BrickState) (t : Txn) → Done s u t → BrickOk noted s → is_pending u.locks.pending t ≡ true
    → noting u.locks.outcomes noted t ≡ None
done-free noted s u t (same p o) ok e = ap (λ g. first_some g (noted t)) o ∙ ok.agrees t ∙ ok.free t (sym p ∙ e)
done-free noted s u t (ended c p q r) ok e = let bad : false ≡ true = sym q ∙ e in cc

pub tale-locks : (noted : Txn → Option Bool) (s : BrickState) (r : BrickTurn) → Tale s r → BrickOk noted s → Locks noted r.state
tale-locks noted s r tale ok =
    record {
      free = λ t e. done-free noted s r.state t (tale.done ok.once t) ok e;
      once = tale.once ok.once;
      apart = tale.apart ok.apart;
    }

pub done-holds : (s u : BrickState) (t : Txn) → Done s u t → Holds s u t
done-holds s u t (same p o) = left o
done-holds s u t (ended c p q r) = anew c r

-- Prepare

free-at : (x : Bool) (n : Option Bool) → at_of x n ≡ Unprepared → (x ≡ false) × (n ≡ None)
free-at true n e = cc
free-at false None e = (refl, refl)
free-at false (Some true) e = cc
free-at false (Some false) e = cc

pub at-none : (ps : List Pending) (noted : Option Bool) (t : Txn) → at ps noted t ≡ Unprepared → (is_pending ps t ≡ false) × (noted ≡ None)
at-none ps noted t e = free-at (is_pending ps t) noted e

no-second : {X : Type 0} (a b : Option X) → first_some a b ≡ None → (a ≡ None) × (b ≡ None)
no-second None b e = (refl, e)
no-second (Some x) b e = cc

no-denial : (o : Option Refusal) → as_denial o ≡ None → o ≡ None
no-denial None e = refl
no-denial (Some r) e = cc

no-when : {X : Type 0} (b : Bool) (x : X) → when b x ≡ None → b ≡ false
no-when true x e = cc
no-when false x e = refl

no-some : {X : Type 0} (o : Option X) → is_some o ≡ false → o ≡ None
no-some None e = refl
no-some (Some x) e = cc

unlocked : (s : BrickState) (o : Op) (name : Name) (stamp : StampOf) → update_denial s o name stamp ≡ None → holder s.locks.pending (the_key o) ≡ None
unlocked s o name stamp e =
    let k = the_key o in
    let lease = when (lease_covers s.locks.leases k) refusal.Lease in
    let lock = when (is_locked s k) refusal.Lock in
    let stale = stale_against (leaf_for s.leaves k) name stamp in
    let a = no-denial (update_refusal s k name stamp) (no-second (as_denial (update_refusal s k name stamp)) (when (has_no_room s o) denial.Full) e).0 in
    let c = (no-second (when (joins_key s.order k) refusal.Lease) (first_some stale (first_some lease lock)) a).1 in
    let d = (no-second stale (first_some lease lock) c).1 in
    let f = (no-second lease lock d).1 in
    no-some (holder s.locks.pending k) (no-when (is_locked s k) refusal.Lock f)

or-parts : (a b : Bool) → (a || b) ≡ true → (a ≡ true) ⊎ (b ≡ true)
or-parts true b e = inl refl
or-parts false b e = inr e

-- over a state whose trimming was done
voted-locks : (noted : Txn → Option Bool) (s : BrickState) (from : NodeNo) (p : Pending) (d : Option Denial) → BrickOk noted s
    → at s.locks.pending (noted p.txn) p.txn ≡ Unprepared → (d ≡ None → holder s.locks.pending (the_key p.op) ≡ None)
    → Locks noted (calls.voted s from p d).state
voted-locks noted s from p None ok is key =
    let none = at-none s.locks.pending (noted p.txn) p.txn is in
    record {
      free = λ t e. elim (or-parts (is_pending s.locks.pending t) (same_txn p.txn t) (sym (pending-push s.locks.pending p t) ∙ e)) [
        | inl was ↦ ok.agrees t ∙ ok.free t was
        | inr it ↦ ok.agrees t ∙ ap noted (sym (is-same p.txn t it)) ∙ none.1
      ];
      once = once-push s.locks.pending p ok.once none.0;
      apart = apart-push s.locks.pending p ok.apart (key refl);
    }
voted-locks noted s from p (Some d) ok is key = record { free = λ t e. ok.agrees t ∙ ok.free t e; once = ok.once; apart = ok.apart }

pub prepare-locks : (noted : Txn → Option Bool) (s : BrickState) (from : NodeNo) (p : Pending) (below : ℕ) (name : Name) (stamp : StampOf) → BrickOk noted s
    → at s.locks.pending (noted p.txn) p.txn ≡ Unprepared → Locks noted (calls.prepare_row s from p below name stamp).state
prepare-locks noted s from p below name stamp ok is =
    let x = calls.trim s p.txn.library below in
    let fine : BrickOk noted x = record {
      agrees = trim-agrees s.locks.outcomes noted p.txn.library below ok.agrees;
      free = ok.free;
      once = ok.once;
      apart =
          ok.apart;
    } in
    voted-locks noted x from p (update_denial s p.op name stamp) fine is (λ e. unlocked s p.op name stamp e)

kept-if : (b : Bool) (m : OutcomeMap) (t : Txn) → (b ≡ false) → cond (not b) (get m t) None ≡ get m t
kept-if true m t e = cc
kept-if false m t e = refl

and-both : (a b : Bool) → (a ≡ true → b ≡ false) → (a && b) ≡ false
and-both true b h = h refl
and-both false b h = refl

not-less : (a b : ℕ) → b ≤ a → nat_lt a b ≡ false
not-less a b h = grind (arith, nat_tests, h)

not-below : (library below : ℕ) (t : Txn) → (t.library ≡ library → below ≤ t.number) → is_below library below t ≡ false
not-below library below t h = and-both (t.library == library) (nat_lt t.number below) (λ e. not-less t.number below (h (eqb-true t.library library e)))

-- trimming leaves what isn't below the bound
pub kept-trim : (m : OutcomeMap) (library below : ℕ) (t : Txn) → (t.library ≡ library → below ≤ t.number) → get (trimmed m library below) t ≡ get m t
kept-trim m library below t h = get-trimmed m library below t ∙ kept-if (is_below library below t) m t (not-below library below t h)

voted-holds : (s x : BrickState) (from : NodeNo) (p : Pending) (d : Option Denial) (t : Txn) → get x.locks.outcomes t ≡ get s.locks.outcomes t
    → Holds s (calls.voted x from p d).state t
voted-holds s x from p None t e = left e
voted-holds s x from p (Some d) t e = left e

pub prepare-holds : (s : BrickState) (from : NodeNo) (p : Pending) (below : ℕ) (name : Name) (stamp : StampOf) (t : Txn)
    → (t.library ≡ p.txn.library → below ≤ t.number) → Holds s (calls.prepare_row s from p below name stamp).state t
prepare-holds s from p below name stamp t h =
    voted-holds s (calls.trim s p.txn.library below) from p (update_denial s p.op name stamp) t (kept-trim s.locks.outcomes p.txn.library below t h)

-- no outcome comes of it
trim-yes : (b : Bool) (g : Option Bool) (c : Bool) → cond b g None ≡ Some c → g ≡ Some c
trim-yes true g c e = e
trim-yes false g c e = cc

voted-old : (s x : BrickState) (from : NodeNo) (p : Pending) (d : Option Denial) (t : Txn) (c : Bool) → (get x.locks.outcomes t ≡ Some c
    → get s.locks.outcomes t ≡ Some c)
    → get (calls.voted x from p d).state.locks.outcomes t ≡ Some c → get s.locks.outcomes t ≡ Some c
voted-old s x from p None t c h e = h e
voted-old s x from p (Some d) t c h e = h e

pub prepare-old : (s : BrickState) (from : NodeNo) (p : Pending) (below : ℕ) (name : Name) (stamp : StampOf) (t : Txn) (c : Bool)
    → get (calls.prepare_row s from p below name stamp).state.locks.outcomes t ≡ Some c → get s.locks.outcomes t ≡ Some c
prepare-old s from p below name stamp t c e =
    voted-old s (calls.trim s p.txn.library below) from p (update_denial s p.op name stamp) t c
    (λ f. trim-yes (not (is_below p.txn.library below t)) (get s.locks.outcomes t) c (sym (get-trimmed s.locks.outcomes p.txn.library below t) ∙ f)) e

-- Commit and Abort: what they do is a tale, but for the answer

pub commit-done : (s : BrickState) (from : NodeNo) (x : Txn) (q : Option Pending) (t : Txn) → first_of s.locks.pending x ≡ q → Once s.locks.pending
    → Done s (calls.commit_found (calls.dropped s x) from q).state t
commit-done s from x None t f o = same (dropped-none s x t f o) refl
commit-done s from x (Some p) t f o = ends-one s (calls.commit_found (calls.dropped s x) from (Some p)).state x p true t refl refl f o

pub abort-done : (s : BrickState) (x : Txn) (q : Option Pending) (t : Txn) → first_of s.locks.pending x ≡ q → Once s.locks.pending
    → Done s (calls.aborted (calls.dropped s x) q) t
abort-done s x None t f o = same (dropped-none s x t f o) refl
abort-done s x (Some p) t f o = ends-one s (calls.aborted (calls.dropped s x) (Some p)) x p false t refl refl f o

commit-pending : (s : BrickState) (from : NodeNo) (x : Txn) (q : Option Pending)
    → (calls.commit_found (calls.dropped s x) from q).state.locks.pending ≡ (calls.dropped s x).locks.pending
commit-pending s from x None = refl
commit-pending s from x (Some p) = refl

abort-pending : (s : BrickState) (x : Txn) (q : Option Pending) → (calls.aborted (calls.dropped s x) q).locks.pending ≡ (calls.dropped s x).locks.pending
abort-pending s x None = refl
abort-pending s x (Some p) = refl

ended-locks : (noted : Txn → Option Bool) (s u : BrickState) (x : Txn) → u.locks.pending ≡ (calls.dropped s x).locks.pending → ((t : Txn) → Done s u t)
    → BrickOk noted s → Locks noted u
ended-locks noted s u x p done ok =
    record {
      free = λ t e. done-free noted s u t (done t) ok e;
      once = subst Once (sym p) (once-without s.locks.pending x ok.once);
      apart = subst IsApart (sym p) (apart-without (is_numbered x) s.locks.pending ok.apart);
    }

pub commit-locks : (noted : Txn → Option Bool) (s : BrickState) (from : NodeNo) (x : Txn) → BrickOk noted s → Locks noted (calls.commit_row s from x).state
commit-locks noted s from x ok =
    ended-locks noted s (calls.commit_row s from x).state x (commit-pending s from x (first_of s.locks.pending x))
    (λ t. commit-done s from x (first_of s.locks.pending x) t refl ok.once) ok

pub abort-locks : (noted : Txn → Option Bool) (s : BrickState) (from : NodeNo) (x : Txn) → BrickOk noted s → Locks noted (calls.abort_row s from x).state
abort-locks noted s from x ok =
    ended-locks noted s (calls.abort_row s from x).state x (abort-pending s x (first_of s.locks.pending x))
    (λ t. abort-done s x (first_of s.locks.pending x) t refl ok.once) ok
