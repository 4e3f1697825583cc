use Rattle.std.proofs.Common.{◌≡◌, ℕ, ◌||◌, Bool, true, false, Option, Some, None, [], ◌∷◌, refl, ap, ◌∙◌}
use Rattle.std.specs.FinMap.{get}
use Rattle.dds_base.specs.Number.{Txn, same_txn}
use Rattle.dds_base.specs.declared.number.NodeNo.{NodeNo}
use Rattle.dds_base.specs.declared.pending.Pending.{Pending}
use Rattle.dds_brick_rows.specs.Calls as calls
use Rattle.dds_brick_rows.specs.Refusal.{get_refusal, update_denial}
use Rattle.dds_core.specs.Brick.{live_brick_turn}
use Rattle.dds_letters.specs.declared.letter.Letter.{Letter}
use Rattle.dds_letters.specs.declared.letter.Letter.TheVariants as letter
use Rattle.dds_letters.specs.declared.refusal.Denial.{Denial}
use Rattle.dds_letters.specs.declared.refusal.Refusal.{Refusal}
use Rattle.dds_locks.proofs.Locked.{found-numbered}
use Rattle.dds_locks.specs.Outcomes.{trimmed}
use Rattle.dds_locks.specs.Pending.{first_of}
use Rattle.dds_states.specs.Turn.{BrickTurn, sends, still}
use Rattle.dds_states.specs.declared.brick_state.BrickState.{BrickState}
use Rattle.dds_talk.proofs.Parts.{get-other, is-same, pending-other, pending-push}
use Rattle.dds_talk.specs.Seen.{about, is_pending, of}
use Rattle.dds_resolve.proofs.MemberTurns.{own-same, quiet-one}
use Rattle.dds_resolve.specs.Letters.{letters_to}
use Rattle.dds_resolve.specs.Resolving.{own_at, status_in, tell_in}

-- The rows of calls at a brick: they leave resolving alone, and change how far one attempt is.

pub record Plainly (s : BrickState) (r : BrickTurn) : Type 0 where
  pub known : r.state.known ≡ s.known
  pub number : r.state.number ≡ s.number
  pub deferred : r.state.deferred ≡ s.deferred
  pub resolving : r.state.resolving ≡ s.resolving
  pub tells : (t : Txn) (m : ℕ) → about tell_in t (letters_to m r.out.letters) ≡ []
  pub statuses : (t : Txn) (m : ℕ) → about status_in t (letters_to m r.out.letters) ≡ []

plain-still : (s u : BrickState) → u.known ≡ s.known → u.number ≡ s.number → u.deferred ≡ s.deferred → u.resolving ≡ s.resolving → Plainly s (still u)
plain-still s u e f g h = record { known = e; number = f; deferred = g; resolving = h; tells = λ t m. refl; statuses = λ t m. refl }

plain-one : (s u : BrickState) (to : NodeNo) (l : Letter) → u.known ≡ s.known → u.number ≡ s.number → u.deferred ≡ s.deferred → u.resolving ≡ s.resolving
    → ((t : Txn) → of t (tell_in l) ≡ []) → ((t : Txn) → of t (status_in l) ≡ []) → Plainly s (sends u ((to, l) ∷ []))
plain-one s u to l e f g h a b =
    record {
      known = e;
      number = f;
      deferred = g;
      resolving = h;
      tells = λ t m. quiet-one tell_in t m to l (a t);
      statuses = λ t m. quiet-one status_in t m to l (b t);
    }

got-plain : (s : BrickState) (from : NodeNo) (txn : Txn) (key : ℕ) (o : Option Refusal) → Plainly s (calls.got s from txn key o)
got-plain s from txn key None = let k = plain-one s s from (letter.Got txn (calls.answer_of (get s.pairs key))) refl refl refl refl (λ t. refl) (λ t. refl) in
    record { known = k.known; number = k.number; deferred = k.deferred; resolving = k.resolving; tells = k.tells; statuses = k.statuses }
got-plain s from txn key (Some r) = plain-one s s from _ refl refl refl refl (λ t. refl) (λ t. refl)

voted-plain : (s u : BrickState) (from : NodeNo) (p : Pending) (d : Option Denial) → u.known ≡ s.known → u.number ≡ s.number → u.deferred ≡ s.deferred →
    u.resolving ≡ s.resolving → Plainly s (calls.voted u from p d)
voted-plain s u from p None e f g h = plain-one s (record u { locks = (calls.voted u from p None).state.locks }) from _ e f g h (λ t. refl) (λ t. refl)
voted-plain s u from p (Some d) e f g h = plain-one s u from _ e f g h (λ t. refl) (λ t. refl)

commit-plain : (s u : BrickState) (from : NodeNo) (p : Option Pending) → u.known ≡ s.known → u.number ≡ s.number → u.deferred ≡ s.deferred →
    u.resolving ≡ s.resolving → Plainly s (calls.commit_found u from p)
commit-plain s u from None e f g h = plain-still s u e f g h
commit-plain s u from (Some p) e f g h =
    record {
      known = e;
      number = f;
      deferred = g;
      resolving = h;
      tells = λ t m. quiet-one tell_in t m from (letter.Applied p.txn (calls.flag_at u p)) refl;
      statuses = λ t m. quiet-one status_in t m from (letter.Applied p.txn (calls.flag_at u p)) refl;
    }

abort-plain : (s u : BrickState) (from : NodeNo) (txn : Txn) (p : Option Pending) → u.known ≡ s.known → u.number ≡ s.number → u.deferred ≡ s.deferred →
    u.resolving ≡ s.resolving
    → Plainly s (sends (calls.aborted u p) ((from, letter.Aborted txn) ∷ []))
abort-plain s u from txn None e f g h = plain-one s u from (letter.Aborted txn) e f g h (λ t. refl) (λ t. refl)
abort-plain s u from txn (Some p) e f g h = plain-one s (calls.aborted u (Some p)) from (letter.Aborted txn) e f g h (λ t. refl) (λ t. refl)

-- a letter of a call
abbrev pub IsCall : Letter → Type 0
IsCall (letter.Get txn caller call key name stamp) = Unit {0}
IsCall (letter.Prepare txn caller call below name stamp list op) = Unit {0}
IsCall (letter.Commit txn) = Unit {0}
IsCall (letter.Abort txn) = Unit {0}
IsCall (letter.MapAsk txn caller call key) = Unit {0}
IsCall (letter.Got txn a) = Unit {0}
IsCall (letter.Vote txn vote) = Unit {0}
IsCall (letter.Applied txn was) = Unit {0}
IsCall (letter.Aborted txn) = Unit {0}
IsCall (letter.MapTell txn leaf) = Unit {0}
IsCall other = ⊥

pub call-plain : (s : BrickState) (from : NodeNo) (l : Letter) → IsCall l → Plainly s (live_brick_turn s from l)
call-plain s from (letter.Get txn caller call key name stamp) h = got-plain s from txn key (get_refusal s key name stamp)
call-plain s from (letter.Prepare txn caller call below name stamp list op) h = voted-plain s (calls.trim s txn.library below) from _ _ refl refl refl refl
call-plain s from (letter.Commit txn) h = commit-plain s (calls.dropped s txn) from _ refl refl refl refl
call-plain s from (letter.Abort txn) h = abort-plain s (calls.dropped s txn) from txn _ refl refl refl refl
call-plain s from (letter.MapAsk txn caller call key) h = plain-one s s from _ refl refl refl refl (λ t. refl) (λ t. refl)
call-plain s from (letter.Got txn a) h = plain-still s s refl refl refl refl
call-plain s from (letter.Vote txn vote) h = plain-still s s refl refl refl refl
call-plain s from (letter.Applied txn was) h = plain-still s s refl refl refl refl
call-plain s from (letter.Aborted txn) h = plain-still s s refl refl refl refl
call-plain s from (letter.MapTell txn leaf) h = plain-still s s refl refl refl refl
call-plain s from other h = absurd h

-- the one attempt that may change: that of a prepare, a commit or an abort
abbrev pub Spares : Txn → Letter → Type 0
Spares t (letter.Prepare txn caller call below name stamp list op) = same_txn txn t ≡ false
Spares t (letter.Commit txn) = same_txn txn t ≡ false
Spares t (letter.Abort txn) = same_txn txn t ≡ false
Spares t other = Unit {0}

-- trimming spares the outcome of an attempt
abbrev pub Untrimmed : BrickState → Txn → Letter → Type 0
Untrimmed s t (letter.Prepare txn caller call below name stamp list op) = get (trimmed s.locks.outcomes txn.library below) t ≡ get s.locks.outcomes t
Untrimmed s t other = Unit {0}

other-false : (a b : Bool) → b ≡ false → (a || b) ≡ a
other-false true b e = refl
other-false false b e = e

voted-own : (s u : BrickState) (from : NodeNo) (p : Pending) (d : Option Denial) (t : Txn) → u.locks.pending ≡ s.locks.pending →
    get u.locks.outcomes t ≡ get s.locks.outcomes t → same_txn p.txn t ≡ false → own_at (calls.voted u from p d).state t ≡ own_at s t
voted-own s u from p None t e f ne =
    own-same s (calls.voted u from p None).state t (pending-push u.locks.pending p t ∙ other-false (is_pending u.locks.pending t) (same_txn p.txn t) ne
    ∙ ap (λ ps. is_pending ps t) e) f
voted-own s u from p (Some d) t e f ne = own-same s u t (ap (λ ps. is_pending ps t) e) f

found-other : (s : BrickState) (x t : Txn) (p : Pending) → first_of s.locks.pending x ≡ Some p → same_txn x t ≡ false → same_txn p.txn t ≡ false
found-other s x t p e ne = ap (λ v. same_txn v t) (is-same p.txn x (found-numbered s.locks.pending p x e)) ∙ ne

commit-own : (s : BrickState) (from : NodeNo) (x t : Txn) (o : Option Pending) → first_of s.locks.pending x ≡ o → same_txn x t ≡ false →
    own_at (calls.commit_found (calls.dropped s x) from o).state t ≡ own_at s t
commit-own s from x t None e ne = own-same s (calls.dropped s x) t (pending-other s.locks.pending x t ne) refl
commit-own s from x t (Some p) e ne = own-same s (calls.commit_found (calls.dropped s x) from (Some p)).state t (pending-other s.locks.pending x t ne)
    (get-other s.locks.outcomes p.txn t true (found-other s x t p e ne))

abort-own : (s : BrickState) (x t : Txn) (o : Option Pending) → first_of s.locks.pending x ≡ o → same_txn x t ≡ false →
    own_at (calls.aborted (calls.dropped s x) o) t ≡ own_at s t
abort-own s x t None e ne = own-same s (calls.dropped s x) t (pending-other s.locks.pending x t ne) refl
abort-own s x t (Some p) e ne = own-same s (calls.aborted (calls.dropped s x) (Some p)) t (pending-other s.locks.pending x t ne)
    (get-other s.locks.outcomes p.txn t false (found-other s x t p e ne))

got-own : (s : BrickState) (from : NodeNo) (txn : Txn) (key : ℕ) (o : Option Refusal) (t : Txn) → own_at (calls.got s from txn key o).state t ≡ own_at s t
got-own s from txn key None t = refl
got-own s from txn key (Some r) t = refl

pub call-own : (s : BrickState) (from : NodeNo) (l : Letter) (t : Txn) → IsCall l → Spares t l → Untrimmed s t l →
    own_at (live_brick_turn s from l).state t ≡ own_at s t
call-own s from (letter.Get txn caller call key name stamp) t h a b = got-own s from txn key (get_refusal s key name stamp) t
call-own s from (letter.Prepare txn caller call below name stamp list op) t h a b =
    voted-own s (calls.trim s txn.library below) from _ (update_denial (calls.trim s txn.library below) op name stamp) t refl b a
call-own s from (letter.Commit txn) t h a b = commit-own s from txn t (first_of s.locks.pending txn) refl a
call-own s from (letter.Abort txn) t h a b = abort-own s txn t (first_of s.locks.pending txn) refl a
call-own s from (letter.MapAsk txn caller call key) t h a b = refl
call-own s from (letter.Got txn x) t h a b = refl
call-own s from (letter.Vote txn vote) t h a b = refl
call-own s from (letter.Applied txn was) t h a b = refl
call-own s from (letter.Aborted txn) t h a b = refl
call-own s from (letter.MapTell txn leaf) t h a b = refl
call-own s from other t h a b = absurd h
