use Rattle.std.proofs.Common.{◌≡◌, ℕ, zero, suc, ◌⊎◌, inl, inr, Bool, true, false, not, cond, Option, Some, None, List, [], ◌∷◌, refl, sym, ap, ◌∙◌, subst}
use Rattle.std.specs.FinMap.{get}
use Rattle.std.specs.Prelude.{is_some, nat_le, slice_get, if◌then◌else◌}
use Rattle.dds_base.specs.BrickList.{has}
use Rattle.dds_base.specs.NodeSet.{has_node}
use Rattle.dds_base.specs.Number.{Txn, same_txn}
use Rattle.dds_books.specs.Books.{ListFits}
use Rattle.dds_commit.proofs.Opens.{conversation}
use Rattle.dds_net.specs.Net.{Net, a_brick, a_library, Sizes}
use Rattle.dds_states.specs.Turn.{first_some}
use Rattle.dds_states.specs.declared.brick_state.BrickState.{BrickState}
use Rattle.dds_states.specs.declared.library_state.LibraryState.{LibraryState}
use Rattle.dds_states.specs.declared.library_state.OpenCall.{OpenCall}
use Rattle.dds_states.specs.declared.library_state.Phase.{Phase}
use Rattle.dds_states.specs.declared.library_state.Phase.TheVariants as phase
use Rattle.dds_talk.proofs.Grounds.{Ground, library-unknown}
use Rattle.dds_talk.proofs.Parts.{is-same, same-self}
use Rattle.dds_talk.specs.Books.{Books}
use Rattle.dds_talk.specs.Parts.{BrickOk, Commit}
use Rattle.dds_talk.specs.Seen.{Apart, asks, at, at_of, call_of, call_view, commits_now, is_open, is_pending, phase_view, says, view}
use Rattle.dds_talk.specs.Table.{View, Ask, Say, At, IsTalk, Known, Talk, Talks}
use Rattle.dds_talk.specs.Table.At.{Prepared, Committed}
use Rattle.dds_talk.specs.Table.IsTalk.{unknowing, knowing}
use Rattle.dds_talk.specs.Table.Talk.{done, late_yes, past_done, said_yes, told_abort, told_applied, told_commit, voted}
use Rattle.dds_talk.specs.Table.Talks.{live, left}
use Rattle.dds_talk.specs.Table.View.{New, VoteDue, VoteHeard, CommitDue, CommitHeard, AbortDue, AbortHeard, Past, Off}

-- What a live brick has pending is open at its library, live or not; and of what it noted as committed a live library's call commits.

-- the library's view of what a live member has prepared
abbrev IsHeld : View → Type 0
IsHeld New = ⊥
IsHeld VoteDue = Unit {0}
IsHeld VoteHeard = Unit {0}
IsHeld CommitDue = Unit {0}
IsHeld CommitHeard = ⊥
IsHeld AbortDue = Unit {0}
IsHeld AbortHeard = ⊥
IsHeld Past = ⊥
IsHeld Off = ⊥

held-talk : {v : View} {o : List Ask} {b : List Say} → Talk v o Prepared b → IsHeld v
held-talk said_yes = tt
held-talk voted = tt
held-talk told_commit = tt
held-talk late_yes = tt
held-talk told_abort = tt

held-talks : {ll : Bool} {v : View} {o : List Ask} {b : List Say} → Talks ll true v o Prepared b → IsHeld v
held-talks (live h) = held-talk h
held-talks (left cut h) = held-talk h

held-known : (v : View) → Known v Prepared → IsHeld v
held-known New h = cc
held-known VoteDue h = tt
held-known VoteHeard h = tt
held-known CommitDue h = tt
held-known CommitHeard h = cc
held-known AbortDue h = tt
held-known AbortHeard (inl e) = cc
held-known AbortHeard (inr e) = cc
held-known Past h = h refl
held-known Off h = cc

held-is : {ll k : Bool} {v : View} {o : List Ask} {a : At} {b : List Say} → a ≡ Prepared → IsTalk ll true k v o a b → IsHeld v
held-is {ll = ll} {v = v} {o = o} {b = b} e (unknowing h) = held-talks (subst (λ a. Talks ll true v o a b) e h)
held-is {v = v} e (knowing h) = held-known v (subst (Known v) e h)

held-if : (m : ℕ) (c h : Bool) (o : Option OpenCall) → IsHeld (if c then New else (if h then call_view m o else Off)) → is_some o ≡ true
held-if m true h o k = absurd k
held-if m false false o k = absurd k
held-if m false true None k = absurd k
held-if m false true (Some c) k = refl

pub held-open : (z : Sizes) (n : Net) (b : Books) (t : Txn) (k : ℕ) (l : LibraryState) (s : BrickState) → Ground z n → Commit z n b
    → n.node t.library ≡ a_library l → n.node k ≡ a_brick s → s.stopped ≡ false → is_pending s.locks.pending t ≡ true → is_open l t ≡ true
held-open z n b t k l s g parts library member lives p =
    held-if k (nat_le l.next t.number) (has (b.list t) k) (call_of l.calls t)
    (held-is (ap (λ c. at_of c (b.noted k t)) p) (conversation z n b t k l s g parts library member lives))

-- the library's view of what a live member has committed
abbrev IsDone : View → Type 0
IsDone New = ⊥
IsDone VoteDue = ⊥
IsDone VoteHeard = ⊥
IsDone CommitDue = Unit {0}
IsDone CommitHeard = Unit {0}
IsDone AbortDue = ⊥
IsDone AbortHeard = ⊥
IsDone Past = Unit {0}
IsDone Off = ⊥

done-talk : {v : View} {o : List Ask} {b : List Say} → Talk v o Committed b → IsDone v
done-talk told_applied = tt
done-talk done = tt
done-talk past_done = tt

done-talks : {v : View} {o : List Ask} {b : List Say} → Talks true true v o Committed b → IsDone v
done-talks (live h) = done-talk h

done-is : {v : View} {o : List Ask} {a : At} {b : List Say} → a ≡ Committed → IsTalk true true false v o a b → IsDone v
done-is {v = v} {o = o} {b = b} e (unknowing h) = done-talks (subst (λ a. Talks true true v o a b) e h)

-- a call whose attempt has no members
abbrev pub HasNone : Phase → Type 0
HasNone (phase.Getting leaf brick) = Unit {0}
HasNone (phase.Asking waiting newest met) = Unit {0}
HasNone other = ⊥

pub none-fits : (p : Phase) (list : Option (List ℕ)) → HasNone p → ListFits p list → list ≡ None
none-fits (phase.Getting leaf brick) list h f = f
none-fits (phase.Asking waiting newest met) list h f = f
none-fits other list h f = absurd h

undone : (c : Bool) (v w : View) → (IsDone v → ⊥) → (IsDone w → ⊥) → IsDone (if c then v else w) → ⊥
undone true v w f g h = f h
undone false v w f g h = g h

done-phase : (m : ℕ) (p : Phase) → IsDone (phase_view m p) → (commits_now p ≡ true) ⊎ HasNone p
done-phase m (phase.Getting leaf brick) h = inr tt
done-phase m (phase.Preparing leaf list waiting) h = absurd (undone (has waiting m) VoteDue VoteHeard (λ e. e) (λ e. e) h)
done-phase m (phase.Committing leaf list waiting was) h = inl refl
done-phase m (phase.Aborting waiting why brick) h = absurd (undone (has waiting m) AbortDue AbortHeard (λ e. e) (λ e. e) h)
done-phase m (phase.Asking waiting newest met) h = inr tt

done-if : (m : ℕ) (first second : Bool) (o : Option OpenCall) (c : OpenCall) → o ≡ Some c
    → IsDone (if first then New else (if second then call_view m o else Off)) → (second ≡ true) × IsDone (phase_view m c.phase)
done-if m true second o c e h = absurd h
done-if m false false o c e h = absurd h
done-if m false true o c e h = (refl, subst (λ q. IsDone (call_view m q)) e h)

-- what a brick has noted as committed
noted-first : (g o : Option Bool) → g ≡ Some true → first_some g o ≡ Some true
noted-first None o e = cc
noted-first (Some v) o e = e

place-if : (pending : Bool) (noted : Option Bool) → noted ≡ Some true → (pending ≡ true → noted ≡ None) → at_of pending noted ≡ Committed
place-if true noted e free = let no : None ≡ Some true = sym (free refl) ∙ e in cc
place-if false noted e free = ap (at_of false) e

committed-at : (noted : Txn → Option Bool) (s : BrickState) (t : Txn) → BrickOk noted s → get s.locks.outcomes t ≡ Some true
    → at s.locks.pending (noted t) t ≡ Committed
committed-at noted s t ok e =
    place-if (is_pending s.locks.pending t) (noted t) (sym (ok.agrees t) ∙ noted-first (get s.locks.outcomes t) (noted t) e) (ok.free t)

-- one that is open at a live library commits, or has no members
pub record IsMember (b : Books) (t : Txn) (m : ℕ) (c : OpenCall) : Type 0 where
  pub member : has (b.list t) m ≡ true
  pub phase_is : (commits_now c.phase ≡ true) ⊎ HasNone c.phase

pub done-open : (z : Sizes) (n : Net) (b : Books) (t : Txn) (k : ℕ) (l : LibraryState) (s : BrickState) (c : OpenCall) → Ground z n → Commit z n b
    → n.node t.library ≡ a_library l → n.node k ≡ a_brick s → l.stopped ≡ false → s.stopped ≡ false → get s.locks.outcomes t ≡ Some true
    → call_of l.calls t ≡ Some c → IsMember b t k c
done-open z n b t k l s c g parts library member alive lives e is =
    let a = at s.locks.pending (b.noted k t) t in
    let talk = conversation z n b t k l s g parts library member lives in
    let one = subst (λ x. IsTalk x true (has_node s.known t.library) (view l (b.list t) t k) (asks t (n.channel t.library k)) a
    (says t (n.channel k t.library))) (ap not alive) talk in
    let two = subst (λ x. IsTalk true true x (view l (b.list t) t k) (asks t (n.channel t.library k)) a (says t (n.channel k t.library)))
    (library-unknown z n t.library k l s g library member alive) one in
    let v = done-if k (nat_le l.next t.number) (has (b.list t) k) (call_of l.calls t) c is
    (done-is (committed-at (b.noted k) s t (parts.note k s member) e) two) in
    record { member = v.0; phase_is = done-phase k c.phase v.1 }

-- the open call at a place is its attempt's
past-call : (x c : OpenCall) (cs : List OpenCall) (b : Bool) → same_txn x.txn c.txn ≡ b → call_of cs x.txn ≡ None → call_of cs c.txn ≡ Some c
    → cond b (Some x) (call_of cs c.txn) ≡ Some c
past-call x c cs true e none rest = let no : None ≡ Some c = sym none ∙ ap (call_of cs) (is-same x.txn c.txn e) ∙ rest in cc
past-call x c cs false e none rest = rest

pub call-there : (cs : List OpenCall) (i : ℕ) (c : OpenCall) → Apart cs → slice_get cs i ≡ Some c → call_of cs c.txn ≡ Some c
call-there [] i c h e = cc
call-there (x ∷ cs) zero c h e =
    let is : x ≡ c = cc in
    ap (λ (y : OpenCall). cond (same_txn y.txn c.txn) (Some x) (call_of cs c.txn)) is
    ∙ ap (λ b. cond b (Some x) (call_of cs c.txn)) (same-self c.txn) ∙ ap Some is
call-there (x ∷ cs) (suc i) c h e = past-call x c cs (same_txn x.txn c.txn) refl h.0 (call-there cs i c h.1 e)
