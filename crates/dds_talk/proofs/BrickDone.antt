use Rattle.std.proofs.Common.{◌≡◌, ◌≢◌, ℕ, ◌≤◌, ◌||◌, ◌⊎◌, inl, inr, Bool, true, false, List, ◌∷◌, Option, Some, None, refl, sym, ap, ◌∙◌}
use Rattle.std.proofs.Common.{subst}
use Rattle.std.proofs.lemmas.Bool.{cases_eq, or_right}
use Rattle.std.specs.FinMap.{get}
use Rattle.std.specs.Prelude.{if◌then◌else◌, nat_le}
use Rattle.dds_base.specs.BrickList.{has}
use Rattle.dds_base.specs.NodeSet.{has_node}
use Rattle.dds_base.specs.Number.{Txn}
use Rattle.dds_base.specs.declared.number.NodeNo.{NodeNo}
use Rattle.dds_letters.specs.declared.letter.Letter.{Letter}
use Rattle.dds_states.specs.Turn.{first_some}
use Rattle.dds_states.specs.declared.brick_state.BrickState.{BrickState}
use Rattle.dds_states.specs.declared.library_state.LibraryState.{LibraryState}
use Rattle.dds_states.specs.declared.library_state.OpenCall.{OpenCall}
use Rattle.dds_states.specs.declared.library_state.Phase.{Phase}
use Rattle.dds_states.specs.declared.library_state.Phase.TheVariants.{Getting, Preparing, Committing, Aborting, Asking}
use Rattle.dds_net.specs.Net.{Net, a_brick, a_library, Sizes}
use Rattle.dds_talk.proofs.BrickTalks.{Here, apart-from, brick-decides, brick-same, brick-talks}
use Rattle.dds_talk.proofs.Changes.{Turned, put-here, put-other}
use Rattle.dds_talk.proofs.Locks.{Holds, Locks, at-none, holds-kept, locks-ok}
use Rattle.dds_talk.proofs.Turns.{found-is, new-le}
use Rattle.dds_talk.specs.Books.{Books, is_yes, with_brick}
use Rattle.dds_talk.specs.Parts.{BrickOk, AllCall, Commit, Conversation, AllDecide, Decided, IsSure, AllKeep, LibraryOk, AllNote, NotedAsDecided, AllTalk}
use Rattle.dds_talk.specs.Seen.{call_of, call_view, commits_now, is_open, noting, phase_view, view}
use Rattle.dds_talk.specs.Table.{View, Ask, Say, At, Talk, Talks, IsTalk, Known}
use Rattle.dds_talk.specs.Table.Ask.{commit}
use Rattle.dds_talk.specs.Table.At.{Unprepared}
use Rattle.dds_talk.specs.Table.IsTalk.{unknowing, knowing}
use Rattle.dds_talk.specs.Table.Talk.{told_commit, unmade}
use Rattle.dds_talk.specs.Table.Talks.{live, left}
use Rattle.dds_talk.specs.Table.View.{New, VoteDue, VoteHeard, CommitDue, AbortDue, AbortHeard, Off}

-- What a brick's turn owes, so that all parts are kept; and that they are.

pub record BrickDone (z : Sizes) (w v : Net) (n : ℕ) (s u : BrickState) (ls : List (NodeNo × Letter)) (b : Books) : Type 0 where
  pub step : Turned z w v n (a_brick s) (a_brick u) ls
  pub lives : u.stopped ≡ false → s.stopped ≡ false
  pub talks : (t : Txn) (l : LibraryState) → Here w t n l s → Conversation w b t n l s → Conversation v (with_brick n u b) t n l u
  pub sures : (t : Txn) (l : LibraryState) → Here w t n l s → b.decided t ≡ true → IsSure w b t n l s → IsSure v (with_brick n u b) t n l u
  pub locks : Locks (b.noted n) u
  pub holds : (t : Txn) (l : LibraryState) → w.node t.library ≡ a_library l → is_open l t ≡ true → Holds s u t
  pub fresh : (t : Txn) → get u.locks.outcomes t ≡ Some true
      → (b.decided t ≡ true) ⊎ ((m : ℕ) (l : LibraryState) (x : BrickState) → Decided v (with_brick n u b) t m l x → IsSure v (with_brick n u b) t m l x)
  pub once : (t : Txn) (c : Bool) → get u.locks.outcomes t ≡ Some c → (b.noted n t ≡ None) ⊎ (b.noted n t ≡ Some c)
  pub undecided : AllTalk v (with_brick n u b) → (k : ℕ) (l : LibraryState) (t : Txn) → w.node k ≡ a_library l → t.library ≡ k → l.next ≤ t.number
      → b.decided t ≡ false → is_yes (get u.locks.outcomes t) ≡ false

-- a call that a library commits was decided

two-views : (w : Bool) (v u : View) → v ≢ CommitDue → u ≢ CommitDue → (if w then v else u) ≢ CommitDue
two-views true v u a b e = a e
two-views false v u a b e = b e

phase-cw : (m : ℕ) (p : Phase) → phase_view m p ≡ CommitDue → commits_now p ≡ true
phase-cw m (Committing leaf list waiting was) e = refl
phase-cw m (Getting leaf brick) e = cc
phase-cw m (Preparing leaf list waiting) e = absurd (two-views (has waiting m) VoteDue VoteHeard (λ q. cc) (λ q. cc) e)
phase-cw m (Aborting waiting why brick) e = absurd (two-views (has waiting m) AbortDue AbortHeard (λ q. cc) (λ q. cc) e)
phase-cw m (Asking waiting newest met) e = cc

cw-if : (z : Sizes) (b : Books) (k : ℕ) (l : LibraryState) (t : Txn) (m : ℕ) (x h : Bool) (o : Option OpenCall) → LibraryOk z b k l → call_of l.calls t ≡ o
    → (if x then New else (if h then call_view m o else Off)) ≡ CommitDue → b.decided t ≡ true
cw-if z b k l t m true h o ok e q = cc
cw-if z b k l t m false false o ok e q = cc
cw-if z b k l t m false true None ok e q = cc
cw-if z b k l t m false true (Some c) ok e q =
    ap b.decided (sym (found-is l.calls t c e)) ∙ (ok.calls t c e).decided (phase-cw m c.phase q)

pub cw-decided : (z : Sizes) (b : Books) (k : ℕ) (l : LibraryState) (t : Txn) (m : ℕ) → LibraryOk z b k l → view l (b.list t) t m ≡ CommitDue → b.decided t
    ≡ true
cw-decided z b k l t m ok e = cw-if z b k l t m (nat_le l.next t.number) (has (b.list t) m) (call_of l.calls t) ok refl e

commit-line : {v : View} {o : List Ask} {a : At} {b : List Say} → Talk v (commit ∷ o) a b → v ≡ CommitDue
commit-line told_commit = refl

commit-lines : {ll : Bool} {v : View} {o : List Ask} {a : At} {b : List Say} → Talks ll true v (commit ∷ o) a b → v ≡ CommitDue
commit-lines (live h) = commit-line h
commit-lines (left cut h) = commit-line h

pub commit-cw : {ll k : Bool} {v : View} {p o : List Ask} {a : At} {b : List Say} → p ≡ commit ∷ o → IsTalk ll true k v p a b → v ≡ CommitDue
commit-cw {ll = ll} {v = v} {a = a} {b = b} e (unknowing h) = commit-lines (subst (λ p. Talks ll true v p a b) e h)
commit-cw e (knowing h) = cc

-- an attempt that isn't made yet isn't prepared
new-talk : {o : List Ask} {a : At} {b : List Say} → Talk New o a b → a ≡ Unprepared
new-talk unmade = refl

new-talks : {ll : Bool} {o : List Ask} {a : At} {b : List Say} → Talks ll true New o a b → a ≡ Unprepared
new-talks (live h) = new-talk h
new-talks (left cut h) = new-talk h

pub new-is : {ll k : Bool} {v : View} {o : List Ask} {a : At} {b : List Say} → v ≡ New → IsTalk ll true k v o a b → a ≡ Unprepared
new-is {ll = ll} {o = o} {a = a} {b = b} e (unknowing h) = new-talks (subst (λ v. Talks ll true v o a b) e h)
new-is {a = a} e (knowing h) = subst (λ v. Known v a) e h

pub new-view : (l : LibraryState) (list : List ℕ) (t : Txn) (m : ℕ) → l.next ≤ t.number → view l list t m ≡ New
new-view l list t m le = let e : nat_le l.next t.number ≡ true = new-le l.next t.number le in rw e refl

module _ (z : Sizes) (w v : Net) (n : ℕ) (s u : BrickState) (ls : List (NodeNo × Letter)) (b : Books) where
  noted-here : (t : Txn) → (with_brick n u b).noted n t ≡ noting u.locks.outcomes (b.noted n) t
  noted-here t = ap (λ (f : Txn → Option Bool). f t) (put-here n (noting u.locks.outcomes (b.noted n)) b.noted)

  library-was : BrickDone z w v n s u ls b → (k : ℕ) (l : LibraryState) → v.node k ≡ a_library l → w.node k ≡ a_library l
  library-was h k l is = sym (h.step.others k (λ e. no (ap v.node (sym e) ∙ is) h.step.is)) ∙ is
    where
      no : v.node n ≡ a_library l → v.node n ≡ a_brick u → ⊥
      no e f = let q : a_library l ≡ a_brick u = sym e ∙ f in cc

  done-talks : BrickDone z w v n s u ls b → AllTalk w b → AllTalk v (with_brick n u b)
  done-talks h talk = brick-talks z w v n s u ls b h.step talk h.talks

  yes-some : (o : Option Bool) → is_yes o ≡ true → o ≡ Some true
  yes-some None e = cc
  yes-some (Some true) e = refl
  yes-some (Some false) e = cc

  or-split : (a c : Bool) → (a || c) ≡ true → (a ≡ true) ⊎ (c ≡ true)
  or-split true c e = inl refl
  or-split false c e = inr e

  done-decides : BrickDone z w v n s u ls b → AllDecide w b → AllDecide v (with_brick n u b)
  done-decides h decide =
      brick-decides z w v n s u ls b h.step h.lives decide
      (λ t d. elim (or-split (b.decided t) (is_yes (get u.locks.outcomes t)) d) [
        | inl e ↦ inl e
        | inr e ↦ h.fresh t (yes-some (get u.locks.outcomes t) e)
      ]) h.sures

  done-notes : BrickDone z w v n s u ls b → AllNote w b → AllNote v (with_brick n u b)
  done-notes h note k x is = elim (cases_eq k n) [
    | inl e ↦
        let same : u ≡ x = brick-same u x (sym h.step.is ∙ ap v.node (sym e) ∙ is) in
        subst (λ y. BrickOk ((with_brick n u b).noted k) y) same
        (subst (λ i. BrickOk ((with_brick n u b).noted i) u) (sym e)
        (subst (λ f. BrickOk f u) (sym (put-here n (noting u.locks.outcomes (b.noted n)) b.noted)) (locks-ok (b.noted n) u h.locks)))
    | inr ne ↦
        subst (λ f. BrickOk f x) (sym (put-other n (noting u.locks.outcomes (b.noted n)) b.noted k ne))
        (note k x (sym (h.step.others k ne) ∙ is))
  ]

  -- attempts that aren't made yet aren't decided
  none-first : (g o : Option Bool) → first_some g o ≡ None → g ≡ None
  none-first None o e = refl
  none-first (Some c) o e = cc

  pub no-outcome : Turned z w v n (a_brick s) (a_brick u) ls → u.stopped ≡ false
      → ((k : ℕ) (l : LibraryState) → w.node k ≡ a_library l → has_node l.known n ≡ false) → AllTalk v (with_brick n u b) → (k : ℕ) (l : LibraryState) (t : Txn)
      → w.node k ≡ a_library l → t.library ≡ k → l.next ≤ t.number → is_yes (get u.locks.outcomes t) ≡ false
  no-outcome step stays unknown talk k l t is e le =
      let here : w.node t.library ≡ a_library l = ap w.node e ∙ is in
      let apart : t.library ≡ n → ⊥ = apart-from w t n l s here step.here in
      let there : v.node t.library ≡ a_library l = step.others t.library apart ∙ here in
      let now = rw stays at (talk t n l u (record { library = there; member = step.is; unknown = unknown t.library l here })) in
      let new = new-is (new-view l (b.list t) t n le) now in
      ap is_yes (none-first (get u.locks.outcomes t) (b.noted n t)
      (sym (noted-here t) ∙ (at-none u.locks.pending ((with_brick n u b).noted n t) t new).1))

  done-library : BrickDone z w v n s u ls b → AllTalk v (with_brick n u b) → (k : ℕ) (l : LibraryState) → w.node k ≡ a_library l → LibraryOk z b k l
      → LibraryOk z (with_brick n u b) k l
  done-library h talk k l is ok =
      record {
        number = ok.number;
        apart = ok.apart;
        calls = λ t c e.
            let m = ok.calls t c e in
            record {
              library = m.library;
              below = m.below;
              list = m.list;
              decided = λ q. ap (λ x. x || is_yes (get u.locks.outcomes c.txn)) (m.decided q);
            };
        unmade = ok.unmade;
        undecided = λ t e le. let was = ok.undecided t e le in ap (λ x. x || is_yes (get u.locks.outcomes t)) was ∙ h.undecided talk k l t is e le was;
        groups = ok.groups;
      }

  done-calls : BrickDone z w v n s u ls b → AllTalk v (with_brick n u b) → AllCall z w b → AllCall z v (with_brick n u b)
  done-calls h talk calls k l is = let was = library-was h k l is in done-library h talk k l was (calls k l was)

  done-noted : NotedAsDecided b → NotedAsDecided (with_brick n u b)
  done-noted noted k t e = elim (cases_eq k n) [
    | inl same ↦ parted (get u.locks.outcomes t) refl
        (sym (noted-here t) ∙ ap (λ i. (with_brick n u b).noted i t) (sym same) ∙ e)
    | inr ne ↦ ap (λ x. x || is_yes (get u.locks.outcomes t))
        (noted k t (sym (ap (λ (f : Txn → Option Bool). f t) (put-other n (noting u.locks.outcomes (b.noted n)) b.noted k ne)) ∙ e))
  ]
    where
      parted : (g : Option Bool) → get u.locks.outcomes t ≡ g → first_some (get u.locks.outcomes t) (b.noted n t) ≡ Some true
          → (b.decided t || is_yes (get u.locks.outcomes t)) ≡ true
      parted None f q = ap (λ x. x || is_yes (get u.locks.outcomes t)) (noted n t (sym (ap (λ x. first_some x (b.noted n t)) f) ∙ q))
      parted (Some c) f q = or_right (b.decided t) (is_yes (get u.locks.outcomes t)) (ap is_yes (f ∙ sym (ap (λ x. first_some x (b.noted n t)) f) ∙ q))

  done-kept : BrickDone z w v n s u ls b → AllKeep w b → AllKeep v (with_brick n u b)
  done-kept h kept t m l x library is lives up =
      let was = library-was h t.library l library in
      elim (cases_eq m n) [
        | inl e ↦
            let same : u ≡ x = brick-same u x (sym h.step.is ∙ ap v.node (sym e) ∙ is) in
            subst (λ y. (with_brick n u b).noted m t ≡ get y.locks.outcomes t) same
            (subst (λ i. (with_brick n u b).noted i t ≡ get u.locks.outcomes t) (sym e)
            (noted-here t ∙ holds-kept (b.noted n) s u t (h.holds t l was up)
            (kept t n l s was h.step.here (h.lives (ap (λ (q : BrickState). q.stopped) same ∙ lives)) up)))
        | inr ne ↦
            ap (λ (f : Txn → Option Bool). f t) (put-other n (noting u.locks.outcomes (b.noted n)) b.noted m ne)
            ∙ kept t m l x was (sym (h.step.others m ne) ∙ is) lives up
      ]

  -- a noted outcome never changes
  once-if : (t : Txn) (c : Bool) (g : Option Bool) → get u.locks.outcomes t ≡ g → BrickDone z w v n s u ls b → b.noted n t ≡ Some c
      → first_some g (b.noted n t) ≡ Some c
  once-if t c None e h was = was
  once-if t c (Some d) e h was = elim (h.once t d e) [
    | inl none ↦ let bad : None ≡ Some c = sym none ∙ was in cc
    | inr it ↦ sym it ∙ was
  ]

  pub brick-once : BrickDone z w v n s u ls b → (k : ℕ) (t : Txn) (c : Bool) → b.noted k t ≡ Some c → (with_brick n u b).noted k t ≡ Some c
  brick-once h k t c e = elim (cases_eq k n) [
    | inl same ↦
        ap (λ i. (with_brick n u b).noted i t) same ∙ noted-here t
        ∙ once-if t c (get u.locks.outcomes t) refl h (ap (λ i. b.noted i t) (sym same) ∙ e)
    | inr ne ↦ ap (λ (f : Txn → Option Bool). f t) (put-other n (noting u.locks.outcomes (b.noted n)) b.noted k ne) ∙ e
  ]

  pub brick-keeps : BrickDone z w v n s u ls b → Commit z w b → Commit z v (with_brick n u b)
  brick-keeps h c =
      let talk = done-talks h c.talk in
      record {
        talk = talk;
        note = done-notes h c.note;
        calls = done-calls h talk c.calls;
        decide = done-decides h c.decide;
        noted = done-noted c.noted;
        kept = done-kept h c.kept;
      }
