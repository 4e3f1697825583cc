use Rattle.std.proofs.Common.{◌≡◌, ℕ, ◌<◌, ◌||◌, inl, inr, Bool, true, false, Option, Some, None, List, [], ◌∷◌, ◌++◌, refl, sym, ap, ◌∙◌, subst, arith}
use Rattle.std.specs.List.{AllByRecursion, remove}
use Rattle.std.specs.Prelude.{slice_get, if◌then◌else◌}
use Rattle.dds_base.specs.Number.{Txn, same_txn}
use Rattle.dds_base.specs.declared.number.CallNo.{CallNo}
use Rattle.dds_base.specs.declared.number.NodeNo.{NodeNo}
use Rattle.dds_base.specs.declared.op.Op.{Op}
use Rattle.dds_books.proofs.LibraryCalls.{other-sym}
use Rattle.dds_books.proofs.Turns.{back-with, end-with}
use Rattle.dds_books.specs.Placed.{CallOk, LibraryOk, OtherAttempt}
use Rattle.dds_call_rows.specs.Library.{begin}
use Rattle.dds_core.proofs.CallDoes.{call-does, new-begins}
use Rattle.dds_core.proofs.CallTurns.{OneKeeps, heard, library-keeps, one_call, same-is}
use Rattle.dds_core.proofs.Lists.{all-both, all-is, all-map, all-taken}
use Rattle.dds_core.specs.LibraryTurn.{at_attempt, attempt_of, call_row, desk_of, live_library_turn, new_request, put_back}
use Rattle.dds_letters.specs.declared.letter.Letter.{Letter}
use Rattle.dds_letters.specs.declared.letter.Letter.TheVariants as letter
use Rattle.dds_net.proofs.Pairwise.{others-of}
use Rattle.dds_net.specs.Event.{asked_turn}
use Rattle.dds_net.specs.Net.{Sizes, gains, is_in}
use Rattle.dds_states.specs.Turn.{LibraryTurn}
use Rattle.dds_states.specs.declared.library_state.LibraryState.{LibraryState}
use Rattle.dds_states.specs.declared.library_state.OpenCall.{OpenCall}
use Rattle.dds_talk.proofs.Folds.{by-attempt}
use Rattle.dds_talk.proofs.Parts.{same-self}
use Rattle.dds_talk.specs.Seen.{call_of}
use Rattle.dds_due.proofs.CallHears.{Heard, WaitsForOther, is_new, row-hears, told-attempt, waits_for_other}
use Rattle.dds_due.proofs.CallSends.{DueTo, begins-due, does-due, more-due}
use Rattle.dds_due.proofs.Sent.{due-by-asked, due-by-told, due-parts, gains-twice}
use Rattle.dds_due.specs.Due.{is_of, is_there, told_in}

-- A library's turn: what is due to its open calls from a brick stays due, and nothing is that the brick has just told.

abbrev pub AllDue : ℕ → List Letter → List Letter → List OpenCall → Type 0
AllDue m out back cs = AllByRecursion (λ c. DueTo m c out back) cs

pub all-more : (m : ℕ) (out more back : List Letter) (cs : List OpenCall) → AllDue m out back cs → AllDue m (out ++ more) back cs
all-more m out more back cs h = all-map (λ c. DueTo m c out back) (λ c. DueTo m c (out ++ more) back) cs (λ c k. more-due m c out more back k) h

one-due : (z : Sizes) (m : ℕ) (out back : List Letter) (from : NodeNo) (l : Letter) → is_in z m ≡ true
    → OneKeeps (λ s o. AllDue m (out ++ gains z o.letters m) back s.calls) from l
one-due z m out back from l inside s o place c is concerns h =
    let rest = remove s.calls place in
    let d = desk_of (record s { calls = rest }) rest in
    let t = call_row d c from l in
    let sent = out ++ gains z o.letters m in
    let now = sent ++ gains z t.went.letters m in
    subst (λ ls. AllDue m ls back (put_back rest place t.went.call)) (sym (gains-twice z m o.letters t.went.letters out))
    ((back-with rest place t.went.call).each (λ x. DueTo m x now back)
    (all-more m sent (gains z t.went.letters m) back rest (all-taken (λ x. DueTo m x sent back) s.calls place h))
    (λ x e. does-due z m c x t sent back inside (call-does d c from l) e (all-is (λ x. DueTo m x sent back) s.calls place c h is)))

heard-due : (z : Sizes) (m : ℕ) (out back : List Letter) (s : LibraryState) (from : NodeNo) (l : Letter) → AllDue m out back s.calls
    → AllDue m (out ++ gains z [] m) back (heard s from l).calls
heard-due z m out back s from letter.Notice h = all-more m out (gains z [] m) back s.calls h
heard-due z m out back s from other h = all-more m out (gains z [] m) back s.calls h

pub library-due : (z : Sizes) (m : ℕ) (out back : List Letter) (s : LibraryState) (from : NodeNo) (l : Letter) → is_in z m ≡ true
    → AllDue m out back s.calls
    → AllDue m (out ++ gains z (live_library_turn s from l).out.letters m) back (live_library_turn s from l).state.calls
library-due z m out back s from l inside h =
    library-keeps (λ u o. AllDue m (out ++ gains z o.letters m) back u.calls) s from l (one-due z m out back from l inside)
    (heard-due z m out back s from l h)

-- a call comes
pub asked-due : (z : Sizes) (m : ℕ) (out back : List Letter) (s : LibraryState) (caller : ℕ) (call : CallNo) (o : Op) → is_in z m ≡ true
    → AllDue m out back s.calls
    → AllDue m (out ++ gains z (asked_turn s caller call o).out.letters m) back (asked_turn s caller call o).state.calls
asked-due z m out back s caller call o inside h =
    let d = desk_of s s.calls in
    let r = new_request caller call o in
    let t = begin d r in
    (end-with s.calls t.went.call).each (λ x. DueTo m x (out ++ gains z t.went.letters m) back)
    (all-more m out (gains z t.went.letters m) back s.calls h)
    (λ x e. begins-due z m x t out back inside (new-begins d r) e)

-- What the brick has just told

abbrev pub NoneWaits : NodeNo → Letter → List OpenCall → Type 0
NoneWaits from l cs = AllByRecursion (WaitsForOther from l) cs

-- a call with another attempt than the letter's
other-attempt : (from : NodeNo) (l : Letter) (x : OpenCall) → (attempt_of l ≡ Some x.txn → ⊥) → WaitsForOther from l x
other-attempt from l x ne waits going = by (told_in x.phase l) refl
  where
    same : (u : Txn) → told_in x.phase l ≡ Some u → (b : Bool) → same_txn u x.txn ≡ b → b ≡ false
    same u e true f = absurd (ne (told-attempt x.phase l x.txn (e ∙ ap Some (same-is u x.txn f))))
    same u e false f = refl

    by : (o : Option Txn) → told_in x.phase l ≡ o → is_of x.txn o ≡ false
    by None e = refl
    by (Some u) e = same u e (same_txn u x.txn) refl

all-every : {X : Type 0} (P : X → Type 0) (xs : List X) → ((x : X) → P x) → AllByRecursion P xs
all-every P [] f = tt
all-every P (x ∷ xs) f = (f x, all-every P xs f)

not-found : (b : Bool) (c : OpenCall) (o : Option OpenCall) → (if b then Some c else o) ≡ None → (b ≡ false) × (o ≡ None)
not-found true c o e = cc
not-found false c o e = (refl, e)

none-have : (from : NodeNo) (l : Letter) (t : Txn) (cs : List OpenCall) → attempt_of l ≡ Some t → call_of cs t ≡ None → NoneWaits from l cs
none-have from l t [] its e = tt
none-have from l t (c ∷ cs) its e =
    let w = not-found (same_txn c.txn t) c (call_of cs t) e in (
      other-attempt from l c (λ f.
          let same : t ≡ c.txn = (let two : Some t ≡ Some c.txn = sym its ∙ f in cc) in
          let self : same_txn c.txn t ≡ true = ap (same_txn c.txn) same ∙ same-self c.txn in
          let no : false ≡ true = sym w.0 ∙ self in
          cc),
      none-have from l t cs its w.1,
    )

found-if : (b : Bool) (c d : OpenCall) (o : Option OpenCall) (t : Txn) → same_txn c.txn t ≡ b → (o ≡ Some d → d.txn ≡ t)
    → (if b then Some c else o) ≡ Some d → d.txn ≡ t
found-if true c d o t s f e = let is : c ≡ d = cc in subst (λ (x : OpenCall). x.txn ≡ t) is (same-is c.txn t s)
found-if false c d o t s f e = f e

found-is : (cs : List OpenCall) (t : Txn) (c : OpenCall) → call_of cs t ≡ Some c → c.txn ≡ t
found-is [] t c e = cc
found-is (x ∷ xs) t c e = found-if (same_txn x.txn t) x c (call_of xs t) t refl (found-is xs t c) e

the-number : {t u : Txn} → Some t ≡ Some u → t.number ≡ u.number
the-number {t = t} {u = u} e = let is : t ≡ u = cc in ap (λ (x : Txn). x.number) is

-- the call of the letter's attempt has its turn
one-hears : (z : Sizes) (at : ℕ) (s : LibraryState) (from : NodeNo) (l : Letter) (t : Txn) (place : ℕ) (c : OpenCall) → LibraryOk z at s
    → attempt_of l ≡ Some t → slice_get s.calls place ≡ Some c → c.txn ≡ t → NoneWaits from l (one_call s from l place c).state.calls
one-hears z at s from l t place c ok its is same =
    let rest = remove s.calls place in
    let d = desk_of (record s { calls = rest }) rest in
    let turn = call_row d c from l in
    let number : t.number ≡ c.txn.number = ap (λ (x : Txn). x.number) (sym same) in
    let low = (all-is (CallOk z s.number s.next s.known) s.calls place c ok.calls is).below in
    (back-with rest place turn.went.call).each (WaitsForOther from l)
    (all-map (OtherAttempt c) (WaitsForOther from l) rest
    (λ x ne. other-attempt from l x (λ e. ne (sym number ∙ the-number (sym its ∙ e))))
    (others-of OtherAttempt s.calls place c other-sym ok.apart is))
    (λ x e. by x low number ((row-hears d c from l t its).each x e))
  where
    by : (x : OpenCall) → c.txn.number < s.next → t.number ≡ c.txn.number → Heard s.next from l x → WaitsForOther from l x
    by x low number (is_new high) =
        other-attempt from l x (λ e. let n = the-number (sym its ∙ e) in omega (arith, low, number, high, n))
    by x low number (waits_for_other h) = h

other-turn : (s : LibraryState) (from : NodeNo) (l : Letter) (t : Txn) → attempt_of l ≡ Some t → live_library_turn s from l ≡ at_attempt s from l (attempt_of l)
other-turn s from letter.Notice t e = cc
other-turn s from other t e = refl

hears-if : (z : Sizes) (at : ℕ) (s : LibraryState) (from : NodeNo) (l : Letter) (o : Option Txn) → LibraryOk z at s → attempt_of l ≡ o
    → NoneWaits from l (live_library_turn s from l).state.calls
hears-if z at s from l None ok its =
    all-every (WaitsForOther from l) (live_library_turn s from l).state.calls
    (λ x. other-attempt from l x (λ e. let no : None ≡ Some x.txn = sym its ∙ e in cc))
hears-if z at s from l (Some t) ok its =
    subst (λ (u : LibraryTurn). NoneWaits from l u.state.calls) (sym (other-turn s from l t its ∙ ap (at_attempt s from l) its))
    (by-attempt (λ u. NoneWaits from l u.state.calls) s from l t (none-have from l t s.calls its)
    (λ place c is found. one-hears z at s from l t place c ok its is (found-is s.calls t c found)))

-- a letter that was first on its way from the brick is gone
not-first : (a b : Bool) → a ≡ false → (a || b) ≡ true → b ≡ true
not-first true b e f = cc
not-first false b e f = f

drop-due : (from : NodeNo) (out back : List Letter) (l : Letter) (x : OpenCall) → WaitsForOther from l x → DueTo from x out (l ∷ back) → DueTo from x out back
drop-due from out back l x other h waits going = elim (due-parts x out (l ∷ back) (h waits going)) [
  | inl e ↦ due-by-asked x out back e
  | inr e ↦
      due-by-told x out back
      (not-first (is_of x.txn (told_in x.phase l)) (is_there (told_in x.phase) x.txn back) (other waits going) e)
]

pub library-took : (z : Sizes) (at : ℕ) (out back : List Letter) (s : LibraryState) (from : NodeNo) (l : Letter) → is_in z from ≡ true → LibraryOk z at s
    → AllDue from out (l ∷ back) s.calls
    → AllDue from (out ++ gains z (live_library_turn s from l).out.letters from) back (live_library_turn s from l).state.calls
library-took z at out back s from l inside ok h =
    let t = live_library_turn s from l in
    let sent = out ++ gains z t.out.letters from in
    all-map (λ x. WaitsForOther from l x × DueTo from x sent (l ∷ back)) (λ x. DueTo from x sent back) t.state.calls
    (λ x w. drop-due from sent back l x w.0 w.1)
    (all-both (WaitsForOther from l) (λ x. DueTo from x sent (l ∷ back)) t.state.calls (hears-if z at s from l (attempt_of l) ok refl)
    (library-due z from out (l ∷ back) s from l inside h))
