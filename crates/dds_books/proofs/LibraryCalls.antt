use Rattle.std.proofs.Common.{◌≡◌, ℕ, ◌<◌, ◌≤◌, inl, inr, true, Option, Some, List}
use Rattle.std.proofs.Common.{refl, sym, subst, arith}
use Rattle.std.proofs.lemmas.Bool.{eq-eqb}
use Rattle.std.specs.List.{AllByRecursion, remove}
use Rattle.std.specs.Prelude.{slice_get}
use Rattle.dds_base.specs.Number.{Txn, same_txn}
use Rattle.dds_base.specs.declared.node_set.NodeSet.{NodeSet}
use Rattle.dds_base.specs.declared.number.CallNo.{CallNo}
use Rattle.dds_base.specs.declared.number.NodeNo.{NodeNo}
use Rattle.dds_core.proofs.CallTurns.{OneKeeps, one_call}
use Rattle.dds_core.proofs.Lists.{all-append, all-is, all-map, all-taken}
use Rattle.dds_core.specs.LibraryTurn.{call_row, desk_of}
use Rattle.dds_letters.specs.declared.letter.Letter.{Letter}
use Rattle.dds_net.proofs.Pairwise.{others-of, pairs-taken}
use Rattle.dds_net.specs.Net.{Sizes}
use Rattle.dds_states.specs.Turn.{no_out}
use Rattle.dds_states.specs.declared.library_state.Desk.{Desk}
use Rattle.dds_states.specs.declared.library_state.LibraryState.{LibraryState}
use Rattle.dds_states.specs.declared.library_state.OpenCall.{OpenCall}
use Rattle.dds_states.specs.declared.library_state.TxnNumbers.{TxnNumbers}
use Rattle.dds_states.specs.declared.turn.CoreTurn.{CoreTurn}
use Rattle.dds_books.proofs.Fine.{AllSaid}
use Rattle.dds_books.proofs.CallGoes.{StillOpen, call-goes}
use Rattle.dds_books.proofs.CallBegins.{DeskOk, FineAt, Own}
use Rattle.dds_books.proofs.Said.{said-map}
use Rattle.dds_books.proofs.Turns.{back-with, still-open}
use Rattle.dds_books.specs.Placed.{CallOk, LibraryOk, OtherAttempt}

-- A library's turn is fine where each call's turn is: its open calls' attempts differ and their phases fit, and its letters are of
-- its own attempts and go to bricks.

-- Attempts

pub other-sym : (a b : OpenCall) → OtherAttempt a b → OtherAttempt b a
other-sym a b h e = h (sym e)

pub same-attempt : (t : Txn) → same_txn t t ≡ true
same-attempt t = let e = eq-eqb t.library t.library refl in let f = eq-eqb t.number t.number refl in rw (e, f) refl

-- the call that has had its turn has its attempt or a new one
pub other-than : {n : TxnNumbers} {caller : ℕ} {call : CallNo} {old : Option Txn} {next : ℕ} (x : OpenCall) (rest : List OpenCall)
    → AllByRecursion (λ (d : OpenCall). d.txn.number < n.next) rest
    → ((txn : Txn) → old ≡ Some txn → AllByRecursion (λ (d : OpenCall). txn.number ≡ d.txn.number → ⊥) rest)
    → StillOpen n caller call old next x → AllByRecursion (OtherAttempt x) rest
other-than {n = n} x rest below other s = elim s.attempt [
  | inl e ↦ other x.txn e
  | inr f ↦ all-map (λ (d : OpenCall). d.txn.number < n.next) (OtherAttempt x) rest (λ d h e. let k = f.0 in omega (arith, h, k, e)) below
]

pub call-later : {z : Sizes} {number next later : ℕ} {known : NodeSet} (c : OpenCall) → next ≤ later → CallOk z number next known c
    → CallOk z number later known c
call-later c more h = let low = h.below in record { library = h.library; below = omega (arith, low, more); its_phase = h.its_phase }

pub said-later : (z : Sizes) (at next later : ℕ) (ls : List (NodeNo × Letter)) → next ≤ later → AllSaid (Own at next) z at ls → AllSaid (Own at later) z at ls
said-later z at next later ls more h =
    said-map (Own at next) (Own at later) z at ls (λ t o. let low = o.1 in (o.0, omega (arith, low, more))) h

-- a letter that isn't a notice

pub record Serving (z : Sizes) (at : ℕ) (old s : LibraryState) (out : CoreTurn) : Type 0 where
  pub state : LibraryOk z at s
  pub known : s.known ≡ old.known
  pub more : old.next ≤ s.next
  pub letters : AllSaid (Own at s.next) z at out.letters

-- each call's turn is fine
abbrev pub AllFine : Sizes → NodeNo → Letter → Type 0
AllFine z from l = (d : Desk) (c : OpenCall) → DeskOk z d → CallOk z d.numbers.library d.numbers.next d.known c → FineAt z d (call_row d c from l)

-- the library after one call's turn
after-one : {z : Sizes} {at : ℕ} (s : LibraryState) (place : ℕ) (c : OpenCall) (from : NodeNo) (l : Letter) → slice_get s.calls place ≡ Some c
    → LibraryOk z at s → FineAt z (desk_of (record s { calls = remove s.calls place }) (remove s.calls place))
    (call_row (desk_of (record s { calls = remove s.calls place }) (remove s.calls place)) c from l) → LibraryOk z at (one_call s from l place c).state
after-one {z = z} {at = at} s place c from l is h f =
    let rest = remove s.calls place in
    let d = desk_of (record s { calls = rest }) rest in
    let t = call_row d c from l in
    let w = back-with rest place t.went.call in
    let below = all-map (CallOk z s.number s.next s.known) (λ (x : OpenCall). x.txn.number < s.next) rest (λ x k. k.below)
    (all-taken _ s.calls place h.calls) in
    let g = call-goes d c from l in
    record {
      its_number = h.its_number;
      inside = h.inside;
      high = h.high;
      its_bricks = h.its_bricks;
      leaves = f.leaves;
      apart = w.pairs OtherAttempt other-sym (pairs-taken OtherAttempt s.calls place h.apart)
          (λ x e. other-than x rest below (λ txn same. let it : c.txn ≡ txn = cc in
          subst (λ (k : Txn). AllByRecursion (λ (o : OpenCall). k.number ≡ o.txn.number → ⊥) rest) it
          (others-of OtherAttempt s.calls place c other-sym h.apart is)) (still-open t.went.call x g.goes e));
      calls = w.each (CallOk z s.number t.desk.numbers.next s.known)
          (all-map (CallOk z s.number s.next s.known) (CallOk z s.number t.desk.numbers.next s.known) rest (λ x k. call-later x f.more k)
          (all-taken _ s.calls place h.calls)) f.call;
    }

pub one-serves : (z : Sizes) (at : ℕ) (old : LibraryState) (from : NodeNo) (l : Letter) → AllFine z from l → OneKeeps (Serving z at old) from l
one-serves z at old from l fine s out place c is concerns h =
    let rest = remove s.calls place in
    let d = desk_of (record s { calls = rest }) rest in
    let g = h.state in
    let f = fine d c (record { leaves = g.leaves; bricks = g.its_bricks }) (all-is _ s.calls place c g.calls is) in
    let t = call_row d c from l in
    let more = h.more in
    let step = f.more in
    record {
      state = after-one s place c from l is g f;
      known = h.known;
      more = omega (arith, more, step);
      letters = all-append _ out.letters t.went.letters (said-later z at s.next t.desk.numbers.next out.letters step h.letters)
          (subst (λ i. AllSaid (Own i t.desk.numbers.next) z i t.went.letters) g.its_number f.letters);
    }

pub serving-first : (z : Sizes) (at : ℕ) (s : LibraryState) → LibraryOk z at s → Serving z at s s no_out
serving-first z at s h = record { state = h; known = refl; more = omega arith; letters = tt }
