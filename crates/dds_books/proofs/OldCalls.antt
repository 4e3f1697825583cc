use Rattle.std.proofs.Common.{◌≡◌, ℕ, zero, suc, Option, Some, None, List, [], ◌∷◌, refl, sym, ap, ◌∙◌, subst}
use Rattle.std.proofs.lemmas.List.Quantifiers.{position-Some}
use Rattle.std.specs.List.{AllByRecursion}
use Rattle.std.specs.Prelude.{get_or, slice_get}
use Rattle.dds_base.specs.Number.{Txn, same_txn}
use Rattle.dds_base.specs.declared.number.NodeNo.{NodeNo}
use Rattle.dds_core.proofs.CallTurns.{both-assoc, both-nothing, heard, one_call, same-is}
use Rattle.dds_core.specs.LibraryTurn.{at_attempt, at_call, at_place, attempt_of, attempts, call_place, learns, live_library_turn, notice_calls}
use Rattle.dds_letters.specs.declared.letter.Letter.{Letter}
use Rattle.dds_letters.specs.declared.letter.Letter.TheVariants as letter
use Rattle.dds_states.specs.Turn.{both, no_out}
use Rattle.dds_states.specs.declared.library_state.LibraryState.{LibraryState}
use Rattle.dds_states.specs.declared.library_state.OpenCall.{OpenCall}
use Rattle.dds_states.specs.declared.turn.CoreTurn.{CoreTurn}

-- A library's turn is turns of open calls, each with an attempt that was there before. (Beside `library-keeps` of the crate of
-- the turns, which doesn't say so of the attempts.)

-- what stands at a place
get-is : (xs : List OpenCall) (i : ℕ) (x d : OpenCall) → slice_get xs i ≡ Some x → get_or xs i d ≡ x
get-is [] i x d e = cc
get-is (y ∷ xs) zero x d e = cc
get-is (y ∷ xs) (suc i) x d e = get-is xs i x d e

-- a fact of a library and of what it has given so far that the turn of one call keeps, where P holds of the call's attempt
abbrev pub OneKeepsIf : (Txn → Type 0) → (LibraryState → CoreTurn → Type 0) → NodeNo → Letter → Type 0
OneKeepsIf P F from l =
    (s : LibraryState) (out : CoreTurn) (place : ℕ) (c : OpenCall) → slice_get s.calls place ≡ Some c → P c.txn → F s out
    → F (one_call s from l place c).state (both out (one_call s from l place c).out)

at-call-if : (P : Txn → Type 0) (F : LibraryState → CoreTurn → Type 0) (s : LibraryState) (out : CoreTurn) (from : NodeNo) (l : Letter) (place : ℕ)
    (o : Option OpenCall) → OneKeepsIf P F from l → slice_get s.calls place ≡ o → ((c : OpenCall) → o ≡ Some c → P c.txn) → F s out
    → F (at_call s from l place o).state (both out (at_call s from l place o).out)
at-call-if P F s out from l place None k e w h = subst (F s) (sym (both-nothing out)) h
at-call-if P F s out from l place (Some c) k e w h = k s out place c e (w c refl) h

at-place-if : (P : Txn → Type 0) (F : LibraryState → CoreTurn → Type 0) (s : LibraryState) (out : CoreTurn) (from : NodeNo) (l : Letter) (txn : Txn)
    (o : Option ℕ) → OneKeepsIf P F from l → call_place s.calls txn ≡ o → P txn → F s out
    → F (at_place s from l o).state (both out (at_place s from l o).out)
at-place-if P F s out from l txn None k e w h = subst (F s) (sym (both-nothing out)) h
at-place-if P F s out from l txn (Some place) k e w h =
    at-call-if P F s out from l place (slice_get s.calls place) k refl (λ c is. subst P (sym (same-is c.txn txn
    (ap (λ (x : OpenCall). same_txn x.txn txn) (sym (get-is s.calls place c c is))
    ∙ (position-Some (λ (x : OpenCall). same_txn x.txn txn) s.calls place c e).1))) w) h

at-attempt-if : (P : Txn → Type 0) (F : LibraryState → CoreTurn → Type 0) (s : LibraryState) (out : CoreTurn) (from : NodeNo) (l : Letter) (o : Option Txn)
    → OneKeepsIf P F from l → ((txn : Txn) → o ≡ Some txn → P txn) → F s out
    → F (at_attempt s from l o).state (both out (at_attempt s from l o).out)
at-attempt-if P F s out from l None k w h = subst (F s) (sym (both-nothing out)) h
at-attempt-if P F s out from l (Some txn) k w h = at-place-if P F s out from l txn (call_place s.calls txn) k refl (w txn refl) h

notice-calls-if : (P : Txn → Type 0) (F : LibraryState → CoreTurn → Type 0) (s : LibraryState) (out : CoreTurn) (y : NodeNo) (txns : List Txn)
    → OneKeepsIf P F y letter.Notice → AllByRecursion P txns → F s out → F (notice_calls s y txns).state (both out (notice_calls s y txns).out)
notice-calls-if P F s out y [] k w h = subst (F s) (sym (both-nothing out)) h
notice-calls-if P F s out y (txn ∷ txns) k w h =
    let t = at_attempt s y letter.Notice (Some txn) in
    let u = notice_calls t.state y txns in
    subst (F u.state) (both-assoc out t.out u.out)
    (notice-calls-if P F t.state (both out t.out) y txns k w.1 (at-place-if P F s out y letter.Notice txn (call_place s.calls txn) k refl w.0 h))

pub library-keeps-if : (P : Txn → Type 0) (F : LibraryState → CoreTurn → Type 0) (s : LibraryState) (from : NodeNo) (l : Letter) → OneKeepsIf P F from l
    → AllByRecursion P (attempts s.calls) → ((txn : Txn) → attempt_of l ≡ Some txn → P txn) → F (heard s from l) no_out
    → F (live_library_turn s from l).state (live_library_turn s from l).out
library-keeps-if P F s from letter.Notice k w a h = notice-calls-if P F (learns s from) no_out from (attempts s.calls) k w h
library-keeps-if P F s from other k w a h = at-attempt-if P F s no_out from other (attempt_of other) k a h
