use Rattle.std.proofs.Common.{◌≡◌, ℕ, zero, suc, ◌==◌, true, Option, Some, None, List, [], ◌∷◌, refl, sym, ap, ◌∙◌, subst, append_assoc}
use Rattle.std.proofs.lemmas.Bool.{and_parts, eqb-true}
use Rattle.std.proofs.lemmas.List.{append-nil}
use Rattle.std.proofs.lemmas.List.Quantifiers.{position-Some}
use Rattle.std.specs.List.{remove}
use Rattle.std.specs.Prelude.{get_or, slice_get}
use Rattle.dds_base.specs.Number.{Txn, same_txn}
use Rattle.dds_base.specs.declared.number.NodeNo.{NodeNo}
use Rattle.dds_core.specs.LibraryTurn.{at_attempt, at_call, at_place, attempt_of, attempts, call_place, learns, live_library_turn, notice_calls, turn_of}
use Rattle.dds_letters.specs.declared.letter.Letter.{Letter}
use Rattle.dds_letters.specs.declared.letter.Letter.TheVariants as letter
use Rattle.dds_states.specs.Turn.{LibraryTurn, both, no_out}
use Rattle.dds_states.specs.declared.library_state.LibraryState.{LibraryState}
use Rattle.dds_states.specs.declared.library_state.OpenCall.{OpenCall}
use Rattle.dds_states.specs.declared.turn.CoreTurn.{CoreTurn}

-- A library's turn is a turn of one open call, or of each of them in order.

-- the open call at a place has its turn
abbrev pub one_call : LibraryState → NodeNo → Letter → ℕ → OpenCall → LibraryTurn
one_call s from l place c = turn_of (record s { calls = remove s.calls place }) from l place c

-- the letter is of the call's attempt, or a notice
pub data Concerns (l : Letter) (c : OpenCall) : Type 0 where
  its_attempt : attempt_of l ≡ Some c.txn → Concerns l c
  a_notice : l ≡ letter.Notice → Concerns l c

-- a fact of a library and of what it has given so far that the turn of one call keeps
abbrev pub OneKeeps : (LibraryState → CoreTurn → Type 0) → NodeNo → Letter → Type 0
OneKeeps F from l =
    (s : LibraryState) (out : CoreTurn) (place : ℕ) (c : OpenCall) → slice_get s.calls place ≡ Some c → Concerns l c → F s out
    → F (one_call s from l place c).state (both out (one_call s from l place c).out)

pub both-nothing : (a : CoreTurn) → both a no_out ≡ a
both-nothing a = λ i. record { letters = append-nil a.letters i; points = append-nil a.points i; replies = append-nil a.replies i }

pub both-assoc : (a b c : CoreTurn) → both (both a b) c ≡ both a (both b c)
both-assoc a b c =
    λ i. record {
      letters = append_assoc a.letters b.letters c.letters i;
      points = append_assoc a.points b.points c.points i;
      replies = append_assoc a.replies
          b.replies c.replies i;
    }

the_txn : ℕ → ℕ → Txn
the_txn library number = record { library = library; number = number }

pub same-is : (a b : Txn) → same_txn a b ≡ true → a ≡ b
unfolding the_txn
same-is a b e =
    let p = and_parts (a.library == b.library) (a.number == b.number) e in
    ap (λ x. the_txn x a.number) (eqb-true a.library b.library p.0) ∙ ap (the_txn b.library) (eqb-true a.number b.number p.1)

get-is : (xs : List OpenCall) (i : ℕ) (x d : OpenCall) → slice_get xs i ≡ Some x → get_or xs i d ≡ x
get-is [] i x d e = cc
get-is (y ∷ xs) zero x d e = cc
get-is (y ∷ xs) (suc i) x d e = get-is xs i x d e

at-call : (F : LibraryState → CoreTurn → Type 0) (s : LibraryState) (out : CoreTurn) (from : NodeNo) (l : Letter) (place : ℕ) (o : Option OpenCall)
    → OneKeeps F from l → slice_get s.calls place ≡ o → ((c : OpenCall) → o ≡ Some c → Concerns l c) → F s out
    → F (at_call s from l place o).state (both out (at_call s from l place o).out)
at-call F s out from l place None k e w h = subst (F s) (sym (both-nothing out)) h
at-call F s out from l place (Some c) k e w h = k s out place c e (w c refl) h

at-place : (F : LibraryState → CoreTurn → Type 0) (s : LibraryState) (out : CoreTurn) (from : NodeNo) (l : Letter) (txn : Txn) (o : Option ℕ)
    → OneKeeps F from l → call_place s.calls txn ≡ o → ((c : OpenCall) → c.txn ≡ txn → Concerns l c) → F s out
    → F (at_place s from l o).state (both out (at_place s from l o).out)
at-place F s out from l txn None k e w h = subst (F s) (sym (both-nothing out)) h
at-place F s out from l txn (Some place) k e w h =
    at-call F s out from l place (slice_get s.calls place) k refl
    (λ c is. w c (same-is c.txn txn (ap (λ (x : OpenCall). same_txn x.txn txn) (sym (get-is s.calls place c c is))
    ∙ (position-Some (λ (x : OpenCall). same_txn x.txn txn) s.calls place c e).1)))
    h

at-attempt : (F : LibraryState → CoreTurn → Type 0) (s : LibraryState) (out : CoreTurn) (from : NodeNo) (l : Letter) (o : Option Txn) → OneKeeps F from l
    → ((c : OpenCall) → o ≡ Some c.txn → Concerns l c) → F s out → F (at_attempt s from l o).state (both out (at_attempt s from l o).out)
at-attempt F s out from l None k w h = subst (F s) (sym (both-nothing out)) h
at-attempt F s out from l (Some txn) k w h = at-place F s out from l txn (call_place s.calls txn) k refl (λ c e. w c (ap Some (sym e))) h

notice-calls : (F : LibraryState → CoreTurn → Type 0) (s : LibraryState) (out : CoreTurn) (y : NodeNo) (txns : List Txn) → OneKeeps F y letter.Notice → F s out
    → F (notice_calls s y txns).state (both out (notice_calls s y txns).out)
notice-calls F s out y [] k h = subst (F s) (sym (both-nothing out)) h
notice-calls F s out y (txn ∷ txns) k h =
    let t = at_attempt s y letter.Notice (Some txn) in
    let u = notice_calls t.state y txns in
    subst (F u.state) (both-assoc out t.out u.out)
    (notice-calls F t.state (both out t.out) y txns k (at-attempt F s out y letter.Notice (Some txn) k (λ c e. a_notice refl) h))

-- the library before its calls have their turns: it knows the sender of a notice
abbrev pub heard : LibraryState → NodeNo → Letter → LibraryState
heard s from letter.Notice = learns s from
heard s from other = s

pub library-keeps : (F : LibraryState → CoreTurn → Type 0) (s : LibraryState) (from : NodeNo) (l : Letter) → OneKeeps F from l → F (heard s from l) no_out
    → F (live_library_turn s from l).state (live_library_turn s from l).out
library-keeps F s from letter.Notice k h = notice-calls F (learns s from) no_out from (attempts s.calls) k h
library-keeps F s from other k h = at-attempt F s no_out from other (attempt_of other) k (λ c e. its_attempt e) h
