use Rattle.std.proofs.Common.{◌≡◌, ℕ, ◌<◌, ◌≤◌, None, []}
use Rattle.std.proofs.Common.{refl, subst}
use Rattle.dds_base.specs.Number.{Txn}
use Rattle.dds_base.specs.declared.number.CallNo.{CallNo}
use Rattle.dds_base.specs.declared.number.NodeNo.{NodeNo}
use Rattle.dds_base.specs.declared.op.Op.{Op}
use Rattle.dds_call_rows.specs.Library.{begin}
use Rattle.dds_core.proofs.CallTurns.{heard, library-keeps}
use Rattle.dds_core.proofs.Lists.{all-map}
use Rattle.dds_core.specs.LibraryTurn.{attempts, desk_of, input_turn, learns, live_library_turn}
use Rattle.dds_core.specs.LibraryTurn.{new_request}
use Rattle.dds_letters.specs.declared.letter.Letter.{Letter}
use Rattle.dds_letters.specs.declared.letter.Letter.TheVariants as letter
use Rattle.dds_net.specs.Net.{Sizes}
use Rattle.dds_states.specs.Turn.{no_out}
use Rattle.dds_states.specs.declared.library_state.LibraryState.{LibraryState}
use Rattle.dds_states.specs.declared.library_state.OpenCall.{OpenCall}
use Rattle.dds_states.specs.declared.turn.CoreTurn.{CoreTurn}
use Rattle.dds_books.proofs.Fine.{AllSaid}
use Rattle.dds_books.proofs.CallGoes as goings
use Rattle.dds_books.proofs.CallBegins.{Own, begin-fine}
use Rattle.dds_books.proofs.CallRows.{call-fine}
use Rattle.dds_books.proofs.Turns.{end-with, still-open}
use Rattle.dds_books.specs.Placed.{CallOk, LetterOk, LibraryOk, OtherAttempt}
use Rattle.dds_books.proofs.LibraryCalls.{AllFine, Serving, call-later, one-serves, other-sym, other-than, serving-first}
use Rattle.dds_books.proofs.LibraryNotices.{Due, Noticing, all-noticed, none-due, notice-first}

-- A library's turn: what it leaves, and what it sends.

-- What a turn leaves

pub record Served (z : Sizes) (at : ℕ) (old s : LibraryState) (out : CoreTurn) : Type 0 where
  pub state : LibraryOk z at s
  pub more : old.next ≤ s.next
  pub letters : AllSaid (Own at s.next) z at out.letters

noticed : {z : Sizes} {at : ℕ} {old : LibraryState} {y : NodeNo} (s : LibraryState) (out : CoreTurn) → Noticing z at old y [] s out → Served z at old s out
noticed {z = z} {old = old} s out h =
    record {
      state = record {
        its_number = h.its_number;
        inside = h.inside;
        high = h.high;
        its_bricks = h.its_bricks;
        leaves = h.leaves;
        apart = h.apart;
        calls = all-map (Due z s.number s.next old.known s.known []) (CallOk z s.number s.next s.known) s.calls (λ c k. none-due c k) h.calls;
      };
      more = h.more;
      letters = h.letters;
    }

serves-letter : {z : Sizes} {at : ℕ} (s : LibraryState) (from : NodeNo) (l : Letter) → AllFine z from l → LibraryOk z at s → s ≡ heard s from l
    → Served z at s (live_library_turn s from l).state (live_library_turn s from l).out
serves-letter {z = z} {at = at} s from l fine h same =
    let k = library-keeps (Serving z at s) s from l (one-serves z at s from l fine)
    (subst (λ u. Serving z at s u no_out) same (serving-first z at s h)) in
    record { state = k.state; more = k.more; letters = k.letters }

pub letter-served : (T : Txn → Type 0) {z : Sizes} {at : ℕ} (s : LibraryState) (from : NodeNo) (l : Letter) → from < 80 → LibraryOk z at s
    → LetterOk T z from at l → Served z at s (live_library_turn s from l).state (live_library_turn s from l).out
letter-served T s from letter.Notice few h k = noticed _ _ (all-noticed (learns s from) no_out (attempts s.calls) few (notice-first s from h))
letter-served T {at = at} s from other few h k = serves-letter s from other (λ d c g m. call-fine T from at d c other (λ e. cc) k g m) h refl

-- a call is asked
pub input-served : {z : Sizes} {at : ℕ} (s : LibraryState) (caller : ℕ) (call : CallNo) (o : Op) → LibraryOk z at s
    → Served z at s (input_turn s (new_request caller call o) (begin (desk_of s s.calls) (new_request caller call o))).state
    (input_turn s (new_request caller call o) (begin (desk_of s s.calls) (new_request caller call o))).out
input-served {z = z} {at = at} s caller call o h =
    let r = new_request caller call o in
    let d = desk_of s s.calls in
    let t = begin d r in
    let f = begin-fine d r (record { leaves = h.leaves; bricks = h.its_bricks }) in
    let w = end-with s.calls t.went.call in
    let below = all-map (CallOk z s.number s.next s.known) (λ (x : OpenCall). x.txn.number < s.next) s.calls (λ x k. k.below) h.calls in
    let g = goings.begin {old = None} d r in
    record {
      state = record {
        its_number = h.its_number;
        inside = h.inside;
        high = h.high;
        its_bricks = h.its_bricks;
        leaves = f.leaves;
        apart = w.pairs OtherAttempt other-sym h.apart (λ x e. other-than x s.calls below (λ txn same. cc) (still-open t.went.call x g.goes e));
        calls = w.each (CallOk z s.number t.desk.numbers.next s.known) (all-map (CallOk z s.number s.next s.known)
            (CallOk z s.number t.desk.numbers.next s.known) s.calls (λ x k. call-later x f.more k) h.calls) f.call;
      };
      more = f.more;
      letters = subst (λ i. AllSaid (Own i t.desk.numbers.next) z i t.went.letters) h.its_number f.letters;
    }
