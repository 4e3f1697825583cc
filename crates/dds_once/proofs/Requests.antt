use Rattle.std.proofs.Common.{◌≡◌, ℕ, sym, subst}
use Rattle.std.specs.List.{AllByRecursion, remove}
use Rattle.dds_base.specs.declared.number.CallNo.{CallNo}
use Rattle.dds_base.specs.declared.number.CallerNo.{CallerNo}
use Rattle.dds_base.specs.declared.number.NodeNo.{NodeNo}
use Rattle.dds_base.specs.declared.op.Op.{Op}
use Rattle.dds_books.proofs.Continues.{Continues, anew, begun-entered, does-entered, goes_on}
use Rattle.dds_books.proofs.Turns.{back-with, end-with}
use Rattle.dds_call_rows.specs.Library.{begin}
use Rattle.dds_core.proofs.CallDoes.{call-does, new-begins}
use Rattle.dds_core.proofs.CallTurns.{OneKeeps, heard, library-keeps}
use Rattle.dds_core.proofs.Lists.{all-is, all-taken}
use Rattle.dds_core.specs.LibraryTurn.{call_row, desk_of, live_library_turn, new_request}
use Rattle.dds_letters.specs.declared.letter.Letter.{Letter}
use Rattle.dds_letters.specs.declared.letter.Letter.TheVariants as letter
use Rattle.dds_net.specs.Event.{asked_turn}
use Rattle.dds_states.specs.declared.library_state.LibraryState.{LibraryState}
use Rattle.dds_states.specs.declared.library_state.OpenCall.{OpenCall}
use Rattle.dds_states.specs.declared.library_state.Request.{Request}
use Rattle.dds_states.specs.declared.library_state.TxnNumbers.{TxnNumbers}

-- An open call keeps its caller, its number and its operation.

-- what is said of a call
abbrev pub Says : Type 1
Says = ℕ → CallNo → Op → Type 0

abbrev pub OfCall : Says → OpenCall → Type 0
OfCall R c = R c.request.caller c.request.call c.request.op

pub says-same : (R : Says) (k i : ℕ) (call other : CallNo) (o w : Op) → k ≡ i → call ≡ other → o ≡ w → R k call o → R i other w
says-same R k i call other o w e f g h = subst (λ a. R a other w) e (subst (λ a. R k a w) f (subst (R k call) g h))

continues-says : {n : TxnNumbers} {next : ℕ} (R : Says) (c x : OpenCall) → Continues n next c x → OfCall R c → OfCall R x
continues-says R c x (goes_on is r g) h = subst (λ (q : Request). R q.caller q.call q.op) (sym r) h
continues-says R c x (anew a) h =
    says-same R c.request.caller x.request.caller c.request.call x.request.call c.request.op x.request.op (sym a.caller_is) (sym a.call_is)
    (sym a.op_is) h

one-says : (R : Says) (from : NodeNo) (l : Letter) → OneKeeps (λ s out. AllByRecursion (OfCall R) s.calls) from l
one-says R from l s out place c is concerns h =
    let rest = remove s.calls place in
    let d = desk_of (record s { calls = rest }) rest in
    let t = call_row d c from l in
    let g = does-entered d c from l t (call-does d c from l) in
    let w = back-with rest place t.went.call in
    w.each (OfCall R) (all-taken (OfCall R) s.calls place h)
    (λ x e. continues-says R c x (g.call x e) (all-is (OfCall R) s.calls place c h is))

heard-says : (R : Says) (s : LibraryState) (from : NodeNo) (l : Letter) → AllByRecursion (OfCall R) s.calls → AllByRecursion (OfCall R) (heard s from l).calls
heard-says R s from letter.Notice h = h
heard-says R s from other h = h

pub turn-says : (R : Says) (s : LibraryState) (from : NodeNo) (l : Letter) → AllByRecursion (OfCall R) s.calls
    → AllByRecursion (OfCall R) (live_library_turn s from l).state.calls
turn-says R s from l h = library-keeps (λ u out. AllByRecursion (OfCall R) u.calls) s from l (one-says R from l) (heard-says R s from l h)

pub asked-says : (R : Says) (s : LibraryState) (caller : CallerNo) (call : CallNo) (o : Op) → R caller call o → AllByRecursion (OfCall R) s.calls
    → AllByRecursion (OfCall R) (asked_turn s caller call o).state.calls
asked-says R s caller call o own h =
    let r = new_request caller call o in
    let d = desk_of s s.calls in
    let t = begin d r in
    let g = begun-entered d r t (new-begins d r) in
    let w = end-with s.calls t.went.call in
    w.each (OfCall R) h
    (λ x e. let a = g.call x e in
    says-same R caller x.request.caller call x.request.call o x.request.op (sym a.caller_is) (sym a.call_is) (sym a.op_is) own)
