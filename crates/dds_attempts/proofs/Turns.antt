use Rattle.std.proofs.Common.{◌≡◌, ℕ, suc, ◌≤◌, Bool, true, false, Some, List, [], ◌∷◌, refl, sym, ap, ◌∙◌, subst, arith}
use Rattle.std.proofs.lemmas.Bool.{both_ways}
use Rattle.std.specs.List.{AllByRecursion, remove}
use Rattle.std.specs.Prelude.{None, slice_get}
use Rattle.dds_base.specs.Number.{Txn}
use Rattle.dds_base.specs.declared.number.CallNo.{CallNo}
use Rattle.dds_base.specs.declared.number.CallerNo.{CallerNo}
use Rattle.dds_base.specs.declared.number.NodeNo.{NodeNo}
use Rattle.dds_base.specs.declared.op.Op.{Op}
use Rattle.dds_books.proofs.CallGoes as goings
use Rattle.dds_books.proofs.CallGoes.{call-goes}
use Rattle.dds_books.proofs.Continues.{Continues, anew, begun-entered, does-entered, goes_on}
use Rattle.dds_books.proofs.Turns.{back-with, end-with}
use Rattle.dds_call_rows.specs.Library.{begin}
use Rattle.dds_core.proofs.CallDoes.{call-does, new-begins}
use Rattle.dds_core.proofs.CallTurns.{OneKeeps, heard, library-keeps}
use Rattle.dds_core.proofs.Lists.{all-is, all-taken}
use Rattle.dds_core.specs.LibraryTurn.{call_row, desk_of, live_library_turn, new_request}
use Rattle.dds_letters.specs.declared.letter.Letter.{Letter}
use Rattle.dds_letters.specs.declared.letter.Letter.TheVariants as letter
use Rattle.dds_net.specs.Event.{asked_turn}
use Rattle.dds_states.specs.declared.library_state.LibraryState.{LibraryState}
use Rattle.dds_states.specs.declared.library_state.OpenCall.{OpenCall}
use Rattle.dds_states.specs.declared.library_state.Request.{Request}
use Rattle.dds_states.specs.declared.library_state.TxnNumbers.{TxnNumbers}
use Rattle.dds_talk.specs.Seen.{commits_now}
use Rattle.dds_attempts.proofs.Committing.{committing-goes}

-- Where the open calls after a library's turn come from: each was open before with its attempt, or with another one that it didn't
-- commit, or has just been asked.

pub record WasOpen (old : LibraryState) (c d : OpenCall) : Type 0 where
  pub place : ℕ
  pub is : slice_get old.calls place ≡ Some c
  pub caller_is : c.request.caller ≡ d.request.caller
  pub call_is : c.request.call ≡ d.request.call

-- the calls that come are these
abbrev pub Comes : Type 1
Comes = ℕ → CallNo → Type 0

pub data Went (New : Comes) (old : LibraryState) (d : OpenCall) : Type 0 where
  still : (c : OpenCall) → WasOpen old c d → c.txn ≡ d.txn → (commits_now c.phase ≡ true → commits_now d.phase ≡ true) → Went New old d
  again : (c : OpenCall) → WasOpen old c d → old.next ≤ d.txn.number → commits_now c.phase ≡ false → Went New old d
  comes : old.next ≤ d.txn.number → New d.request.caller d.request.call → Went New old d

pub record Tracked (New : Comes) (old s : LibraryState) : Type 0 where
  pub more : old.next ≤ s.next
  pub calls : AllByRecursion (Went New old) s.calls

pub all-from : {X : Type 0} (P : X → Type 0) (xs : List X) → ((i : ℕ) (x : X) → slice_get xs i ≡ Some x → P x) → AllByRecursion P xs
all-from P [] f = tt
all-from P (x ∷ xs) f = (f 0 x refl, all-from P xs (λ i y e. f (suc i) y e))

-- before the first turn
was-all : (New : Comes) (old : LibraryState) → AllByRecursion (Went New old) old.calls
was-all New old =
    all-from (Went New old) old.calls (λ i x e. still x (record { place = i; is = e; caller_is = refl; call_is = refl }) refl (λ h. h))

heard-tracked : (New : Comes) (s : LibraryState) (from : NodeNo) (l : Letter) → Tracked New s (heard s from l)
heard-tracked New s from letter.Notice = record { more = omega arith; calls = was-all New s }
heard-tracked New s from other = record { more = omega arith; calls = was-all New s }

-- one call's turn

was-later : (old : LibraryState) (c d x : OpenCall) → d.request.caller ≡ x.request.caller → d.request.call ≡ x.request.call → WasOpen old c d → WasOpen old c x
was-later old c d x e f w = record { place = w.place; is = w.is; caller_is = w.caller_is ∙ e; call_is = w.call_is ∙ f }

-- with its attempt
went-on : (New : Comes) (old : LibraryState) (d x : OpenCall) → d.txn ≡ x.txn → d.request.caller ≡ x.request.caller → d.request.call ≡ x.request.call
    → (commits_now d.phase ≡ true → commits_now x.phase ≡ true) → Went New old d → Went New old x
went-on New old d x t e f g (still c w k h) = still c (was-later old c d x e f w) (k ∙ t) (λ i. g (h i))
went-on New old d x t e f g (again c w le h) =
    again c (was-later old c d x e f w) (subst (λ (u : Txn). old.next ≤ u.number) t le) h
went-on New old d x t e f g (comes le h) =
    comes (subst (λ (u : Txn). old.next ≤ u.number) t le)
    (subst (New x.request.caller) f (subst (λ k. New k d.request.call) e h))

no-commit : (c d : Bool) → (c ≡ true → d ≡ true) → d ≡ false → c ≡ false
no-commit true d f e = let no : true ≡ false = sym (f refl) ∙ e in cc
no-commit false d f e = refl

-- with another one
went-anew : (New : Comes) (old : LibraryState) (d x : OpenCall) → d.request.caller ≡ x.request.caller → d.request.call ≡ x.request.call
    → old.next ≤ x.txn.number → commits_now d.phase ≡ false → Went New old d → Went New old x
went-anew New old d x e f le g (still c w k h) = again c (was-later old c d x e f w) le (no-commit (commits_now c.phase) (commits_now d.phase) h g)
went-anew New old d x e f le g (again c w m h) = again c (was-later old c d x e f w) le h
went-anew New old d x e f le g (comes m h) = comes le (subst (New x.request.caller) f (subst (λ k. New k d.request.call) e h))

went-if : {n : TxnNumbers} {next : ℕ} (New : Comes) (old : LibraryState) (d x : OpenCall) (b : Bool) → commits_now d.phase ≡ b → old.next ≤ n.next
    → (b ≡ true → (x.txn ≡ d.txn) × (x.request ≡ d.request) × (commits_now x.phase ≡ true)) → Continues n next d x → Went New old d → Went New old x
went-if New old d x true e le f go w =
    let k = f refl in
    went-on New old d x (sym k.0) (ap (λ (r : Request). r.caller) (sym k.1)) (ap (λ (r : Request). r.call) (sym k.1)) (λ i. k.2) w
went-if New old d x false e le f (goes_on is r g) w =
    went-on New old d x (sym is) (ap (λ (q : Request). q.caller) (sym r)) (ap (λ (q : Request). q.call) (sym r))
    (λ i. absurd (both_ways (commits_now d.phase) e i)) w
went-if New old d x false e le f (anew a) w =
    let high = a.from in
    went-anew New old d x (sym a.caller_is) (sym a.call_is) (omega (arith, le, high)) e w

one-tracked : (New : Comes) (old : LibraryState) (from : NodeNo) (l : Letter) → OneKeeps (λ s out. Tracked New old s) from l
one-tracked New old from l s out place c is concerns h =
    let rest = remove s.calls place in
    let d = desk_of (record s { calls = rest }) rest in
    let t = call_row d c from l in
    let g = does-entered d c from l t (call-does d c from l) in
    let step = (call-goes d c from l).next in
    let more = h.more in
    let w = back-with rest place t.went.call in
    let own = all-is (Went New old) s.calls place c h.calls is in
    record {
      more = omega (arith, more, step);
      calls = w.each (Went New old) (all-taken (Went New old) s.calls place h.calls)
          (λ x e. went-if New old c x (commits_now c.phase) refl more
          (λ k. let o = committing-goes d c from l k x e in (o.txn_is, o.request_is, o.commits)) (g.call x e) own);
    }

-- a letter: no call comes
abbrev pub NoCall : Comes
NoCall caller call = ⊥

pub library-tracked : (s : LibraryState) (from : NodeNo) (l : Letter) → Tracked NoCall s (live_library_turn s from l).state
library-tracked s from l =
    library-keeps (λ u out. Tracked NoCall s u) s from l (one-tracked NoCall s from l) (heard-tracked NoCall s from l)

-- a call is asked
abbrev pub ThisCall : ℕ → CallNo → Comes
ThisCall caller call k i = (k ≡ caller) × (i ≡ call)

pub asked-tracked : (s : LibraryState) (caller : CallerNo) (call : CallNo) (o : Op) → Tracked (ThisCall caller call) s (asked_turn s caller call o).state
asked-tracked s caller call o =
    let r = new_request caller call o in
    let d = desk_of s s.calls in
    let t = begin d r in
    let g = begun-entered d r t (new-begins d r) in
    let step = (goings.begin {old = None} d r).next in
    let w = end-with s.calls t.went.call in
    record {
      more = step;
      calls = w.each (Went (ThisCall caller call) s) (was-all (ThisCall caller call) s)
          (λ x e. let a = g.call x e in comes a.from (a.caller_is, a.call_is));
    }
