use Rattle.std.proofs.Common.{◌≡◌, ℕ, ◌⊎◌, inl, inr, Bool, true, false, Option, Some, None, List, [], refl, sym, ap, ◌∙◌, subst}
use Rattle.std.specs.List.{AllByRecursion}
use Rattle.std.specs.Prelude.{if◌then◌else◌}
use Rattle.dds_answered.proofs.Flags.{letter-txn}
use Rattle.dds_answered.proofs.Results.{HasFlag, before, begun-unflagged, flagged, is_flagged, now}
use Rattle.dds_base.specs.Number.{Txn}
use Rattle.dds_base.specs.declared.leaf.Leaf.{Leaf}
use Rattle.dds_base.specs.declared.number.CallNo.{CallNo}
use Rattle.dds_base.specs.declared.number.CallerNo.{CallerNo}
use Rattle.dds_base.specs.declared.number.NodeNo.{NodeNo}
use Rattle.dds_base.specs.declared.op.Op.{Op}
use Rattle.dds_books.proofs.Turns.{end-with}
use Rattle.dds_books.specs.Calls.{CallsOk}
use Rattle.dds_call_rows.specs.Library.{CallTurn, aborted_in, applied_in, begin, call_concerns, first_flag, goes_without, got_in, lost_or_applied}
use Rattle.dds_call_rows.specs.Library.{replies, stays, told_in, vote_in}
use Rattle.dds_calls.proofs.Answered.{differ, made-all}
use Rattle.dds_calls.proofs.Treats.{Becomes, Was, library-treats}
use Rattle.dds_cluster.specs.declared.trace.Caller.{Caller}
use Rattle.dds_cluster.specs.declared.trace.Made.{Made}
use Rattle.dds_core.proofs.CallDoes.{new-begins}
use Rattle.dds_core.proofs.Lists.{all-is, all-map}
use Rattle.dds_core.specs.LibraryTurn.{call_row, desk_of, live_library_turn, new_request}
use Rattle.dds_core.specs.LibraryTurn as core
use Rattle.dds_history.specs.Map.{reply_with}
use Rattle.dds_letters.specs.declared.letter.Letter.{Letter}
use Rattle.dds_letters.specs.declared.letter.Letter.TheVariants as letter
use Rattle.dds_letters.specs.declared.refusal.Answer.{Answer}
use Rattle.dds_letters.specs.declared.refusal.Ballot.{Ballot}
use Rattle.dds_net.specs.Event.{asked_turn}
use Rattle.dds_states.specs.Turn.{is_none_left, without}
use Rattle.dds_states.specs.declared.library_state.Desk.{Desk}
use Rattle.dds_states.specs.declared.library_state.LibraryState.{LibraryState}
use Rattle.dds_states.specs.declared.library_state.OpenCall.{OpenCall}
use Rattle.dds_states.specs.declared.library_state.Phase.{Phase}
use Rattle.dds_states.specs.declared.library_state.Phase.TheVariants as phase
use Rattle.dds_talk.specs.Seen.{commits_now}
use Rattle.dds_values.specs.Values.{CallFlag, HasFlag as IsFlag, LetterFlag, kept_flag}

-- The flag that an open call keeps is one that it heard, or had.

kept-is : (p : Phase) (was : Bool) → kept_flag p ≡ Some was → is_flagged p ≡ true
kept-is (phase.Getting leaf brick) was e = cc
kept-is (phase.Preparing leaf list waiting) was e = cc
kept-is (phase.Committing leaf list waiting None) was e = cc
kept-is (phase.Committing leaf list waiting (Some x)) was e = refl
kept-is (phase.Aborting waiting why brick) was e = cc
kept-is (phase.Asking waiting newest m) was e = cc

commits-too : (p : Phase) → is_flagged p ≡ true → commits_now p ≡ true
commits-too (phase.Committing leaf list waiting was) e = refl
commits-too other e = cc

-- the letter says so, or the call had it
pub data Kept (c : OpenCall) (l : Letter) (was : Bool) : Type 0 where
  heard : (txn : Txn) → l ≡ letter.Applied txn was → Kept c l was
  had : kept_flag c.phase ≡ Some was → Kept c l was

call-if : (P : Type 0) (x : OpenCall) (b : Bool) (t u : CallTurn) → (t.went.call ≡ Some x → P) → (u.went.call ≡ Some x → P)
    → (if b then t else u).went.call ≡ Some x → P
call-if P x true t u f g e = f e
call-if P x false t u f g e = g e

same-kept : (c x : OpenCall) → Some c ≡ Some x → kept_flag x.phase ≡ kept_flag c.phase
same-kept c x e = let is : c ≡ x = cc in ap (λ (y : OpenCall). kept_flag y.phase) (sym is)

-- a call that commits keeps its flag at all letters but Applied
got-kept : (d : Desk) (c x : OpenCall) (from : NodeNo) (a : Answer) (p : Phase) → commits_now p ≡ true → (got_in d c from a p).went.call ≡ Some x
    → kept_flag x.phase ≡ kept_flag c.phase
got-kept d c x from a (phase.Committing leaf list waiting was) k e = same-kept c x e
got-kept d c x from a other k e = cc

vote-kept : (d : Desk) (c x : OpenCall) (from : NodeNo) (v : Ballot) (p : Phase) → commits_now p ≡ true → (vote_in d c from v p).went.call ≡ Some x
    → kept_flag x.phase ≡ kept_flag c.phase
vote-kept d c x from v (phase.Committing leaf list waiting was) k e = same-kept c x e
vote-kept d c x from v other k e = cc

aborted-kept : (d : Desk) (c x : OpenCall) (from : NodeNo) (p : Phase) → commits_now p ≡ true → (aborted_in d c from p).went.call ≡ Some x
    → kept_flag x.phase ≡ kept_flag c.phase
aborted-kept d c x from (phase.Committing leaf list waiting was) k e = same-kept c x e
aborted-kept d c x from other k e = cc

told-kept : (d : Desk) (c x : OpenCall) (from : NodeNo) (leaf : Option Leaf) (p : Phase) → commits_now p ≡ true
    → (told_in d c from leaf p).went.call ≡ Some x → kept_flag x.phase ≡ kept_flag c.phase
told-kept d c x from leaf (phase.Committing l list waiting was) k e = same-kept c x e
told-kept d c x from leaf other k e = cc

lost-ends : (P : Type 0) (d : Desk) (c x : OpenCall) (leaf : Leaf) (was : Option Bool) → (lost_or_applied d c leaf was).went.call ≡ Some x → P
lost-ends P d c x leaf None e = cc
lost-ends P d c x leaf (Some was) e = cc

without-kept : (d : Desk) (c x : OpenCall) (y : NodeNo) (p : Phase) → commits_now p ≡ true → (goes_without d c y p).went.call ≡ Some x
    → kept_flag x.phase ≡ kept_flag p
without-kept d c x y (phase.Committing leaf list waiting was) k e =
    let left = without waiting y in
    let onward = record c { phase = phase.Committing leaf list left was } in
    call-if (kept_flag x.phase ≡ was) x (is_none_left left) (lost_or_applied d c leaf was) (stays d [] onward)
    (λ q. lost-ends (kept_flag x.phase ≡ was) d c x leaf was q) (λ q. same-kept onward x q) e
without-kept d c x y other k e = cc

notice-kept : (d : Desk) (c x : OpenCall) (y : NodeNo) → commits_now c.phase ≡ true → (call_row d c y letter.Notice).went.call ≡ Some x
    → kept_flag x.phase ≡ kept_flag c.phase
notice-kept d c x y k e =
    call-if (kept_flag x.phase ≡ kept_flag c.phase) x (call_concerns c.phase y) (goes_without d c y c.phase) (stays d [] c)
    (λ q. without-kept d c x y c.phase k q) (λ q. same-kept c x q) e

-- and at an Applied it takes that one's where it has none
first-kept : (txn : Txn) (c : OpenCall) (own : Option Bool) (flag was : Bool) → kept_flag c.phase ≡ own → Some (first_flag own flag) ≡ Some was
    → Kept c (letter.Applied txn flag) was
first-kept txn c None flag was k e = let is : flag ≡ was = cc in heard txn (ap (letter.Applied txn) is)
first-kept txn c (Some x) flag was k e = had (k ∙ e)

applied-kept : (d : Desk) (c x : OpenCall) (from : NodeNo) (txn : Txn) (flag was : Bool) (p : Phase) → c.phase ≡ p
    → (applied_in d c from flag p).went.call ≡ Some x → kept_flag x.phase ≡ Some was → Kept c (letter.Applied txn flag) was
applied-kept d c x from txn flag was (phase.Committing leaf list waiting own) is e f =
    let left = without waiting from in
    let onward = record c { phase = phase.Committing leaf list left (Some (first_flag own flag)) } in
    call-if (Kept c (letter.Applied txn flag) was) x (is_none_left left) (replies d (reply_with c.request.op (first_flag own flag))) (stays d [] onward)
    (λ q. cc) (λ q. first-kept txn c own flag was (ap kept_flag is) (sym (same-kept onward x q) ∙ f)) e
applied-kept d c x from txn flag was other is e f = had (sym (same-kept c x e) ∙ f)

-- it had kept one: at any other letter
had-flag : (c : OpenCall) (l : Letter) → HasFlag c l → ((txn : Txn) (was : Bool) → l ≡ letter.Applied txn was → ⊥) → commits_now c.phase ≡ true
had-flag c l (now txn was e) other = absurd (other txn was e)
had-flag c l (before f) other = commits-too c.phase f

pub flag-from : (d : Desk) (c x : OpenCall) (from : NodeNo) (l : Letter) (was : Bool) → (call_row d c from l).went.call ≡ Some x
    → kept_flag x.phase ≡ Some was → Kept c l was
flag-from d c x from (letter.Applied txn flag) was e f = applied-kept d c x from txn flag was c.phase refl e f
flag-from d c x from (letter.Got txn a) was e f =
    let k = had-flag c (letter.Got txn a) (flagged d c x from (letter.Got txn a) e (kept-is x.phase was f)).flag (λ t w g. cc) in
    had (sym (got-kept d c x from a c.phase k e) ∙ f)
flag-from d c x from (letter.Vote txn vote) was e f =
    let k = had-flag c (letter.Vote txn vote) (flagged d c x from (letter.Vote txn vote) e (kept-is x.phase was f)).flag (λ t w g. cc) in
    had (sym (vote-kept d c x from vote c.phase k e) ∙ f)
flag-from d c x from (letter.Aborted txn) was e f =
    let k = had-flag c (letter.Aborted txn) (flagged d c x from (letter.Aborted txn) e (kept-is x.phase was f)).flag (λ t w g. cc) in
    had (sym (aborted-kept d c x from c.phase k e) ∙ f)
flag-from d c x from (letter.MapTell txn leaf) was e f =
    let k = had-flag c (letter.MapTell txn leaf) (flagged d c x from (letter.MapTell txn leaf) e (kept-is x.phase was f)).flag (λ t w g. cc) in
    had (sym (told-kept d c x from leaf c.phase k e) ∙ f)
flag-from d c x from letter.Notice was e f =
    let k = had-flag c letter.Notice (flagged d c x from letter.Notice e (kept-is x.phase was f)).flag (λ t w g. cc) in
    had (sym (notice-kept d c x from k e) ∙ f)
flag-from d c x from other was e f = had (sym (same-kept c x e) ∙ f)

-- a library's turn
module _ (made : List Made) (s : LibraryState) (from : NodeNo) (l : Letter) (told : LetterFlag made l) (flags : AllByRecursion (CallFlag made) s.calls) where
  kept-flag : (c : OpenCall) (was : Bool) → CallFlag made c → ((txn : Txn) → core.attempt_of l ≡ Some txn → txn ≡ c.txn) → Kept c l was
      → IsFlag made c.txn was
  kept-flag c was own its (had e) = own was e
  kept-flag c was own its (heard txn e) =
      subst (λ t. IsFlag made t was) (its txn (ap core.attempt_of e)) (subst (LetterFlag made) e told)

  turned-flag : (x : OpenCall) → Was s x ⊎ Becomes s from l x → CallFlag made x
  turned-flag x (inl w) = all-is (CallFlag made) s.calls w.index x flags w.there
  turned-flag x (inr w) = λ was f.
      let c = w.by.call in
      let k = flagged w.by.desk c x from l w.goes (kept-is x.phase was f) in
      subst (λ t. IsFlag made t was) (sym k.txn_is)
      (kept-flag c was (all-is (CallFlag made) s.calls w.by.index c flags w.by.there) (λ txn e. letter-txn l c txn e w.by.concerns)
      (flag-from w.by.desk c x from l was w.goes f))

pub library-flags : (made : List Made) (cs : List Caller) (at : ℕ) (s : LibraryState) (from : NodeNo) (l : Letter) → s.stopped ≡ false → CallsOk cs at s
    → LetterFlag made l → AllByRecursion (CallFlag made) s.calls → AllByRecursion (CallFlag made) (live_library_turn s from l).state.calls
library-flags made cs at s from l live own told flags =
    let k = library-treats s from l live (differ s.calls own.apart) (made-all s.next s.calls own.below) in
    all-map (λ x. Was s x ⊎ Becomes s from l x) (CallFlag made) (live_library_turn s from l).state.calls
    (λ x q. turned-flag made s from l told flags x q) k.calls

pub asked-flags : (made : List Made) (s : LibraryState) (caller : CallerNo) (call : CallNo) (o : Op) → AllByRecursion (CallFlag made) s.calls
    → AllByRecursion (CallFlag made) (asked_turn s caller call o).state.calls
asked-flags made s caller call o flags =
    let r = new_request caller call o in
    let d = desk_of s s.calls in
    let t = begin d r in
    (end-with s.calls t.went.call).each (CallFlag made) flags
    (λ x e was f. absurd (begun-unflagged d r t x (new-begins d r) e (kept-is x.phase was f)))
