-- No call is answered twice.
use Rattle.std.proofs.Common.{◌≡◌, ℕ, ◌++◌, inl, inr, Option, Some, None, List, [], ◌∷◌, refl, sym, ap, ◌∙◌, subst}
use Rattle.std.proofs.lemmas.Bool.{cases_eq}
use Rattle.std.proofs.lemmas.List.{append-nil}
use Rattle.std.proofs.lemmas.Option.{slice_get_within}
use Rattle.std.specs.List.{AllByRecursion, remove}
use Rattle.std.specs.Prelude.{slice_get, slice_set}
use Rattle.dds_base.specs.Number.{Txn}
use Rattle.dds_base.specs.declared.number.CallNo.{CallNo}
use Rattle.dds_base.specs.declared.number.NodeNo.{NodeNo}
use Rattle.dds_base.specs.declared.op.Reply.{Reply}
use Rattle.dds_books.proofs.Keeps.{heard-books}
use Rattle.dds_books.proofs.Turns.{Booked, closed-append, one-keeps}
use Rattle.dds_books.specs.Calls.{CallsOk, IsOwned}
use Rattle.dds_client_view.proofs.Shut.{ReplySays}
use Rattle.dds_cluster.specs.Trace.{all_closed, closes, told_at}
use Rattle.dds_cluster.specs.declared.trace.Caller.{Caller}
use Rattle.dds_cluster.specs.declared.trace.Told.{Told}
use Rattle.dds_core.proofs.CallTurns.{OneKeeps, heard, library-keeps}
use Rattle.dds_core.proofs.Lists.{all-append, all-is}
use Rattle.dds_core.specs.LibraryTurn.{call_row, desk_of, live_library_turn, replies_of}
use Rattle.dds_letters.specs.declared.letter.Letter.{Letter}
use Rattle.dds_net.proofs.Nodes.{get-set-other, get-set-same}
use Rattle.dds_net.proofs.Pairwise.{Pairwise, pairs-append}
use Rattle.dds_states.specs.Turn.{no_out}
use Rattle.dds_states.specs.declared.library_state.LibraryState.{LibraryState}
use Rattle.dds_states.specs.declared.turn.CoreTurn.{CoreTurn}
use Rattle.dds_states.specs.declared.turn.Replied.{Replied}
use Rattle.dds_states.specs.declared.turn.Replied.TheVariants as replied

-- two answers are to different calls
abbrev pub OtherThan : ℕ → CallNo → Replied → Type 0
OtherThan k call (replied.Call read caller other reply) = k ≡ caller → call ≡ other → ⊥
OtherThan k call (replied.Order reply) = Unit {0}

abbrev pub OtherReply : Replied → Replied → Type 0
OtherReply (replied.Call read caller call reply) r = OtherThan caller call r
OtherReply (replied.Order reply) r = Unit {0}

abbrev pub OtherTold : Told → Told → Type 0
OtherTold a b = a.caller ≡ b.caller → a.call ≡ b.call → ⊥

-- the call isn't its caller's open one
abbrev pub IsClosed : List Caller → ℕ → CallNo → Type 0
IsClosed cs k call = (x : Caller) → slice_get cs k ≡ Some x → x.call ≡ Some call → ⊥

closes-closed : (cs : List Caller) (caller k : ℕ) (call : CallNo) (o : Option Caller) → slice_get cs caller ≡ o → IsClosed cs k call
    → IsClosed (closes cs caller o) k call
closes-closed cs caller k call None e h = h
closes-closed cs caller k call (Some c) e h = λ x there is.
    let d : Caller = record c { call = None } in
    elim (cases_eq caller k) [
      | inl f ↦
          let at : slice_get (slice_set cs caller d) k ≡ Some d =
          ap (slice_get (slice_set cs caller d)) (sym f) ∙ get-set-same cs caller d (slice_get_within cs caller c e) in
          let same : d ≡ x = (let two : Some d ≡ Some x = sym at ∙ there in cc) in
          let no : None ≡ Some call = ap (λ (y : Caller). y.call) same ∙ is in
          cc
      | inr ne ↦ h x (sym (get-set-other cs caller k d ne) ∙ there) is
    ]

closes-own : (cs : List Caller) (caller : ℕ) (call : CallNo) (o : Option Caller) → slice_get cs caller ≡ o → IsClosed (closes cs caller o) caller call
closes-own cs caller call None e = λ x there is. let no : None ≡ Some x = sym e ∙ there in cc
closes-own cs caller call (Some c) e = λ x there is.
    let d : Caller = record c { call = None } in
    let same : d ≡ x = (let two : Some d ≡ Some x = sym (get-set-same cs caller d (slice_get_within cs caller c e)) ∙ there in cc) in
    let no : None ≡ Some call = ap (λ (y : Caller). y.call) same ∙ is in
    cc

abbrev AreClosed : List Caller → List Replied → Type 0
AreClosed cs rs = AllByRecursion (ReplySays (λ k call x. IsClosed cs k call)) rs

-- of a library while its calls have their turns: each call that was answered is closed, and the answers are to different calls
record Apart (old : LibraryState) (cs : List Caller) (at : ℕ) (s : LibraryState) (out : CoreTurn) : Type 0 where
  pub booked : Booked old cs at s out
  pub closed : AreClosed (all_closed cs out.replies) out.replies
  pub apart : Pairwise OtherReply out.replies

closed-more : (cs : List Caller) (caller : ℕ) (rs : List Replied) → AreClosed cs rs → AreClosed (closes cs caller (slice_get cs caller)) rs
closed-more cs caller [] h = tt
closed-more cs caller (replied.Call read k call reply ∷ rs) h = (closes-closed cs caller k call (slice_get cs caller) refl h.0, closed-more cs caller rs h.1)
closed-more cs caller (replied.Order reply ∷ rs) h = (tt, closed-more cs caller rs h.1)

-- a call that is open isn't among those
others-than : (cs : List Caller) (c : Caller) (caller : ℕ) (call : CallNo) (read : Option Txn) (reply : Reply) (rs : List Replied)
    → slice_get cs caller ≡ Some c
    → c.call ≡ Some call → AreClosed cs rs → AllByRecursion (λ r. AllByRecursion (OtherReply r) (replied.Call read caller call reply ∷ [])) rs
others-than cs c caller call read reply [] e f h = tt
others-than cs c caller call read reply (replied.Call a k other b ∷ rs) e f h = (
  ((λ same number. h.0 c (ap (slice_get cs) same ∙ e) (f ∙ ap Some (sym number))), tt),
  others-than cs c caller call read reply rs e f h.1,
)
others-than cs c caller call read reply (replied.Order b ∷ rs) e f h = ((tt, tt), others-than cs c caller call read reply rs e f h.1)

-- one answer more, or none
pub record Joined (cs : List Caller) (rs qs : List Replied) : Type 0 where
  pub closed : AreClosed (all_closed cs (rs ++ qs)) (rs ++ qs)
  pub apart : Pairwise OtherReply (rs ++ qs)

joined : (cs : List Caller) (rs : List Replied) (c : Caller) (caller : ℕ) (call : CallNo) (txn : Txn) (o : Option Reply)
    → slice_get (all_closed cs rs) caller ≡ Some c
    → c.call ≡ Some call → AreClosed (all_closed cs rs) rs → Pairwise OtherReply rs → Joined cs rs (replies_of caller call txn o)
joined cs rs c caller call txn None e f h k =
    record {
      closed = subst (λ (l : List Replied). AreClosed (all_closed cs l) l) (sym (append-nil rs)) h;
      apart = subst (Pairwise OtherReply) (sym (append-nil rs)) k;
    }
joined cs rs c caller call txn (Some r) e f h k =
    let qs = replies_of caller call txn (Some r) in
    let ds = all_closed cs rs in
    record {
      closed = subst (λ (l : List Caller). AreClosed l (rs ++ qs)) (sym (closed-append cs rs qs))
          (all-append (ReplySays (λ i n x. IsClosed (all_closed ds qs) i n)) rs qs (closed-more ds caller rs h)
          (closes-own ds caller call (slice_get ds caller) refl, tt));
      apart = pairs-append OtherReply rs qs k (tt, tt) (others-than ds c caller call _ r rs e f h);
    }

one-apart : (old : LibraryState) (cs : List Caller) (at : ℕ) (from : NodeNo) (l : Letter) → OneKeeps (Apart old cs at) from l
one-apart old cs at from l s out place c e concerns h =
    let rest = remove s.calls place in
    let d = desk_of (record s { calls = rest }) rest in
    let t = call_row d c from l in
    let o = all-is (IsOwned (all_closed cs out.replies) at) s.calls place c h.booked.calls.owned e in
    let j = joined cs out.replies o.caller c.request.caller c.request.call c.txn t.went.reply o.there o.call h.closed h.apart in
    record { booked = one-keeps old cs at from l s out place c e concerns h.booked; closed = j.closed; apart = j.apart }

heard-apart : (cs : List Caller) (at : ℕ) (s : LibraryState) (from : NodeNo) (l : Letter) → CallsOk cs at s → Apart s cs at (heard s from l) no_out
heard-apart cs at s from l h = record { booked = heard-books cs at s from l h; closed = tt; apart = tt }

-- the answers of a library's turn are to different calls
pub turn-apart : (cs : List Caller) (at : ℕ) (s : LibraryState) (from : NodeNo) (l : Letter) → CallsOk cs at s
    → Pairwise OtherReply (live_library_turn s from l).out.replies
turn-apart cs at s from l h = (library-keeps (Apart s cs at) s from l (one-apart s cs at from l) (heard-apart cs at s from l h)).apart

-- told one after another
told-others : (r : Told) (place : ℕ) (rs : List Replied) → AllByRecursion (OtherThan r.caller r.call) rs → AllByRecursion (OtherTold r) (told_at place rs)
told-others r place [] h = tt
told-others r place (replied.Call read caller call reply ∷ rs) h = (h.0, told-others r place rs h.1)
told-others r place (replied.Order reply ∷ rs) h = told-others r place rs h.1

pub told-apart : (place : ℕ) (rs : List Replied) → Pairwise OtherReply rs → Pairwise OtherTold (told_at place rs)
told-apart place [] h = tt
told-apart place (replied.Call read caller call reply ∷ rs) h =
    (told-others (record { place = place; read = read; caller = caller; call = call; reply = reply }) place rs h.0, told-apart place rs h.1)
told-apart place (replied.Order reply ∷ rs) h = told-apart place rs h.1

-- where no call is answered, or one
pub no-calls-apart : (rs : List Replied) → AllByRecursion (ReplySays (λ k call x. ⊥)) rs → Pairwise OtherReply rs
no-calls-apart [] h = tt
no-calls-apart (replied.Call read caller call reply ∷ rs) h = absurd h.0
no-calls-apart (replied.Order reply ∷ rs) h = (after-order reply rs, no-calls-apart rs h.1)
  where
    after-order : (o : _) (qs : List Replied) → AllByRecursion (OtherReply (replied.Order o)) qs
    after-order o [] = tt
    after-order o (q ∷ qs) = (tt, after-order o qs)

pub one-answer-apart : (caller : ℕ) (call : CallNo) (txn : Txn) (o : Option Reply) → Pairwise OtherReply (replies_of caller call txn o)
one-answer-apart caller call txn None = tt
one-answer-apart caller call txn (Some r) = (tt, tt)
