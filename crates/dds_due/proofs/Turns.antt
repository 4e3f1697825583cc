use Rattle.std.proofs.Common.{◌≡◌, ℕ, inl, inr, Some, None, List, ◌++◌, sym, ◌∙◌, subst}
use Rattle.std.proofs.lemmas.Bool.{cases_eq}
use Rattle.std.specs.List.{remove}
use Rattle.std.specs.Prelude.{option_to_list, slice_get}
use Rattle.dds_base.specs.Number.{Txn}
use Rattle.dds_base.specs.declared.number.CallNo.{CallNo}
use Rattle.dds_base.specs.declared.number.NodeNo.{NodeNo}
use Rattle.dds_base.specs.declared.op.Op.{Op}
use Rattle.dds_books.proofs.Turns.{Booked, one-keeps, closed-append}
use Rattle.dds_books.specs.Calls.{CallsOk, IsOwned, PrepareOk}
use Rattle.dds_call_rows.specs.Library.{CallTurn, begin}
use Rattle.dds_cluster.specs.Trace.{all_closed}
use Rattle.dds_cluster.specs.declared.trace.Caller.{Caller}
use Rattle.dds_core.proofs.CallAttempts.{begun, does}
use Rattle.dds_core.proofs.CallDoes.{call-does, new-begins}
use Rattle.dds_core.proofs.CallTurns.{OneKeeps, heard, library-keeps}
use Rattle.dds_core.proofs.Lists.{all-is}
use Rattle.dds_core.specs.LibraryTurn.{call_row, desk_of, live_library_turn, new_request, put_back, replies_of}
use Rattle.dds_letters.specs.declared.letter.Letter.{Letter}
use Rattle.dds_letters.specs.declared.letter.Letter.TheVariants as letter
use Rattle.dds_states.specs.Turn.{no_out}
use Rattle.dds_states.specs.declared.library_state.LibraryState.{LibraryState}
use Rattle.dds_states.specs.declared.library_state.OpenCall.{OpenCall}
use Rattle.dds_states.specs.declared.turn.CoreTurn.{CoreTurn}
use Rattle.dds_due.proofs.CallMaps.{GoesOn, begin-finds, begins-on, is_answered, row-finds, row-on, stays_open}
use Rattle.dds_due.proofs.Callers.{AreOpenFor, all-before, answered-own, one-open, open-append}
use Rattle.dds_due.proofs.Lists.{back-beside, back-put, end-put, one-front, one-taken}
use Rattle.dds_due.specs.Opened.{FindsAll, IsCall, Lists}

-- A library's turn: its map keeps a leaf for each key, its callers' open calls stay in its list, and it answers open calls alone.

-- one call's turn: the callers afterwards, where the call was one of theirs
turned : (cs : List Caller) (caller : ℕ) (call next : CallNo) (txn : Txn) (t : CallTurn) (who : Caller) (P : OpenCall → Type 0)
    → GoesOn t → ((x : OpenCall) → t.went.call ≡ Some x → P x)
    → slice_get (all_closed cs (replies_of caller call txn t.went.reply)) caller ≡ Some who → who.call ≡ Some next
    → (x : OpenCall) × (t.went.call ≡ Some x) × P x
turned cs caller call next txn t who P (stays_open x e) f there is = (x, e, f x e)
turned cs caller call next txn t who P (is_answered r e) f there is =
    absurd (answered-own cs caller call next txn t.went.reply r who e there is)

-- of a library while its calls have their turns
pub record Opens (old : LibraryState) (cs : List Caller) (at : ℕ) (s : LibraryState) (out : CoreTurn) : Type 0 where
  pub booked : Booked old cs at s out
  pub finds : FindsAll s.map
  pub lists : Lists (all_closed cs out.replies) at s
  pub opened : AreOpenFor cs out.replies

one-opens : (old : LibraryState) (cs : List Caller) (at : ℕ) (from : NodeNo) (l : Letter) → OneKeeps (Opens old cs at) from l
one-opens old cs at from l s out place c is concerns h =
    let rest = remove s.calls place in
    let d = desk_of (record s { calls = rest }) rest in
    let t = call_row d c from l in
    let goes = does d c from l t (call-does d c from l) in
    let on = row-on d c from l h.finds in
    let f = row-finds d c from l h.finds in
    let ds = all_closed cs out.replies in
    let more = replies_of c.request.caller c.request.call c.txn t.went.reply in
    let mine = all-is (IsOwned ds at) s.calls place c h.booked.calls.owned is in
    record {
      booked = one-keeps old cs at from l s out place c is concerns h.booked;
      finds = f.map;
      lists = subst (λ es. Lists es at (record s { map = t.desk.map; next = t.desk.numbers.next; calls = put_back rest place t.went.call }))
          (sym (closed-append cs out.replies more))
          (λ caller who call there library its. elim (one-taken (IsCall caller call) s.calls place c is
          (h.lists caller who call (all-before ds more caller who call there its) library its)) [
            | inl own ↦
                let w = turned ds c.request.caller c.request.call call c.txn t who (IsCall caller call) on
                (λ x e.
                let k = goes.stays x e in
                record { caller_is = k.caller_is ∙ own.caller_is; call_is = k.call_is ∙ own.call_is })
                (subst (λ i. slice_get (all_closed ds more) i ≡ Some who) (sym own.caller_is) there) its in
                back-put (IsCall caller call) rest place t.went.call w.0 w.1 w.2
            | inr other ↦ back-beside (IsCall caller call) rest place t.went.call other
          ]);
      opened = open-append cs out.replies more h.opened
          (one-open ds c.request.caller c.request.call c.txn t.went.reply (record { who = mine.caller; there = mine.there; call_is = mine.call }));
    }

heard-opens : (cs : List Caller) (at : ℕ) (s : LibraryState) (from : NodeNo) (l : Letter) → CallsOk cs at s → FindsAll s.map → Lists cs at s
    → Opens s cs at (heard s from l) no_out
heard-opens cs at s from letter.Notice h f g =
    record {
      booked = record {
        calls = record { below = h.below; owned = h.owned; apart = h.apart };
        others = record { stay = λ k x e ne. e };
        later = λ l k. prepare-same l k;
        letters = tt;
      };
      finds = f;
      lists = g;
      opened = tt;
    }
  where
    prepare-same : (l : Letter) → PrepareOk s l → PrepareOk (heard s from letter.Notice) l
    prepare-same (letter.Prepare txn caller call below name stamp list op) k = k
    prepare-same other k = tt
heard-opens cs at s from other h f g =
    record {
      booked = record { calls = h; others = record { stay = λ k x e ne. e }; later = λ l k. k; letters = tt };
      finds = f;
      lists = g;
      opened = tt;
    }

pub library-opens : (cs : List Caller) (at : ℕ) (s : LibraryState) (from : NodeNo) (l : Letter) → CallsOk cs at s → FindsAll s.map → Lists cs at s
    → Opens s cs at (live_library_turn s from l).state (live_library_turn s from l).out
library-opens cs at s from l h f g = library-keeps (Opens s cs at) s from l (one-opens s cs at from l) (heard-opens cs at s from l h f g)

-- a call comes to a library: the call is in the list then, or was answered
pub asked-lists : (cs ds : List Caller) (at caller : ℕ) (call : CallNo) (o : Op) (s : LibraryState) → FindsAll s.map → Lists cs at s
    → ((k : ℕ) (who : Caller) (next : CallNo) → (caller ≡ k → ⊥) → slice_get ds k ≡ Some who → slice_get cs k ≡ Some who)
    → ((who : Caller) (next : CallNo) → slice_get ds caller ≡ Some who → who.call ≡ Some next → call ≡ next)
    → Lists (all_closed ds (replies_of caller call (record { library = s.number; number = s.next }) (begin (desk_of s s.calls)
    (new_request caller call o)).went.reply)) at (record s {
      map = (begin (desk_of s s.calls) (new_request caller call o)).desk.map;
      next = (begin (desk_of s s.calls) (new_request caller call o)).desk.numbers.next;
      calls = s.calls ++ option_to_list (begin (desk_of s s.calls) (new_request caller call o)).went.call;
    })
asked-lists cs ds at caller call o s f g others own k who next there library its =
    let r = new_request caller call o in
    let d = desk_of s s.calls in
    let t = begin d r in
    let txn : Txn = record { library = s.number; number = s.next } in
    let before = all-before ds (replies_of caller call txn t.went.reply) k who next there its in
    let goes = begun {old = None} d r t (new-begins d r) in
    let on = begins-on t (new-begins d r) (begin-finds d r f) in
    elim (cases_eq caller k) [
      | inl e ↦
          let same = own who next (subst (λ i. slice_get ds i ≡ Some who) (sym e) before) its in
          let w = turned ds caller call next txn t who (IsCall k next) on
          (λ x is. let m = goes.stays x is in record { caller_is = m.caller_is ∙ e; call_is = m.call_is ∙ same })
          (subst (λ i. slice_get (all_closed ds (replies_of caller call txn t.went.reply)) i ≡ Some who) (sym e) there) its in
          end-put (IsCall k next) s.calls t.went.call w.0 w.1 w.2
      | inr ne ↦ one-front (IsCall k next) s.calls (option_to_list t.went.call) (g k who next (others k who next ne before) library its)
    ]
