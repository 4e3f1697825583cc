use Rattle.std.proofs.Common.{◌≡◌, ℕ, ◌<◌, ◌≤◌, ◌⊎◌, inl, inr, true, false, cond, List, [], ◌∷◌, ◌++◌, Option, Some, None, is_some, refl, sym, ap}
use Rattle.std.proofs.Common.{◌∙◌, subst, arith}
use Rattle.std.proofs.lemmas.List.{append-nil}
use Rattle.std.specs.List.{AllByRecursion}
use Rattle.std.specs.Prelude.{option_to_list}
use Rattle.dds_base.specs.Number.{Txn, same_txn}
use Rattle.dds_base.specs.declared.number.CallNo.{CallNo}
use Rattle.dds_base.specs.declared.op.Op.{Op}
use Rattle.dds_call_rows.specs.Library.{CallTurn, begin}
use Rattle.dds_core.specs.LibraryTurn.{desk_of, input_turn, new_request}
use Rattle.dds_states.specs.declared.library_state.LibraryState.{LibraryState}
use Rattle.dds_states.specs.declared.library_state.OpenCall.{OpenCall}
use Rattle.dds_states.specs.declared.library_state.Request.{Request}
use Rattle.dds_states.specs.declared.library_state.TxnNumbers.{TxnNumbers}
use Rattle.dds_net.specs.Event.{asked_turn}
use Rattle.dds_net.specs.Net.{Sizes}
use Rattle.dds_talk.proofs.Begun.{Begun, Opened, begin-begun, next_of}
use Rattle.dds_talk.proofs.Calls.{apart-more, is_call, more}
use Rattle.dds_talk.proofs.Folds.{AreGroups, Start}
use Rattle.dds_talk.proofs.LibraryTurns.{Saw}
use Rattle.dds_talk.proofs.Many.{single}
use Rattle.dds_talk.proofs.Moves.{Takes}
use Rattle.dds_talk.proofs.Others.{begun-sees, not-call, not-its}
use Rattle.dds_talk.proofs.Turns.{MidCall, found-is, for-itself, fresh-opened, now, old-txn, or-nothing}
use Rattle.dds_talk.specs.Books.{Books, or_else}
use Rattle.dds_talk.specs.Parts.{IsFor}
use Rattle.dds_talk.specs.Seen.{Apart, IsGroup, asks, call_of, members_in, members_of, view}
use Rattle.dds_net.specs.Net.{gains}

-- A call that comes, as each attempt and member sees it.

-- a call behind the others
opened-calls : (cs : List OpenCall) (o : Option OpenCall) (t : Txn) → ((x : OpenCall) → o ≡ Some x → call_of cs x.txn ≡ None)
    → call_of (cs ++ option_to_list o) t ≡ cond (is_call t o) o (call_of cs t)
opened-calls cs None t h = ap (λ ys. call_of ys t) (append-nil cs)
opened-calls cs (Some x) t h =
    more cs [] x t (ap (λ ys. call_of ys x.txn) (append-nil cs) ∙ h x refl) ∙ ap (λ ys. cond (same_txn x.txn t) (Some x) (call_of ys t)) (append-nil cs)

apart-opened : (cs : List OpenCall) (o : Option OpenCall) → Apart cs → ((x : OpenCall) → o ≡ Some x → call_of cs x.txn ≡ None) → Apart (cs ++ option_to_list o)
apart-opened cs None a h = subst Apart (sym (append-nil cs)) a
apart-opened cs (Some x) a h =
    apart-more cs [] x (subst Apart (sym (append-nil cs)) a) (ap (λ ys. call_of ys x.txn) (append-nil cs) ∙ h x refl)

last-has : (P : OpenCall → Type 0) (cs : List OpenCall) (o : Option OpenCall) (x : OpenCall) → o ≡ Some x → AllByRecursion P (cs ++ option_to_list o) → P x
last-has P [] None x e h = cc
last-has P [] (Some y) x e h = let is : y ≡ x = cc in subst P is h.0
last-has P (c ∷ cs) o x e h = last-has P cs o x e h.1

module _ (z : Sizes) (b : Books) (k : ℕ) (s : LibraryState) (q : Request) (r : CallTurn) (n : TxnNumbers) where
  abbrev u : LibraryState
  u = (input_turn s q r).state

  pub record Input : Type 0 where
    pub start : Start z b k s
    pub library : n.library ≡ s.number
    pub next : n.next ≡ s.next
    pub begun : Begun z n r
    pub groups : AreGroups z u

  calls-after : Input → (t : Txn) → call_of u.calls t ≡ cond (is_call t r.went.call) r.went.call (call_of s.calls t)
  calls-after h t = opened-calls s.calls r.went.call t (fresh-opened z n r b k s r.went.call h.start.mid (h.library, h.next) h.begun.opened)

  more-next : Input → n.next ≤ r.desk.numbers.next
  more-next h = elim h.begun.next [ inl e ↦ omega (arith, e) | inr e ↦ omega (arith, e) ]

  which-call : (o p : Option OpenCall) (t : Txn) (y : OpenCall) → cond (is_call t o) o p ≡ Some y → (o ≡ Some y) ⊎ (p ≡ Some y)
  which-call None p t y e = inr e
  which-call (Some x) p t y e =
      elim (same_txn x.txn t) as (λ w. cond w (Some x) p ≡ Some y → (Some x ≡ Some y) ⊎ (p ≡ Some y)) [ true ↦ λ g. inl g | false ↦ λ g. inr g ] e

  mid-call : Input → (t : Txn) (y : OpenCall) → call_of u.calls t ≡ Some y → (r.went.call ≡ Some y) ⊎ (call_of s.calls t ≡ Some y) → MidCall b k u y
  mid-call h t y is (inl went) =
      let o : Opened z n r (Some y) = subst (Opened z n r) went h.begun.opened in
      let library : y.txn.library ≡ k = ap (λ (w : Txn). w.library) o.0 ∙ h.library ∙ h.start.mid.number in
      let number : y.txn.number ≡ n.next = ap (λ (w : Txn). w.number) o.0 in
      let num = h.next in
      let next = o.1 in
      record {
        library = library;
        below = omega (arith, number, next);
        list = subst (λ w. IsFor w y.phase) (sym (or-nothing (b.list y.txn) (members_in (call_of u.calls y.txn))
            (h.start.unmade y.txn library (omega (arith, number, num))) ∙ ap members_in (ap (call_of u.calls) (found-is u.calls t y is)
            ∙ is))) (for-itself y.phase);
      }
  mid-call h t y is (inr was) =
      let old = h.start.mid.calls t y was in
      let below = old.below in
      let num = h.next in
      let more = more-next h in
      let yt = found-is s.calls t y was in
      let same : call_of u.calls y.txn ≡ call_of s.calls y.txn = ap (call_of u.calls) yt ∙ is ∙ sym was ∙ sym (ap (call_of s.calls) yt) in
      record {
        library = old.library;
        below = omega (arith, below, num, more);
        list = subst (λ o. IsFor (or_else (b.list y.txn) (members_in o)) y.phase) (sym same) old.list;
      }

  stands-if : (o : Option OpenCall) → Opened z n r o → (t : Txn) → t.number < n.next → is_call t o ≡ false
  stands-if None g t low = refl
  stands-if (Some x) g t low = not-its t x (next_of n) g.0 (old-txn n t low)

  pub input-saw : Input → Saw z b k s u (λ t m. []) (input_turn s q r).out
  input-saw h =
      let num = h.next in
      let more = more-next h in
      record {
        mid = record {
          number = h.start.mid.number;
          apart = apart-opened s.calls r.went.call h.start.mid.apart (fresh-opened z n r b k s r.went.call h.start.mid (h.library, h.next) h.begun.opened);
          calls = λ t y e. mid-call h t y e (which-call r.went.call (call_of s.calls t) t y (sym (calls-after h t) ∙ e));
        };
        known = λ m e. e;
        stopped = refl;
        next = omega (arith, num, more);
        stands = λ t e low.
            ap (λ o. or_else (b.list t) (members_in o)) (calls-after h t
            ∙ not-call t r.went.call (call_of s.calls t) (stands-if r.went.call h.begun.opened t (omega (arith, low, num)))) ∙ h.start.stands t e;
        opens = λ t low is.
            sym (ap is_some (calls-after h t
            ∙ not-call t r.went.call (call_of s.calls t) (stands-if r.went.call h.begun.opened t (omega (arith, low, num))))) ∙ is;
        sees = λ t m e inside un.
            let is = h.start.stands t e in
            single (subst (λ list. Takes (view s list t m) [] (view u (now b u t) t m) (asks t (gains z r.went.letters m))) is
            (begun-sees z b k s u n r m t h.start.mid (h.library, h.next) h.begun
            (λ x w. last-has (λ (c : OpenCall). IsGroup z (members_of c.phase)) s.calls r.went.call x w h.groups) inside e (h.start.unmade t e) refl
            (calls-after h t)));
      }

pub asked-saw : (z : Sizes) (b : Books) (k : ℕ) (s : LibraryState) (caller : ℕ) (call : CallNo) (o : Op) → Start z b k s
    → AreGroups z (asked_turn s caller call o).state → Saw z b k s (asked_turn s caller call o).state (λ t m. []) (asked_turn s caller call o).out
asked-saw z b k s caller call o start groups =
    let q = new_request caller call o in
    let d = desk_of s s.calls in
    input-saw z b k s q (begin d q) d.numbers
    (record { start = start; library = refl; next = refl; begun = begin-begun z start.few d q; groups = groups })
