use Rattle.std.proofs.Common.{◌≡◌, ℕ, ◌==◌, ◌+◌, ◌≤◌, ◌⊎◌, inl, inr, true, false, cond, List, [], Option, Some, None, refl, sym, ap, ◌∙◌, subst}
use Rattle.std.proofs.Common.{arith}
use Rattle.std.specs.Prelude.{if◌then◌else◌, nat_le}
use Rattle.dds_base.specs.BrickList.{has}
use Rattle.dds_base.specs.Number.{Txn, same_txn}
use Rattle.dds_call_rows.specs.Library.{CallTurn}
use Rattle.dds_states.specs.declared.library_state.LibraryState.{LibraryState}
use Rattle.dds_states.specs.declared.library_state.OpenCall.{OpenCall}
use Rattle.dds_states.specs.declared.library_state.TxnNumbers.{TxnNumbers}
use Rattle.dds_net.specs.Net.{Sizes, gains, is_in}
use Rattle.dds_talk.proofs.Begun.{Begun, Opened, next_of}
use Rattle.dds_talk.proofs.CallGoes.{Goes}
use Rattle.dds_talk.proofs.CallGoes.Goes.{on, over}
use Rattle.dds_talk.proofs.Calls.{apart-put, is_call}
use Rattle.dds_talk.proofs.Moves.{Takes}
use Rattle.dds_talk.proofs.Moves.Takes.{skips, rests}
use Rattle.dds_talk.proofs.Parts.{is-same, same-self}
use Rattle.dds_talk.proofs.Turns.{IsCounted, Mid, MidCall, OneTurn, found-is, for-itself, fresh, goes-list, goes-next, is-new, low, mine-calls, mine-if}
use Rattle.dds_talk.proofs.Turns.{mine-stands}
use Rattle.dds_talk.proofs.Turns.{new-le, next-le, not-new, now, or-nothing, other-calls, other-number, same-le, some-same, turned}
use Rattle.dds_talk.specs.Books.{Books, or_else}
use Rattle.dds_talk.specs.Parts.{IsFor}
use Rattle.dds_talk.specs.Seen.{IsGroup, asks, call_of, call_view, members_in, members_of, phase_view, view}
use Rattle.dds_talk.specs.Table.View.{New, Off}

-- What other attempts see of a call's turn: nothing, or that theirs begins. And the library after it.

pub not-its : (t : Txn) (x : OpenCall) (v : Txn) → x.txn ≡ v → same_txn v t ≡ false → is_call t (Some x) ≡ false
not-its t x v e k = ap (λ (y : Txn). same_txn y t) e ∙ k

pub not-call : (t : Txn) (o q : Option OpenCall) → is_call t o ≡ false → cond (is_call t o) o q ≡ q
not-call t o q e = rw e refl

opened-not : (z : Sizes) (n : TxnNumbers) (r : CallTurn) (t : Txn) (o : Option OpenCall) → Opened z n r o → same_txn (next_of n) t ≡ false
    → is_call t o ≡ false
opened-not z n r t None g e = refl
opened-not z n r t (Some x) g e = not-its t x (next_of n) g.0 e

after-le : (z : Sizes) (n : TxnNumbers) (r : CallTurn) (t : Txn) → Begun z n r → (n.next == t.number) ≡ false
    → nat_le n.next t.number ≡ nat_le r.desk.numbers.next t.number
after-le z n r t g e = elim g.next [
  | inl h ↦ same-le n.next r.desk.numbers.next t.number (sym h)
  | inr h ↦ next-le n.next t.number e ∙ same-le (n.next + 1) r.desk.numbers.next t.number (sym h)
]

-- a library in which an attempt's call and its place among the numbers are the same
theirs-rest : (z : Sizes) (b : Books) (s u : LibraryState) (r : CallTurn) (m : ℕ) (t : Txn) → call_of u.calls t ≡ call_of s.calls t
    → nat_le s.next t.number ≡ nat_le u.next t.number → asks t (gains z r.went.letters m) ≡ []
    → Takes (view s (now b s t) t m) [] (view u (now b u t) t m) (asks t (gains z r.went.letters m))
theirs-rest z b s u r m t calls next none = rw (calls, none, ← next) (rests (view s (now b s t) t m))

-- the next attempt
next-begins : (z : Sizes) (n : TxnNumbers) (r : CallTurn) (m : ℕ) (o q : Option OpenCall) (list : List ℕ) → Opened z n r o → list ≡ [] → q ≡ None
    → (r.desk.numbers.next ≡ n.next) ⊎ (r.desk.numbers.next ≡ n.next + 1) → ((x : OpenCall) → o ≡ Some x → IsGroup z (members_of x.phase)) → is_in z m ≡ true
    → Takes New [] (if nat_le r.desk.numbers.next n.next then New
    else (if has (or_else list (members_in (cond (is_call (next_of n) o) o q))) m then call_view m (cond (is_call (next_of n) o) o q) else Off))
    (asks (next_of n) (gains z r.went.letters m))
next-begins z n r m None q list g e f (inl h) group inside =
    let k : nat_le r.desk.numbers.next n.next ≡ true = new-le r.desk.numbers.next n.next (omega (arith, h)) in
    rw (k, g (next_of n) m) (rests New)
next-begins z n r m None q list g e f (inr h) group inside =
    let k : nat_le r.desk.numbers.next n.next ≡ false = not-new r.desk.numbers.next n.next (omega (arith, h)) in
    rw (k, g (next_of n) m, f, e) skips
next-begins z n r m (Some x) q list g e f h group inside =
    let k : nat_le r.desk.numbers.next n.next ≡ false = not-new r.desk.numbers.next n.next (omega (arith, g.1)) in
    let xt : x.txn ≡ next_of n = g.0 in
    let same : same_txn x.txn (next_of n) ≡ true = ap (λ (u : Txn). same_txn u (next_of n)) xt ∙ same-self (next_of n) in
    rw (k, same, e)
    (subst (λ (u : Txn). Takes New [] (if has (members_of x.phase) m then phase_view m x.phase else Off) (asks u (gains z r.went.letters m))) xt
    (g.2 (group x refl) m inside))

-- of a turn that gives a new attempt, or none, in a library whose other calls are the same
pub begun-sees : (z : Sizes) (b : Books) (k : ℕ) (s u : LibraryState) (n : TxnNumbers) (r : CallTurn) (m : ℕ) (t : Txn) → Mid b k s → IsCounted s n
    → Begun z n r → ((x : OpenCall) → r.went.call ≡ Some x → IsGroup z (members_of x.phase)) → is_in z m ≡ true → t.library ≡ k
    → (s.next ≤ t.number → b.list t ≡ []) → u.next ≡ r.desk.numbers.next → call_of u.calls t ≡ cond (is_call t r.went.call) r.went.call (call_of s.calls t)
    → Takes (view s (now b s t) t m) [] (view u (now b u t) t m) (asks t (gains z r.went.letters m))
begun-sees z b k s u n r m t mid num g group inside tl unmade un calls =
    elim (same_txn (next_of n) t) as (λ q. same_txn (next_of n) t ≡ q → Takes (view s (now b s t) t m) [] (view u (now b u t) t m) (asks t
    (gains z r.went.letters m))) [
      | true ↦ λ q.
          let e = is-same (next_of n) t q in
          let number : n.next ≡ t.number = ap (λ (v : Txn). v.number) e in
          let le : s.next ≤ t.number = omega (arith, num.1, number) in
          let before : nat_le s.next t.number ≡ true = new-le s.next t.number le in
          let free : call_of s.calls t ≡ None = fresh b k s t mid le in
          let h = next-begins z n r m r.went.call (call_of s.calls t) (b.list t) g.opened (unmade le) free g.next group inside in
          rw (before, calls, un) (subst (λ (v : Txn). Takes New [] (if nat_le r.desk.numbers.next v.number then New
          else (if has (or_else (b.list t) (members_in (cond (is_call v r.went.call) r.went.call (call_of s.calls t)))) m
          then call_view m (cond (is_call v r.went.call) r.went.call (call_of s.calls t)) else Off)) (asks v (gains z r.went.letters m))) e h)
      | false ↦ λ q. theirs-rest z b s u r m t (calls ∙ not-call t r.went.call (call_of s.calls t) (opened-not z n r t r.went.call g.opened q))
          (same-le s.next n.next t.number (sym num.1) ∙ after-le z n r t g (other-number n t (tl ∙ sym mid.number ∙ sym num.0) q)
          ∙ same-le r.desk.numbers.next u.next t.number (sym un)) (g.old t m q)
    ] refl

module _ (z : Sizes) (b : Books) (k place : ℕ) (s : LibraryState) (c : OpenCall) (n : TxnNumbers) (r : CallTurn) where
  abbrev v : LibraryState
  v = (turned s place c r).state

  theirs-goes : (m : ℕ) (t : Txn) → OneTurn z b k place s c n r → Goes z n c (b.list c.txn) r → is_in z m ≡ true → t.library ≡ k → same_txn c.txn t ≡ false
      → Takes (view s (now b s t) t m) [] (view v (now b v t) t m) (asks t (gains z r.went.letters m))
  theirs-goes m t h (on x e tx i next out others) inside tl ne =
      let calls = other-calls z b k place s c n r h t ne
      ∙ not-call t r.went.call (call_of s.calls t) (ap (is_call t) e ∙ not-its t x c.txn tx ne) in
      theirs-rest z b s v r m t calls (same-le s.next r.desk.numbers.next t.number (sym h.counted.1 ∙ sym next)) (others t m ne)
  theirs-goes m t h (over g) inside tl ne =
      begun-sees z b k s v n r m t h.mid h.counted g h.group inside tl (h.unmade t tl) refl (other-calls z b k place s c n r h t ne)

  pub theirs : (m : ℕ) (t : Txn) → OneTurn z b k place s c n r → is_in z m ≡ true → t.library ≡ k → same_txn c.txn t ≡ false
      → Takes (view s (now b s t) t m) [] (view v (now b v t) t m) (asks t (gains z r.went.letters m))
  theirs m t h inside tl ne = theirs-goes m t h h.goes inside tl ne

  -- the library after it
  which-call : (o q : Option OpenCall) (t : Txn) (y : OpenCall) → cond (is_call t o) o q ≡ Some y → ((o ≡ Some y) × (same_txn y.txn t ≡ true)) ⊎ (q ≡ Some y)
  which-call None q t y e = inr e
  which-call (Some x) q t y e =
      elim (same_txn x.txn t) as (λ w. same_txn x.txn t ≡ w → cond w (Some x) q ≡ Some y → ((Some x ≡ Some y) × (same_txn y.txn t ≡ true)) ⊎ (q ≡ Some y)) [
        | true ↦ λ f g. inl (g, subst (λ (w : OpenCall). same_txn w.txn t ≡ true) (some-same g) f)
        | false ↦ λ f g. inr g
      ] refl e

  mine-mid : OneTurn z b k place s c n r → (y : OpenCall) → call_of v.calls c.txn ≡ Some y → y.txn ≡ c.txn → MidCall b k v y
  mine-mid h y e is =
      let was = h.mid.calls c.txn c h.found in
      let below = was.below in
      let num = h.counted.1 in
      let more = goes-next z n c (b.list c.txn) r h.goes in
      let number : y.txn.number ≡ c.txn.number = ap (λ (w : Txn). w.number) is in
      record {
        library = ap (λ (w : Txn). w.library) is ∙ was.library;
        below = omega (arith, below, num, more, number);
        list = subst (λ w. IsFor w y.phase) (sym (ap (now b v) is ∙ mine-stands z b k place s c n r h))
            (mine-if z b k place s c n r r.went.call (call_of s.calls c.txn)
            (goes-list z n c (b.list c.txn) r (low z b k place s c n r h) h.goes) y (sym (mine-calls z b k place s c n r h) ∙ e));
      }

  begun-mid : OneTurn z b k place s c n r → Goes z n c (b.list c.txn) r → (t : Txn) (y : OpenCall) → call_of v.calls t ≡ Some y → same_txn c.txn t ≡ false
      → r.went.call ≡ Some y → y.txn ≡ t → MidCall b k v y
  begun-mid h (on x e tx i next out others) t y is ne went yt =
      let q : true ≡ false = sym (same-self t) ∙ ap (λ (w : Txn). same_txn w t) (sym yt ∙ ap (λ (w : OpenCall). w.txn) (some-same (sym went ∙ e)) ∙ tx) ∙ ne in
      cc
  begun-mid h (over g) t y is ne went yt =
      let o : Opened z n r (Some y) = subst (Opened z n r) went g.opened in
      let library : y.txn.library ≡ k = ap (λ (w : Txn). w.library) o.0 ∙ h.counted.0 ∙ h.mid.number in
      let number : y.txn.number ≡ n.next = ap (λ (w : Txn). w.number) o.0 in
      let num = h.counted.1 in
      let next = o.1 in
      record {
        library = library;
        below = omega (arith, number, next);
        list = subst (λ w. IsFor w y.phase) (sym (or-nothing (b.list y.txn) (members_in (call_of v.calls y.txn))
            (h.unmade y.txn library (omega (arith, number, num))) ∙ ap members_in (ap (call_of v.calls) yt ∙ is))) (for-itself y.phase);
      }

  other-mid : OneTurn z b k place s c n r → (t : Txn) (y : OpenCall) → call_of v.calls t ≡ Some y → call_of s.calls t ≡ Some y → MidCall b k v y
  other-mid h t y is was =
      let old = h.mid.calls t y was in
      let below = old.below in
      let num = h.counted.1 in
      let more = goes-next z n c (b.list c.txn) r h.goes in
      let yt = found-is s.calls t y was in
      let same : call_of v.calls y.txn ≡ call_of s.calls y.txn = ap (call_of v.calls) yt ∙ is ∙ sym was ∙ sym (ap (call_of s.calls) yt) in
      record {
        library = old.library;
        below = omega (arith, below, num, more);
        list = subst (λ o. IsFor (or_else (b.list y.txn) (members_in o)) y.phase) (sym same) old.list;
      }

  pub mid-after : OneTurn z b k place s c n r → Mid b k v
  mid-after h =
      record {
        number = h.mid.number;
        apart = apart-put s.calls place c r.went.call h.there h.mid.apart (is-new z b k place s c n r h);
        calls = λ t y e. elim (same_txn c.txn t) as (λ q. same_txn c.txn t ≡ q → MidCall b k v y) [
          | true ↦ λ q.
              let ct : c.txn ≡ t = is-same c.txn t q in
              mine-mid h y (ap (call_of v.calls) ct ∙ e) (found-is v.calls t y e ∙ sym ct)
          | false ↦ λ q. elim (which-call r.went.call (call_of s.calls t) t y (sym (other-calls z b k place s c n r h t q) ∙ e)) [
            | inl w ↦ begun-mid h h.goes t y e q w.0 (is-same y.txn t w.1)
            | inr w ↦ other-mid h t y e w
          ]
        ] refl;
      }
