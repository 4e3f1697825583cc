use Rattle.std.proofs.Common.{◌≡◌, ℕ, ◌-◌, ◌<◌, ◌≤◌, inl, inr, ◌^◌, Option, Some, None, List, [], ◌∷◌, ◌++◌, refl, sym, ap, ◌∙◌, subst, arith}
use Rattle.std.specs.List.{AllByRecursion, remove}
use Rattle.std.specs.Prelude.{min, option_to_list, slice_get}
use Rattle.dds_base.specs.Number.{Txn}
use Rattle.dds_base.specs.declared.number.CallNo.{CallNo}
use Rattle.dds_base.specs.declared.number.NodeNo.{NodeNo}
use Rattle.dds_base.specs.declared.op.Reply.{Reply}
use Rattle.dds_call_rows.specs.Library.{CallTurn}
use Rattle.dds_core.specs.LibraryTurn.{after_turn, call_row, desk_of, least_attempt, least_of, put_back, replies_of}
use Rattle.dds_letters.specs.declared.letter.Letter.{Letter}
use Rattle.dds_letters.specs.declared.letter.Letter.TheVariants as letter
use Rattle.dds_states.specs.declared.library_state.LibraryState.{LibraryState}
use Rattle.dds_states.specs.declared.library_state.OpenCall.{OpenCall}
use Rattle.dds_states.specs.declared.library_state.TxnNumbers.{TxnNumbers}
use Rattle.dds_states.specs.declared.turn.CoreTurn.{CoreTurn}
use Rattle.dds_states.specs.declared.turn.Replied.{Replied}
use Rattle.dds_cluster.specs.Trace.{all_closed, closed_by, closes}
use Rattle.dds_cluster.specs.declared.trace.Caller.{Caller}
use Rattle.dds_net.proofs.Nodes.{get-set-other}
use Rattle.dds_core.proofs.CallTurns.{OneKeeps}
use Rattle.dds_core.proofs.Lists.{all-append, all-both, all-is, all-map, all-put, all-taken}
use Rattle.dds_net.proofs.Pairwise.{Pairwise, others-of, pairs-put, pairs-taken}
use Rattle.dds_books.specs.Calls.{Apart, CallsOk, IsOwned, PrepareOk}
use Rattle.dds_books.proofs.CallGoes.{CallGoes, Goes, IsUnder, LetterGoes, StillOpen, Unanswered, call-goes}

-- One call's turn keeps what is so of all.

-- some calls, and perhaps one more
pub record IsWith (all rest : List OpenCall) (o : Option OpenCall) : Type 1 where
  pub each : (P : OpenCall → Type 0) → AllByRecursion P rest → ((x : OpenCall) → o ≡ Some x → P x) → AllByRecursion P all
  pub pairs : (R : OpenCall → OpenCall → Type 0) → ((a b : OpenCall) → R a b → R b a) → Pairwise R rest
      → ((x : OpenCall) → o ≡ Some x → AllByRecursion (R x) rest) → Pairwise R all

pub back-with : (rest : List OpenCall) (place : ℕ) (o : Option OpenCall) → IsWith (put_back rest place o) rest o
back-with rest place None = record { each = λ P h f. h; pairs = λ R s h f. h }
back-with rest place (Some x) = record { each = λ P h f. all-put P rest place x (f x refl) h; pairs = λ R s h f. pairs-put R rest place x s (f x refl) h }

pairs-end : (R : OpenCall → OpenCall → Type 0) (xs : List OpenCall) (x : OpenCall) → ((a b : OpenCall) → R a b → R b a) → Pairwise R xs
    → AllByRecursion (R x) xs → Pairwise R (xs ++ x ∷ [])
pairs-end R [] x s h k = (tt, tt)
pairs-end R (y ∷ xs) x s h k = (all-append (R y) xs (x ∷ []) h.0 (s x y k.0, tt), pairs-end R xs x s h.1 k.1)

pairs-nil : (R : OpenCall → OpenCall → Type 0) (xs : List OpenCall) → Pairwise R xs → Pairwise R (xs ++ [])
pairs-nil R [] h = tt
pairs-nil R (y ∷ xs) h = (all-append (R y) xs [] h.0 tt, pairs-nil R xs h.1)

pub end-with : (rest : List OpenCall) (o : Option OpenCall) → IsWith (rest ++ option_to_list o) rest o
end-with rest None = record { each = λ P h f. all-append P rest [] h tt; pairs = λ R s h f. pairs-nil R rest h }
end-with rest (Some x) = record { each = λ P h f. all-append P rest (x ∷ []) h (f x refl, tt); pairs = λ R s h f. pairs-end R rest x s h (f x refl) }

-- the caller whose call this is
pub record Owner (cs : List Caller) (at caller : ℕ) (call : CallNo) : Type 0 where
  pub who : Caller
  pub there : slice_get cs caller ≡ Some who
  pub library : who.library ≡ at
  pub call_is : who.call ≡ Some call

-- callers of other libraries stay
pub record OthersStay (at : ℕ) (cs ds : List Caller) : Type 0 where
  pub stay : (k : ℕ) (x : Caller) → slice_get cs k ≡ Some x → (x.library ≡ at → ⊥) → slice_get ds k ≡ Some x

-- an answer closes its caller's call alone
closes-other : (cs : List Caller) (caller k : ℕ) (o : Option Caller) → (k ≡ caller → ⊥) → slice_get (closes cs caller o) k ≡ slice_get cs k
closes-other cs caller k None ne = refl
closes-other cs caller k (Some x) ne = get-set-other cs caller k _ (λ e. ne (sym e))

closed-other : (cs : List Caller) (caller k : ℕ) (call : CallNo) (txn : Txn) (o : Option Reply) → (k ≡ caller → ⊥)
    → slice_get (all_closed cs (replies_of caller call txn o)) k ≡ slice_get cs k
closed-other cs caller k call txn None ne = refl
closed-other cs caller k call txn (Some r) ne = closes-other cs caller k (slice_get cs caller) ne

pub closed-append : (cs : List Caller) (rs qs : List Replied) → all_closed cs (rs ++ qs) ≡ all_closed (all_closed cs rs) qs
closed-append cs [] qs = refl
closed-append cs (r ∷ rs) qs = closed-append (closed_by cs r) rs qs

-- the least of some attempts
least : (n : ℕ) (cs : List OpenCall) → (least_of n cs ≤ n) × AllByRecursion (λ (c : OpenCall). least_of n cs ≤ c.txn.number) cs
least n [] = (omega arith, tt)
least n (c ∷ cs) = let k = least (min n c.txn.number) cs in let m = k.0 in (omega (arith, m), (omega (arith, m), k.1))

-- the other calls beside one that has its turn
pub record Beside (cs : List Caller) (at next : ℕ) (rest : List OpenCall) (caller : ℕ) (call : CallNo) (old : Option Txn) : Type 0 where
  pub below : AllByRecursion (λ (c : OpenCall). c.txn.number < next) rest
  pub owned : AllByRecursion (IsOwned cs at) rest
  pub apart : Pairwise Apart rest
  pub owner : Owner cs at caller call
  pub callers : AllByRecursion (λ (d : OpenCall). caller ≡ d.request.caller → ⊥) rest
  pub attempts : (txn : Txn) → old ≡ Some txn → (txn.number < next) × AllByRecursion (λ (d : OpenCall). txn.number ≡ d.txn.number → ⊥) rest

pub still-open : {n : TxnNumbers} {caller : ℕ} {call : CallNo} {old : Option Txn} {next : ℕ} (o : Option OpenCall) (x : OpenCall)
    → CallGoes n caller call old next o → o ≡ Some x → StillOpen n caller call old next x
still-open None x g e = cc
still-open {n = n} {caller = caller} {call = call} {old = old} {next = next} (Some y) x g e = let is : y ≡ x = cc in
    subst (StillOpen n caller call old next) is g

under-is : (below : ℕ) (o : Option OpenCall) (x : OpenCall) → IsUnder below o → o ≡ Some x → below ≤ x.txn.number
under-is below None x h e = cc
under-is below (Some y) x h e = let is : y ≡ x = cc in subst (λ (c : OpenCall). below ≤ c.txn.number) is h

no-reply : (o : Option OpenCall) (x : OpenCall) (r : Option Reply) → Unanswered o r → o ≡ Some x → r ≡ None
no-reply None x r h e = cc
no-reply (Some y) x r h e = h

apart-sym : (a b : OpenCall) → Apart a b → Apart b a
apart-sym a b h = (λ e. h.0 (sym e), λ e. h.1 (sym e))

-- after the turn
new-below : {n : TxnNumbers} {old : Option Txn} (cs : List Caller) (at next : ℕ) (rest : List OpenCall) (caller : ℕ) (call : CallNo) (x : OpenCall)
    → n.next ≤ next → Beside cs at n.next rest caller call old → StillOpen n caller call old next x → x.txn.number < next
new-below cs at next rest caller call x le b s = elim s.attempt [
  | inl e ↦ let k = (b.attempts x.txn e).0 in omega (arith, k, le)
  | inr f ↦ f.1
]

new-apart : {n : TxnNumbers} {old : Option Txn} (cs : List Caller) (at next : ℕ) (rest : List OpenCall) (caller : ℕ) (call : CallNo) (x : OpenCall)
    → Beside cs at n.next rest caller call old → StillOpen n caller call old next x → AllByRecursion (Apart x) rest
new-apart {n = n} cs at next rest caller call x b s =
    let callers = all-map _ (λ (d : OpenCall). x.request.caller ≡ d.request.caller → ⊥) rest (λ d h e. h (sym s.caller_is ∙ e)) b.callers in
    let numbers : AllByRecursion (λ (d : OpenCall). x.txn.number ≡ d.txn.number → ⊥) rest = elim s.attempt [
      | inl e ↦ (b.attempts x.txn e).1
      | inr f ↦ all-map (λ (d : OpenCall). d.txn.number < n.next) _ rest (λ d h e. let k = f.0 in omega (arith, h, k, e)) b.below
    ] in
    all-both _ _ rest numbers callers

owned-still : (cs ds : List Caller) (at caller : ℕ) (d : OpenCall) → ((k : ℕ) → (k ≡ caller → ⊥) → slice_get ds k ≡ slice_get cs k)
    → (caller ≡ d.request.caller → ⊥) → IsOwned cs at d → IsOwned ds at d
owned-still cs ds at caller d f ne h = record { caller = h.caller; there = f d.request.caller (λ e. ne (sym e)) ∙ h.there; library = h.library; call = h.call }

pub calls-after : {n : TxnNumbers} {old : Option Txn} (cs : List Caller) (at : ℕ) (rest : List OpenCall) (caller : ℕ) (call : CallNo) (txn : Txn) (t : CallTurn)
    (s : LibraryState) → Beside cs at n.next rest caller call old → Goes n caller call old t → s.next ≡ t.desk.numbers.next → IsWith s.calls rest t.went.call
    → CallsOk (all_closed cs (replies_of caller call txn t.went.reply)) at s
calls-after {n = n} {old = old} cs at rest caller call txn t s b g next w =
    let ds = all_closed cs (replies_of caller call txn t.went.reply) in
    let open_call = (λ (x : OpenCall) (e : t.went.call ≡ Some x). still-open t.went.call x g.goes e) in
    record {
      below = subst (λ k. AllByRecursion (λ (c : OpenCall). c.txn.number < k) s.calls) (sym next)
          (w.each (λ c. c.txn.number < t.desk.numbers.next) (all-map (λ (c : OpenCall). c.txn.number < n.next) _ rest (λ c h. let k = g.next in
          omega (arith, h, k)) b.below) (λ x e. new-below cs at t.desk.numbers.next rest caller call x g.next b (open_call x e)));
      owned = w.each (IsOwned ds at) (all-map _ _ rest (λ d h. owned-still cs ds at caller d
          (λ k ne. closed-other cs caller k call txn t.went.reply ne) h.1 h.0) (all-both _ _ rest b.owned b.callers)) (λ x e.
          let o = b.owner in
          let x_is = open_call x e in
          subst (λ r. IsOwned (all_closed cs (replies_of caller call txn r)) at x) (sym (no-reply t.went.call x t.went.reply g.reply e))
          (record {
            caller = o.who;
            there = ap (slice_get cs) x_is.caller_is ∙ o.there;
            library = o.library;
            call =
                o.call_is ∙ ap Some (sym x_is.call_is);
          }));
      apart = w.pairs Apart apart-sym b.apart (λ x e. new-apart cs at t.desk.numbers.next rest caller call x b (open_call x e));
    }

pub others-after : {old : Option Txn} {next : ℕ} (cs : List Caller) (at : ℕ) (rest : List OpenCall) (caller : ℕ) (call : CallNo) (txn : Txn) (r : Option Reply)
    → Beside cs at next rest caller call old → OthersStay at cs (all_closed cs (replies_of caller call txn r))
others-after cs at rest caller call txn r b =
    record {
      stay = λ k x e ne. closed-other cs caller k call txn r (λ same. ne (let o = b.owner in let is : x ≡ o.who =
          some-is x o.who (sym e ∙ ap (slice_get cs) same ∙ o.there) in ap (λ (y : Caller). y.library) is ∙ o.library)) ∙ e;
    }
  where
    some-is : (x y : Caller) → Some x ≡ Some y → x ≡ y
    some-is x y e = cc

-- what is said of prepares
pub prepare-later : {n : TxnNumbers} {old : Option Txn} (all : List OpenCall) (cs : List Caller) (at : ℕ) (rest : List OpenCall) (caller : ℕ) (call : CallNo)
    (t : CallTurn) (s u : LibraryState) (l : Letter) → s.next ≡ n.next → ((below : ℕ) → AllByRecursion (λ (c : OpenCall). below ≤ c.txn.number) s.calls
    → AllByRecursion (λ (c : OpenCall). below ≤ c.txn.number) rest) → ((below : ℕ) (x : OpenCall) → old ≡ Some x.txn
    → AllByRecursion (λ (c : OpenCall). below ≤ c.txn.number) s.calls → below ≤ x.txn.number) → Goes n caller call old t → u.next ≡ t.desk.numbers.next
    → IsWith u.calls rest t.went.call → PrepareOk s l → PrepareOk u l
prepare-later all cs at rest caller call t s u (letter.Prepare txn a b below name stamp list op) nexts fewer was g next w h =
    let p = h.0 in
    let q = h.1 in
    let k = g.next in (
      p,
      omega (arith, q, nexts, k, next),
      w.each (λ (c : OpenCall). below ≤ c.txn.number) (fewer below h.2)
          (λ x e. elim (still-open t.went.call x g.goes e).attempt [
            | inl same ↦ was below x same h.2
            | inr f ↦ (let j = f.0 in omega (arith, p, q, nexts, j))
          ]),
    )
prepare-later all cs at rest caller call t s u other nexts fewer was g next w h = tt

pub prepare-new : {n : TxnNumbers} {old : Option Txn} (rest : List OpenCall) (caller : ℕ) (call : CallNo) (t : CallTurn) (u : LibraryState) (l : Letter)
    → n.below ≡ least_attempt rest → Goes n caller call old t → u.next ≡ t.desk.numbers.next → IsWith u.calls rest t.went.call
    → LetterGoes n t.desk.numbers.next t.went.call l → PrepareOk u l
prepare-new rest caller call t u (letter.Prepare txn a b below name stamp list op) lows g next w h =
    let p = h.0 in
    let q = h.2 in (
      h.1,
      omega (arith, q, next),
      w.each (λ (c : OpenCall). below ≤ c.txn.number) (all-map _ (λ (c : OpenCall). below ≤ c.txn.number) rest
          (λ c k. omega (arith, p, lows, k)) (least (2 ^ 64 - 1) rest).1) (λ x e. under-is below t.went.call x h.3 e),
    )
prepare-new rest caller call t u other lows g next w h = tt

-- of a library while its calls have their turns, from how it was
pub record Booked (old : LibraryState) (cs : List Caller) (at : ℕ) (s : LibraryState) (out : CoreTurn) : Type 0 where
  pub calls : CallsOk (all_closed cs out.replies) at s
  pub others : OthersStay at cs (all_closed cs out.replies)
  pub later : (l : Letter) → PrepareOk old l → PrepareOk s l
  pub letters : AllByRecursion (λ (p : NodeNo × Letter). PrepareOk s p.1) out.letters

taken : (cs : List Caller) (at : ℕ) (s : LibraryState) (place : ℕ) (c : OpenCall) → slice_get s.calls place ≡ Some c → CallsOk cs at s
    → Beside cs at s.next (remove s.calls place) c.request.caller c.request.call (Some c.txn)
taken cs at s place c e h =
    let o = all-is (IsOwned cs at) s.calls place c h.owned e in
    let apart = others-of Apart s.calls place c apart-sym h.apart e in
    record {
      below = all-taken _ s.calls place h.below;
      owned = all-taken _ s.calls place h.owned;
      apart = pairs-taken Apart s.calls place h.apart;
      owner = record { who = o.caller; there = o.there; library = o.library; call_is = o.call };
      callers = all-map (Apart c) _ (remove s.calls place) (λ d k. k.1) apart;
      attempts = λ txn f. let is : c.txn ≡ txn = cc in subst (λ (t : Txn). (t.number < s.next)
          × AllByRecursion (λ (d : OpenCall). t.number ≡ d.txn.number → ⊥) (remove s.calls place)) is
          (all-is (λ (x : OpenCall). x.txn.number < s.next) s.calls place c h.below e, all-map (Apart c) _ (remove s.calls place) (λ d k. k.0) apart);
    }

pub others-then : (at : ℕ) (cs ds es : List Caller) → OthersStay at cs ds → OthersStay at ds es → OthersStay at cs es
others-then at cs ds es h k = record { stay = λ i x e ne. k.stay i x (h.stay i x e ne) ne }

pub one-keeps : (old : LibraryState) (cs : List Caller) (at : ℕ) (from : NodeNo) (l : Letter) → OneKeeps (Booked old cs at) from l
one-keeps old cs at from l s out place c e concerns h =
    let rest = remove s.calls place in
    let s1 = record s { calls = rest } in
    let d = desk_of s1 rest in
    let t = call_row d c from l in
    let u = after_turn s1 t.desk (put_back rest place t.went.call) in
    let caller = c.request.caller in
    let call = c.request.call in
    let g = call-goes d c from l in
    let b = taken (all_closed cs out.replies) at s place c e h.calls in
    let w = back-with rest place t.went.call in
    let joined = closed-append cs out.replies (replies_of caller call c.txn t.went.reply) in
    let later = (λ (m : Letter) (k : PrepareOk s m). prepare-later s.calls cs at rest caller call t s u m refl (λ below a. all-taken _ s.calls place a)
    (λ below x f a. let is : c.txn ≡ x.txn = cc in subst (λ (y : Txn). below ≤ y.number) is
    (all-is (λ (y : OpenCall). below ≤ y.txn.number) s.calls place c a e)) g refl w k) in
    record {
      calls = subst (λ ds. CallsOk ds at u) (sym joined) (calls-after (all_closed cs out.replies) at rest caller call c.txn t u b g refl w);
      others = subst (OthersStay at cs) (sym joined) (others-then at cs (all_closed cs out.replies) _ h.others
          (others-after (all_closed cs out.replies) at rest caller call c.txn t.went.reply b));
      later = λ m k. later m (h.later m k);
      letters = all-append _ out.letters t.went.letters (all-map (λ (p : NodeNo × Letter). PrepareOk s p.1) _ out.letters (λ p k. later p.1 k) h.letters)
          (all-map (λ (p : NodeNo × Letter). LetterGoes d.numbers t.desk.numbers.next t.went.call p.1) _ t.went.letters
          (λ p k. prepare-new rest caller call t u p.1 refl g refl w k) g.letters);
    }
