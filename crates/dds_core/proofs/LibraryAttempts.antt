use Rattle.std.proofs.Common.{◌≡◌, ℕ, ◌+◌, ◌<◌, ◌≤◌, inl, inr, Option, Some, None, List, [], ◌∷◌, ◌++◌, refl, sym, ap, ◌∙◌, subst, arith}
use Rattle.std.specs.List.{AllByRecursion, remove}
use Rattle.std.specs.Prelude.{option_to_list}
use Rattle.dds_base.specs.Number.{Txn}
use Rattle.dds_base.specs.declared.number.CallNo.{CallNo}
use Rattle.dds_base.specs.declared.number.NodeNo.{NodeNo}
use Rattle.dds_base.specs.declared.op.Op.{Op}
use Rattle.dds_base.specs.declared.op.Reply.{Reply}
use Rattle.dds_call_rows.specs.Library.{CallTurn, begin}
use Rattle.dds_core.specs.LibraryTurn.{call_row, desk_of, input_turn, live_library_turn, new_request, put_back, replies_of}
use Rattle.dds_letters.specs.declared.letter.Letter.{Letter}
use Rattle.dds_letters.specs.declared.letter.Letter.TheVariants as letter
use Rattle.dds_states.specs.Turn.{both, no_out}
use Rattle.dds_states.specs.declared.library_state.Desk.{Desk}
use Rattle.dds_states.specs.declared.library_state.LibraryState.{LibraryState}
use Rattle.dds_states.specs.declared.library_state.OpenCall.{OpenCall}
use Rattle.dds_states.specs.declared.library_state.TxnNumbers.{TxnNumbers}
use Rattle.dds_states.specs.declared.turn.CoreTurn.{CoreTurn}
use Rattle.dds_states.specs.declared.turn.Replied.{Replied}
use Rattle.dds_states.specs.declared.turn.Replied.TheVariants as replied
use Rattle.dds_core.proofs.CallDoes.{Begins, CallDoes, IsStop, call-does, new-begins}
use Rattle.dds_core.proofs.CallTurns.{Concerns, OneKeeps, heard, library-keeps}
use Rattle.dds_core.proofs.Lists.{all-append, all-is, all-map, all-put, all-taken}
use Rattle.dds_core.proofs.CallAttempts.{AllFrom, Begun, Goes, Stays, all-from, begun, does}

-- Whose the attempts of a library's open calls are, and whose those of the letters that it sends.

-- an open call has an attempt of the library that is no longer to come, and K holds of it
pub record IsOpen (K : OpenCall → Type 0) (number next : ℕ) (c : OpenCall) : Type 0 where
  pub library : c.txn.library ≡ number
  pub below : c.txn.number < next
  pub kept : K c

abbrev pub AreOpen : (OpenCall → Type 0) → LibraryState → Type 0
AreOpen K s = AllByRecursion (IsOpen K s.number s.next) s.calls

-- the open call with this attempt number is this one
abbrev pub IsOf : ℕ → ℕ → CallNo → OpenCall → Type 0
IsOf number caller call c = c.txn.number ≡ number → (c.request.caller ≡ caller) × (c.request.call ≡ call)

-- the attempt isn't to come, and is of no other open call than this one
pub record Tied (s : LibraryState) (txn : Txn) (caller : ℕ) (call : CallNo) : Type 0 where
  pub below : txn.number < s.next
  pub calls : AllByRecursion (IsOf txn.number caller call) s.calls

abbrev pub IsSent : LibraryState → Txn → ℕ → CallNo → Type 0
IsSent s txn caller call = (txn.library ≡ s.number) × Tied s txn caller call

abbrev pub IsCallReply : Replied → Type 0
IsCallReply (replied.Call txn caller call reply) = Unit {0}
IsCallReply (replied.Order reply) = ⊥

-- a library that was so before it gave this
pub record Attempts (K : OpenCall → Type 0) (old s : LibraryState) (out : CoreTurn) : Type 0 where
  pub number : s.number ≡ old.number
  pub calls : AreOpen K s
  pub ties : (txn : Txn) (caller : ℕ) (call : CallNo) → Tied old txn caller call → Tied s txn caller call
  pub letters : AllFrom (IsSent s) out.letters
  pub replies : AllByRecursion IsCallReply out.replies

attempts-then : {K : OpenCall → Type 0} (old s u : LibraryState) (out more : CoreTurn) → Attempts K old s out → Attempts K s u more
    → Attempts K old u (both out more)
attempts-then old s u out more h k =
    record {
      number = k.number ∙ h.number;
      calls = k.calls;
      ties = λ txn a b tie. k.ties txn a b (h.ties txn a b tie);
      letters = all-append _ out.letters more.letters (all-from (IsSent s) (IsSent u) out.letters
          (λ txn a b t. (t.0 ∙ sym k.number, k.ties txn a b t.1)) h.letters) k.letters;
      replies = all-append IsCallReply out.replies more.replies h.replies k.replies;
    }

-- the other calls beside the one that has its turn
record Beside (K : OpenCall → Type 0) (s : LibraryState) (rest : List OpenCall) (caller : ℕ) (call : CallNo) (old : Option Txn) : Type 0 where
  pub others : AllByRecursion (IsOpen K s.number s.next) rest
  pub own : (txn : Txn) → old ≡ Some txn → (txn.library ≡ s.number) × (txn.number < s.next)
  pub ties : (txn : Txn) (a : ℕ) (b : CallNo) → Tied s txn a b → AllByRecursion (IsOf txn.number a b) rest
  pub mine : (txn k : Txn) (a : ℕ) (b : CallNo) → Tied s txn a b → old ≡ Some k → k.number ≡ txn.number → (caller ≡ a) × (call ≡ b)

-- these calls are the others, and perhaps one more
record IsWith (all rest : List OpenCall) (o : Option OpenCall) : Type 1 where
  pub holds : (P : OpenCall → Type 0) → AllByRecursion P rest → ((x : OpenCall) → o ≡ Some x → P x) → AllByRecursion P all

back-with : (rest : List OpenCall) (place : ℕ) (o : Option OpenCall) → IsWith (put_back rest place o) rest o
back-with rest place None = record { holds = λ P h f. h }
back-with rest place (Some x) = record { holds = λ P h f. all-put P rest place x (f x refl) h }

end-with : (rest : List OpenCall) (o : Option OpenCall) → IsWith (rest ++ option_to_list o) rest o
end-with rest None = record { holds = λ P h f. all-append P rest [] h tt }
end-with rest (Some x) = record { holds = λ P h f. all-append P rest (x ∷ []) h (f x refl, tt) }

still-open : {K : OpenCall → Type 0} {n : TxnNumbers} {old : Option Txn} (s : LibraryState) (rest : List OpenCall) (next caller : ℕ) (call : CallNo)
    (x : OpenCall) → n.library ≡ s.number → n.next ≡ s.next → n.next ≤ next → Beside K s rest caller call old → Stays n next caller call old x → K x
    → IsOpen K s.number next x
still-open s rest next caller call x lib from more b st k = elim st.attempt [
  | inl e ↦ let o = b.own x.txn e in let low = o.1 in record { library = o.0; below = omega (arith, low, from, more); kept = k }
  | inr f ↦ record { library = f.library ∙ lib; below = f.below; kept = k }
]

still-of : {K : OpenCall → Type 0} {n : TxnNumbers} {old : Option Txn} (s : LibraryState) (rest : List OpenCall) (next caller : ℕ) (call : CallNo)
    (x : OpenCall) (txn : Txn) (a : ℕ) (b : CallNo) → n.next ≡ s.next → Beside K s rest caller call old → Stays n next caller call old x → Tied s txn a b
    → IsOf txn.number a b x
still-of s rest next caller call x txn a b from beside st tie e = elim st.attempt [
  | inl same ↦ let o = beside.mine txn x.txn a b tie same e in (st.caller_is ∙ o.0, st.call_is ∙ o.1)
  | inr f ↦ let low = tie.below in let high = f.from in absurd (omega (arith, low, high, from, e))
]

call-replies : (caller : ℕ) (call : CallNo) (txn : Txn) (o : Option Reply) → AllByRecursion IsCallReply (replies_of caller call txn o)
call-replies caller call txn None = tt
call-replies caller call txn (Some reply) = (tt, tt)

-- a call has had its turn
turned : {K : OpenCall → Type 0} {n : TxnNumbers} {old : Option Txn} (s u : LibraryState) (rest : List OpenCall) (caller : ℕ) (call : CallNo) (txn : Txn)
    (t : CallTurn) → n.library ≡ s.number → n.next ≡ s.next → u.number ≡ s.number → u.next ≡ t.desk.numbers.next → Beside K s rest caller call old
    → Goes n caller call old t → IsWith u.calls rest t.went.call → ((x : OpenCall) → t.went.call ≡ Some x → K x)
    → Attempts K s u (record { letters = t.went.letters; points = []; replies = replies_of caller call txn t.went.reply })
turned {K = K} {n = n} {old = old} s u rest caller call txn t lib from number next b g w kept =
    let later = t.desk.numbers.next in
    let more = g.next in
    record {
      number = number;
      calls = subst (λ i. AllByRecursion (IsOpen K i u.next) u.calls) (sym number)
          (subst (λ i. AllByRecursion (IsOpen K s.number i) u.calls) (sym next) (w.holds (IsOpen K s.number later)
          (all-map _ _ rest (λ c o. let low = o.below in record { library = o.library; below = omega (arith, low, from, more); kept = o.kept }) b.others)
          (λ x e. still-open s rest later caller call x lib from more b (g.stays x e) (kept x e))));
      ties = λ k a c tie.
          let low = tie.below in
          record {
            below = omega (arith, low, from, more, next);
            calls = w.holds (IsOf k.number a c) (b.ties k a c tie)
                (λ x e. still-of s rest later caller call x k a c from b (g.stays x e) tie);
          };
      letters = all-from (Begun n later caller call) (IsSent u) t.went.letters (λ k a c h.
          let f = h.0 in
          let low = f.below in
          let high = f.from in (
            f.library ∙ lib ∙ sym number,
            record {
              below = omega (arith, low, next);
              calls = w.holds (IsOf k.number a c)
                  (all-map _ (IsOf k.number a c) rest (λ d o e. let old_one = o.below in absurd (omega (arith, old_one, high, from, e))) b.others)
                  (λ x e is. let st = g.stays x e in (st.caller_is ∙ sym h.1, st.call_is ∙ sym h.2));
            },
          )) g.letters;
      replies = call-replies caller call txn t.went.reply;
    }

-- what was tied to a call in the library before is tied to it in the library that has the call open now
pub record IsHeld (old : LibraryState) (c : OpenCall) : Type 0 where
  pub library : c.txn.library ≡ old.number
  pub ties : (txn : Txn) (a : ℕ) (b : CallNo) → Tied old txn a b → IsOf txn.number a b c

-- K is kept by what each call's turn does
abbrev pub CallsKeep : (OpenCall → Type 0) → LibraryState → NodeNo → Letter → Type 0
CallsKeep K old from l =
    (d : Desk) (c : OpenCall) (t : CallTurn) (x : OpenCall) → Concerns l c → IsHeld old c → CallDoes d c from l t → K c → t.went.call ≡ Some x → K x

one-keeps : (K : OpenCall → Type 0) (old : LibraryState) (from : NodeNo) (l : Letter) → CallsKeep K old from l → OneKeeps (Attempts K old) from l
one-keeps K old from l keeps s out place c is concerns h =
    let rest = remove s.calls place in
    let d = desk_of (record s { calls = rest }) rest in
    let does_so = call-does d c from l in
    let t = call_row d c from l in
    let own = all-is (IsOpen K s.number s.next) s.calls place c h.calls is in
    let u = record s { map = t.desk.map; next = t.desk.numbers.next; calls = put_back rest place t.went.call } in
    let b : Beside K s rest c.request.caller c.request.call (Some c.txn) = record {
      others = all-taken _ s.calls place h.calls;
      own = λ txn e. let same : c.txn ≡ txn = cc in subst (λ (k : Txn). (k.library ≡ s.number) × (k.number < s.next)) same (own.library, own.below);
      ties = λ txn a b tie. all-taken _ s.calls place tie.calls;
      mine = λ txn k a b tie e same. let it : c.txn ≡ k = cc in all-is (IsOf txn.number a b) s.calls place c tie.calls is
          (ap (λ (j : Txn). j.number) it ∙ same);
    } in
    let held : IsHeld old c = record {
      library = own.library ∙ h.number;
      ties = λ txn a b tie. all-is (IsOf txn.number a b) s.calls place c
          (h.ties txn a b tie).calls is;
    } in
    attempts-then old s u out _ h (turned s u rest c.request.caller c.request.call c.txn t refl refl refl refl b (does d c from l t does_so)
    (back-with rest place t.went.call) (λ x e. keeps d c t x concerns held does_so own.kept e))

heard-so : (K : OpenCall → Type 0) (s : LibraryState) (from : NodeNo) (l : Letter) → AreOpen K s → Attempts K s (heard s from l) no_out
heard-so K s from letter.Notice h =
    record { number = refl; calls = h; ties = λ txn a b tie. record { below = tie.below; calls = tie.calls }; letters = tt; replies = tt }
heard-so K s from other h = record { number = refl; calls = h; ties = λ txn a b tie. tie; letters = tt; replies = tt }

-- a letter at a live library
pub library-attempts : (K : OpenCall → Type 0) (s : LibraryState) (from : NodeNo) (l : Letter) → CallsKeep K s from l → AreOpen K s
    → Attempts K s (live_library_turn s from l).state (live_library_turn s from l).out
library-attempts K s from l keeps h = library-keeps (Attempts K s) s from l (one-keeps K s from l keeps) (heard-so K s from l h)

-- a call at a live library
pub input-attempts : (K : OpenCall → Type 0) (s : LibraryState) (caller : ℕ) (call : CallNo) (o : Op)
    → ((d : Desk) (t : CallTurn) (x : OpenCall) → Begins IsStop d (new_request caller call o) t → t.went.call ≡ Some x → K x) → AreOpen K s
    → Attempts K s (input_turn s (new_request caller call o) (begin (desk_of s s.calls) (new_request caller call o))).state
    (input_turn s (new_request caller call o) (begin (desk_of s s.calls) (new_request caller call o))).out
input-attempts K s caller call o keeps h =
    let r = new_request caller call o in
    let d = desk_of s s.calls in
    let t = begin d r in
    let b : Beside K s s.calls caller call None = record {
      others = h;
      own = λ txn e. cc;
      ties = λ txn a b tie. tie.calls;
      mine = λ txn k a b tie e same. cc;
    } in
    turned s _ s.calls caller call _ t refl refl refl refl b (begun d r t (new-begins d r)) (end-with s.calls t.went.call)
    (λ x e. keeps d t x (new-begins d r) e)
