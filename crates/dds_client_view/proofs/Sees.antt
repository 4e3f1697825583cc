-- What lines show of a run that stands.
use Rattle.std.proofs.Common.{◌≡◌, ◌<◌, ◌⊎◌, ℕ, ◌≤◌, inl, inr, Bool, true, false, List, [], ◌∷◌, ◌++◌, Option, Some, None, refl}
use Rattle.std.proofs.Common.{sym, ap, subst, ◌∙◌, arith, length}
use Rattle.std.specs.Prelude.{◌||◌, not, filter, map, ◌&&◌, ◌==◌, if◌then◌else◌}
use Rattle.std.specs.List.{AllByRecursion}
use Rattle.std.proofs.lemmas.Bool.{and_parts, both_ways, eqb-true}
use Rattle.std.proofs.lemmas.Bool.Decides.{nat_tests}
use Rattle.dds_base.specs.Op.{is_get}
use Rattle.dds_base.specs.declared.number.CallNo.{CallNo}
use Rattle.dds_base.specs.declared.op.Reply.{Reply}
use Rattle.dds_base.specs.declared.op.Reply.TheVariants as reply
use Rattle.dds_client_view.proofs.Calls.{told_answer}
use Rattle.dds_client_view.proofs.Shows.{IsOther}
use Rattle.dds_client_view.specs.Client as client
use Rattle.dds_client_view.specs.Client.{HasOneBy, did_nothing, entry_of, fate_by, is_entry_of, is_loss, may_be_done}
use Rattle.dds_client_view.specs.Seen.{SeenCall, answer_in, answers_in, first_answer}
use Rattle.dds_cluster.specs.declared.trace.Asked.{Asked}
use Rattle.dds_cluster.specs.declared.trace.Made.{Made}
use Rattle.dds_cluster.specs.declared.trace.Told.{Told}
use Rattle.dds_core.proofs.Lists.{all-both, all-filter, all-map}
use Rattle.dds_history.specs.declared.entry.Entry.{Entry}
use Rattle.dds_net.proofs.Pairwise.{Pairwise}
use Rattle.dds_world.specs.Stands.{AnsweredOnce, AnsweredOnceBy, AtMostOneAfter, IsOfACall, RefusedNever, RefusedNeverBy, UnansweredOnceOrNever}
use Rattle.dds_world.specs.Stands.{UnansweredOnceOrNeverBy, answer_to, answers, entries_of, is_refusal, is_result}

abbrev pub entry_in : Made → Entry
entry_in m = m.entry

-- what lists of entries have in common with lists of points
filter-map : {A B : Type 0} (p : B → Bool) (f : A → B) (xs : List A) → filter p (map f xs) ≡ map f (filter (λ x. p (f x)) xs)
filter-map p f [] = refl
filter-map p f (x ∷ xs) =
    elim (p (f x)) as (λ b. (if b then f x ∷ filter p (map f xs) else filter p (map f xs)) ≡ map f
    (if b then x ∷ filter (λ y. p (f y)) xs else filter (λ y. p (f y)) xs)) [
      | true ↦ ap (λ l. f x ∷ l) (filter-map p f xs)
      | false ↦ filter-map p f xs
    ]

pub all-mapped : {A B : Type 0} (P : A → Type 0) (Q : B → Type 0) (f : A → B) (xs : List A) → ((x : A) → P x → Q (f x)) → AllByRecursion P xs
    → AllByRecursion Q (map f xs)
all-mapped P Q f [] h k = tt
all-mapped P Q f (x ∷ xs) h k = (h x k.0, all-mapped P Q f xs h k.1)

pub all-passed : {A : Type 0} (p : A → Bool) (xs : List A) → AllByRecursion (λ x. p x ≡ true) (filter p xs)
all-passed p [] = tt
all-passed {A} p (x ∷ xs) =
    elim (p x) as (λ b. p x ≡ b → AllByRecursion (λ (y : A). p y ≡ true) (if b then x ∷ filter p xs else filter p xs)) [
      | true ↦ λ e. (e, all-passed p xs)
      | false ↦ λ e. all-passed p xs
    ] refl

-- the points of a caller's call
abbrev own : List Made → ℕ → CallNo → List Made
own ms caller call = filter (λ (m : Made). m.entry.caller == caller && m.entry.call.0 == call.0) ms

own-entries : (ms : List Made) (c : SeenCall) (a : Asked) → a.caller ≡ c.caller → a.call ≡ c.call
    → client.entries_of (map entry_in ms) c ≡ map entry_in (entries_of ms a)
own-entries ms c a e f =
    filter-map (is_entry_of c) entry_in ms
    ∙ ap (λ n. map entry_in (own ms n c.call)) (sym e)
    ∙ ap (λ (n : CallNo). map entry_in (own ms a.caller n)) (sym f)

-- the answer to a call, as the transcript says it
abbrev pub reply_of : Option Told → Option Reply
reply_of None = None
reply_of (Some r) = Some r.reply

first-told : (rs : List Told) (caller : ℕ) (call : CallNo) → first_answer (map told_answer rs) caller call ≡ reply_of (answer_to rs caller call)
first-told [] caller call = refl
first-told (r ∷ rs) caller call =
    elim (r.caller == caller && r.call.0 == call.0) as (λ b. (if b then Some r.reply else first_answer (map told_answer rs) caller call) ≡ reply_of
    (if b then Some r else answer_to rs caller call)) [
      | true ↦ refl
      | false ↦ first-told rs caller call
    ]

pub answer-is : (lines : List _) (rs : List Told) (c : SeenCall) (a : Asked) → answers_in lines ≡ map told_answer rs → a.caller ≡ c.caller → a.call ≡ c.call
    → answer_in lines c ≡ reply_of (answer_to rs a.caller a.call)
answer-is lines rs c a e f g =
    ap (λ l. first_answer l c.caller c.call) e
    ∙ first-told rs c.caller c.call
    ∙ ap (λ n. reply_of (answer_to rs n c.call)) (sym f)
    ∙ ap (λ (n : CallNo). reply_of (answer_to rs a.caller n)) (sym g)

-- an answer among the first ones is the answer
pub answer-first : (xs ys : List Told) (caller : ℕ) (call : CallNo) (r : Told) → answer_to xs caller call ≡ Some r → answer_to (xs ++ ys) caller call ≡ Some r
answer-first [] ys caller call r e = absurd (cc)
answer-first (x ∷ xs) ys caller call r e =
    elim (answers caller call x) as (λ b. (if b then Some x else answer_to xs caller call) ≡ Some r
    → (if b then Some x else answer_to (xs ++ ys) caller call) ≡ Some r) [
      | true ↦ λ k. k
      | false ↦ λ k. answer-first xs ys caller call r k
    ] e

pub answer-has : (P : Told → Type 0) (xs : List Told) (caller : ℕ) (call : CallNo) (r : Told) → AllByRecursion P xs → answer_to xs caller call ≡ Some r → P r
answer-has P [] caller call r h e = absurd (cc)
answer-has P (x ∷ xs) caller call r h e =
    elim (answers caller call x) as (λ b. (if b then Some x else answer_to xs caller call) ≡ Some r → P r) [
      | true ↦ λ k. let is : x ≡ r = cc in subst P is h.0
      | false ↦ λ k. answer-has P xs caller call r h.1 k
    ] e

pub answer-own : (xs : List Told) (caller : ℕ) (call : CallNo) (r : Told) → answer_to xs caller call ≡ Some r → (r.caller ≡ caller) × (r.call ≡ call)
answer-own [] caller call r e = absurd (cc)
answer-own (x ∷ xs) caller call r e =
    elim (answers caller call x)
    as (λ b. answers caller call x ≡ b → (if b then Some x else answer_to xs caller call) ≡ Some r → (r.caller ≡ caller) × (r.call ≡ call)) [
      | true ↦ λ test k.
          let is : x ≡ r = cc in
          let parts = and_parts (x.caller == caller) (x.call.0 == call.0) test in
          let number : x.call.0 ≡ call.0 = eqb-true x.call.0 call.0 parts.1 in
          let its : x.call ≡ call = λ i. record { 0 = number i } in
          (sym (ap (λ (y : Told). y.caller) is) ∙ eqb-true x.caller caller parts.0, sym (ap (λ (y : Told). y.call) is) ∙ its)
      | false ↦ λ test k. answer-own xs caller call r k
    ] refl e

-- the calls of the run have different callers or numbers, so an entry has its call's operation
abbrev pub HasOp : List Asked → Asked → Type 0
HasOp asked a = (m : Made) → IsOfACall asked m → m.entry.caller ≡ a.caller → m.entry.call ≡ a.call → m.entry.op ≡ a.op

is-other : (a : Asked) (asked : List Asked) (m : Made) → AllByRecursion (IsOther a) asked → IsOfACall asked m → m.entry.caller ≡ a.caller
    → m.entry.call ≡ a.call → ⊥
is-other a [] m h k e f = k
is-other a (b ∷ asked) m h (inl k) e f = h.0 (sym e ∙ k.0) (ap (λ (n : CallNo). n.0) (sym f ∙ k.1))
is-other a (b ∷ asked) m h (inr k) e f = is-other a asked m h.1 k e f

op-first : (a : Asked) (asked : List Asked) (m : Made) → AllByRecursion (IsOther a) asked → IsOfACall (a ∷ asked) m → m.entry.caller ≡ a.caller
    → m.entry.call ≡ a.call
    → m.entry.op ≡ a.op
op-first a asked m h (inl k) e f = k.2
op-first a asked m h (inr k) e f = absurd (is-other a asked m h k e f)

op-later : (a b : Asked) (asked : List Asked) (m : Made) → IsOther a b → HasOp asked b → IsOfACall (a ∷ asked) m → m.entry.caller ≡ b.caller
    → m.entry.call ≡ b.call
    → m.entry.op ≡ b.op
op-later a b asked m h k (inl i) e f = absurd (h (sym i.0 ∙ e) (ap (λ (n : CallNo). n.0) (sym i.1 ∙ f)))
op-later a b asked m h k (inr i) e f = k m i e f

pub have-ops : (asked : List Asked) → Pairwise IsOther asked → AllByRecursion (HasOp asked) asked
have-ops [] h = tt
have-ops (a ∷ asked) h = (
  (λ m k e f. op-first a asked m h.0 k e f),
  all-map (λ b. IsOther a b × HasOp asked b) (HasOp (a ∷ asked)) asked (λ b k m i e f. op-later a b asked m k.0 k.1 i e f)
      (all-both (IsOther a) (HasOp asked) asked h.0 (have-ops asked h.1)),
)

-- what both say of replies
pub result-same : (r : Reply) → client.is_result r ≡ is_result r
result-same (reply.Value value) = refl
result-same reply.Absent = refl
result-same (reply.Done was) = refl
result-same (reply.Swapped done) = refl
result-same (reply.Again met) = refl
result-same (reply.Full brick) = refl
result-same (reply.Lost name) = refl

refusal-same : (r : Reply) → client.is_refusal r ≡ is_refusal r
refusal-same (reply.Value value) = refl
refusal-same reply.Absent = refl
refusal-same (reply.Done was) = refl
refusal-same (reply.Swapped done) = refl
refusal-same (reply.Again met) = refl
refusal-same (reply.Full brick) = refl
refusal-same (reply.Lost name) = refl

-- a reply that isn't a result
pub no-result : (r : Reply) → is_result r ≡ false → (is_refusal r ≡ true) ⊎ (is_loss r ≡ true)
no-result (reply.Again met) e = inl refl
no-result (reply.Full brick) e = inl refl
no-result (reply.Lost name) e = inr refl
no-result other e = absurd (cc)

loss-no-result : (r : Reply) → is_loss r ≡ true → is_result r ≡ false
loss-no-result (reply.Lost name) e = refl
loss-no-result other e = absurd (cc)

-- a call that was answered is over: where it was answered Lost it is an update, and an update has no entry behind its answer
abbrev pub IsOverBy : List Made → Asked → Option Told → Type 0
IsOverBy ms a None = Unit {0}
IsOverBy ms a (Some r) = (is_loss r.reply ≡ true → is_get a.op ≡ false) × (is_get a.op ≡ false → AllByRecursion (λ m. m.place < r.place) (entries_of ms a))

abbrev pub IsOver : List Told → List Made → Asked → Type 0
IsOver told ms a = IsOverBy ms a (answer_to told a.caller a.call)

-- what is so of a call of the run
pub record Keeps (told : List Told) (ms : List Made) (asked : List Asked) (a : Asked) : Type 0 where
  pub answered : AnsweredOnce told ms a
  pub refused : RefusedNever told ms a
  pub unanswered : UnansweredOnceOrNever told ms a
  pub op : HasOp asked a
  pub over : IsOver told ms a

-- the entry of an answered call
the-entry : (c : SeenCall) (a : Asked) (r : Reply) (m : Made) → a.caller ≡ c.caller → a.call ≡ c.call → a.op ≡ c.op
    → m.entry.caller ≡ a.caller → m.entry.call ≡ a.call → m.entry.op ≡ a.op → m.entry.reply ≡ r → m.entry ≡ entry_of c r
the-entry c a r m e f g p q s t =
    let caller : m.entry.caller ≡ c.caller = p ∙ e in
    let call : m.entry.call ≡ c.call = q ∙ f in
    let op : m.entry.op ≡ c.op = s ∙ g in
    λ i. record { caller = caller i; call = call i; op = op i; reply = t i }

one-there : (P : Made → Type 0) (xs : List Made) (m : Made) → xs ≡ m ∷ [] → AllByRecursion P xs → P m
one-there P xs m e h = (subst (AllByRecursion P) e h).0

pub has-one : (told : List Told) (ms : List Made) (asked : List Asked) (c : SeenCall) (a : Asked) (t : Option Told) → a.caller ≡ c.caller → a.call ≡ c.call
    → a.op ≡ c.op
    → AllByRecursion (IsOfACall asked) ms → HasOp asked a → AnsweredOnceBy ms a t
    → HasOneBy c (fate_by false (reply_of t)) (client.entries_of (map entry_in ms) c)
has-one told ms asked c a None e f g all op h = tt
has-one told ms asked c a (Some r) e f g all op h = λ result.
    let one = h (sym (result-same r.reply) ∙ result) in
    let m = one.entry in
    let its = one-there (IsOfACall asked) (entries_of ms a) m one.only (all-filter (IsOfACall asked) _ ms all) in
    let is = one-there (λ x. (x.entry.caller == a.caller && x.entry.call.0 == a.call.0) ≡ true) (entries_of ms a) m one.only (all-passed _ ms) in
    let caller : m.entry.caller ≡ a.caller = grind (arith, nat_tests, is) in
    let number : m.entry.call.0 ≡ a.call.0 = grind (arith, nat_tests, is) in
    let call : m.entry.call ≡ a.call = λ i. record { 0 = number i } in
    own-entries ms c a e f
    ∙ ap (map entry_in) one.only
    ∙ ap (λ (x : Entry). x ∷ []) (the-entry c a r.reply m e f g caller call (op m its caller call) one.reply)

pub has-none : (ms : List Made) (c : SeenCall) (a : Asked) (t : Option Told) → a.caller ≡ c.caller → a.call ≡ c.call → a.op ≡ c.op
    → RefusedNeverBy ms a t → IsOverBy ms a t → did_nothing c.op (fate_by false (reply_of t)) ≡ true → client.entries_of (map entry_in ms) c ≡ []
has-none ms c a None e f g h over nothing = own-entries ms c a e f ∙ ap (map entry_in) (h (ap is_get g ∙ nothing))
has-none ms c a (Some r) e f g h over nothing =
    elim (client.is_refusal r.reply)
    as (λ b. client.is_refusal r.reply ≡ b → (b || (is_get c.op && is_loss r.reply)) ≡ true → client.entries_of (map entry_in ms) c ≡ []) [
      | true ↦ λ refused any. own-entries ms c a e f ∙ ap (map entry_in) (h (sym (refusal-same r.reply) ∙ refused))
      | false ↦ λ no both.
          let parts = and_parts (is_get c.op) (is_loss r.reply) both in
          absurd (both_ways (is_get a.op) (over.0 parts.1) (ap is_get g ∙ parts.0))
    ] refl nothing

at-most : (at : ℕ) (ms : List Made) → AtMostOneAfter at ms → length (map entry_in ms) ≤ 1
at-most at [] h = omega arith
at-most at (m ∷ []) h = omega arith
at-most at (m ∷ n ∷ ms) h = absurd h

from-not : (b : Bool) → not b ≡ true → b ≡ false
from-not true e = absurd (cc)
from-not false e = refl

pub has-at-most-one : (ms : List Made) (c : SeenCall) (a : Asked) (t : Option Told) → a.caller ≡ c.caller → a.call ≡ c.call → a.op ≡ c.op
    → UnansweredOnceOrNeverBy ms a t → may_be_done c.op (fate_by false (reply_of t)) ≡ true → length (client.entries_of (map entry_in ms) c) ≤ 1
has-at-most-one ms c a None e f g h open_update =
    omega (arith, ap length (own-entries ms c a e f), at-most a.place (entries_of ms a) (h (ap is_get g ∙ from-not (is_get c.op) open_update)))
has-at-most-one ms c a (Some r) e f g h lost =
    let parts = and_parts (not (is_get c.op)) (is_loss r.reply) lost in
    omega (arith, ap length (own-entries ms c a e f), at-most a.place (entries_of ms a) (h (loss-no-result r.reply parts.1)))
