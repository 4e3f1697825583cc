use Rattle.std.proofs.Common.{◌≡◌, ℕ, zero, suc, ◌&&◌, ◌==◌, ◌||◌, Bool, true, false, not, Option, Some, None, List, [], ◌∷◌, refl, sym, ap, ◌∙◌}
use Rattle.std.proofs.Common.{subst}
use Rattle.std.proofs.lemmas.Bool.{and_from, and_parts, both_ways, eq-eqb, eqb-true}
use Rattle.std.specs.List.{AllByRecursion, list_any}
use Rattle.std.specs.Prelude.{filter, slice_get, if◌then◌else◌}
use Rattle.dds_base.specs.Number.{Txn}
use Rattle.dds_base.specs.Op.{is_get}
use Rattle.dds_base.specs.declared.number.CallNo.{CallNo}
use Rattle.dds_base.specs.declared.op.Reply.{Reply}
use Rattle.dds_base.specs.declared.op.Reply.TheVariants as reply
use Rattle.dds_books.specs.Books.{Entry}
use Rattle.dds_cluster.specs.Lists.{is_answer, is_read_of}
use Rattle.dds_cluster.specs.Trace.{is_run, run_of}
use Rattle.dds_cluster.specs.declared.step.Step.{Step}
use Rattle.dds_cluster.specs.declared.trace.Asked.{Asked}
use Rattle.dds_cluster.specs.declared.trace.Made.{Made}
use Rattle.dds_cluster.specs.declared.trace.Told.{Told}
use Rattle.dds_core.proofs.CallTurns.{same-is}
use Rattle.dds_core.proofs.Lists.{all-is}
use Rattle.dds_net.proofs.Pairwise.{Pairwise}
use Rattle.dds_script.specs.Opening.{IsOpening, OpeningOf}
use Rattle.dds_world.specs.Stands.{AtMostOneAfter, RefusedNeverBy, UnansweredOnceOrNeverBy, answer_to, answers, entries_of}
use Rattle.dds_world.specs.Stands.{is_refusal, is_result, placed_history, stands_in}
use Rattle.dds_calls.proofs.Asked.{MadeOf, all-each, one-asked}
use Rattle.dds_calls.proofs.Entries.{run-asked}
use Rattle.dds_calls.proofs.Naming.{PointFor, ToldFor, run-named}
use Rattle.dds_calls.proofs.Refused.{the_no}
use Rattle.dds_calls.proofs.Shutting.{OtherTold}
use Rattle.dds_calls.proofs.Telling.{run-telling}
use Rattle.dds_calls.specs.Law.{GetsStandAnswered}

-- A get that is open or was refused has no entry: what it read answered no call.

-- one of them that satisfies a test
record Found {X : Type 0} (p : X → Bool) (xs : List X) : Type 0 where
  index : ℕ
  it : X
  there : slice_get xs index ≡ Some it
  is : p it ≡ true

found : {X : Type 0} (p : X → Bool) (xs : List X) → list_any p xs ≡ true → Found p xs
found p [] e = cc
found p (x ∷ xs) e = by (p x) refl e (λ f. found p xs f)
  where
    by : (b : Bool) → p x ≡ b → (b || list_any p xs) ≡ true → (list_any p xs ≡ true → Found p xs) → Found p (x ∷ xs)
    by true is f rest = record { index = zero; it = x; there = refl; is = is }
    by false is f rest = let k = rest f in record { index = suc k.index; it = k.it; there = k.there; is = k.is }

-- nothing passes both tests
none-both : {X : Type 0} (p q : X → Bool) (xs : List X) → AllByRecursion (λ x. q x ≡ true → p x ≡ true → ⊥) xs → filter p (filter q xs) ≡ []
none-both p q [] h = refl
none-both p q (x ∷ xs) h = by (q x) (p x) refl refl (none-both p q xs h.1)
  where
    by : (b c : Bool) → q x ≡ b → p x ≡ c → filter p (filter q xs) ≡ [] → filter p (if b then x ∷ filter q xs else filter q xs) ≡ []
    by false c e f rest = rest
    by true true e f rest = absurd (h.0 e f)
    by true false e f rest = ap (λ d. if d then x ∷ filter p (filter q xs) else filter p (filter q xs)) f ∙ rest

-- the answer to a call is the one answer of this call
abbrev Of : ℕ → CallNo → Told → Type 0
Of caller call r = (r.caller ≡ caller) × (r.call.0 ≡ call.0)

answers-it : (caller : ℕ) (call : CallNo) (r : Told) → Of caller call r → answers caller call r ≡ true
answers-it caller call r h = and_from (r.caller == caller) (r.call.0 == call.0) (eq-eqb r.caller caller h.0) (eq-eqb r.call.0 call.0 h.1)

its-answer : (told : List Told) (caller : ℕ) (call : CallNo) (j : ℕ) (r : Told) → Pairwise OtherTold told → slice_get told j ≡ Some r → Of caller call r
    → answer_to told caller call ≡ Some r
its-answer [] caller call j r h e o = cc
its-answer (x ∷ xs) caller call j r h e o = by (answers caller call x) refl j e (λ k f. its-answer xs caller call k r h.1 f o)
  where
    by : (b : Bool) → answers caller call x ≡ b → (k : ℕ) → slice_get (x ∷ xs) k ≡ Some r
        → ((i : ℕ) → slice_get xs i ≡ Some r → answer_to xs caller call ≡ Some r) → (if b then Some x else answer_to xs caller call) ≡ Some r
    by true is zero f rest = f
    by true is (suc k) f rest =
        let p = and_parts (x.caller == caller) (x.call.0 == call.0) is in
        absurd (all-is (OtherTold x) xs k r h.0 f (eqb-true x.caller caller p.0 ∙ sym o.0) (eqb-true x.call.0 call.0 p.1 ∙ sym o.1))
    by false other zero f rest =
        let same : x ≡ r = cc in
        absurd (both_ways (answers caller call x) other (ap (answers caller call) same ∙ answers-it caller call r o))
    by false other (suc k) f rest = rest k f

-- who read an entry's value
record Reader (told : List Told) (caller : ℕ) (call : CallNo) : Type 0 where
  answer : answer_to told caller call ≡ None → ⊥
  result : (t : Told) → answer_to told caller call ≡ Some t → is_result t.reply ≡ true

read-txn : (txn : Txn) (o : Option Txn) → is_read_of txn o ≡ true → o ≡ Some txn
read-txn txn None e = cc
read-txn txn (Some u) e = ap Some (same-is u txn e)

-- an answer that read for the attempt of a point is of the point's call
reader-is : (told : List Told) (a : Asked) (m : Made) (r : Told) (j : ℕ) (x y : Entry) → Pairwise OtherTold told → slice_get told j ≡ Some r
    → m.entry.caller ≡ a.caller → m.entry.call.0 ≡ a.call.0 → x ≡ y → x.caller ≡ m.entry.caller → x.call ≡ m.entry.call → y.caller ≡ r.caller
    → y.call ≡ r.call → is_result r.reply ≡ true → Reader told a.caller a.call
reader-is told a m r j x y once there p q one xc xn yc yn good =
    let callers : r.caller ≡ a.caller = sym yc ∙ ap (λ (e : Entry). e.caller) (sym one) ∙ xc ∙ p in
    let calls : r.call.0 ≡ a.call.0 = ap the_no (sym yn ∙ ap (λ (e : Entry). e.call) (sym one) ∙ xn) ∙ q in
    let its = its-answer told a.caller a.call j r once there (callers, calls) in
    record {
      answer = λ none. let bad : None ≡ Some r = sym none ∙ its in cc;
      result = λ t is. let same : r ≡ t = let both = sym its ∙ is in cc in ap (λ (z : Told). is_result z.reply) (sym same) ∙ good;
    }

reader-of : (o : OpeningOf) (journal : List Step) (i : ℕ) (a : Asked) (j : ℕ) (m : Made) → IsOpening o → is_run o journal ≡ true
    → slice_get (run_of o journal).asked i ≡ Some a → is_get a.op ≡ true → slice_get (run_of o journal).made j ≡ Some m → m.entry.caller ≡ a.caller
    → m.entry.call.0 ≡ a.call.0 → stands_in (run_of o journal).told m ≡ true → Reader (run_of o journal).told a.caller a.call
reader-of o journal i a j m h run there get point p q stands =
    let t = run_of o journal in
    let g = run-asked o journal h.ranges run in
    let w = all-is (MadeOf t.asked) t.made j m g.made point in
    let same : a ≡ w.it = one-asked t.asked i w.index a w.it g.apart there w.there (sym p ∙ sym w.caller_is)
    (sym q ∙ sym (ap the_no w.call_is)) in
    let is_read : is_get m.entry.op ≡ true = ap is_get (sym w.op_is) ∙ ap (λ (x : Asked). is_get x.op) (sym same) ∙ get in
    let answered : is_answer t.told m.txn ≡ true = sym (ap (λ b. not b || is_answer t.told m.txn) is_read) ∙ stands in
    let f = found (λ (r : Told). is_read_of m.txn r.read) t.told answered in
    let n = run-named o journal h run in
    let mine = all-is (PointFor n.book) t.made j m n.named.points point in
    let its = all-is (ToldFor n.book) t.told f.index f.it n.named.reads f.there m.txn (read-txn m.txn f.it.read f.is) in
    let one : mine.its ≡ its.0.its = let both = sym mine.there ∙ its.0.there in cc in
    reader-is t.told a m f.it f.index mine.its its.0.its (run-telling o journal h.ranges run).once f.there p q one mine.caller_is mine.call_is
    its.0.caller_is its.0.call_is its.1

no-entries : (o : OpeningOf) (journal : List Step) (i : ℕ) (a : Asked) → IsOpening o → is_run o journal ≡ true
    → slice_get (run_of o journal).asked i ≡ Some a → is_get a.op ≡ true → (Reader (run_of o journal).told a.caller a.call → ⊥)
    → entries_of (placed_history (run_of o journal)) a ≡ []
no-entries o journal i a h run there get f =
    let t = run_of o journal in
    none-both (λ (m : Made). m.entry.caller == a.caller && m.entry.call.0 == a.call.0) (stands_in t.told) t.made
    (all-each _ t.made (λ j m point stands match.
    let p = and_parts (m.entry.caller == a.caller) (m.entry.call.0 == a.call.0) match in
    f (reader-of o journal i a j m h run there get point (eqb-true m.entry.caller a.caller p.0) (eqb-true m.entry.call.0 a.call.0 p.1) stands)))

no-refusal : (r : Reply) → is_result r ≡ true → is_refusal r ≡ false
no-refusal (reply.Value value) e = refl
no-refusal reply.Absent e = refl
no-refusal (reply.Done was) e = refl
no-refusal (reply.Swapped done) e = refl
no-refusal (reply.Again m) e = cc
no-refusal (reply.Full brick) e = cc
no-refusal (reply.Lost name) e = cc

never : (o : OpeningOf) (journal : List Step) (i : ℕ) (a : Asked) (x : Option Told) → IsOpening o → is_run o journal ≡ true
    → slice_get (run_of o journal).asked i ≡ Some a → is_get a.op ≡ true → answer_to (run_of o journal).told a.caller a.call ≡ x
    → RefusedNeverBy (placed_history (run_of o journal)) a x
never o journal i a None h run there get e = λ k. no-entries o journal i a h run there get (λ r. r.answer e)
never o journal i a (Some t) h run there get e =
    λ refused. no-entries o journal i a h run there get (λ r. both_ways (is_refusal t.reply) (no-refusal t.reply (r.result t e)) refused)

pub once-or-never : (o : OpeningOf) (journal : List Step) (i : ℕ) (a : Asked) (x : Option Told) → IsOpening o → is_run o journal ≡ true
    → slice_get (run_of o journal).asked i ≡ Some a → is_get a.op ≡ true → answer_to (run_of o journal).told a.caller a.call ≡ x
    → UnansweredOnceOrNeverBy (placed_history (run_of o journal)) a x
once-or-never o journal i a None h run there get e = λ e. absurd (both_ways (is_get a.op) e get)
once-or-never o journal i a (Some t) h run there get e =
    λ bad. subst (AtMostOneAfter a.place) (sym (no-entries o journal i a h run there get (λ r. both_ways (is_result t.reply) bad (r.result t e)))) tt

pub gets-stand-answered : GetsStandAnswered
gets-stand-answered o journal h run =
    all-each _ (run_of o journal).asked (λ i a there get. (never o journal i a _ h run there get refl, once-or-never o journal i a _ h run there get refl))
