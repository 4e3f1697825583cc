use Rattle.std.proofs.Common.{◌≡◌, ℕ, ◌<◌, ◌==◌, ◌||◌, Bool, true, false, not, Option, Some, None, List, refl, sym, ap, ◌∙◌}
use Rattle.std.proofs.lemmas.Bool.{and_from, both_ways, eq-eqb}
use Rattle.std.specs.List.{AllByRecursion}
use Rattle.std.specs.Prelude.{slice_get}
use Rattle.dds_attempts.proofs.Runs.{Stands, stands-kept}
use Rattle.dds_base.specs.Number.{Txn}
use Rattle.dds_base.specs.Op.{is_get}
use Rattle.dds_base.specs.declared.number.CallNo.{CallNo}
use Rattle.dds_books.specs.Books.{Book, Entry, booked}
use Rattle.dds_calls.proofs.Answered.{IsOf, of-answer}
use Rattle.dds_calls.proofs.Asked.{MadeOf, all-each, one-asked}
use Rattle.dds_calls.proofs.Entries.{run-asked}
use Rattle.dds_calls.proofs.Naming.{PointFor, ToldFor, run-named}
use Rattle.dds_calls.proofs.Shutting.{OtherTold}
use Rattle.dds_calls.proofs.Telling.{run-telling}
use Rattle.dds_cluster.specs.Lists.{is_answer, is_read_of}
use Rattle.dds_cluster.specs.Trace.{is_run, run_of, start}
use Rattle.dds_cluster.specs.declared.step.Step.{Step}
use Rattle.dds_cluster.specs.declared.trace.Asked.{Asked}
use Rattle.dds_cluster.specs.declared.trace.Made.{Made}
use Rattle.dds_cluster.specs.declared.trace.Told.{Told}
use Rattle.dds_cluster.specs.declared.trace.Trace.{Trace}
use Rattle.dds_core.proofs.CallTurns.{same-is}
use Rattle.dds_core.proofs.Lists.{all-both, all-filter, all-is, all-map}
use Rattle.dds_net.proofs.Pairwise.{Pairwise, pairs-filter}
use Rattle.dds_net.proofs.Rungs.{Both, both_books, kept-over}
use Rattle.dds_net.proofs.Runs.{run-keeps}
use Rattle.dds_net.specs.Net.{sizes_of}
use Rattle.dds_once.proofs.Claim.{AllBehind, IsBehind}
use Rattle.dds_once.proofs.Lists.{at-most-one, pairs-from, taken-are}
use Rattle.dds_once.proofs.Runs.{call-is, is_of, of-parts, run-once, updates-stand-once}
use Rattle.dds_once.specs.Law.{UpdateOnce}
use Rattle.dds_script.specs.Opening.{IsOpening, OpeningOf}
use Rattle.dds_talk.proofs.Parts.{same-self}
use Rattle.dds_talk.specs.Books as talk
use Rattle.dds_world.specs.Stands.{AtMostOneAfter, entries_of, is_result, placed_history, stands_in}
use Rattle.dds_answered.proofs.Claim.{HasPoint, IsItsRead, IsItsUpdate, ToldBacked, was_applied, was_read}
use Rattle.dds_answered.proofs.Having.{Has}
use Rattle.dds_answered.proofs.Kept.{AreBackedOver, backed-kept}
use Rattle.dds_answered.proofs.Lists.{any-there, at-filter, found, one-item, the-only}
use Rattle.dds_answered.proofs.Reading.{OtherRead}
use Rattle.dds_answered.proofs.ReadOnce.{AreReadOver, reads-kept}
use Rattle.dds_answered.proofs.Sought.{Sought, seeks}
use Rattle.dds_answered.proofs.Start.{start-answered}
use Rattle.dds_answered.specs.Law.{AnsweredCallsStand, HasItsEntry, StandsAnswered}

-- Of each run: the point of an answer is the one entry of its call. An update's is one of at most one; a get's is the read of the attempt that
-- answered, and that attempt read once.

record Answered (t : Trace) : Type 0 where
  told : AllByRecursion (ToldBacked t.made) t.told
  once : Pairwise OtherRead t.made

run-answered : (o : OpeningOf) (journal : List Step) → IsOpening o → is_run o journal ≡ true → Answered (run_of o journal)
run-answered o journal h run =
    let z = sizes_of o in
    let few = h.ranges.bricks in
    let ran = run-keeps z (((Book × talk.Books) × Unit {0}) × Sought) _ _ journal (start o) few
    (kept-over z ((Book × talk.Books) × Unit {0}) (both_books (λ i n e b. (booked e b.0, talk.adds i n e b.1)) (λ i n e b u. tt))
    (Both (Stands z) (AreBackedOver z)) Sought (λ i n e b g. seeks e g) (AreReadOver z)
    (kept-over z (Book × talk.Books) (λ i n e b. (booked e b.0, talk.adds i n e b.1)) (Stands z) (Unit {0}) (λ i n e b u. tt) (AreBackedOver z)
    (stands-kept z few h.ranges.libraries) (backed-kept z)) (reads-kept z few)) (start-answered o h) run in
    record { told = ran.is.0.1.told; once = ran.is.1.once }

-- a point of the call among the entries
of-both : (a : Asked) (m : Made) → m.entry.caller ≡ a.caller → m.entry.call ≡ a.call → is_of a m ≡ true
of-both a m p q =
    and_from (m.entry.caller == a.caller) (m.entry.call.0 == a.call.0) (eq-eqb m.entry.caller a.caller p)
    (eq-eqb m.entry.call.0 a.call.0 (ap (λ (c : CallNo). c.0) q))

read-of-it : (txn : Txn) (o : Option Txn) → o ≡ Some txn → is_read_of txn o ≡ true
read-of-it txn None e = cc
read-of-it txn (Some u) e = let is : u ≡ txn = cc in ap (λ w. is_read_of txn (Some w)) is ∙ same-self txn

read-is : (txn : Txn) (o : Option Txn) → is_read_of txn o ≡ true → o ≡ Some txn
read-is txn None e = cc
read-is txn (Some u) e = ap Some (same-is u txn e)

or-answer : (b c : Bool) → b ≡ true → (not b || c) ≡ true → c ≡ true
or-answer true c e h = h
or-answer false c e h = cc

stands-read : (b c : Bool) → c ≡ true → (not b || c) ≡ true
stands-read true c e = e
stands-read false c e = refl

module _ (o : OpeningOf) (journal : List Step) (h : IsOpening o) (run : is_run o journal ≡ true) (i : ℕ) (a : Asked)
    (there : slice_get (run_of o journal).asked i ≡ Some a) where
  abbrev t : Trace
  t = run_of o journal

  -- the operation of the call's points, and their places
  own-op : (k : ℕ) (m : Made) → slice_get t.made k ≡ Some m → m.entry.caller ≡ a.caller → m.entry.call ≡ a.call → a.op ≡ m.entry.op
  own-op k m at p q =
      let asked = run-asked o journal h.ranges run in
      let w = all-is (MadeOf t.asked) t.made k m asked.made at in
      let same = one-asked t.asked i w.index a w.it asked.apart there w.there (sym p ∙ sym w.caller_is)
      (ap (λ (c : CallNo). c.0) (sym q ∙ sym w.call_is)) in
      ap (λ (x : Asked). x.op) same ∙ w.op_is

  own-place : (k : ℕ) (m : Made) → slice_get t.made k ≡ Some m → m.entry.caller ≡ a.caller → m.entry.call ≡ a.call → a.place < m.place
  own-place k m at p q =
      let behind = all-is (AllBehind t.asked) t.made k m (run-once o journal h run).is.1.behind at in
      all-is (IsBehind m) t.asked i a behind there (sym p) (sym q)

  -- the entry of an answer
  module _ (j : ℕ) (r : Told) (told : slice_get t.told j ≡ Some r) (its : IsOf a r) where
    entered : (k : ℕ) (m : Made) → slice_get t.made k ≡ Some m → m.entry.caller ≡ a.caller → m.entry.call ≡ a.call → stands_in t.told m ≡ true
        → AtMostOneAfter a.place (entries_of (placed_history t) a) → (is_get a.op ≡ true → m.entry.reply ≡ r.reply) → m.place < r.place
        → HasItsEntry (placed_history t) a r
    entered k m at p q stands most reply low =
        let placed = at-filter (stands_in t.told) t.made k m at stands in
        let one = the-only a.place (entries_of (placed_history t) a) m most
        (at-filter (is_of a) (placed_history t) placed.index m placed.there (of-both a m p q)) in
        record { entry = m; only = one.only; reply = reply; after_input = one.behind; before_answer = low }

    update-entered : Has t.made (IsItsUpdate r) → HasItsEntry (placed_history t) a r
    update-entered w =
        let m = w.it in
        let p = w.is.1 ∙ sym its.0 in
        let q = w.is.2 ∙ sym (call-is a.call r.call its.1) in
        let update : is_get a.op ≡ false = ap is_get (own-op w.index m w.there p q) ∙ w.is.0 in
        entered w.index m w.there p q (ap (λ b. not b || is_answer t.told m.txn) w.is.0)
        (all-is (UpdateOnce (placed_history t)) t.asked i a (updates-stand-once o journal h run) there update)
        (λ get. absurd (both_ways (is_get a.op) update get)) w.is.3

    -- the answer and a point that is of the attempt that read it are of one call
    read-call : (l k : ℕ) (x : Told) (m : Made) → slice_get t.told l ≡ Some x → slice_get t.made k ≡ Some m → x.read ≡ Some m.txn
        → (m.entry.caller ≡ x.caller) × (m.entry.call ≡ x.call)
    read-call l k x m on at e =
        let n = run-named o journal h run in
        let mine = all-is (PointFor n.book) t.made k m n.named.points at in
        let his = (all-is (ToldFor n.book) t.told l x n.named.reads on m.txn e).0 in
        let one : mine.its ≡ his.its = let both = sym mine.there ∙ his.there in cc in (
          sym mine.caller_is ∙ ap (λ (y : Entry). y.caller) one ∙ his.caller_is,
          sym mine.call_is ∙ ap (λ (y : Entry). y.call) one ∙ his.call_is,
        )

    module _ (w : Has t.made (IsItsRead r)) where
      abbrev m : Made
      m = w.it

      own : (m.entry.caller ≡ a.caller) × (m.entry.call ≡ a.call)
      own =
          let c = read-call j w.index r m told w.there w.is.0 in
          (c.0 ∙ sym its.0, c.1 ∙ sym (call-is a.call r.call its.1))

      get : is_get a.op ≡ true
      get = ap is_get (own-op w.index m w.there own.0 own.1) ∙ w.is.1

      -- each entry of the call is a read of this attempt
      abbrev IsRead : Made → Type 0
      IsRead x = ((x.txn ≡ m.txn) × (is_get x.entry.op ≡ true)) × (a.place < x.place)

      its-read : (k : ℕ) (x : Made) → slice_get t.made k ≡ Some x → is_of a x ≡ true → stands_in t.told x ≡ true → IsRead x
      its-read k x at of stands =
          let c = of-parts a x of in
          let reads : is_get x.entry.op ≡ true = ap is_get (sym (own-op k x at c.0 c.1)) ∙ get in
          let f = found (λ (y : Told). is_read_of x.txn y.read) t.told (or-answer (is_get x.entry.op) (is_answer t.told x.txn) reads stands) in
          let read = read-is x.txn f.it.read f.is in
          let d = read-call f.index k f.it x f.there at read in
          let callers : f.it.caller ≡ r.caller = sym d.0 ∙ c.0 ∙ its.0 in
          let calls : f.it.call.0 ≡ r.call.0 = ap (λ (y : CallNo). y.0) (sym d.1 ∙ c.1) ∙ its.1 in
          let same : f.it ≡ r =
          one-item OtherTold t.told f.index j f.it r (run-telling o journal h.ranges run).once f.there told (λ no. no callers calls)
          (λ no. no (sym callers) (sym calls)) in
          let txn : x.txn ≡ m.txn = (let two : Some x.txn ≡ Some m.txn = sym read ∙ ap (λ (y : Told). y.read) same ∙ w.is.0 in cc) in
          ((txn, reads), own-place k x at c.0 c.1)

      all-reads : AllByRecursion IsRead (entries_of (placed_history t) a)
      all-reads =
          let P = (λ (x : Made). is_of a x ≡ true → stands_in t.told x ≡ true → IsRead x) in
          let each : AllByRecursion P t.made = all-each P t.made (λ k x at of stands. its-read k x at of stands) in
          let placed = all-both P (λ x. stands_in t.told x ≡ true) (placed_history t) (all-filter P (stands_in t.told) t.made each)
          (taken-are (stands_in t.told) t.made) in
          all-map (λ x. (P x × (stands_in t.told x ≡ true)) × (is_of a x ≡ true)) IsRead (entries_of (placed_history t) a) (λ x q. q.0.0 q.1 q.0.1)
          (all-both (λ x. P x × (stands_in t.told x ≡ true)) (λ x. is_of a x ≡ true) (entries_of (placed_history t) a)
          (all-filter (λ x. P x × (stands_in t.told x ≡ true)) (is_of a) (placed_history t) placed) (taken-are (is_of a) (placed_history t)))

      one-read : AtMostOneAfter a.place (entries_of (placed_history t) a)
      one-read =
          at-most-one a.place (entries_of (placed_history t) a)
          (all-map IsRead (λ x. a.place < x.place) (entries_of (placed_history t) a) (λ x q. q.1) all-reads)
          (pairs-from IsRead OtherRead (λ x y. ⊥) (entries_of (placed_history t) a) (λ x y p q apart. apart p.0.1 q.0.1 (p.0.0 ∙ sym q.0.0)) all-reads
          (pairs-filter OtherRead (is_of a) (placed_history t) (pairs-filter OtherRead (stands_in t.told) t.made (run-answered o journal h run).once)))

      read-entered : HasItsEntry (placed_history t) a r
      read-entered =
          entered w.index m w.there own.0 own.1
          (stands-read (is_get m.entry.op) (is_answer t.told m.txn)
          (any-there (λ (y : Told). is_read_of m.txn y.read) t.told j r told (read-of-it m.txn r.read w.is.0))) one-read (λ e. w.is.2) w.is.3

    point-entered : HasPoint t.made r → HasItsEntry (placed_history t) a r
    point-entered (was_read w) = read-entered w
    point-entered (was_applied w) = update-entered w

pub answered-calls-stand : AnsweredCallsStand
answered-calls-stand o journal h run =
    let t = run_of o journal in
    all-each (StandsAnswered t.told (placed_history t)) t.asked (λ i a there.
    of-answer (λ r reply. is_result reply ≡ true → HasItsEntry (placed_history t) a r) t.told a
    (all-each _ t.told (λ j r told its good.
    point-entered o journal h run i a there j r told its
    (all-is (ToldBacked t.made) t.told j r (run-answered o journal h run).told told good))))
