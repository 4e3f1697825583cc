use Rattle.std.proofs.Common.{◌≡◌, ℕ, ◌<◌, ◌&&◌, ◌==◌, Bool, true, false, Some, List, sym, ap, ◌∙◌, arith}
use Rattle.std.proofs.lemmas.Bool.{and_parts, eqb-true}
use Rattle.std.specs.List.{AllByRecursion}
use Rattle.std.specs.Prelude.{filter, slice_get}
use Rattle.dds_attempts.proofs.Claim.{IsApplied, PointIs}
use Rattle.dds_attempts.proofs.Runs.{Stands, stands-kept}
use Rattle.dds_attempts.proofs.Turns.{all-from}
use Rattle.dds_attempts.proofs.Library.{txn-is}
use Rattle.dds_base.specs.Op.{is_get}
use Rattle.dds_base.specs.declared.number.CallNo.{CallNo}
use Rattle.dds_books.specs.Books.{Book, booked}
use Rattle.dds_cluster.specs.Trace.{is_run, run_of, start}
use Rattle.dds_cluster.specs.declared.step.Step.{Step}
use Rattle.dds_cluster.specs.declared.trace.Asked.{Asked}
use Rattle.dds_cluster.specs.declared.trace.Caller.{Caller}
use Rattle.dds_cluster.specs.declared.trace.Made.{Made}
use Rattle.dds_cluster.specs.declared.trace.Trace.{Trace}
use Rattle.dds_core.proofs.Lists.{all-both, all-filter, all-is, all-map}
use Rattle.dds_net.proofs.Pairwise.{pairs-filter}
use Rattle.dds_net.proofs.Rungs.{Both, both_books, kept-over}
use Rattle.dds_net.proofs.Runs.{Ran, run-keeps}
use Rattle.dds_net.specs.Event.{History, history_of}
use Rattle.dds_net.specs.Net.{Net, Sizes, net, sizes_of}
use Rattle.dds_once.proofs.Claim.{AllBehind, AreOnce, AsksThis, IsBehind}
use Rattle.dds_once.proofs.Kept.{AreOnceOver, once-stays}
use Rattle.dds_once.proofs.Lists.{OtherUpdate, at-most-one, pairs-from, taken-are}
use Rattle.dds_once.proofs.Points.{HasEntry}
use Rattle.dds_once.proofs.Start.{start-once}
use Rattle.dds_once.specs.Law.{UpdateOnce, UpdatesStandOnce}
use Rattle.dds_script.specs.Opening.{IsOpening, OpeningOf}
use Rattle.dds_talk.specs.Books as talk
use Rattle.dds_world.specs.Stands.{placed_history, stands_in}

-- Of each run: two points of an update are of its last attempt, so of one, of which one point is kept.

abbrev pub OnceAt : (o : OpeningOf) → Trace → Type 0
OnceAt o t = Ran (sizes_of o) ((Book × talk.Books) × Unit {0}) (Both (Stands (sizes_of o)) (AreOnceOver (sizes_of o))) t

pub run-once : (o : OpeningOf) (journal : List Step) → IsOpening o → is_run o journal ≡ true → OnceAt o (run_of o journal)
run-once o journal h run =
    let z = sizes_of o in
    run-keeps z ((Book × talk.Books) × Unit {0}) (both_books (λ i n e b. (booked e b.0, talk.adds i n e b.1)) (λ i n e b u. tt))
    (Both (Stands z) (AreOnceOver z)) journal (start o) h.ranges.bricks
    (kept-over z (Book × talk.Books) (λ i n e b. (booked e b.0, talk.adds i n e b.1)) (Stands z) (Unit {0}) (λ i n e b u. tt) (AreOnceOver z)
    (stands-kept z h.ranges.bricks h.ranges.libraries) (once-stays z)) (start-once o h) run

-- a point of a call
abbrev pub is_of : Asked → Made → Bool
is_of x m = m.entry.caller == x.caller && m.entry.call.0 == x.call.0

pub call-is : (a b : CallNo) → a.0 ≡ b.0 → a ≡ b
call-is a b e = λ i. record { 0 = e i }

pub of-parts : (x : Asked) (m : Made) → is_of x m ≡ true → (m.entry.caller ≡ x.caller) × (m.entry.call ≡ x.call)
of-parts x m e =
    let q = and_parts (m.entry.caller == x.caller) (m.entry.call.0 == x.call.0) e in
    (eqb-true m.entry.caller x.caller q.0, call-is m.entry.call x.call (eqb-true m.entry.call.0 x.call.0 q.1))

module _ (z : Sizes) (h : History) (n : Net) (b : Book × talk.Books) (k : Stands z h n b) (g : AreOnce h n b.0) where
  -- what is so of each point
  pub record IsPoint (m : Made) : Type 0 where
    pub entry : HasEntry b.0 m
    pub behind : AllBehind h.asked m
    pub point : PointIs b.0 b.1 m

  pub all-points : AllByRecursion IsPoint h.made
  all-points =
      all-map (λ m. (HasEntry b.0 m × AllBehind h.asked m) × PointIs b.0 b.1 m) IsPoint h.made
      (λ m q. record { entry = q.0.0; behind = q.0.1; point = q.1 })
      (all-both (λ m. HasEntry b.0 m × AllBehind h.asked m) (PointIs b.0 b.1) h.made
      (all-both (HasEntry b.0) (AllBehind h.asked) h.made g.points g.behind) k.last.made)

  -- the points of an update are updates
  module _ (place : ℕ) (x : Asked) (is : slice_get h.asked place ≡ Some x) (update : is_get x.op ≡ false) where
    pub point-update : (m : Made) → IsPoint m → is_of x m ≡ true → is_get m.entry.op ≡ false
    point-update m p e =
        let q = of-parts x m e in
        let w = p.entry in
        let same : x.op ≡ w.its.op =
        all-is (AsksThis w.its.caller w.its.call w.its.op) h.asked place x (g.entries w.txn w.its w.there) is (sym q.0 ∙ sym w.caller_is)
        (sym q.1 ∙ sym w.call_is) in
        sym (ap is_get (same ∙ w.op_is)) ∙ update

    pub point-behind : (m : Made) → IsPoint m → is_of x m ≡ true → x.place < m.place
    point-behind m p e =
        let q = of-parts x m e in
        all-is (IsBehind m) h.asked place x p.behind is (sym q.0) (sym q.1)

    -- and of one attempt
    one-attempt : (m i : Made) → is_of x m ≡ true → is_of x i ≡ true → IsApplied b.0 b.1 m → IsApplied b.0 b.1 i → m.txn ≡ i.txn
    one-attempt m i e f p q =
        let c = of-parts x m e in
        let d = of-parts x i f in
        let low = p.last i.txn q.its q.there (q.caller_is ∙ d.0 ∙ sym c.0) (q.call_is ∙ d.1 ∙ sym c.1) in
        let high = q.last m.txn p.its p.there (p.caller_is ∙ c.0 ∙ sym d.0) (p.call_is ∙ c.1 ∙ sym d.1) in
        let v = k.last.entries m.txn p.its p.there in
        let w = k.last.entries i.txn q.its q.there in
        let who : v.who ≡ w.who =
        (let two : Some v.who ≡ Some w.who =
        sym v.there ∙ ap (slice_get h.callers) (p.caller_is ∙ c.0 ∙ sym d.0 ∙ sym q.caller_is) ∙ w.there in cc) in
        txn-is m.txn i.txn (sym v.library ∙ ap (λ (y : Caller). y.library) who ∙ w.library) (omega (arith, low, high))

    abbrev Its : Made → Type 0
    Its m = IsPoint m × (is_of x m ≡ true)

    apart : (m i : Made) → Its m → Its i → OtherUpdate m i → ⊥
    apart m i p q other =
        let u = point-update m p.0 p.1 in
        let v = point-update i q.0 q.1 in
        other u v (one-attempt m i p.1 q.1 (p.0.point u) (q.0.point v))

    pub stands-once : (stands : Made → Bool) → UpdateOnce (filter stands h.made) x
    stands-once stands e =
        let ms = filter stands h.made in
        let all = all-both IsPoint (λ m. is_of x m ≡ true) (filter (is_of x) ms) (all-filter IsPoint (is_of x) ms (all-filter IsPoint stands h.made all-points))
        (taken-are (is_of x) ms) in
        at-most-one x.place (filter (is_of x) ms) (all-map Its (λ m. x.place < m.place) (filter (is_of x) ms) (λ m q. point-behind m q.0 q.1) all)
        (pairs-from Its OtherUpdate (λ m i. ⊥) (filter (is_of x) ms) apart all
        (pairs-filter OtherUpdate (is_of x) ms (pairs-filter OtherUpdate stands h.made g.once)))

pub updates-stand-once : UpdatesStandOnce
updates-stand-once o journal h run =
    let r = run-once o journal h run in
    let t = run_of o journal in
    let z = sizes_of o in
    all-from (UpdateOnce (placed_history t)) t.asked
    (λ i x is e. stands-once z (history_of t) (net z t.world) r.books.0 r.is.0 r.is.1 i x is e (stands_in t.told) e)
