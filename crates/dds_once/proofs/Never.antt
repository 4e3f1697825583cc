use Rattle.std.proofs.Common.{◌≡◌, ℕ, ◌==◌, Bool, true, false, Option, Some, None, List, [], ◌∷◌, refl, sym, ◌∙◌}
use Rattle.std.proofs.lemmas.Bool.{and_parts, both_ways, eqb-true}
use Rattle.std.specs.List.{AllByRecursion}
use Rattle.std.specs.Prelude.{filter, slice_get, if◌then◌else◌}
use Rattle.dds_attempts.proofs.Runs.{Stands, stands-kept}
use Rattle.dds_attempts.proofs.Turns.{all-from}
use Rattle.dds_base.specs.Op.{is_get}
use Rattle.dds_base.specs.declared.number.CallNo.{CallNo}
use Rattle.dds_books.specs.Books.{Book, booked}
use Rattle.dds_cluster.specs.Trace.{is_run, run_of, start}
use Rattle.dds_cluster.specs.declared.step.Step.{Step}
use Rattle.dds_cluster.specs.declared.trace.Asked.{Asked}
use Rattle.dds_cluster.specs.declared.trace.Made.{Made}
use Rattle.dds_cluster.specs.declared.trace.Told.{Told}
use Rattle.dds_core.proofs.Lists.{all-both, all-filter, all-map, this-one}
use Rattle.dds_net.proofs.Rungs.{Both, both_books, kept-over}
use Rattle.dds_net.proofs.Runs.{run-keeps}
use Rattle.dds_net.specs.Event.{History, history_of}
use Rattle.dds_net.specs.Net.{Net, Sizes, net, sizes_of}
use Rattle.dds_once.proofs.Claim.{AreOnce}
use Rattle.dds_once.proofs.Lists.{taken-are}
use Rattle.dds_once.proofs.Refused.{AreRefused, IsNotOf, IsRefused, refused-stays}
use Rattle.dds_once.proofs.Runs.{IsPoint, all-points, call-is, is_of, of-parts, point-update, run-once}
use Rattle.dds_once.proofs.Shut.{ToldSays}
use Rattle.dds_once.proofs.Start.{start-once}
use Rattle.dds_once.specs.Law.{RefusedUpdatesStandNever, UpdateNever}
use Rattle.dds_script.specs.Opening.{IsOpening, OpeningOf}
use Rattle.dds_talk.specs.Books as talk
use Rattle.dds_world.specs.Stands.{RefusedNeverBy, answer_to, answers, is_refusal, placed_history, stands_in}

-- Of each run: an update that was refused has no entry.

run-refused : (o : OpeningOf) (journal : List Step) → IsOpening o → is_run o journal ≡ true → AreRefused (history_of (run_of o journal))
run-refused o journal h run =
    let z = sizes_of o in
    let first = start-once o h in
    (run-keeps z ((Book × talk.Books) × Unit {0}) (both_books (λ i n e b. (booked e b.0, talk.adds i n e b.1)) (λ i n e b u. tt))
    (Both (Stands z) (λ i n b u. AreRefused i)) journal (start o) h.ranges.bricks
    (kept-over z (Book × talk.Books) (λ i n e b. (booked e b.0, talk.adds i n e b.1)) (Stands z) (Unit {0}) (λ i n e b u. tt) (λ i n b u. AreRefused i)
    (stands-kept z h.ranges.bricks h.ranges.libraries) (refused-stays z h.ranges.bricks h.ranges.libraries))
    (record { sized = first.sized; books = first.books; is = (first.is.0, tt) }) run).is.1

-- an answer is one that was told, to this call
pub record IsAnswer (P : Told → Type 0) (caller : ℕ) (call : CallNo) (r : Told) : Type 0 where
  pub says : P r
  pub caller_is : r.caller ≡ caller
  pub call_is : r.call ≡ call

answer-if : (P : Told → Type 0) (caller : ℕ) (call : CallNo) (x r : Told) (rest : Option Told) (b : Bool) → answers caller call x ≡ b → P x
    → (rest ≡ Some r → IsAnswer P caller call r) → (if b then Some x else rest) ≡ Some r → IsAnswer P caller call r
answer-if P caller call x r rest true e h later is =
    let q = and_parts (x.caller == caller) (x.call.0 == call.0) e in
    let own : IsAnswer P caller call x =
    record { says = h; caller_is = eqb-true x.caller caller q.0; call_is = call-is x.call call (eqb-true x.call.0 call.0 q.1) } in
    this-one (IsAnswer P caller call) x r is own
answer-if P caller call x r rest false e h later is = later is

answer-is : (P : Told → Type 0) (told : List Told) (caller : ℕ) (call : CallNo) (r : Told) → AllByRecursion P told → answer_to told caller call ≡ Some r
    → IsAnswer P caller call r
answer-is P [] caller call r h e = cc
answer-is P (x ∷ told) caller call r h e =
    answer-if P caller call x r (answer_to told caller call) (answers caller call x) refl h.0 (answer-is P told caller call r h.1) e

none-left : (ms : List Made) → AllByRecursion (λ m. ⊥) ms → ms ≡ []
none-left [] h = refl
none-left (m ∷ ms) h = absurd h.0

module _ (z : Sizes) (h : History) (n : Net) (b : Book × talk.Books) (k : Stands z h n b) (g : AreOnce h n b.0) (refused : AreRefused h) where
  no-entries : (place : ℕ) (x : Asked) → slice_get h.asked place ≡ Some x → is_get x.op ≡ false → (stands : Made → Bool) (r : Told)
      → answer_to h.told x.caller x.call ≡ Some r → is_refusal r.reply ≡ true → filter (is_of x) (filter stands h.made) ≡ []
  no-entries place x is update stands r told refusal =
      let w = answer-is (ToldSays (IsRefused h.callers h.made)) h.told x.caller x.call r refused told in
      let none = (w.says refusal).1 in
      let P = IsPoint z h n b k g in
      let N = IsNotOf r.caller r.call in
      let both = all-both P N h.made (all-points z h n b k g) none in
      let kept = all-filter (λ m. P m × N m) (is_of x) (filter stands h.made) (all-filter (λ m. P m × N m) stands h.made both) in
      none-left (filter (is_of x) (filter stands h.made))
      (all-map (λ m. (P m × N m) × (is_of x m ≡ true)) (λ m. ⊥) (filter (is_of x) (filter stands h.made))
      (λ m q.
      let c = of-parts x m q.1 in
      q.0.1 (point-update z h n b k g place x is update m q.0.0 q.1) (c.0 ∙ sym w.caller_is) (c.1 ∙ sym w.call_is))
      (all-both (λ m. P m × N m) (λ m. is_of x m ≡ true) (filter (is_of x) (filter stands h.made)) kept (taken-are (is_of x) (filter stands h.made))))

  never-by : (place : ℕ) (x : Asked) → slice_get h.asked place ≡ Some x → is_get x.op ≡ false → (stands : Made → Bool) (o : Option Told)
      → answer_to h.told x.caller x.call ≡ o → RefusedNeverBy (filter stands h.made) x o
  never-by place x is update stands None told = λ e. absurd (both_ways (is_get x.op) update e)
  never-by place x is update stands (Some r) told = no-entries place x is update stands r told

pub refused-updates-stand-never : RefusedUpdatesStandNever
refused-updates-stand-never o journal h run =
    let r = run-once o journal h run in
    let t = run_of o journal in
    let z = sizes_of o in
    all-from (UpdateNever t.told (placed_history t)) t.asked
    (λ i x is e.
    never-by z (history_of t) (net z t.world) r.books.0 r.is.0 r.is.1 (run-refused o journal h run) i x is e (stands_in t.told)
    (answer_to t.told x.caller x.call) refl)
