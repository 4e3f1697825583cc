-- In each run the answered calls are over.
use Rattle.std.proofs.Common.{◌≡◌, ℕ, ◌<◌, true, Option, Some, None, refl, sym, ap, ◌∙◌}
use Rattle.std.specs.List.{AllByRecursion}
use Rattle.std.specs.Prelude.{slice_get}
use Rattle.dds_attempts.proofs.Turns.{all-from}
use Rattle.dds_base.specs.Op.{is_get}
use Rattle.dds_client_view.proofs.Ends.{AreEnded, Ends, IsEarlier, IsUpdate}
use Rattle.dds_client_view.proofs.Sees.{HasOp, IsOver, IsOverBy, all-passed, answer-has, answer-own}
use Rattle.dds_cluster.specs.declared.trace.Asked.{Asked}
use Rattle.dds_cluster.specs.declared.trace.Told.{Told}
use Rattle.dds_cluster.specs.declared.trace.Trace.{Trace}
use Rattle.dds_core.proofs.Lists.{all-both, all-filter, all-is, all-map}
use Rattle.dds_net.specs.Event.{history_of}
use Rattle.dds_once.proofs.Runs.{is_of, of-parts}
use Rattle.dds_world.specs.Stands.{IsOfACall, answer_to, entries_of, placed_history, stands_in}

over-by : (t : Trace) (i : ℕ) (a : Asked) (o : Option Told) → slice_get t.asked i ≡ Some a → AreEnded (history_of t)
    → AllByRecursion (IsOfACall t.asked) (placed_history t) → HasOp t.asked a → answer_to t.told a.caller a.call ≡ o → IsOverBy (placed_history t) a o
over-by t i a None there ended of op is = tt
over-by t i a (Some r) there ended of op is =
    let ms = placed_history t in
    let its = answer-has (Ends t.callers t.asked t.made) t.told a.caller a.call r ended.ends is in
    let own = answer-own t.told a.caller a.call r is in
    let Early = IsEarlier r.place r.caller r.call in
    let kept = all-both Early (IsOfACall t.asked) ms (all-filter Early (stands_in t.told) t.made its.before) of in
    let mine = all-both (λ m. Early m × IsOfACall t.asked m) (λ m. is_of a m ≡ true) (entries_of ms a)
    (all-filter (λ m. Early m × IsOfACall t.asked m) (is_of a) ms kept) (all-passed (is_of a) ms) in (
      (λ lost. all-is (IsUpdate r.caller r.call) t.asked i a (its.lost lost) there (sym own.0) (sym own.1)),
      (λ update. all-map (λ m. (Early m × IsOfACall t.asked m) × (is_of a m ≡ true)) (λ m. m.place < r.place) (entries_of ms a)
          (λ m q.
          let parts = of-parts a m q.1 in
          q.0.0 (ap is_get (op m q.0.1 parts.0 parts.1) ∙ update) (parts.0 ∙ sym own.0) (parts.1 ∙ sym own.1)) mine),
    )

pub are-over : (t : Trace) → AreEnded (history_of t) → AllByRecursion (IsOfACall t.asked) (placed_history t) → AllByRecursion (HasOp t.asked) t.asked
    → AllByRecursion (IsOver t.told (placed_history t)) t.asked
are-over t ended of ops =
    all-from (IsOver t.told (placed_history t)) t.asked
    (λ i a there. over-by t i a (answer_to t.told a.caller a.call) there ended of (all-is (HasOp t.asked) t.asked i a ops there) refl)
