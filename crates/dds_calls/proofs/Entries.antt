use Rattle.std.proofs.Common.{◌≡◌, ℕ, zero, suc, inl, inr, true, Some, List, [], ◌∷◌, sym, ap, ◌∙◌}
use Rattle.std.specs.Prelude.{slice_get}
use Rattle.dds_cluster.proofs.Sizes.{sized-start}
use Rattle.dds_cluster.specs.Trace.{is_run, run_of, start}
use Rattle.dds_cluster.specs.declared.step.Step.{Step}
use Rattle.dds_cluster.specs.declared.trace.Asked.{Asked}
use Rattle.dds_cluster.specs.declared.trace.Made.{Made}
use Rattle.dds_core.proofs.Lists.{all-filter, all-map}
use Rattle.dds_net.proofs.Journals.{net_of}
use Rattle.dds_net.proofs.Runs.{run-keeps}
use Rattle.dds_net.specs.Event.{history_of}
use Rattle.dds_net.specs.Net.{sizes_of}
use Rattle.dds_script.specs.Opening.{OpeningOf, ranges_of}
use Rattle.dds_script.specs.Ranges.{IsRanges}
use Rattle.dds_world.specs.Stands.{IsOfACall, stands_in}
use Rattle.dds_calls.proofs.Asked.{AreAsked, MadeOf}
use Rattle.dds_calls.proofs.Asking.{asked-kept, start-asked}
use Rattle.dds_calls.specs.Law.{EntriesAreCalls}

-- What was asked along each run, and whose the entries are.

pub run-asked : (o : OpeningOf) (journal : List Step) → IsRanges (ranges_of o) → is_run o journal ≡ true
    → AreAsked (history_of (run_of o journal)) (net_of o journal)
run-asked o journal ranges run =
    let z = sizes_of o in
    (run-keeps z (Unit {0}) (λ h n e b. tt) (λ h n b. AreAsked h n) journal (start o) ranges.bricks (asked-kept z)
    (record { sized = sized-start o; books = tt; is = start-asked o }) run).is

of-a-call : (asked : List Asked) (i : ℕ) (a : Asked) (m : Made) → slice_get asked i ≡ Some a → a.caller ≡ m.entry.caller → a.call ≡ m.entry.call
    → a.op ≡ m.entry.op → IsOfACall asked m
of-a-call [] i a m e p q r = cc
of-a-call (x ∷ xs) zero a m e p q r =
    let is : x ≡ a = cc in
    inl (sym p ∙ ap (λ (y : Asked). y.caller) (sym is), sym q ∙ ap (λ (y : Asked). y.call) (sym is), sym r ∙ ap (λ (y : Asked). y.op) (sym is))
of-a-call (x ∷ xs) (suc i) a m e p q r = inr (of-a-call xs i a m e p q r)

pub entries-are-calls : EntriesAreCalls
entries-are-calls o journal ranges run =
    let t = run_of o journal in
    let g = run-asked o journal ranges run in
    all-filter (IsOfACall t.asked) (stands_in t.told) t.made
    (all-map (MadeOf t.asked) (IsOfACall t.asked) t.made (λ m h. of-a-call t.asked h.index h.it m h.there h.caller_is h.call_is h.op_is) g.made)
