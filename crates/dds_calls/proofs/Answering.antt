use Rattle.std.proofs.Common.{◌≡◌, ℕ, true, false, not, Some, List, refl}
use Rattle.std.specs.List.{list_all}
use Rattle.std.specs.Prelude.{slice_get}
use Rattle.dds_base.specs.declared.op.Met.TheVariants as met
use Rattle.dds_base.specs.declared.op.Reply.{Reply}
use Rattle.dds_base.specs.declared.op.Reply.TheVariants as reply
use Rattle.dds_cluster.specs.Trace.{is_run, run_of}
use Rattle.dds_cluster.specs.declared.step.Step.{Step}
use Rattle.dds_cluster.specs.declared.step.Step.TheVariants as step
use Rattle.dds_cluster.specs.declared.trace.Asked.{Asked}
use Rattle.dds_cluster.specs.declared.trace.Told.{Told}
use Rattle.dds_core.proofs.Lists.{all-map}
use Rattle.dds_script.specs.Opening.{IsOpening, OpeningOf}
use Rattle.dds_world.specs.Causes.{CausedBy}
use Rattle.dds_calls.proofs.Answered.{IsOf, answered, of-answer}
use Rattle.dds_calls.proofs.Asked.{all-each}
use Rattle.dds_calls.proofs.Caused.{RefusedBy, answer-refuses}
use Rattle.dds_calls.proofs.Losses.{LostBy, answer-loses}
use Rattle.dds_calls.proofs.Stopped.{answer-stays, is_lost, step-of}
use Rattle.dds_calls.proofs.StopsAnswered.{stop-met, told-stopped}
use Rattle.dds_calls.proofs.Told.{IsGiven, told-given}
use Rattle.dds_calls.specs.Law.{AnswersAreCaused, NoneIsOfStops, is_of_stop, is_stop}

-- Each answer has its cause, and where nothing stops none says that something did.

caused-by : (o : OpeningOf) (journal : List Step) (i : ℕ) (a : Asked) (t : Told) (r : Reply) → IsOpening o → is_run o journal ≡ true
    → slice_get (run_of o journal).asked i ≡ Some a → IsGiven o journal t → IsOf a t → t.reply ≡ r → RefusedBy o journal a t r → LostBy o journal a t r
    → CausedBy o journal a t r
caused-by o journal i a t (reply.Again (met.Stopped brick)) h run there g is e refused lost = stop-met o journal i a t brick h run there g is e
caused-by o journal i a t (reply.Again (met.Lease brick)) h run there g is e refused lost = refused
caused-by o journal i a t (reply.Again (met.Lock brick)) h run there g is e refused lost = refused
caused-by o journal i a t (reply.Again (met.Stale brick)) h run there g is e refused lost = refused
caused-by o journal i a t (reply.Full brick) h run there g is e refused lost = refused
caused-by o journal i a t (reply.Lost name) h run there g is e refused lost = lost
caused-by o journal i a t (reply.Value value) h run there g is e refused lost = tt
caused-by o journal i a t reply.Absent h run there g is e refused lost = tt
caused-by o journal i a t (reply.Done was) h run there g is e refused lost = tt
caused-by o journal i a t (reply.Swapped done) h run there g is e refused lost = tt

answer-caused : (o : OpeningOf) (journal : List Step) (i : ℕ) (a : Asked) (t : Told) → IsOpening o → is_run o journal ≡ true
    → slice_get (run_of o journal).asked i ≡ Some a → IsGiven o journal t → IsOf a t → CausedBy o journal a t t.reply
answer-caused o journal i a t h run there g is =
    let by = answered o journal t h run g in
    caused-by o journal i a t t.reply h run there g is refl (answer-refuses o journal i a t h run there g is by) (answer-loses o journal a t h run g is by)

pub answers-are-caused : AnswersAreCaused
answers-are-caused o journal h run =
    all-each _ (run_of o journal).asked (λ i a there. of-answer (λ told r. CausedBy o journal a told r) (run_of o journal).told a
    (all-map (IsGiven o journal) _ (run_of o journal).told (λ t g is. answer-caused o journal i a t h run there g is) (told-given o journal)))

-- where nothing stops

of-stop : (o : OpeningOf) (journal : List Step) (t : Told) (r : Reply) → IsOpening o → is_run o journal ≡ true
    → list_all (λ x. not (is_stop x)) journal ≡ true → IsGiven o journal t → t.reply ≡ r → is_lost r ≡ false → is_of_stop r ≡ false
of-stop o journal t (reply.Again (met.Stopped brick)) h run none g e stays =
    let k = told-stopped o journal t brick h run g (answered o journal t h run g) e in
    let s = k.cause.stops in
    let bad : false ≡ true = step-of journal s.when (step.Stop brick) none s.step in
    cc
of-stop o journal t (reply.Lost name) h run none g e stays = cc
of-stop o journal t (reply.Again (met.Lease brick)) h run none g e stays = refl
of-stop o journal t (reply.Again (met.Lock brick)) h run none g e stays = refl
of-stop o journal t (reply.Again (met.Stale brick)) h run none g e stays = refl
of-stop o journal t (reply.Full brick) h run none g e stays = refl
of-stop o journal t (reply.Value value) h run none g e stays = refl
of-stop o journal t reply.Absent h run none g e stays = refl
of-stop o journal t (reply.Done was) h run none g e stays = refl
of-stop o journal t (reply.Swapped done) h run none g e stays = refl

pub none-is-of-stops : NoneIsOfStops
none-is-of-stops o journal h run none =
    all-map (IsGiven o journal) _ (run_of o journal).told
    (λ t g. of-stop o journal t t.reply h run none g refl (answer-stays o journal t h run none g (answered o journal t h run g))) (told-given o journal)
