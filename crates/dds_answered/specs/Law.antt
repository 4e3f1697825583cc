-- Where the calls of a run that were answered with a result stand in its history.
use Rattle.std.specs.Prelude.{◌<◌, ◌≡◌, true, List, [], ◌∷◌}
use Rattle.std.specs.List.{AllByRecursion}
use Rattle.dds_base.specs.Op.{is_get}
use Rattle.dds_calls.specs.Law.{OfAnswer}
use Rattle.dds_cluster.specs.Trace.{is_run, run_of}
use Rattle.dds_cluster.specs.declared.step.Step.{Step}
use Rattle.dds_cluster.specs.declared.trace.Asked.{Asked}
use Rattle.dds_cluster.specs.declared.trace.Made.{Made}
use Rattle.dds_cluster.specs.declared.trace.Told.{Told}
use Rattle.dds_cluster.specs.declared.trace.Trace.{Trace}
use Rattle.dds_script.specs.Opening.{IsOpening, OpeningOf}
use Rattle.dds_world.specs.Stands.{answer_to, entries_of, is_result, placed_history}

-- a call has exactly one entry, between its Input and its answer; a get's has the reply that was answered. (`HasOneEntry` says the same of
-- an update's, which is a law of the values that updates find.)
pub record HasItsEntry (entries : List Made) (a : Asked) (told : Told) : Type 0 where
  pub entry : Made
  pub only : entries_of entries a ≡ entry ∷ []
  pub reply : is_get a.op ≡ true → entry.entry.reply ≡ told.reply
  pub after_input : a.place < entry.place
  pub before_answer : entry.place < told.place

-- a call that was answered with a result has its entry
abbrev pub StandsAnswered : List Told → List Made → Asked → Type 0
StandsAnswered told entries a = OfAnswer (λ t r. is_result r ≡ true → HasItsEntry entries a t) (answer_to told a.caller a.call)

abbrev pub AllStandAnswered : Trace → Type 0
AllStandAnswered t = AllByRecursion (StandsAnswered t.told (placed_history t)) t.asked

-- of each run of each opening
abbrev pub AnsweredCallsStand : Type 0
AnsweredCallsStand = (o : OpeningOf) (journal : List Step) → IsOpening o → is_run o journal ≡ true → AllStandAnswered (run_of o journal)
