-- What is so of the calls of every run, with stops, splits and joins.
use Rattle.std.specs.Prelude.{◌≡◌, true, List}
use Rattle.std.specs.List.{AllByRecursion}
use Rattle.dds_answered.specs.Law.{StandsAnswered}
use Rattle.dds_cluster.specs.Trace.{is_run, run_of}
use Rattle.dds_cluster.specs.declared.step.Step.{Step}
use Rattle.dds_cluster.specs.declared.trace.Trace.{Trace}
use Rattle.dds_script.specs.Opening.{IsOpening, OpeningOf}
use Rattle.dds_world.specs.Stands.{IsOfACall, RefusedNever, UnansweredOnceOrNever, placed_history}

-- a call that was answered with a result stands in the history once, between its Input and its answer, a get with the reply that was
-- answered; refused calls don't stand there; a call that is open or was answered with no result stands there once or never, an open get
-- never; and every entry is of a call and has its operation
pub record AreKept (t : Trace) : Type 0 where
  pub answered_once : AllByRecursion (StandsAnswered t.told (placed_history t)) t.asked
  pub refused_never : AllByRecursion (RefusedNever t.told (placed_history t)) t.asked
  pub unanswered_once_or_never : AllByRecursion (UnansweredOnceOrNever t.told (placed_history t)) t.asked
  pub entries_are_calls : AllByRecursion (IsOfACall t.asked) (placed_history t)

-- of each run of each opening
abbrev pub CallsAreKept : Type 0
CallsAreKept = (o : OpeningOf) (journal : List Step) → IsOpening o → is_run o journal ≡ true → AreKept (run_of o journal)
