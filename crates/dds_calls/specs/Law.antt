-- What holds of the calls of each run.
use Rattle.std.specs.Prelude.{◌≡◌, Bool, true, false, not, List, Option, Some, None}
use Rattle.std.specs.List.{AllByRecursion, list_all}
use Rattle.dds_base.specs.Op.{is_get}
use Rattle.dds_base.specs.declared.op.Met.TheVariants as met
use Rattle.dds_base.specs.declared.op.Reply.{Reply}
use Rattle.dds_base.specs.declared.op.Reply.TheVariants as reply
use Rattle.dds_cluster.specs.Trace.{is_run, run_of}
use Rattle.dds_cluster.specs.declared.step.Step.{Step}
use Rattle.dds_cluster.specs.declared.step.Step.TheVariants as step
use Rattle.dds_cluster.specs.declared.trace.Asked.{Asked}
use Rattle.dds_cluster.specs.declared.trace.Told.{Told}
use Rattle.dds_script.specs.Opening.{IsOpening, OpeningOf, ranges_of}
use Rattle.dds_script.specs.Ranges.{IsRanges}
use Rattle.dds_world.specs.Causes.{CausedBy}
use Rattle.dds_world.specs.Stands.{IsOfACall, RefusedNever, UnansweredOnceOrNever, answer_to, placed_history}

-- of each opening whose numbers of nodes are in range: each entry of the history is of one of the calls, and has its operation
abbrev pub EntriesAreCalls : Type 0
EntriesAreCalls =
    (o : OpeningOf) (journal : List Step) → IsRanges (ranges_of o) → is_run o journal ≡ true
    → AllByRecursion (IsOfACall (run_of o journal).asked) (placed_history (run_of o journal))

-- something is so of a call's answer, if it has one
abbrev pub OfAnswer : (Told → Reply → Type 0) → Option Told → Type 0
OfAnswer P None = Unit {0}
OfAnswer P (Some told) = P told told.reply

-- of each call of the run that was answered
abbrev pub OfAnswers : OpeningOf → List Step → (Asked → Told → Reply → Type 0) → Type 0
OfAnswers o journal P = AllByRecursion (λ a. OfAnswer (P a) (answer_to (run_of o journal).told a.caller a.call)) (run_of o journal).asked

-- each Again, Full and Lost has its cause in the run
abbrev pub AnswersAreCaused : Type 0
AnswersAreCaused =
    (o : OpeningOf) (journal : List Step) → IsOpening o → is_run o journal ≡ true → OfAnswers o journal (λ a told r. CausedBy o journal a told r)

-- a step is a stop
abbrev pub is_stop : Step → Bool
is_stop (step.Stop node) = true
is_stop other = false

-- an answer says that a node stopped
abbrev pub is_of_stop : Reply → Bool
is_of_stop (reply.Lost name) = true
is_of_stop (reply.Again (met.Stopped brick)) = true
is_of_stop other = false

-- where nothing stops, whatever orders there are, no answer says so
abbrev pub NoneIsOfStops : Type 0
NoneIsOfStops =
    (o : OpeningOf) (journal : List Step) → IsOpening o → is_run o journal ≡ true → list_all (λ x. not (is_stop x)) journal ≡ true
    → AllByRecursion (λ t. is_of_stop t.reply ≡ false) (run_of o journal).told

-- a get that is open, was refused or has another answer than a result has no entry
abbrev pub GetsStandAnswered : Type 0
GetsStandAnswered =
    (o : OpeningOf) (journal : List Step) → IsOpening o → is_run o journal ≡ true
    → AllByRecursion (λ a. is_get a.op ≡ true → RefusedNever (run_of o journal).told (placed_history (run_of o journal)) a
    × UnansweredOnceOrNever (run_of o journal).told (placed_history (run_of o journal)) a) (run_of o journal).asked
