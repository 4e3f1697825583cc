use Rattle.std.proofs.Common.{◌≡◌, List, [], ◌∷◌, Option, Some, None}
use Rattle.std.specs.List.{AllByRecursion}
use Rattle.dds_calls.proofs.Answering.{answers-are-caused}
use Rattle.dds_calls.specs.Law.{OfAnswer}
use Rattle.dds_cluster.specs.Trace.{run_of}
use Rattle.dds_cluster.specs.declared.step.Step.{Step}
use Rattle.dds_cluster.specs.declared.trace.Asked.{Asked}
use Rattle.dds_cluster.specs.declared.trace.Told.{Told}
use Rattle.dds_law_commit.specs.Causes.{AllAreCaused}
use Rattle.dds_law_commit.specs.Law.{IsCaused}
use Rattle.dds_script.specs.Opening.{OpeningOf}
use Rattle.dds_world.specs.Causes.{CausedBy}
use Rattle.dds_world.specs.Stands.{answer_to}

-- The causes of answers, call by call.

answer-caused : (o : OpeningOf) (journal : List Step) (a : Asked) (t : Option Told) → OfAnswer (λ told r. CausedBy o journal a told r) t
    → IsCaused o journal a t
answer-caused o journal a None h = tt
answer-caused o journal a (Some told) h = h

all-caused : (o : OpeningOf) (journal : List Step) (told : List Told) (calls : List Asked)
    → AllByRecursion (λ a. OfAnswer (λ t r. CausedBy o journal a t r) (answer_to told a.caller a.call)) calls
    → AllByRecursion (λ a. IsCaused o journal a (answer_to told a.caller a.call)) calls
all-caused o journal told [] h = tt
all-caused o journal told (a ∷ rest) h =
    (answer-caused o journal a (answer_to told a.caller a.call) h.0, all-caused o journal told rest h.1)

pub all-are-caused : AllAreCaused
all-are-caused o journal h run = all-caused o journal (run_of o journal).told (run_of o journal).asked (answers-are-caused o journal h run)
