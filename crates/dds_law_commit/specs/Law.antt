-- That calls met the causes of their answers.
use Rattle.std.specs.Prelude.{List, Option, Some, None}
use Rattle.std.specs.List.{AllByRecursion}
use Rattle.dds_script.specs.Opening.{OpeningOf}
use Rattle.dds_world.specs.Causes.{CausedBy}
use Rattle.dds_world.specs.Stands.{answer_to}
use Rattle.dds_cluster.specs.Trace.{run_of}
use Rattle.dds_cluster.specs.declared.step.Step.{Step}
use Rattle.dds_cluster.specs.declared.trace.Asked.{Asked}
use Rattle.dds_cluster.specs.declared.trace.Told.{Told}

-- a call that was answered met the cause of its answer
abbrev pub IsCaused : OpeningOf → List Step → Asked → Option Told → Type 0
IsCaused o journal a None = Unit {0}
IsCaused o journal a (Some told) = CausedBy o journal a told told.reply

-- so did all calls of a run: each Again, Full and Lost has its cause in the run
abbrev pub AreCaused : OpeningOf → List Step → Type 0
AreCaused o journal =
    AllByRecursion (λ a. IsCaused o journal a (answer_to (run_of o journal).told a.caller a.call)) (run_of o journal).asked
