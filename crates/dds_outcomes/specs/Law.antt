-- Every transaction has one outcome, which reaches all its members.
use Rattle.std.specs.Prelude.{◌≡◌, true, List}
use Rattle.dds_cluster.specs.Trace.{is_run}
use Rattle.dds_cluster.specs.declared.step.Step.{Step}
use Rattle.dds_script.specs.Opening.{IsOpening, OpeningOf}
use Rattle.dds_world.specs.Outcomes.{CommitReachesAll, OneOutcome}

-- of each run of each opening
abbrev pub OutcomesAreOne : Type 0
OutcomesAreOne = (o : OpeningOf) (journal : List Step) → IsOpening o → is_run o journal ≡ true → CommitReachesAll o journal × OneOutcome o journal
