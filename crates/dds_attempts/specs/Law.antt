-- Of a call's attempts the last alone is applied, or pending at a live brick.
use Rattle.std.specs.Prelude.{◌≡◌, true, List}
use Rattle.dds_cluster.specs.Trace.{is_run}
use Rattle.dds_cluster.specs.declared.step.Step.{Step}
use Rattle.dds_script.specs.Opening.{IsOpening, OpeningOf}
use Rattle.dds_world.specs.Outcomes.{OnlyTheLastAttempt}

-- of each run of each opening
abbrev pub LastAttemptsStand : Type 0
LastAttemptsStand = (o : OpeningOf) (journal : List Step) → IsOpening o → is_run o journal ≡ true → OnlyTheLastAttempt o journal
