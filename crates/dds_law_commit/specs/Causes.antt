-- Each answer has its cause: what is so of every run, with stops, splits and joins.
use Rattle.std.specs.Prelude.{◌≡◌, true, List}
use Rattle.dds_cluster.specs.Trace.{is_run}
use Rattle.dds_cluster.specs.declared.step.Step.{Step}
use Rattle.dds_law_commit.specs.Law.{AreCaused}
use Rattle.dds_script.specs.Opening.{IsOpening, OpeningOf}

-- of each run of each opening: each Again, Full and Lost has its cause in the run
abbrev pub AllAreCaused : Type 0
AllAreCaused = (o : OpeningOf) (journal : List Step) → IsOpening o → is_run o journal ≡ true → AreCaused o journal
