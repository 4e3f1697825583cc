-- What holds of each run.
use Rattle.std.specs.Prelude.{◌≡◌, true, List}
use Rattle.dds_cluster.specs.Trace.{is_run}
use Rattle.dds_cluster.specs.declared.step.Step.{Step}
use Rattle.dds_script.specs.Opening.{IsOpening, OpeningOf}
use Rattle.dds_commit.specs.Holds.{HoldsOf}

-- there are books with which all parts hold in the world that the run reaches
abbrev pub PartsHold : Type 0
PartsHold = (o : OpeningOf) (journal : List Step) → IsOpening o → is_run o journal ≡ true → HoldsOf o journal
