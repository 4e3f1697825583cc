-- The ninth of the facts of reached worlds.
use Rattle.std.specs.Prelude.{◌≡◌, true, List}
use Rattle.dds_script.specs.Opening.{OpeningOf, ranges_of}
use Rattle.dds_script.specs.Ranges.{IsRanges}
use Rattle.dds_world.specs.Refusals.{RefusalsWereTrue}
use Rattle.dds_cluster.specs.Trace.{is_run}
use Rattle.dds_cluster.specs.declared.step.Step.{Step}

-- of each run of each opening whose numbers of nodes are in range
abbrev pub RefusalsWereMade : Type 0
RefusalsWereMade = (o : OpeningOf) (journal : List Step) → IsRanges (ranges_of o) → is_run o journal ≡ true → RefusalsWereTrue o journal
