-- What bricks hold and joins copy, of each run of each opening.
use Rattle.std.specs.Prelude.{◌≡◌, true, List}
use Rattle.dds_cluster.specs.Trace.{is_run}
use Rattle.dds_cluster.specs.declared.step.Step.{Step}
use Rattle.dds_copies.specs.Frozen.{JoinsAreFrozen}
use Rattle.dds_copies.specs.Runs.{JoinsHaveCopied}
use Rattle.dds_script.specs.Opening.{IsOpening, OpeningOf}
use Rattle.dds_values.specs.Held.{ValuesHeld}
use Rattle.dds_world.specs.Values.{ServersHoldTheHistory}

-- the history is one of one map, and live bricks hold what the points left
abbrev pub ValuesAreKept : Type 0
ValuesAreKept = (o : OpeningOf) (journal : List Step) → IsOpening o → is_run o journal ≡ true → ValuesHeld o journal

-- so they hold what the history left: one of the nine facts of reached worlds
abbrev pub ServersAlwaysHold : Type 0
ServersAlwaysHold = (o : OpeningOf) (journal : List Step) → IsOpening o → is_run o journal ≡ true → ServersHoldTheHistory o journal

-- joins copy what the points left, and nothing changes there while they do
abbrev pub JoinsAlwaysCopy : Type 0
JoinsAlwaysCopy = (o : OpeningOf) (journal : List Step) → IsOpening o → is_run o journal ≡ true → JoinsHaveCopied o journal

abbrev pub BoundJoinsStayFrozen : Type 0
BoundJoinsStayFrozen = (o : OpeningOf) (journal : List Step) → IsOpening o → is_run o journal ≡ true → JoinsAreFrozen o journal
