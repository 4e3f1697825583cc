-- The bricks that serve a key.
use Rattle.std.specs.Prelude.{◌≡◌, true, List}
use Rattle.dds_cluster.specs.Trace.{is_run}
use Rattle.dds_cluster.specs.declared.step.Step.{Step}
use Rattle.dds_script.specs.Opening.{IsOpening, OpeningOf}
use Rattle.dds_world.specs.Groups.{ServersShareAGroup}

-- one of the nine facts of reached worlds: of each run of each opening
abbrev pub GroupsAreShared : Type 0
GroupsAreShared = (o : OpeningOf) (journal : List Step) → IsOpening o → is_run o journal ≡ true → ServersShareAGroup o journal
