-- The names of leaves.
use Rattle.std.specs.Prelude.{◌≡◌, true, List}
use Rattle.dds_base.specs.declared.leaf.Leaf.{Leaf}
use Rattle.dds_cluster.specs.Trace.{is_run}
use Rattle.dds_cluster.specs.declared.step.Step.{Step}
use Rattle.dds_script.specs.Opening.{IsOpening, OpeningOf}
use Rattle.dds_script.specs.Ranges.{IsName}
use Rattle.dds_world.specs.Groups.{HasLeaf}
use Rattle.dds_world.specs.Places.{reached}

-- of each world of each run of each opening: wherever a leaf stands, its name is a partition's
abbrev pub LeavesHaveNames : Type 0
LeavesHaveNames =
    (o : OpeningOf) (journal : List Step) (leaf : Leaf) → IsOpening o → is_run o journal ≡ true → HasLeaf (reached o journal) leaf → IsName leaf.name
