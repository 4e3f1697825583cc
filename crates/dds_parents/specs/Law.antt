-- Leaves and those that they came from.
use Rattle.std.specs.Prelude.{◌≡◌, true, List}
use Rattle.dds_base.specs.declared.leaf.Leaf.{Leaf}
use Rattle.dds_cluster.specs.Trace.{is_run}
use Rattle.dds_cluster.specs.declared.step.Step.{Step}
use Rattle.dds_script.specs.Opening.{IsOpening, OpeningOf}
use Rattle.dds_world.specs.Groups.{HasLeaf, ListsTheLive}
use Rattle.dds_world.specs.Places.{reached}

-- of each run of each opening: where two leaves stand in the world that is reached, and the one came from leaves of the other one's
-- stamp, it lists each live member of the other one. It is the part `parents` of `ServersShareAGroup`, which asks moreover that the
-- one's name is under the other one's
abbrev pub LeavesListParents : Type 0
LeavesListParents =
    (o : OpeningOf) (journal : List Step) (leaf parent : Leaf) → IsOpening o → is_run o journal ≡ true → HasLeaf (reached o journal) leaf
    → HasLeaf (reached o journal) parent → leaf.prev ≡ parent.stamp → ListsTheLive (reached o journal) parent.list leaf.list
