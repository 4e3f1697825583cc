-- The leaves that may stand in the place of others.
use Rattle.std.specs.Prelude.{◌≡◌, ◌||◌, true, List, is_some}
use Rattle.dds_base.specs.NodeSet.{has_node}
use Rattle.dds_base.specs.declared.leaf.Leaf.{Leaf}
use Rattle.dds_base.specs.declared.number.NodeNo.{NodeNo}
use Rattle.dds_cluster.specs.Trace.{is_run}
use Rattle.dds_cluster.specs.declared.step.Step.{Step}
use Rattle.dds_groups.specs.Leaves.{successor}
use Rattle.dds_groups.specs.Take.{is_better_rival}
use Rattle.dds_script.specs.Opening.{IsOpening, OpeningOf}
use Rattle.dds_states.specs.declared.brick_state.BrickState.{BrickState}
use Rattle.dds_world.specs.Groups.{HasLeaf, ListsTheLive}
use Rattle.dds_world.specs.Places.{reached, IsLive}

-- of each run of each opening, and each live brick: where of two leaves that stand in the world the one comes from the other one in one
-- step, or came from the same leaf and is the better one by what the brick knows, it lists each live member of the other one. These are
-- the leaves that a brick takes or installs in the place of its own
abbrev pub TakenLeavesList : Type 0
TakenLeavesList =
    (o : OpeningOf) (journal : List Step) (brick : NodeNo) (s : BrickState) (mine leaf : Leaf) → IsOpening o → is_run o journal ≡ true
    → IsLive (reached o journal) brick s → HasLeaf (reached o journal) mine → HasLeaf (reached o journal) leaf
    → (is_some (successor mine leaf) || is_better_rival (has_node s.known) mine leaf) ≡ true → ListsTheLive (reached o journal) mine.list leaf.list
