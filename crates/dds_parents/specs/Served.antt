-- What a brick serves in the place of its leaves.
use Rattle.std.specs.Prelude.{ℕ, ◌≡◌, ◌||◌, true, List, Some, is_some}
use Rattle.dds_base.specs.NodeSet.{has_node}
use Rattle.dds_base.specs.declared.leaf.Leaf.{Leaf}
use Rattle.dds_base.specs.declared.number.NodeNo.{NodeNo}
use Rattle.dds_brick_rows.specs.Take as take
use Rattle.dds_cluster.specs.Trace.{is_run}
use Rattle.dds_cluster.specs.World.{World}
use Rattle.dds_cluster.specs.declared.step.Step.{Step}
use Rattle.dds_groups.specs.Leaves.{successor}
use Rattle.dds_groups.specs.Take.{is_better_rival}
use Rattle.dds_maps.specs.Own.{own_leaf}
use Rattle.dds_order_rows.specs.OwnOrder.{serving}
use Rattle.dds_script.specs.Opening.{IsOpening, OpeningOf}
use Rattle.dds_states.specs.Leaf.{leaf_for}
use Rattle.dds_states.specs.declared.brick_state.BrickState.{BrickState}
use Rattle.dds_states.specs.declared.brick_state.OpenOrder.{OpenOrder}
use Rattle.dds_states.specs.declared.brick_state.OrderPhase.TheVariants.{Installing}
use Rattle.dds_world.specs.Groups.{HasLeaf, ListsTheLive}
use Rattle.dds_world.specs.Places.{reached, IsLive}

-- of a live brick in a world: where it takes or installs a leaf that stands there in the place of its own, or serves the leaf that its
-- order made, the leaf that covers a key afterwards lists each live member of the one that covered it before
pub record MembersStay (w : World) (s : BrickState) : Type 0 where
  pub replaced :
      (mine leaf : Leaf) (key : ℕ) (old new : Leaf) → HasLeaf w leaf → own_leaf s.leaves leaf.name ≡ Some mine
      → (is_some (successor mine leaf) || is_better_rival (has_node s.known) mine leaf) ≡ true → leaf_for s.leaves key ≡ Some old
      → leaf_for (take.replaced s.leaves mine leaf) key ≡ Some new → ListsTheLive w old.list new.list
  pub served :
      (o : OpenOrder) (made : Leaf) (key : ℕ) (old new : Leaf) → s.order ≡ Some o → o.phase ≡ Installing made → leaf_for s.leaves key ≡ Some old
      → leaf_for (serving s o made o.task).leaves key ≡ Some new → ListsTheLive w old.list new.list

-- of each live brick in each world of each run of each opening
abbrev pub ServedLeavesList : Type 0
ServedLeavesList =
    (o : OpeningOf) (journal : List Step) (brick : NodeNo) (s : BrickState) → IsOpening o → is_run o journal ≡ true → IsLive (reached o journal) brick s
    → MembersStay (reached o journal) s
