-- The leaf of an open split.
use Rattle.std.specs.Prelude.{◌≡◌, true, List, Some}
use Rattle.std.specs.FinMap.{get}
use Rattle.dds_base.specs.declared.leaf.Leaf.{Leaf}
use Rattle.dds_base.specs.declared.number.NodeNo.{NodeNo}
use Rattle.dds_cluster.specs.Trace.{is_run}
use Rattle.dds_cluster.specs.World.{brick_at}
use Rattle.dds_cluster.specs.declared.step.Step.{Step}
use Rattle.dds_script.specs.Opening.{IsOpening, OpeningOf}
use Rattle.dds_states.specs.declared.brick_state.BrickState.{BrickState}
use Rattle.dds_states.specs.declared.brick_state.OpenOrder.{OpenOrder}
use Rattle.dds_states.specs.declared.brick_state.Task.TheVariants.{Split}
use Rattle.dds_trie.specs.Trie.{LeafMap}
use Rattle.dds_world.specs.Places.{reached}

-- the order has a leaf, which stands in the map under the order's name
pub record HasSplitLeaf (m : LeafMap) (o : OpenOrder) : Type 0 where
  pub leaf : Leaf
  pub fixed : o.leaf ≡ Some leaf
  pub there : get m o.name ≡ Some leaf

-- of each brick in each world of each run of each opening: while a split of its own is open, the split's leaf is one of the brick's
abbrev pub SplitLeavesStand : Type 0
SplitLeavesStand =
    (o : OpeningOf) (journal : List Step) (brick : NodeNo) (s : BrickState) (open_order : OpenOrder) → IsOpening o → is_run o journal ≡ true
    → brick_at (reached o journal) brick ≡ Some s → s.order ≡ Some open_order → open_order.task ≡ Split → HasSplitLeaf s.leaves open_order
