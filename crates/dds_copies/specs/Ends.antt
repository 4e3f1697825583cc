-- What a join's brick holds at the join's end, in runs.
use Rattle.std.specs.Prelude.{◌≡◌, true, List, Some, None}
use Rattle.dds_base.specs.declared.leaf.Leaf.{Leaf}
use Rattle.dds_base.specs.declared.number.NodeNo.{NodeNo}
use Rattle.dds_brick_rows.specs.Refusal.{is_join}
use Rattle.dds_cluster.specs.Trace.{is_run}
use Rattle.dds_cluster.specs.World.{brick_at}
use Rattle.dds_cluster.specs.declared.step.Step.{Step}
use Rattle.dds_history.specs.Map.{Map}
use Rattle.dds_order_rows.specs.Orders.{pairs_after}
use Rattle.dds_order_rows.specs.OwnOrder.{serving}
use Rattle.dds_script.specs.Opening.{IsOpening, OpeningOf}
use Rattle.dds_states.specs.declared.brick_state.BrickState.{BrickState}
use Rattle.dds_states.specs.declared.brick_state.OpenOrder.{OpenOrder}
use Rattle.dds_world.specs.Places.{reached}
use Rattle.dds_copies.specs.Copies.{HoldsUnder}

-- of each brick in each world of each run of each opening: where its open join has copied a table's pairs under the join's name, the brick
-- holds the table there when it serves the leaf that the join made
abbrev pub JoinsEndWithTheTable : Type 0
JoinsEndWithTheTable =
    (o : OpeningOf) (journal : List Step) (brick : NodeNo) (s : BrickState) (join : OpenOrder) (table : Map) (made : Leaf) → IsOpening o
    → is_run o journal ≡ true → brick_at (reached o journal) brick ≡ Some s → s.order ≡ Some join → is_join join.task ≡ true
    → join.copied ≡ pairs_after table join.name None → HoldsUnder table join.name (serving s join made join.task)
