-- Whom an open order asks and waits for.
use Rattle.std.specs.Prelude.{◌≡◌, true, List, Some}
use Rattle.dds_base.specs.declared.number.NodeNo.{NodeNo}
use Rattle.dds_cluster.specs.Trace.{is_run}
use Rattle.dds_cluster.specs.World.{brick_at}
use Rattle.dds_cluster.specs.declared.step.Step.{Step}
use Rattle.dds_script.specs.Opening.{IsOpening, OpeningOf}
use Rattle.dds_states.specs.declared.brick_state.BrickState.{BrickState}
use Rattle.dds_states.specs.declared.brick_state.OpenOrder.{OpenOrder}
use Rattle.dds_world.specs.Places.{reached}
use Rattle.dds_members.specs.Law.{EachOnce}

-- an order has asked no member twice, and waits for none twice, be it for a lease or for its leaf to be installed
pub record AsksEachOnce (o : OpenOrder) : Type 0 where
  pub asked : EachOnce o.asked
  pub waiting : EachOnce o.waiting

-- of each brick's open order in each world of each run of each opening
abbrev pub OrdersAskOnce : Type 0
OrdersAskOnce =
    (o : OpeningOf) (journal : List Step) (brick : NodeNo) (s : BrickState) (open_order : OpenOrder) → IsOpening o → is_run o journal ≡ true
    → brick_at (reached o journal) brick ≡ Some s → s.order ≡ Some open_order → AsksEachOnce open_order
