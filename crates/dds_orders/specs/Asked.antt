-- Whom an order has asked, and whom the leaf that it makes lists.
use Rattle.std.specs.Prelude.{◌≡◌, ◌⊎◌, true, List, Some}
use Rattle.dds_base.specs.BrickList.{has}
use Rattle.dds_base.specs.declared.leaf.Leaf.{Leaf}
use Rattle.dds_base.specs.declared.number.NodeNo.{NodeNo}
use Rattle.dds_cluster.specs.Trace.{is_run}
use Rattle.dds_cluster.specs.World.{World}
use Rattle.dds_cluster.specs.declared.step.Step.{Step}
use Rattle.dds_order_rows.specs.OwnOrder.{is_leasing}
use Rattle.dds_script.specs.Opening.{IsOpening, OpeningOf}
use Rattle.dds_states.specs.declared.brick_state.BrickState.{BrickState}
use Rattle.dds_states.specs.declared.brick_state.OpenOrder.{OpenOrder}
use Rattle.dds_states.specs.declared.brick_state.OrderPhase.TheVariants.{Installing}
use Rattle.dds_world.specs.Groups.{ListsTheLive}
use Rattle.dds_world.specs.Places.{reached, IsLive}

-- an open order of a live brick that has a leaf: each live member of it is the brick itself, or has granted its lease, or is waited for
-- while the order leases; and where the order has made a leaf, that one lists each live member
pub record HasAsked (w : World) (brick : NodeNo) (o : OpenOrder) (leaf : Leaf) : Type 0 where
  pub members :
      (other : NodeNo) (t : BrickState) → IsLive w other t → has leaf.list other ≡ true
      → (other ≡ brick) ⊎ (has o.granted other ≡ true) ⊎ ((is_leasing o.phase ≡ true) × (has o.waiting other ≡ true))
  pub made : (made : Leaf) → o.phase ≡ Installing made → ListsTheLive w leaf.list made.list

-- of each live brick in each world of each run of each opening
abbrev pub OrdersAskAll : Type 0
OrdersAskAll =
    (o : OpeningOf) (journal : List Step) (brick : NodeNo) (s : BrickState) (open_order : OpenOrder) (leaf : Leaf) → IsOpening o → is_run o journal ≡ true
    → IsLive (reached o journal) brick s → s.order ≡ Some open_order → open_order.leaf ≡ Some leaf → HasAsked (reached o journal) brick open_order leaf
