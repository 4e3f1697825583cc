-- The members that an open order has to do with.
use Rattle.std.specs.Prelude.{◌≡◌, ◌<◌, false, true, List, Some}
use Rattle.dds_base.specs.BrickList.{has}
use Rattle.dds_base.specs.declared.leaf.Leaf.{Leaf}
use Rattle.dds_base.specs.declared.number.NodeNo.{NodeNo}
use Rattle.dds_cluster.specs.Trace.{is_run}
use Rattle.dds_cluster.specs.World.{World}
use Rattle.dds_cluster.specs.declared.step.Step.{Step}
use Rattle.dds_letters.specs.declared.letter.Letter.{Letter}
use Rattle.dds_order_rows.specs.OwnOrder.{is_leasing}
use Rattle.dds_orders.specs.Law.{asked_of, said_of}
use Rattle.dds_script.specs.Opening.{IsOpening, OpeningOf}
use Rattle.dds_states.specs.declared.brick_state.BrickState.{BrickState}
use Rattle.dds_states.specs.declared.brick_state.OpenOrder.{OpenOrder}
use Rattle.dds_states.specs.declared.brick_state.OrderPhase.TheVariants.{Copying, Installing}
use Rattle.dds_world.specs.Places.{reached, IsLive, Travels}

-- an open order of a live brick: its lists, as far as they have to do with one another, and who its letters go to and come from. The
-- numbers of bricks are below 64
pub record KeepsToItsMembers (w : World) (brick : NodeNo) (o : OpenOrder) : Type 0 where
  pub itself : has o.asked brick ≡ false
  pub granted : (m : NodeNo) → has o.granted m ≡ true → has o.asked m ≡ true
  pub leases :
      (m : NodeNo) → is_leasing o.phase ≡ true → has o.waiting m ≡ true → (has o.asked m ≡ true) × (has o.granted m ≡ false)
  pub source : (m : NodeNo) → o.phase ≡ Copying m → has o.granted m ≡ true
  pub installs : (made : Leaf) (m : NodeNo) → o.phase ≡ Installing made → has o.waiting m ≡ true → has o.granted m ≡ true
  pub asks : (m : NodeNo) (l : Letter) → m < 64 → Travels w brick m l → asked_of l ≡ Some o.number → has o.asked m ≡ true
  pub answers : (m : NodeNo) (l : Letter) → Travels w m brick l → said_of l ≡ Some o.number → has o.asked m ≡ true

-- of each run of each opening
abbrev pub OrdersKeepToTheirMembers : Type 0
OrdersKeepToTheirMembers =
    (o : OpeningOf) (journal : List Step) (brick : NodeNo) (s : BrickState) (open_order : OpenOrder) → IsOpening o → is_run o journal ≡ true
    → IsLive (reached o journal) brick s → s.order ≡ Some open_order → KeepsToItsMembers (reached o journal) brick open_order
