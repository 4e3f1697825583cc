-- Whom open orders wait for.
use Rattle.std.specs.Prelude.{◌≡◌, false, true, List, [], ◌∷◌, Some, None, is_some}
use Rattle.dds_base.specs.BrickList.{has}
use Rattle.dds_base.specs.NodeSet.{has_node}
use Rattle.dds_base.specs.declared.node_set.NodeSet.{NodeSet}
use Rattle.dds_base.specs.declared.number.NodeNo.{NodeNo}
use Rattle.dds_cluster.specs.Trace.{is_run}
use Rattle.dds_cluster.specs.World.{World, brick_at}
use Rattle.dds_cluster.specs.declared.step.Step.{Step}
use Rattle.dds_script.specs.Opening.{IsOpening, OpeningOf}
use Rattle.dds_states.specs.Turn.{is_none_left}
use Rattle.dds_states.specs.declared.brick_state.BrickState.{BrickState}
use Rattle.dds_states.specs.declared.brick_state.OpenOrder.{OpenOrder}
use Rattle.dds_states.specs.declared.brick_state.OrderPhase.TheVariants.{Copying, Installing, Leasing}
use Rattle.dds_states.specs.declared.brick_state.OrderPhase.{OrderPhase}
use Rattle.dds_states.specs.declared.brick_state.Task.TheVariants.{Join}
use Rattle.dds_world.specs.Places.{IsLive, reached}

-- whom an order waits for in a phase: those whose leases it waits for, the one that it copies from, those that are to install the made leaf
abbrev pub awaited : OrderPhase → List NodeNo → List NodeNo
awaited Leasing waiting = waiting
awaited (Copying source) waiting = source ∷ []
awaited (Installing made) waiting = waiting

-- the order is a join that waits for a lease of the one member that it knows, and for nothing else
pub record WaitsForWay (o : OpenOrder) : Type 0 where
  pub via : NodeNo
  pub task : o.task ≡ Join via
  pub phase : o.phase ≡ Leasing
  pub waiting : o.waiting ≡ via ∷ []

-- an open order at a brick that knows of these nodes that they have stopped: it waits for somebody, for none of these, and where it has no
-- leaf yet, for the one member that it knows
pub record Waits (known : NodeSet) (o : OpenOrder) : Type 0 where
  pub some : is_none_left (awaited o.phase o.waiting) ≡ false
  pub unknown : (m : NodeNo) → has (awaited o.phase o.waiting) m ≡ true → has_node known m ≡ false
  pub first : o.leaf ≡ None → WaitsForWay o

-- and those that it waits for are other bricks of the cluster
pub record WaitsForOthers (w : World) (brick : NodeNo) (s : BrickState) (o : OpenOrder) : Type 0 where
  pub waits : Waits s.known o
  pub others : (m : NodeNo) → has (awaited o.phase o.waiting) m ≡ true → m ≡ brick → ⊥
  pub bricks : (m : NodeNo) → has (awaited o.phase o.waiting) m ≡ true → is_some (brick_at w m) ≡ true

-- of each run of each opening
abbrev pub OrdersWait : Type 0
OrdersWait =
    (o : OpeningOf) (journal : List Step) (brick : NodeNo) (s : BrickState) (open_order : OpenOrder) → IsOpening o → is_run o journal ≡ true
    → IsLive (reached o journal) brick s → s.order ≡ Some open_order → WaitsForOthers (reached o journal) brick s open_order
