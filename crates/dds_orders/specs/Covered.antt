-- Pending transactions lie under own leaves.
use Rattle.std.specs.Prelude.{ℕ, ◌≡◌, true, List, Some, is_some, slice_get}
use Rattle.dds_base.specs.Op.{the_key}
use Rattle.dds_base.specs.declared.number.NodeNo.{NodeNo}
use Rattle.dds_base.specs.declared.pending.Pending.{Pending}
use Rattle.dds_cluster.specs.Trace.{is_run}
use Rattle.dds_cluster.specs.declared.step.Step.{Step}
use Rattle.dds_script.specs.Opening.{IsOpening, OpeningOf}
use Rattle.dds_states.specs.Leaf.{leaf_for}
use Rattle.dds_states.specs.declared.brick_state.BrickState.{BrickState}
use Rattle.dds_world.specs.Places.{reached, IsLive}

-- of each run of each opening: the key of a transaction that is pending at a live brick is covered by a leaf of the brick. It is the
-- part `covered` of `ServersShareAGroup`
abbrev pub PendingIsCovered : Type 0
PendingIsCovered =
    (o : OpeningOf) (journal : List Step) (brick : NodeNo) (s : BrickState) (at : ℕ) (p : Pending) → IsOpening o → is_run o journal ≡ true
    → IsLive (reached o journal) brick s → slice_get s.locks.pending at ≡ Some p → is_some (leaf_for s.leaves (the_key p.op)) ≡ true
