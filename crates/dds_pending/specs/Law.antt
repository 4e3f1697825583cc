-- Whom pending transactions list.
use Rattle.std.specs.Prelude.{ℕ, ◌≡◌, true, List, Some, slice_get}
use Rattle.dds_base.specs.Op.{the_key}
use Rattle.dds_base.specs.declared.leaf.Leaf.{Leaf}
use Rattle.dds_base.specs.declared.number.NodeNo.{NodeNo}
use Rattle.dds_base.specs.declared.pending.Pending.{Pending}
use Rattle.dds_cluster.specs.Trace.{is_run}
use Rattle.dds_cluster.specs.declared.step.Step.{Step}
use Rattle.dds_script.specs.Opening.{IsOpening, OpeningOf}
use Rattle.dds_states.specs.declared.brick_state.BrickState.{BrickState}
use Rattle.dds_world.specs.Groups.{ListsTheLive}
use Rattle.dds_world.specs.Places.{reached, Serves}

-- of each run of each opening: where a transaction is pending at a live brick, and a leaf of the brick covers its key, each live member
-- of the leaf's list is in the transaction's list. It is the part `pending` of `ServersShareAGroup`
abbrev pub PendingListsTheLive : Type 0
PendingListsTheLive =
    (o : OpeningOf) (journal : List Step) (brick : NodeNo) (s : BrickState) (at : ℕ) (p : Pending) (leaf : Leaf) → IsOpening o → is_run o journal ≡ true
    → slice_get s.locks.pending at ≡ Some p → Serves (reached o journal) brick (the_key p.op) s leaf → ListsTheLive (reached o journal) leaf.list p.list
