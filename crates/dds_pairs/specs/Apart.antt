-- What a brick has under the name of its own open join: nothing.
use Rattle.std.specs.Prelude.{ℕ, ◌≡◌, true, false, List, Some, slice_get}
use Rattle.std.specs.FinMap.{get}
use Rattle.dds_base.specs.Name.{Name, covers, overlaps}
use Rattle.dds_base.specs.Op.{the_key}
use Rattle.dds_base.specs.declared.leaf.Leaf.{Leaf}
use Rattle.dds_base.specs.declared.number.NodeNo.{NodeNo}
use Rattle.dds_base.specs.declared.pending.Pending.{Pending}
use Rattle.dds_brick_rows.specs.Refusal.{is_join}
use Rattle.dds_cluster.specs.Trace.{is_run}
use Rattle.dds_cluster.specs.World.{brick_at}
use Rattle.dds_cluster.specs.declared.step.Step.{Step}
use Rattle.dds_script.specs.Opening.{IsOpening, OpeningOf}
use Rattle.dds_states.specs.declared.brick_state.BrickState.{BrickState}
use Rattle.dds_states.specs.declared.brick_state.OpenOrder.{OpenOrder}
use Rattle.dds_world.specs.Places.{reached}

-- no own leaf has a key in common with the order's name, and nothing is pending on a key under it
pub record StandsApart (s : BrickState) (o : OpenOrder) : Type 0 where
  pub leaves : (name : Name) (leaf : Leaf) → get s.leaves name ≡ Some leaf → overlaps name o.name ≡ false
  pub pending : (at : ℕ) (p : Pending) → slice_get s.locks.pending at ≡ Some p → covers o.name (the_key p.op) ≡ false

-- of each brick's open join in each world of each run of each opening
abbrev pub JoinsStandApart : Type 0
JoinsStandApart =
    (o : OpeningOf) (journal : List Step) (brick : NodeNo) (s : BrickState) (join : OpenOrder) → IsOpening o → is_run o journal ≡ true
    → brick_at (reached o journal) brick ≡ Some s → s.order ≡ Some join → is_join join.task ≡ true → StandsApart s join
