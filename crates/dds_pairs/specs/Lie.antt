-- Where a brick's pairs lie.
use Rattle.std.specs.Prelude.{ℕ, ◌≡◌, true, List, Some, is_some}
use Rattle.std.specs.FinMap.{contains_key}
use Rattle.dds_base.specs.declared.number.NodeNo.{NodeNo}
use Rattle.dds_cluster.specs.Trace.{is_run}
use Rattle.dds_cluster.specs.World.{brick_at}
use Rattle.dds_cluster.specs.declared.step.Step.{Step}
use Rattle.dds_script.specs.Opening.{IsOpening, OpeningOf}
use Rattle.dds_states.specs.Leaf.{leaf_for}
use Rattle.dds_states.specs.declared.brick_state.BrickState.{BrickState}
use Rattle.dds_world.specs.Places.{reached}

-- of each brick in each world of each run of each opening: a leaf of the brick covers each key that the brick has bound
abbrev pub PairsLieUnderLeaves : Type 0
PairsLieUnderLeaves =
    (o : OpeningOf) (journal : List Step) (brick : NodeNo) (s : BrickState) (key : ℕ) → IsOpening o → is_run o journal ≡ true
    → brick_at (reached o journal) brick ≡ Some s → contains_key s.pairs key ≡ true → is_some (leaf_for s.leaves key) ≡ true
