-- How a live brick answers for a leaf that lists it.
use Rattle.std.specs.Prelude.{ℕ, ◌≡◌, true, Some, is_some}
use Rattle.dds_base.specs.Name.{covers}
use Rattle.dds_base.specs.declared.leaf.Leaf.{Leaf}
use Rattle.dds_brick_rows.specs.Refusal.{is_join}
use Rattle.dds_states.specs.Leaf.{leaf_for}
use Rattle.dds_states.specs.declared.brick_state.BrickState.{BrickState}
use Rattle.dds_states.specs.declared.brick_state.OpenOrder.{OpenOrder}
use Rattle.dds_states.specs.declared.brick_state.OrderPhase.TheVariants.{Installing}

-- its own leaves cover each key under the leaf's name; or its open join made the leaf, and has it installed
pub data Answers (s : BrickState) (leaf : Leaf) : Type 0 where
  serves : ((key : ℕ) → covers leaf.name key ≡ true → is_some (leaf_for s.leaves key) ≡ true) → Answers s leaf
  installs : (o : OpenOrder) → s.order ≡ Some o → is_join o.task ≡ true → is_some o.leaf ≡ true → o.phase ≡ Installing leaf → Answers s leaf
