-- A lease keeps the leaves in its name as they are.
use Rattle.std.specs.Prelude.{ℕ, ◌≡◌, ◌≤◌, ◌⊎◌, ◌++◌, true, List, [], ◌∷◌, Some, slice_get}
use Rattle.std.specs.FinMap.{get}
use Rattle.dds_base.specs.Name.{Name, overlaps}
use Rattle.dds_base.specs.declared.leaf.Leaf.{Leaf}
use Rattle.dds_base.specs.declared.number.NodeNo.{NodeNo}
use Rattle.dds_cluster.specs.Trace.{is_possible, is_run, run_of}
use Rattle.dds_cluster.specs.World.{brick_at, link}
use Rattle.dds_cluster.specs.declared.step.Message.{Message}
use Rattle.dds_cluster.specs.declared.step.Step.{Step}
use Rattle.dds_cluster.specs.declared.step.Step.TheVariants as step
use Rattle.dds_letters.specs.declared.letter.Letter.TheVariants as letter
use Rattle.dds_locks.specs.Leases.{is_given}
use Rattle.dds_script.specs.Opening.{IsOpening, OpeningOf}
use Rattle.dds_states.specs.declared.brick_state.BrickState.{BrickState}
use Rattle.dds_world.specs.Places.{reached}

-- the step is that the brick handles a letter of the other one that has it install a leaf
pub record TakesInstall (o : OpeningOf) (journal : List Step) (x : Step) (brick from : NodeNo) : Type 0 where
  pub step : x ≡ step.Handle brick from
  pub message : Message
  pub number : ℕ
  pub made : Leaf
  pub first : slice_get (link (reached o journal) from brick) 0 ≡ Some message
  pub letter : message.letter ≡ letter.Install number made

-- of each step that is possible after a run of an opening, and each brick that has given a lease to another one before the step and
-- after it: its own leaves in the lease's name stay, unless the step is that it takes the holder's letter to install a leaf
abbrev pub LeasedLeavesStay : Type 0
LeasedLeavesStay =
    (o : OpeningOf) (journal : List Step) (x : Step) (brick holder : NodeNo) (s t : BrickState) (name own : Name) (leaf : Leaf) → IsOpening o
    → is_run o journal ≡ true → is_possible (run_of o journal) x ≡ true → brick_at (reached o journal) brick ≡ Some s
    → brick_at (reached o (journal ++ x ∷ [])) brick ≡ Some t → (holder ≡ brick → ⊥) → is_given s.locks.leases name holder ≡ true
    → is_given t.locks.leases name holder ≡ true → overlaps own name ≡ true → name.depth ≤ own.depth → get s.leaves own ≡ Some leaf
    → (get t.leaves own ≡ Some leaf) ⊎ TakesInstall o journal x brick holder
