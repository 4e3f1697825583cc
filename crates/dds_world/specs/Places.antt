-- The worlds of a run, and what is said of a node, a link or a step in one of them.
use Rattle.std.specs.Prelude.{ℕ, ◌≡◌, ◌⊎◌, Bool, true, false, List, Option, Some, None, slice_get, take}
use Rattle.dds_base.specs.declared.leaf.Leaf.{Leaf}
use Rattle.dds_base.specs.declared.number.NodeNo.{NodeNo}
use Rattle.dds_cluster.specs.Trace.{run_of}
use Rattle.dds_cluster.specs.World.{World, is_node, brick_at, library_at, link, outbox}
use Rattle.dds_cluster.specs.declared.step.Message.{Message}
use Rattle.dds_cluster.specs.declared.step.Step.{Step}
use Rattle.dds_cluster.specs.declared.step.Step.TheVariants as step
use Rattle.dds_letters.specs.declared.letter.Letter.{Letter}
use Rattle.dds_script.specs.Opening.{OpeningOf}
use Rattle.dds_states.specs.Leaf.{leaf_for}
use Rattle.dds_states.specs.declared.brick_state.BrickState.{BrickState}
use Rattle.dds_states.specs.declared.library_state.LibraryState.{LibraryState}

-- the world that a run reaches
abbrev pub reached : OpeningOf → List Step → World
reached o journal = (run_of o journal).world

-- the world in which the step at a place stands
abbrev pub world_at : OpeningOf → List Step → ℕ → World
world_at o journal at = reached o (take at journal)

-- the brick is live in this state
pub record IsLive (w : World) (brick : NodeNo) (s : BrickState) : Type 0 where
  pub there : brick_at w brick ≡ Some s
  pub live : s.stopped ≡ false

-- the node has stopped
abbrev pub HasStopped : World → NodeNo → Type 0
HasStopped w node =
    ((s : BrickState) × (brick_at w node ≡ Some s) × (s.stopped ≡ true))
    ⊎ ((s : LibraryState) × (library_at w node ≡ Some s) × (s.stopped ≡ true))

-- a brick serves a key: it is live, and a leaf of it covers the key
pub record Serves (w : World) (brick : NodeNo) (key : ℕ) (s : BrickState) (leaf : Leaf) : Type 0 where
  pub live : IsLive w brick s
  pub covers : leaf_for s.leaves key ≡ Some leaf

-- a letter is on its way from one node of the cluster to another: on the link, or in the sender's outbox
pub record Travels (w : World) (from to : NodeNo) (l : Letter) : Type 0 where
  pub sender : is_node w from ≡ true
  pub receiver : is_node w to ≡ true
  pub message : Message
  pub at : ℕ
  pub letter : message.letter ≡ l
  pub place : (slice_get (link w from to) at ≡ Some message) ⊎ ((slice_get (outbox w from) at ≡ Some message) × (message.to ≡ to))

-- at the place a brick that is live takes this letter
pub record Handles (o : OpeningOf) (journal : List Step) (at : ℕ) (brick : NodeNo) (l : Letter) (s : BrickState) : Type 0 where
  pub from : NodeNo
  pub message : Message
  pub step : slice_get journal at ≡ Some (step.Handle brick from)
  pub first : slice_get (link (world_at o journal at) from brick) 0 ≡ Some message
  pub letter : message.letter ≡ l
  pub state : brick_at (world_at o journal at) brick ≡ Some s
  pub live : s.stopped ≡ false
