-- The notice of a node that stopped is its last letter. Proved of every run.
use Rattle.std.specs.Prelude.{ℕ, ◌≡◌, ◌⊎◌, ◌+◌, true, List, [], Some, length, slice_get}
use Rattle.dds_base.specs.NodeSet.{has_node}
use Rattle.dds_base.specs.declared.number.NodeNo.{NodeNo}
use Rattle.dds_cluster.specs.World.{World, brick_at, library_at, link}
use Rattle.dds_cluster.specs.declared.step.Message.{Message}
use Rattle.dds_cluster.specs.declared.step.Step.{Step}
use Rattle.dds_letters.specs.declared.letter.Letter.TheVariants as letter
use Rattle.dds_script.specs.Opening.{OpeningOf}
use Rattle.dds_states.specs.declared.brick_state.BrickState.{BrickState}
use Rattle.dds_states.specs.declared.library_state.LibraryState.{LibraryState}
use Rattle.dds_world.specs.Places.{reached, HasStopped, Travels}

-- a node knows another one as stopped
abbrev pub Knows : World → NodeNo → NodeNo → Type 0
Knows w node other =
    ((s : BrickState) × (brick_at w node ≡ Some s) × (has_node s.known other ≡ true))
    ⊎ ((s : LibraryState) × (library_at w node ≡ Some s) × (has_node s.known other ≡ true))

-- a notice is of a node that stopped, and is the last letter on its link; a node that knows another one has nothing more
-- from it
pub record NoticeIsLast (o : OpeningOf) (journal : List Step) : Type 0 where
  pub sent : (from to : NodeNo) → Travels (reached o journal) from to letter.Notice → HasStopped (reached o journal) from
  pub known : (node other : NodeNo) → Knows (reached o journal) node other → HasStopped (reached o journal) other
  pub last :
      (from to : NodeNo) (at : ℕ) (m : Message) →
      slice_get (link (reached o journal) from to) at ≡ Some m →
      m.letter ≡ letter.Notice →
      length (link (reached o journal) from to) ≡ at + 1
  pub nothing : (node other : NodeNo) → Knows (reached o journal) node other → link (reached o journal) other node ≡ []
