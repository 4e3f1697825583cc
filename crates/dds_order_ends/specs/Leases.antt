-- Who gives back the leases that bricks have given.
use Rattle.std.specs.Prelude.{ℕ, ◌≡◌, ◌⊎◌, Bool, false, true, List, Option, Some, is_some, slice_get}
use Rattle.std.specs.List.{list_any}
use Rattle.dds_base.specs.Name.{Name, same_name}
use Rattle.dds_base.specs.NodeSet.{has_node}
use Rattle.dds_base.specs.declared.number.NodeNo.{NodeNo}
use Rattle.dds_cluster.specs.Trace.{is_run}
use Rattle.dds_cluster.specs.World.{World, brick_at}
use Rattle.dds_cluster.specs.declared.step.Step.{Step}
use Rattle.dds_letters.specs.declared.letter.Letter.TheVariants as letter
use Rattle.dds_letters.specs.declared.letter.Letter.{Letter}
use Rattle.dds_locks.specs.declared.leases.Lease.{Lease}
use Rattle.dds_net.specs.Net.{channel_at, sizes_of}
use Rattle.dds_script.specs.Opening.{IsOpening, OpeningOf}
use Rattle.dds_states.specs.declared.brick_state.BrickState.{BrickState}
use Rattle.dds_states.specs.declared.brick_state.OpenOrder.{OpenOrder}
use Rattle.dds_states.specs.declared.brick_state.Task.TheVariants.{Split}
use Rattle.dds_world.specs.Places.{IsLive, reached}

-- the open order is one of the name; and it is a split
pub record IsOrderOf (q : Option OpenOrder) (name : Name) : Type 0 where
  pub order : OpenOrder
  pub there : q ≡ Some order
  pub named : order.name ≡ name

pub record IsSplitOf (q : Option OpenOrder) (name : Name) : Type 0 where
  pub is : IsOrderOf q name
  pub task : is.order.task ≡ Split

-- the letter gives back a lease of the name
abbrev pub is_release : Name → Letter → Bool
is_release name (letter.Release number of) = same_name of name
is_release name other = false

-- the holder's open order is one of the name, or it gives the lease back: a Release is among the letters on their way
abbrev pub WillGiveBack : Option OpenOrder → Name → List Letter → Type 0
WillGiveBack q name letters = IsOrderOf q name ⊎ (list_any (is_release name) letters ≡ true)

-- a lease that a live brick has given: the holder is a brick of the cluster that isn't known to have stopped; if it is the brick itself, it
-- has an open split of the name; if it is another one that lives, it will give the lease back
pub record IsLeaseHeld (o : OpeningOf) (w : World) (brick : NodeNo) (s : BrickState) (a : Lease) : Type 0 where
  pub there : is_some (brick_at w a.holder) ≡ true
  pub unknown : has_node s.known a.holder ≡ false
  pub itself : a.holder ≡ brick → IsSplitOf s.order a.name
  pub other :
      (t : BrickState) → IsLive w a.holder t → (a.holder ≡ brick → ⊥)
      → WillGiveBack t.order a.name (channel_at (sizes_of o) w a.holder brick)

-- of each run of each opening
abbrev pub LeasesAreHeld : Type 0
LeasesAreHeld =
    (o : OpeningOf) (journal : List Step) (brick : NodeNo) (s : BrickState) (at : ℕ) (a : Lease) → IsOpening o → is_run o journal ≡ true
    → IsLive (reached o journal) brick s → slice_get s.locks.leases at ≡ Some a → IsLeaseHeld o (reached o journal) brick s a
