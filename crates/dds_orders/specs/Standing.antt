-- What a brick's leases stand on.
use Rattle.std.specs.Prelude.{ℕ, ◌≡◌, ◌≤◌, true, List, Some, slice_get}
use Rattle.std.specs.FinMap.{get}
use Rattle.dds_base.specs.Name.{Name, overlaps}
use Rattle.dds_base.specs.declared.leaf.Leaf.{Leaf}
use Rattle.dds_base.specs.declared.number.NodeNo.{NodeNo}
use Rattle.dds_cluster.specs.Trace.{is_run}
use Rattle.dds_cluster.specs.World.{brick_at}
use Rattle.dds_cluster.specs.declared.step.Step.{Step}
use Rattle.dds_locks.specs.Leases.{is_given}
use Rattle.dds_locks.specs.declared.leases.Lease.{Lease}
use Rattle.dds_script.specs.Opening.{IsOpening, OpeningOf}
use Rattle.dds_states.specs.declared.brick_state.BrickState.{BrickState}
use Rattle.dds_states.specs.declared.brick_state.OpenOrder.{OpenOrder}
use Rattle.dds_states.specs.declared.brick_state.Task.TheVariants.{Split}
use Rattle.dds_trie.specs.Trie.{LeafMap}
use Rattle.dds_world.specs.Places.{reached}

-- a leaf of the map has a key in common with the name, and is at least as deep
pub record HasLeafIn (m : LeafMap) (top : Name) : Type 0 where
  pub name : Name
  pub leaf : Leaf
  pub there : get m name ≡ Some leaf
  pub meets : overlaps name top ≡ true
  pub deep : top.depth ≤ name.depth

-- a brick's leases: each own leaf that has a key in common with a lease's name is at least as deep, so that none goes beyond the lease,
-- and there is one; and while a split of its own is open, the brick's own lease of the split's name stands
pub record LeasesStandOn (s : BrickState) : Type 0 where
  pub within :
      (at : ℕ) (a : Lease) (name : Name) (leaf : Leaf) → slice_get s.locks.leases at ≡ Some a → get s.leaves name ≡ Some leaf
      → overlaps name a.name ≡ true → a.name.depth ≤ name.depth
  pub some : (at : ℕ) (a : Lease) → slice_get s.locks.leases at ≡ Some a → HasLeafIn s.leaves a.name
  pub own : (o : OpenOrder) → s.order ≡ Some o → o.task ≡ Split → is_given s.locks.leases o.name s.number ≡ true

-- of each brick in each world of each run of each opening
abbrev pub LeasesStand : Type 0
LeasesStand =
    (o : OpeningOf) (journal : List Step) (brick : NodeNo) (s : BrickState) → IsOpening o → is_run o journal ≡ true
    → brick_at (reached o journal) brick ≡ Some s → LeasesStandOn s
