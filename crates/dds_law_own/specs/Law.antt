-- Of one brick: its leaves and its leases.
use Rattle.std.specs.Prelude.{ℕ, ◌≡◌, ◌<◌, true, false, List, Some, slice_get}
use Rattle.std.specs.FinMap.{get}
use Rattle.dds_base.specs.BrickList.{has}
use Rattle.dds_base.specs.Name.{Name, covers, overlaps}
use Rattle.dds_base.specs.NodeSet.{has_node}
use Rattle.dds_base.specs.Op.{the_key}
use Rattle.dds_base.specs.declared.leaf.Leaf.{Leaf}
use Rattle.dds_base.specs.declared.number.NodeNo.{NodeNo}
use Rattle.dds_base.specs.declared.pending.Pending.{Pending}
use Rattle.dds_cluster.specs.Trace.{is_run}
use Rattle.dds_cluster.specs.World.{World, brick_at}
use Rattle.dds_cluster.specs.declared.step.Step.{Step}
use Rattle.dds_locks.specs.declared.leases.Lease.{Lease}
use Rattle.dds_script.specs.Opening.{IsOpening, OpeningOf}
use Rattle.dds_states.specs.declared.brick_state.BrickState.{BrickState}
use Rattle.dds_world.specs.Places.{reached}

-- a brick of a world: its leaves stand under their names, list it, and have no key in common; nor have two leases; who holds a
-- lease isn't known to have stopped; and no update is pending on a key under a lease
pub record KeepsItsOwn (w : World) (brick : NodeNo) (s : BrickState) : Type 0 where
  pub named : (name : Name) (leaf : Leaf) → get s.leaves name ≡ Some leaf → leaf.name ≡ name
  pub lists : (name : Name) (leaf : Leaf) → get s.leaves name ≡ Some leaf → has leaf.list brick ≡ true
  pub disjoint :
      (a b : Name) (x y : Leaf) → get s.leaves a ≡ Some x → get s.leaves b ≡ Some y → overlaps a b ≡ true → a ≡ b
  pub apart :
      (at also : ℕ) (a b : Lease) → at < also → slice_get s.locks.leases at ≡ Some a → slice_get s.locks.leases also ≡ Some b
      → overlaps a.name b.name ≡ false
  pub holders : (at : ℕ) (a : Lease) → slice_get s.locks.leases at ≡ Some a → has_node s.known a.holder ≡ false
  pub free :
      (at also : ℕ) (a : Lease) (p : Pending) → slice_get s.locks.leases at ≡ Some a → slice_get s.locks.pending also ≡ Some p
      → covers a.name (the_key p.op) ≡ false

-- of each run of each opening
abbrev pub BricksKeepTheirOwn : Type 0
BricksKeepTheirOwn =
    (o : OpeningOf) (journal : List Step) (brick : NodeNo) (s : BrickState) → IsOpening o → is_run o journal ≡ true
    → brick_at (reached o journal) brick ≡ Some s → KeepsItsOwn (reached o journal) brick s
