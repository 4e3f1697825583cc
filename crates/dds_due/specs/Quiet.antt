use Rattle.std.specs.Prelude.{◌≡◌, true, [], Some}
use Rattle.std.specs.List.{AllByRecursion}
use Rattle.dds_base.specs.NodeSet.{has_node}
use Rattle.dds_base.specs.declared.number.NodeNo.{NodeNo}
use Rattle.dds_base.specs.declared.pending.Pending.{Pending}
use Rattle.dds_cluster.specs.World.{World, library_at}
use Rattle.dds_cluster.specs.declared.trace.Trace.{Trace}
use Rattle.dds_states.specs.declared.brick_state.BrickState.{BrickState}
use Rattle.dds_states.specs.declared.library_state.LibraryState.{LibraryState}
use Rattle.dds_world.specs.Places.{IsLive}
use Rattle.dds_world.specs.Quiet.{AnsweredIfLive, IsLiveLibrary}

-- What worlds in which nothing is on its way have come to, for calls.

-- no library that lives has a call open, and each call whose library lives was answered
pub record CallsAnswered (t : Trace) : Type 0 where
  pub libraries : (node : NodeNo) (s : LibraryState) → IsLiveLibrary t.world node s → s.calls ≡ []
  pub calls : AllByRecursion (AnsweredIfLive t) t.asked

-- the library of a pending transaction has stopped, and the brick knows it
pub record IsOfStopped (w : World) (s : BrickState) (p : Pending) : Type 0 where
  pub library : LibraryState
  pub there : library_at w p.txn.library ≡ Some library
  pub stopped : library.stopped ≡ true
  pub known : has_node s.known p.txn.library ≡ true

abbrev pub PendingIsOfStopped : World → Type 0
PendingIsOfStopped w = (node : NodeNo) (s : BrickState) → IsLive w node s → AllByRecursion (IsOfStopped w s) s.locks.pending
