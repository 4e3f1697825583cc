-- The worlds in which nothing is on its way, and what they have come to.
use Rattle.std.specs.Prelude.{◌≡◌, true, false, List, [], Some, None, is_some, slice_get}
use Rattle.std.specs.List.{AllByRecursion}
use Rattle.dds_base.specs.declared.number.NodeNo.{NodeNo}
use Rattle.dds_cluster.specs.Trace.{is_run, run_of}
use Rattle.dds_cluster.specs.World.{World, library_at}
use Rattle.dds_cluster.specs.declared.step.Step.{Step}
use Rattle.dds_cluster.specs.declared.trace.Asked.{Asked}
use Rattle.dds_cluster.specs.declared.trace.Caller.{Caller}
use Rattle.dds_cluster.specs.declared.trace.Trace.{Trace}
use Rattle.dds_script.specs.Opening.{IsOpening, OpeningOf}
use Rattle.dds_states.specs.declared.brick_state.BrickState.{BrickState}
use Rattle.dds_states.specs.declared.library_state.LibraryState.{LibraryState}
use Rattle.dds_world.specs.Places.{IsLive, reached}
use Rattle.dds_world.specs.Stands.{answer_to}

-- no letter is in an outbox or on a link
pub record Quiet (w : World) : Type 0 where
  pub outboxes : AllByRecursion (λ ms. ms ≡ []) w.outboxes
  pub links : AllByRecursion (λ row. AllByRecursion (λ ms. ms ≡ []) row) w.links

-- a library that lives
pub record IsLiveLibrary (w : World) (node : NodeNo) (s : LibraryState) : Type 0 where
  pub there : library_at w node ≡ Some s
  pub live : s.stopped ≡ false

-- a call whose caller's library lives was answered
abbrev pub AnsweredIfLive : Trace → Asked → Type 0
AnsweredIfLive t a =
    (c : Caller) (s : LibraryState) → slice_get t.callers a.caller ≡ Some c → IsLiveLibrary t.world c.library s
    → is_some (answer_to t.told a.caller a.call) ≡ true

-- a brick has nothing left to do
pub record IsIdle (s : BrickState) : Type 0 where
  pub pending : s.locks.pending ≡ []
  pub leases : s.locks.leases ≡ []
  pub resolving : s.resolving ≡ []
  pub deferred : s.deferred ≡ []
  pub order : s.order ≡ None

-- everybody was answered who can be, and live nodes have nothing left to do
pub record AllAnswered (t : Trace) : Type 0 where
  pub calls : AllByRecursion (AnsweredIfLive t) t.asked
  pub libraries : (node : NodeNo) (s : LibraryState) → IsLiveLibrary t.world node s → s.calls ≡ []
  pub bricks : (node : NodeNo) (s : BrickState) → IsLive t.world node s → IsIdle s

-- of each run of each opening that has come to a world in which nothing is on its way
abbrev pub QuietAnswers : Type 0
QuietAnswers =
    (o : OpeningOf) (journal : List Step) → IsOpening o → is_run o journal ≡ true → Quiet (reached o journal) → AllAnswered (run_of o journal)
