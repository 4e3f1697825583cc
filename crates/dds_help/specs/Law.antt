-- What holds of each run, and what is left in a world in which nothing is on its way.
use Rattle.std.specs.Prelude.{◌≡◌, true, false, List, []}
use Rattle.std.specs.List.{AllByRecursion}
use Rattle.dds_base.specs.NodeSet.{has_node}
use Rattle.dds_base.specs.declared.number.NodeNo.{NodeNo}
use Rattle.dds_base.specs.declared.pending.Pending.{Pending}
use Rattle.dds_cluster.specs.Trace.{is_run}
use Rattle.dds_cluster.specs.declared.step.Step.{Step}
use Rattle.dds_net.specs.Net.{Net, net, sizes_of}
use Rattle.dds_script.specs.Opening.{IsOpening, OpeningOf}
use Rattle.dds_states.specs.declared.brick_state.BrickState.{BrickState}
use Rattle.dds_world.specs.Places.{IsLive, reached}
use Rattle.dds_world.specs.Quiet.{Quiet}
use Rattle.dds_help.specs.Helped.{AreHelped}
use Rattle.dds_help.specs.Steady.{AreSteady}

-- no question is put off for no reason, and what a stopped library left pending is being resolved
pub record AreCared (n : Net) : Type 0 where
  pub steady : AreSteady n
  pub helped : AreHelped n

-- of each run of each opening
abbrev pub StoppedAreHelped : Type 0
StoppedAreHelped = (o : OpeningOf) (journal : List Step) → IsOpening o → is_run o journal ≡ true → AreCared (net (sizes_of o) (reached o journal))

-- a brick has nothing left of a library that it knows to have stopped
pub record NothingLeft (s : BrickState) : Type 0 where
  pub resolving : s.resolving ≡ []
  pub deferred : s.deferred ≡ []
  pub pending : AllByRecursion (λ (p : Pending). has_node s.known p.txn.library ≡ false) s.locks.pending

-- each live brick, where nothing is on its way
abbrev pub QuietIsResolved : Type 0
QuietIsResolved =
    (o : OpeningOf) (journal : List Step) → IsOpening o → is_run o journal ≡ true → Quiet (reached o journal) → (node : NodeNo) (s : BrickState) →
    IsLive (reached o journal) node s → NothingLeft s
