-- Where nothing is on its way, orders are over and leases are given back.
use Rattle.std.specs.Prelude.{◌≡◌, true, List, [], None}
use Rattle.dds_base.specs.declared.number.NodeNo.{NodeNo}
use Rattle.dds_cluster.specs.Trace.{is_run}
use Rattle.dds_cluster.specs.declared.step.Step.{Step}
use Rattle.dds_net.specs.Net.{net, sizes_of}
use Rattle.dds_order_talk.specs.Seen.{PartsGoOn}
use Rattle.dds_script.specs.Opening.{IsOpening, OpeningOf}
use Rattle.dds_states.specs.declared.brick_state.BrickState.{BrickState}
use Rattle.dds_world.specs.Places.{IsLive, reached}
use Rattle.dds_world.specs.Quiet.{Quiet}

-- a brick has no open order, and has given no lease
pub record HasNoOrders (s : BrickState) : Type 0 where
  pub order : s.order ≡ None
  pub leases : s.locks.leases ≡ []

-- of each run of each opening that has come to a world in which nothing is on its way, if copying goes on there
abbrev pub QuietOrdersAreOver : Type 0
QuietOrdersAreOver =
    (o : OpeningOf) (journal : List Step) (brick : NodeNo) (s : BrickState) → IsOpening o → is_run o journal ≡ true → Quiet (reached o journal)
    → PartsGoOn (net (sizes_of o) (reached o journal)) → IsLive (reached o journal) brick s → HasNoOrders s
