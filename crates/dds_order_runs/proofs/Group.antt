use Rattle.dds_orders.proofs.Stood.{pending-covered}
use Rattle.dds_parents.proofs.Parents.{leaves-list}
use Rattle.dds_pending.proofs.Runs.{pending-lists}
use Rattle.dds_share.proofs.Runs.{servers-list}
use Rattle.dds_order_runs.proofs.Runs.{orders-always-talk}
use Rattle.dds_order_runs.specs.Group.{GroupsAreShared}

-- The parts of the fact, each from its law: that servers list each other stands on orders that talk.

pub groups-are-shared : GroupsAreShared
groups-are-shared o journal h run =
    record {
      share = λ a b key s t leaf other here there.
          servers-list o journal a b key s t leaf other h run (orders-always-talk o journal h run) here there;
      parents = λ leaf parent here there from under. leaves-list o journal leaf parent h run here there from;
      covered = λ brick s at p live is. pending-covered o journal brick s at p h run live is;
      pending = λ brick s at p leaf is serves. pending-lists o journal brick s at p leaf h run is serves;
    }
