use Rattle.std.proofs.Common.{subst}
use Rattle.dds_base.specs.BrickList.{has}
use Rattle.dds_law_own.proofs.Changes.{own}
use Rattle.dds_law_own.proofs.Keeps.{NodeOk}
use Rattle.dds_law_own.proofs.Parted.{IsBoth}
use Rattle.dds_net.proofs.Nodes.{brick-node}
use Rattle.dds_orders.proofs.Covered.{false-of}
use Rattle.dds_pairs.proofs.NameKeeps.{leaves-named, run-named}
use Rattle.dds_world.specs.Places.{reached}
use Rattle.dds_listed.proofs.Unlisted.{answers-not}
use Rattle.dds_listed.specs.Law.{JoinsAreUnlisted}

-- What members that answer say of joins in a world of a run.

pub joins-unlisted : JoinsAreUnlisted
joins-unlisted o journal brick s join leaf h run answer live there joins none at new name =
    let w = reached o journal in
    let both : IsBoth brick (own s) = subst (NodeOk brick) (brick-node w brick s live.there) ((run-named o journal h run).copied.own brick) in
    false-of (has leaf.list brick) (λ lists.
    answers-not brick s join leaf both there joins none name (leaves-named o journal leaf h run at) (answer leaf brick s at new live lists))
