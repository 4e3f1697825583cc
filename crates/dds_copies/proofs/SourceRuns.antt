use Rattle.std.proofs.Common.{refl, subst}
use Rattle.dds_cluster.specs.Trace.{run_of}
use Rattle.dds_law_own.proofs.Changes.{own}
use Rattle.dds_law_own.proofs.Keeps.{NodeOk}
use Rattle.dds_law_own.proofs.Parted.{IsBoth}
use Rattle.dds_net.proofs.Nodes.{brick-node}
use Rattle.dds_pairs.proofs.NameKeeps.{NodeNamed, run-named}
use Rattle.dds_pairs.proofs.Names.{Fit}
use Rattle.dds_world.specs.Places.{reached}
use Rattle.dds_copies.proofs.Leased.{source-answers}
use Rattle.dds_copies.specs.Sources.{SourcesSendTheTable}

-- What the source of a join answers, in runs.

pub sources-send : SourcesSendTheTable
sources-send o journal brick to s join name place h run there held asks =
    let w = reached o journal in
    let g = run-named o journal h run in
    let both : IsBoth brick (own s) = subst (NodeOk brick) (brick-node w brick s there) (g.copied.own brick) in
    let fit : Fit s = subst (NodeNamed brick) (brick-node w brick s there) (g.nodes brick) in
    source-answers (run_of o journal).made brick s to join.number join name place both fit held refl asks
