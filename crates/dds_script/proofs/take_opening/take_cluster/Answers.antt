use Rattle.dds_script.specs.Grammar.MovesBy.{cluster}
use Rattle.dds_script.proofs.take_opening.take_cluster.Goals as goal

pub returns : goal.returns
returns c =
    let r = c.in-Some.ensures in
    let a = r.0 in let b = r.1 in let d = r.2 in
    cluster c.args.reader.now _ c.in-Some.ranges c.in-BeforeCluster.is (cc (a, b, d)) r.3
