use Rattle.dds_cluster.proofs.Frames.{letter-is, spells-own, same-message}
use Rattle.dds_cluster.proofs.framed.Framed.of.Goals as goal

pub invariant_of-result : goal.invariant_of-result
invariant_of-result c = spells-own _ _ c.in_ok-frame.ensures

pub returns : goal.returns
returns c =
    same-message c.args.message.now _ (letter-is _ _ c.in_ok-frame.ensures)
