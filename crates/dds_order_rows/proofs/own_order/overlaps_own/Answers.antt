use Rattle.dds_trie.proofs.Overlaps.{overlaps-any}
use Rattle.dds_order_rows.proofs.own_order.overlaps_own.Goals as goal

pub returns : goal.returns
returns c = overlaps-any c.args.leaves.now c.args.name c.overlapping.result c.overlapping.ensures
