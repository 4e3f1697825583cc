use Rattle.std.proofs.Common.{arith}
use Rattle.dds_pages.proofs.PairPages.{put-within, held-in}
use Rattle.dds_pages.proofs.pairs.put_pairs.Goals as goal

pub put_pair-requires-clause-room : goal.put_pair-requires-clause-room
put_pair-requires-clause-room c =
    put-within c.args.writer.now c.pairs.writer c.args.pairs.now c.pairs.pair-index c.pair-item.result c.pairs.invariant (omega arith) c.pair-item.is
    c.requires.room

pub put_pair-requires-clause-held : goal.put_pair-requires-clause-held
put_pair-requires-clause-held c =
    held-in c.args.pairs.now c.pairs.pair-index c.pair-item.result c.requires.held (omega arith) c.pair-item.is
