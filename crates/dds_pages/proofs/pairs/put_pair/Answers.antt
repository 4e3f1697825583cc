use Rattle.std.proofs.Common.{arith}
use Rattle.dds_pages.proofs.PairPages.{width-least, width-here, width-chain}
use Rattle.dds_pages.proofs.pairs.put_pair.Goals as goal

pub put_8-requires : goal.put_8-requires
put_8-requires c = omega (arith, width-least c.args.pair.now)

pub put_2-requires : goal.put_2-requires
put_2-requires c = omega (arith, width-here c.args.pair.now _ _ c.in-Here.is c.bytes-bytes.ensures.value)

pub put_2-requires-in-Chain : goal.put_2-requires-in-Chain
put_2-requires-in-Chain c = omega (arith, width-chain c.args.pair.now _ _ c.in-Chain.is)

pub put_8-requires-in-Chain : goal.put_8-requires-in-Chain
put_8-requires-in-Chain c = omega (arith, width-chain c.args.pair.now _ _ c.in-Chain.is)
