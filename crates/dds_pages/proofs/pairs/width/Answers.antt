use Rattle.dds_pages.proofs.PairPages.{width-here, width-chain}
use Rattle.dds_pages.proofs.pairs.width.Goals as goal

pub returns-in-Here-clause-value : goal.returns-in-Here-clause-value
returns-in-Here-clause-value c = width-here c.args.pair.now _ _ c.in-Here.is c.bytes.ensures.value

pub returns-in-Chain-clause-value : goal.returns-in-Chain-clause-value
returns-in-Chain-clause-value c = width-chain c.args.pair.now _ _ c.in-Chain.is
