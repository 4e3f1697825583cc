use Rattle.std.specs.Prelude.{ℕ}
use Rattle.dds_net.specs.Net.{Net, Sizes}
use Rattle.dds_order_talk.proofs.Fitting.{NodeFits}
use Rattle.dds_pairs.proofs.NameKeeps.{AreNamed}
use Rattle.dds_share.proofs.Facts.{AreAll}
use Rattle.dds_listed.proofs.Fresh.{BricksFresh}
use Rattle.dds_listed.proofs.Listed.{AllAnswer}
use Rattle.dds_listed.proofs.Makes.{NodeMakes}

-- What is known of a world before an event: the laws below, that orders and their members talk by the table, and the invariant.

pub record Grounds (z : Sizes) (n : Net) : Type 0 where
  pub all : AreAll z n
  pub named : AreNamed z n
  pub fits : (k : ℕ) → NodeFits k (n.node k)
  pub makes : (k : ℕ) → NodeMakes k (n.node k)
  pub fresh : BricksFresh n
  pub answer : AllAnswer n
