use Rattle.dds_books.proofs.PlacedFirst.{nodes-are-placed}
use Rattle.dds_books.proofs.laws.nodes_are_placed.Goals as goal

pub returns : goal.returns
returns c = nodes-are-placed
