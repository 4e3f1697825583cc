use Rattle.dds_books.proofs.Keeps.{calls-are-booked}
use Rattle.dds_books.proofs.laws.calls_are_booked.Goals as goal

pub returns : goal.returns
returns c = calls-are-booked
