use Rattle.dds_books.proofs.Booking.{attempts-are-listed}
use Rattle.dds_books.proofs.laws.attempts_are_listed.Goals as goal

pub returns : goal.returns
returns c = attempts-are-listed
