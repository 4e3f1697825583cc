use Rattle.std.proofs.Common.{◌≤◌}
use Rattle.dds_books.proofs.Booking.{listed-kept}
use Rattle.dds_books.proofs.Keeps.{calls-kept}
use Rattle.dds_books.proofs.Placing.{placed-kept}
use Rattle.dds_books.specs.Books.{AreListed, Book, booked}
use Rattle.dds_books.specs.Calls.{AreBooked}
use Rattle.dds_books.specs.Placed.{ArePlaced}
use Rattle.dds_law_notice.proofs.Keeps.{AreLinked, links-kept}
use Rattle.dds_net.proofs.Runs.{Claim, IsKept}
use Rattle.dds_net.specs.Net.{Sizes}

-- The links and the books as one claim, over the book of attempts.

abbrev pub Low : Sizes → Claim Book
Low z h n a = AreLinked z n × AreBooked h n × ArePlaced z n × AreListed n a

pub low-kept : (z : Sizes) → z.bricks ≤ 64 → z.libraries ≤ 16 → IsKept z Book (λ h n e a. booked e a) (Low z)
low-kept z few some h n e a u f k =
    let placed = placed-kept z few some h n e tt u f k.2 in
    (links-kept z few some h n e tt u f k.0, calls-kept z h n e tt u f k.1, placed, listed-kept z h n e tt a u f k.2 placed k.3)
