use Rattle.std.proofs.Common.{◌≤◌, refl}
use Rattle.dds_books.specs.Books.{Book, booked}
use Rattle.dds_commit.proofs.Knot.{All}
use Rattle.dds_net.proofs.Rungs.{IsKeptOver}
use Rattle.dds_net.specs.Event.{nothing, unheard, unasked, brick_takes, brick_told, brick_stops, library_takes, library_asked, library_stops}
use Rattle.dds_net.specs.Net.{Sizes}
use Rattle.dds_talk.specs.Books as talk
use Rattle.dds_help.proofs.HelpEvents.{library-does-helped, library-takes-helped, stops-helped, told-helped, unheard-helped}
use Rattle.dds_help.proofs.HelpTakes.{takes-helped}
use Rattle.dds_help.specs.Helped.{AreHelped}

-- Each event keeps who helps with what a stopped library left pending, where all parts of two-phase commit hold.

pub helped-kept : (z : Sizes) → z.bricks ≤ 64 → z.libraries ≤ 16 →
    IsKeptOver z (Book × talk.Books) (λ h n e b. (booked e b.0, talk.adds h n e b.1)) (All z) (Unit {0}) (λ h n e a b. tt) (λ h n a b. AreHelped n)
helped-kept z few some h n nothing a b built f k l g = g
helped-kept z few some h n (unasked at caller call o) a b built f k l g = g
helped-kept z few some h n (unheard at from l) a b built f k l' g = unheard-helped z n at from l f.deaf f.letter g
helped-kept z few some h n (brick_takes at from l s) a b built f k later g =
    takes-helped {z = z} {h = h} {n = n} {a = a.0} {b = a.1} {at = at} {from = from} {l = l} {s = s}
    (record { few = few; some = some; built = built; fits = f; low = k.0; parts = k.1; resolve = k.2 }) later.2 later.0.0 g
helped-kept z few some h n (brick_told at o s) a b built f k l g = told-helped z n at o s f.here g
helped-kept z few some h n (brick_stops at s left) a b built f k l g = stops-helped z n at _ left refl g
helped-kept z few some h n (library_takes at from l s) a b built f k later g =
    library-takes-helped z n at from l s _ _ few k.0.2 f.here f.letter g
helped-kept z few some h n (library_asked at caller call o s) a b built f k l g = library-does-helped z n at s _ _ few k.0.2 f.here g
helped-kept z few some h n (library_stops at s left) a b built f k l g = stops-helped z n at _ left refl g
