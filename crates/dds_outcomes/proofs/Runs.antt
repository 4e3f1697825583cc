use Rattle.std.proofs.Common.{ℕ, ◌≤◌, None, refl}
use Rattle.std.specs.List.{AllByRecursion}
use Rattle.dds_books.proofs.There.{brick-there}
use Rattle.dds_books.specs.Books.{Book, booked}
use Rattle.dds_books.specs.Placed.{ArePlaced, LetterOk, Made}
use Rattle.dds_commit.proofs.Knot.{All, all-kept, noted-stays}
use Rattle.dds_commit.proofs.Start.{start-all}
use Rattle.dds_core.proofs.Lists.{all-map}
use Rattle.dds_letters.specs.declared.letter.Letter.{Letter}
use Rattle.dds_letters.specs.declared.letter.Letter.TheVariants as letter
use Rattle.dds_net.specs.Net.{Net, Sizes, sizes_of}
use Rattle.dds_talk.specs.Books as talk
use Rattle.dds_outcomes.proofs.Along.{Rung, kept-along}
use Rattle.dds_outcomes.proofs.Whole.{commit-reaches, one-outcome}
use Rattle.dds_outcomes.specs.Kept.{IsSpoken}
use Rattle.dds_outcomes.specs.Law.{OutcomesAreOne}

-- The parts hold after each beginning of each run; so what follows from them holds of each run.

one-spoken : (z : Sizes) (n : Net) (a c : ℕ) (l : Letter) → z.bricks ≤ 64 → ArePlaced z n → LetterOk (Made n) z a c l → IsSpoken n a l
one-spoken z n a c (letter.Status txn status) few g h = let b = brick-there z n a few g h.0.sender in (b.state, b.here)
one-spoken z n a c (letter.Outcome txn commit) few g h = let b = brick-there z n a few g h.0.sender in (b.state, b.here)
one-spoken z n a c other few g h = tt

speaks : (z : Sizes) (n : Net) → z.bricks ≤ 64 → ArePlaced z n → (a c : ℕ) → AllByRecursion (IsSpoken n a) (n.channel a c)
speaks z n few g a c = all-map (LetterOk (Made n) z a c) (IsSpoken n a) (n.channel a c) (λ l h. one-spoken z n a c l few g h) (g.letters a c)

abbrev rung : (z : Sizes) → z.bricks ≤ 64 → z.libraries ≤ 16 → Rung z (Book × talk.Books) (λ h n e b. (booked e b.0, talk.adds h n e b.1)) (All z)
rung z few some =
    record {
      kept = all-kept z few some;
      books = λ b. b.1;
      adds = λ h n e b. refl;
      gives = λ h n b k. record { links = k.0.0; commit = k.1; parts = k.2; speaks = speaks z n few k.0.2 };
      stays = λ h n e b built fits k later. noted-stays z few some h n e b.0 b.1 built fits k;
    }

pub outcomes-are-one : OutcomesAreOne
outcomes-are-one o journal h run =
    let z = sizes_of o in
    let r = rung z h.ranges.bricks h.ranges.libraries in
    let w = kept-along o (Book × talk.Books) (λ h n e b. (booked e b.0, talk.adds h n e b.1)) (All z) r (λ t. None, talk.no_books) journal h.ranges.bricks
    (start-all o h) refl run in
    (commit-reaches o journal w.is.1 h.ranges w.kept, one-outcome o journal w.is.1 h.ranges w.kept)
