use Rattle.std.proofs.Common.{None}
use Rattle.dds_books.specs.Books.{Book, booked}
use Rattle.dds_cluster.proofs.Sizes.{sized-start}
use Rattle.dds_cluster.specs.Trace.{start}
use Rattle.dds_net.proofs.Runs.{run-keeps}
use Rattle.dds_net.specs.Net.{sizes_of}
use Rattle.dds_talk.specs.Books as talk
use Rattle.dds_commit.proofs.Knot.{All, all-kept}
use Rattle.dds_commit.proofs.Start.{start-all}
use Rattle.dds_commit.specs.Law.{PartsHold}

-- All parts hold at the end of each run.

pub parts-hold : PartsHold
parts-hold o journal h run =
    let z = sizes_of o in
    let r = run-keeps z (Book × talk.Books) (λ h n e b. (booked e b.0, talk.adds h n e b.1)) (All z) journal (start o) h.ranges.bricks
    (all-kept z h.ranges.bricks h.ranges.libraries)
    (record { sized = sized-start o; books = (λ t. None, talk.no_books); is = start-all o h }) run in
    record {
      book = r.books.0;
      books = r.books.1;
      holds = record {
        linked = r.is.0.0;
        booked = r.is.0.1;
        placed = r.is.0.2;
        listed = r.is.0.3;
        commit = r.is.1;
        parts = r.is.2;
      };
    }
