use Rattle.std.proofs.Common.{ℕ, None, [], sym, subst}
use Rattle.dds_attempts.proofs.Runs.{Stands, start-last}
use Rattle.dds_books.specs.Books.{Book}
use Rattle.dds_books.specs.Calls.{LibraryIs}
use Rattle.dds_cluster.proofs.Sizes.{sized-start}
use Rattle.dds_cluster.specs.Trace.{start}
use Rattle.dds_commit.proofs.Start.{start-all}
use Rattle.dds_net.proofs.Opening.{IsNew, new_a_brick, new_a_library, no_node, start-node}
use Rattle.dds_net.proofs.Rungs.{Both}
use Rattle.dds_net.proofs.Runs.{Ran}
use Rattle.dds_net.specs.Net.{Node, sizes_of}
use Rattle.dds_once.proofs.Claim.{AreAsked}
use Rattle.dds_once.proofs.Kept.{AreOnceOver}
use Rattle.dds_script.specs.Opening.{IsOpening, OpeningOf}
use Rattle.dds_talk.specs.Books as talk

-- What is so of attempts, and of calls and points, holds before the first step.

new-asked : (o : OpeningOf) (k : ℕ) (x : Node) → IsNew o k x → LibraryIs (AreAsked []) x
new-asked o k x (no_node e) = subst (LibraryIs (AreAsked [])) (sym e) tt
new-asked o k x (new_a_brick e) = subst (LibraryIs (AreAsked [])) (sym e) tt
new-asked o k x (new_a_library high e) = subst (LibraryIs (AreAsked [])) (sym e) tt

pub start-once : (o : OpeningOf) → IsOpening o
    → Ran (sizes_of o) ((Book × talk.Books) × Unit {0}) (Both (Stands (sizes_of o)) (AreOnceOver (sizes_of o))) (start o)
start-once o h =
    record {
      sized = sized-start o;
      books = ((λ t. None, talk.no_books), tt);
      is = (
        record { parts = start-all o h; last = start-last o },
        record { past = tt; calls = λ k. new-asked o k _ (start-node o k); entries = λ u f e. cc; points = tt; behind = tt; once = tt },
      );
    }
