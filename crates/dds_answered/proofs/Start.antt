use Rattle.std.proofs.Common.{ℕ, None, [], refl, sym, subst}
use Rattle.std.specs.List.{AllByRecursion}
use Rattle.dds_attempts.proofs.Runs.{Stands, start-last}
use Rattle.dds_books.specs.Books.{Book}
use Rattle.dds_books.specs.Calls.{LibraryIs}
use Rattle.dds_cluster.proofs.Sizes.{sized-start}
use Rattle.dds_cluster.specs.Trace.{start}
use Rattle.dds_commit.proofs.Start.{start-all}
use Rattle.dds_net.proofs.Opening.{IsNew, new_a_brick, new_a_library, no_node, start-channel, start-node}
use Rattle.dds_net.proofs.Pairwise.{Pairwise}
use Rattle.dds_net.proofs.Rungs.{Both}
use Rattle.dds_net.proofs.Runs.{Ran}
use Rattle.dds_net.specs.Event.{history_of}
use Rattle.dds_net.specs.Net.{Node, net, sizes_of}
use Rattle.dds_script.specs.Opening.{IsOpening, OpeningOf}
use Rattle.dds_talk.specs.Books as talk
use Rattle.dds_answered.proofs.Backed.{IsBacked}
use Rattle.dds_answered.proofs.Claim.{AreBacked, FlagsBacked}
use Rattle.dds_answered.proofs.Kept.{AreBackedOver}
use Rattle.dds_answered.proofs.ReadOnce.{AreReadOver}
use Rattle.dds_answered.proofs.Sent.{OtherGet}
use Rattle.dds_answered.proofs.Sought.{Sought}
use Rattle.dds_answered.proofs.Unread.{AreRead, GetUnread, ToCome}

-- Before the first step no call was answered, and nothing was read.

new-flags : (o : OpeningOf) (k : ℕ) (x : Node) → IsNew o k x → LibraryIs (FlagsBacked []) x
new-flags o k x (no_node e) = subst (LibraryIs (FlagsBacked [])) (sym e) tt
new-flags o k x (new_a_brick e) = subst (LibraryIs (FlagsBacked [])) (sym e) tt
new-flags o k x (new_a_library high e) = subst (LibraryIs (FlagsBacked [])) (sym e) tt

pub start-backed : (o : OpeningOf) → AreBacked (history_of (start o)) (net (sizes_of o) (start o).world) (λ t. None)
start-backed o =
    record {
      updates = λ u f list e. cc;
      letters = λ a b. subst (AllByRecursion (IsBacked [])) (sym (start-channel o a b)) tt;
      flags = λ k. new-flags o k _ (start-node o k);
      places = tt;
      told = tt;
    }

abbrev none_sought : Sought
none_sought t = None

new-come : (o : OpeningOf) (k : ℕ) (x : Node) → IsNew o k x → LibraryIs (ToCome none_sought k) x
new-come o k x (no_node e) = subst (LibraryIs (ToCome none_sought k)) (sym e) tt
new-come o k x (new_a_brick e) = subst (LibraryIs (ToCome none_sought k)) (sym e) tt
new-come o k x (new_a_library high e) = subst (LibraryIs (ToCome none_sought k)) (sym e) (λ t home low. refl)

start-read : (o : OpeningOf) → AreRead (sizes_of o) (history_of (start o)) (net (sizes_of o) (start o).world) none_sought
start-read o =
    record {
      to_come = λ k. new-come o k _ (start-node o k);
      letters = λ a b. subst (AllByRecursion (GetUnread (sizes_of o) none_sought [] a b)) (sym (start-channel o a b)) tt;
      apart = λ a b. subst (Pairwise OtherGet) (sym (start-channel o a b)) tt;
      sought = tt;
      once = tt;
    }

pub start-answered : (o : OpeningOf) → IsOpening o
    → Ran (sizes_of o) (((Book × talk.Books) × Unit {0}) × Sought) (Both (Both (Stands (sizes_of o)) (AreBackedOver (sizes_of o))) (AreReadOver (sizes_of o)))
    (start o)
start-answered o h =
    record {
      sized = sized-start o;
      books = (((λ t. None, talk.no_books), tt), none_sought);
      is = ((record { parts = start-all o h; last = start-last o }, start-backed o), start-read o);
    }
