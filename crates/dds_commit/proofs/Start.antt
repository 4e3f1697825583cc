use Rattle.std.proofs.Common.{◌≡◌, ℕ, true, false, None, [], find, refl, sym, subst}
use Rattle.std.proofs.lemmas.Bool.{both_ways}
use Rattle.std.specs.List.{AllByRecursion}
use Rattle.dds_base.specs.NodeSet.{has_node, no_nodes}
use Rattle.dds_books.proofs.Booking.{start-listed}
use Rattle.dds_books.proofs.Keeps.{start-booked}
use Rattle.dds_books.proofs.PlacedFirst.{start-placed}
use Rattle.dds_brick_rows.specs.Resolution.{is_of}
use Rattle.dds_cluster.specs.Trace.{start}
use Rattle.dds_law_notice.proofs.Last.{start-links}
use Rattle.dds_law_notice.proofs.Views.{none-known}
use Rattle.dds_net.proofs.Opening.{IsNew, new_a_brick, new_a_library, no_node, start-channel, start-node}
use Rattle.dds_net.specs.Event.{history_of}
use Rattle.dds_net.specs.Net.{Node, net, sizes_of}
use Rattle.dds_script.specs.Opening.{IsOpening, OpeningOf}
use Rattle.dds_states.specs.declared.brick_state.BrickState.{BrickState}
use Rattle.dds_resolve.proofs.ReadyKeeps.{new-ready}
use Rattle.dds_resolve.proofs.Whole.{Parts}
use Rattle.dds_resolve.specs.Conversations.{SeenOk}
use Rattle.dds_resolve.specs.Resolving.{own_at}
use Rattle.dds_resolve.specs.Team.{Ground, LetterOk}
use Rattle.dds_resolve.specs.Teams.{NodeOk, ground}
use Rattle.dds_talk.proofs.Start.{is-brick, start-commit}
use Rattle.dds_talk.specs.Books.{no_books}
use Rattle.dds_commit.proofs.Knot.{All}

-- All parts hold before the first step.

new-team : (o : OpeningOf) (g : Ground) (k : ℕ) (x : Node) → IsNew o k x → NodeOk g k x
new-team o g k x (no_node e) = subst (NodeOk g k) (sym e) tt
new-team o g k x (new_a_library high e) = subst (NodeOk g k) (sym e) tt
new-team o g k x (new_a_brick e) =
    subst (NodeOk g k) (sym e)
    (record { number = refl; known = λ m i. absurd (both_ways (has_node no_nodes m) (none-known m) i); pending = tt; deferred = tt; resolving = tt })

start-parts : (o : OpeningOf) → Parts (sizes_of o) (net (sizes_of o) (start o).world) no_books
start-parts o =
    let z = sizes_of o in
    let n = net z (start o).world in
    record {
      teams = record {
        nodes = λ k. new-team o (ground z n no_books.list) k (n.node k) (start-node o k);
        letters = λ a c. subst (AllByRecursion (LetterOk (ground z n no_books.list) a c)) (sym (start-channel o a c)) tt;
      };
      ready = λ k. new-ready o k (n.node k) (start-node o k);
      resolve = record {
        alive = λ t f m x y p lives. let bad : false ≡ true = p.in_list in cc;
        lost = λ t f m x y p stops. let bad : false ≡ true = p.in_list in cc;
        left = λ t f m x y p. let bad : false ≡ true = p.in_list in cc;
        seen = λ t f x here lives. subst (λ (s : BrickState). SeenOk false [] (own_at s t) (find (is_of t) s.resolving))
            (is-brick o f (n.node f) x (start-node o f) here) tt;
      };
    }

pub start-all : (o : OpeningOf) → IsOpening o → All (sizes_of o) (history_of (start o)) (net (sizes_of o) (start o).world) (λ t. None, no_books)
start-all o h = ((start-links o, start-booked o, start-placed o h, start-listed o), start-commit o, start-parts o)
