use Rattle.std.proofs.Common.{◌≡◌, ℕ, ◌<◌, true, List, refl, sym, ◌∙◌, subst}
use Rattle.std.specs.List.{AllByRecursion}
use Rattle.std.specs.Prelude.{nat_lt}
use Rattle.dds_cluster.proofs.Sizes.{sized-start}
use Rattle.dds_cluster.specs.Trace.{is_run, start}
use Rattle.dds_cluster.specs.World.{World, new_brick}
use Rattle.dds_cluster.specs.declared.step.Step.{Step}
use Rattle.dds_law_notice.proofs.Keeps.{AreLinked, links-kept}
use Rattle.dds_law_notice.proofs.Last.{start-links}
use Rattle.dds_letters.specs.declared.letter.Letter.{Letter}
use Rattle.dds_net.proofs.Nodes.{brick-low, brick-node}
use Rattle.dds_net.proofs.Opening.{IsNew, new_a_brick, new_a_library, no_node, start-channel, start-node}
use Rattle.dds_net.proofs.Runs.{run-keeps, sized-run}
use Rattle.dds_net.proofs.Rungs.{Both, both_books, kept-over}
use Rattle.dds_net.proofs.Ways.{NodeIs, is_brick, is_library, is_nowhere, node-is, travels}
use Rattle.dds_net.specs.Net.{Node, nowhere, a_brick, a_library, net, node_at, sizes_of}
use Rattle.dds_script.specs.Opening.{IsOpening, OpeningOf}
use Rattle.dds_states.specs.declared.brick_state.BrickState.{BrickState}
use Rattle.dds_world.specs.Places.{IsLive, Travels, reached}
use Rattle.dds_orders.proofs.Deeds.{seat}
use Rattle.dds_orders.proofs.Numbered.{AreCounted, BrickOk, Counts, LetterOk, NodeOk, counted-over}
use Rattle.dds_orders.proofs.Numbers.{Counted}
use Rattle.dds_orders.specs.Law.{IsNumbered, OrdersAreNumbered}

-- What is so of orders' numbers holds along each run.

-- the opening
new-ok : (o : OpeningOf) (k : ℕ) (x : Node) → IsNew o k x → ((s : BrickState) → x ≡ a_brick s → k < 64) → NodeOk k x
new-ok o k x (no_node e) low = subst (NodeOk k) (sym e) tt
new-ok o k x (new_a_brick e) low =
    subst (NodeOk k) (sym e) (record { low = low (new_brick o.leaves k) e; is = record { number = refl; order = λ p f. cc } })
new-ok o k x (new_a_library high e) low = subst (NodeOk k) (sym e) tt

pub low-if : (w : World) (k : ℕ) (s : BrickState) → NodeIs w k → node_at w k ≡ a_brick s → k < 64
low-if w k s (is_nowhere e) f = let no : nowhere ≡ a_brick s = sym e ∙ f in cc
low-if w k s (is_brick q b e) f = brick-low w k q (nat_lt k 64) refl b
low-if w k s (is_library q b e) f = let no : a_library q ≡ a_brick s = sym e ∙ f in cc

pub start-counted : (o : OpeningOf) → AreCounted (net (sizes_of o) (start o).world)
start-counted o =
    let n = net (sizes_of o) (start o).world in
    record {
      nodes = λ k. new-ok o k (n.node k) (start-node o k) (λ s e. low-if (start o).world k s (node-is (start o).world k) e);
      letters = λ a b. subst (AllByRecursion (LetterOk n.node a b)) (sym (start-channel o a b)) tt;
    }

pub run-counted : (o : OpeningOf) (journal : List Step) → IsOpening o → is_run o journal ≡ true → AreCounted (net (sizes_of o) (reached o journal))
run-counted o journal h run =
    let z = sizes_of o in
    let few = h.ranges.bricks in
    let kept = kept-over z (Unit {0}) (λ h n e a. tt) (λ h n a. AreLinked z n) (Unit {0}) (λ h n e a b. tt) (λ h n a b. AreCounted n)
    (links-kept z few h.ranges.libraries) (counted-over z few h.ranges.libraries) in
    (run-keeps z (Unit {0} × Unit {0}) (both_books (λ h n e a. tt) (λ h n e a b. tt)) (Both (λ h n a. AreLinked z n) (λ h n a b. AreCounted n))
    journal (start o) few kept (record { sized = sized-start o; books = (tt, tt); is = (start-links o, start-counted o) }) run).is.1

-- what it says of a world
counted-at : (w : World) (k number : ℕ) (l : Letter) (s : BrickState) → IsLive w k s → Counts (node_at w k) number l → IsNumbered s number l
counted-at w k number l s live c =
    let here : Counts (a_brick s) number l = subst (λ x. Counts x number l) (brick-node w k s live.there) c in
    let it : Counted (seat s) number l = here live.live in
    record { given = it.given; of = it.of }

pub orders-numbered : OrdersAreNumbered
orders-numbered o journal h run =
    let w = reached o journal in
    let z = sizes_of o in
    let g = run-counted o journal h run in
    let letter = (λ (from to : ℕ) (l : Letter) (t : Travels w from to l).
    travels (LetterOk (node_at w) from to) z w from to l (sized-run o journal) t (g.letters from to)) in
    record {
      open_order = λ brick s q live e.
          let ok : BrickOk brick s = subst (NodeOk brick) (brick-node w brick s live.there) (g.nodes brick) in
          (ok.is.order q e).given;
      asked = λ from to l number s t e live. counted-at w from number l s live ((letter from to l t).asked number e).1;
      said = λ from to l number s t e live. counted-at w to number l s live ((letter from to l t).said number e).1;
      asks_others = λ from to l number t e. ((letter from to l t).asked number e).0;
      says_to_others = λ from to l number t e. ((letter from to l t).said number e).0;
    }
