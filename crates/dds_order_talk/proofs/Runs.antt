use Rattle.std.proofs.Common.{◌≡◌, ℕ, ◌<◌, true, List, Some, refl, sym, subst}
use Rattle.std.specs.List.{AllByRecursion}
use Rattle.dds_cluster.proofs.Sizes.{sized-start}
use Rattle.dds_cluster.specs.Trace.{is_run, start}
use Rattle.dds_cluster.specs.World.{World, new_brick}
use Rattle.dds_cluster.specs.declared.step.Step.{Step}
use Rattle.dds_law_notice.proofs.Keeps.{AreLinked, links-kept}
use Rattle.dds_law_notice.proofs.Last.{start-links}
use Rattle.dds_letters.specs.declared.letter.Letter.{Letter}
use Rattle.dds_net.proofs.Nodes.{brick-node}
use Rattle.dds_net.proofs.Opening.{IsNew, new_a_brick, new_a_library, no_node, start-channel, start-node}
use Rattle.dds_net.proofs.Runs.{run-keeps, sized-run}
use Rattle.dds_net.proofs.Rungs.{Both, both_books, kept-over}
use Rattle.dds_net.proofs.Ways.{node-is, travels}
use Rattle.dds_net.specs.Net.{Node, a_brick, net, node_at, sizes_of}
use Rattle.dds_orders.proofs.Runs.{low-if}
use Rattle.dds_script.specs.Opening.{IsOpening, OpeningOf}
use Rattle.dds_states.specs.declared.brick_state.BrickState.{BrickState}
use Rattle.dds_states.specs.declared.brick_state.OpenOrder.{OpenOrder}
use Rattle.dds_world.specs.Places.{IsLive, Travels, reached}
use Rattle.dds_base.specs.BrickList.{has}
use Rattle.dds_order_talk.proofs.Letters.{AreWithin, Asked, BrickOk, LetterOk, NodeOk, within-over}
use Rattle.dds_order_talk.specs.Members.{OrdersKeepToTheirMembers}

-- Whom an open order has to do with, along each run.

-- the opening
new-ok : (o : OpeningOf) (k : ℕ) (x : Node) → IsNew o k x → ((s : BrickState) → x ≡ a_brick s → k < 64) → NodeOk k x
new-ok o k x (no_node e) low = subst (NodeOk k) (sym e) tt
new-ok o k x (new_a_brick e) low =
    subst (NodeOk k) (sym e) (record { low = low (new_brick o.leaves k) e; is = record { number = refl; order = λ p f. cc } })
new-ok o k x (new_a_library high e) low = subst (NodeOk k) (sym e) tt

start-within : (o : OpeningOf) → AreWithin (net (sizes_of o) (start o).world)
start-within o =
    let n = net (sizes_of o) (start o).world in
    record {
      nodes = λ k. new-ok o k (n.node k) (start-node o k) (λ s e. low-if (start o).world k s (node-is (start o).world k) e);
      letters = λ a b. subst (AllByRecursion (LetterOk n.node a b)) (sym (start-channel o a b)) tt;
    }

pub run-within : (o : OpeningOf) (journal : List Step) → IsOpening o → is_run o journal ≡ true → AreWithin (net (sizes_of o) (reached o journal))
run-within o journal h run =
    let z = sizes_of o in
    let few = h.ranges.bricks in
    let kept = kept-over z (Unit {0}) (λ h n e a. tt) (λ h n a. AreLinked z n) (Unit {0}) (λ h n e a b. tt) (λ h n a b. AreWithin n)
    (links-kept z few h.ranges.libraries) (within-over z few h.ranges.libraries) in
    (run-keeps z (Unit {0} × Unit {0}) (both_books (λ h n e a. tt) (λ h n e a b. tt)) (Both (λ h n a. AreLinked z n) (λ h n a b. AreWithin n))
    journal (start o) few kept (record { sized = sized-start o; books = (tt, tt); is = (start-links o, start-within o) }) run).is.1

-- what it says of a world
asked-at : (w : World) (k number n : ℕ) (s : BrickState) (o : OpenOrder) → IsLive w k s → s.order ≡ Some o → o.number ≡ number
    → Asked (node_at w k) number n → has o.asked n ≡ true
asked-at w k number n s o live e is c =
    let here : Asked (a_brick s) number n = subst (λ x. Asked x number n) (brick-node w k s live.there) c in
    (here live.live).of o e is

pub orders-keep-to : OrdersKeepToTheirMembers
orders-keep-to o journal brick s q h run live there =
    let w = reached o journal in
    let z = sizes_of o in
    let g = run-within o journal h run in
    let ok : BrickOk brick s = subst (NodeOk brick) (brick-node w brick s live.there) (g.nodes brick) in
    let it = ok.is.order q there in
    let letter = (λ (from to : ℕ) (l : Letter) (t : Travels w from to l).
    travels (LetterOk (node_at w) from to) z w from to l (sized-run o journal) t (g.letters from to)) in
    record {
      itself = it.itself;
      granted = it.granted;
      leases = it.leases;
      source = it.source;
      installs = it.installs;
      asks = λ m l low t e. asked-at w brick q.number m s q live there refl ((letter brick m l t).asks q.number e low);
      answers = λ m l t e. asked-at w brick q.number m s q live there refl ((letter m brick l t).answers q.number e);
    }
