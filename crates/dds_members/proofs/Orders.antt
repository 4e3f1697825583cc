use Rattle.std.proofs.Common.{◌≡◌, ℕ, ◌≤◌, inl, true, List, Some, [], refl, sym, subst}
use Rattle.dds_cluster.proofs.Sizes.{sized-start}
use Rattle.dds_cluster.specs.Trace.{is_run, start}
use Rattle.dds_cluster.specs.declared.step.Step.{Step}
use Rattle.dds_cluster.specs.declared.trace.Caller.{Caller}
use Rattle.dds_core.specs.Brick.{brick_input, live_brick_turn}
use Rattle.dds_law_notice.proofs.Keeps.{AreLinked, links-kept}
use Rattle.dds_law_notice.proofs.Last.{start-links}
use Rattle.dds_law_own.proofs.Keeps.{of-another}
use Rattle.dds_net.proofs.Carried.{Becomes, nodes-moved}
use Rattle.dds_net.proofs.Letters.{first-all}
use Rattle.dds_net.proofs.Nodes.{brick-node}
use Rattle.dds_net.proofs.Opening.{IsNew, new_a_brick, new_a_library, no_node, start-node}
use Rattle.dds_net.proofs.Runs.{IsKept, run-keeps}
use Rattle.dds_net.specs.Event.{Event, nothing, unheard, unasked, brick_takes, brick_told, brick_stops, library_takes, library_asked, library_stops}
use Rattle.dds_net.specs.Event.{Fits}
use Rattle.dds_net.specs.Net.{Net, Node, nowhere, a_brick, a_library, Sizes, net, sizes_of}
use Rattle.dds_order_talk.proofs.HearsOthers.{kept-heard}
use Rattle.dds_order_talk.proofs.Kept.{kept-path}
use Rattle.dds_order_talk.proofs.Letters.{AreWithin, Asked, BrickOk, LetterOk, NodeOk, within-kept}
use Rattle.dds_order_talk.proofs.Runs.{run-within}
use Rattle.dds_orders.proofs.Deeds.{seat}
use Rattle.dds_orders.proofs.Turns.{letter-turns, order-goes}
use Rattle.dds_orders.specs.Law.{said_of}
use Rattle.dds_script.specs.Opening.{IsOpening, OpeningOf}
use Rattle.dds_world.specs.Groups.HasLeaf.{in_order}
use Rattle.dds_world.specs.Places.{reached}
use Rattle.dds_members.proofs.Asked.{AskedOnce, LeafOnce, OrderOnce, heard-once, path-once}
use Rattle.dds_members.proofs.Leaves.{leaves-list}
use Rattle.dds_members.specs.Orders.{OrdersAskOnce}

-- Each event keeps that open orders ask each member once, over the laws of notices and of whom orders have to do with; and what it says of
-- runs.

abbrev NodeOnce : ℕ → Node → Type 0
NodeOnce k nowhere = Unit {0}
NodeOnce k (a_brick s) = OrderOnce s.order
NodeOnce k (a_library s) = Unit {0}

pub record AskOnce (z : Sizes) (n : Net) : Type 0 where
  pub links : AreLinked z n
  pub within : AreWithin n
  pub once : (k : ℕ) → NodeOnce k (n.node k)

becomes : (z : Sizes) (cs : List Caller) (n : Net) (e : Event) → z.bricks ≤ 64 → z.libraries ≤ 16 → Fits z cs n e → AskOnce z n → Becomes NodeOnce e
becomes z cs n nothing few some f g = tt
becomes z cs n (unheard at from l) few some f g = tt
becomes z cs n (unasked at caller call o) few some f g = tt
becomes z cs n (brick_takes at from l s) few some f g =
    let it : OrderOnce s.order = subst (NodeOnce at) f.here (g.once at) in
    let h : BrickOk at s = subst (NodeOk at) f.here (g.within.nodes at) in
    let ok = first-all (LetterOk n.node from at) z n at from l f.letter (g.within.letters from at) in
    let t = letter-turns s from l (of-another z n at from l s few some g.links f h.is.number) in
    let a = kept-path at (seat s) t.first [] t.takes h.is in
    let from_one = (λ (number : ℕ) (e : said_of l ≡ Some number).
    let was : Asked (a_brick s) number from = subst (λ x. Asked x number from) f.here (ok.answers number e) in a.later number from (was f.live)) in
    let b = kept-heard at from l t.first t.next t.answers t.hears from_one a.next in
    let c = path-once at (seat s) t.first [] t.takes h.is it in
    path-once at t.next (seat (live_brick_turn s from l).state) t.letters t.goes b.next (heard-once from l t.first t.next t.answers t.hears c)
becomes z cs n (brick_told at o s) few some f g =
    let it : OrderOnce s.order = subst (NodeOnce at) f.here (g.once at) in
    let h : BrickOk at s = subst (NodeOk at) f.here (g.within.nodes at) in
    path-once at (seat s) (seat (brick_input s o).state) (brick_input s o).out.letters (order-goes s o).path h.is it
becomes z cs n (brick_stops at s kept) few some f g = λ o e. cc
becomes z cs n (library_takes at from l s) few some f g = tt
becomes z cs n (library_asked at caller call o s) few some f g = tt
becomes z cs n (library_stops at s kept) few some f g = tt

once-kept : (z : Sizes) → z.bricks ≤ 64 → z.libraries ≤ 16 → IsKept z (Unit {0}) (λ h n e u. tt) (λ h n u. AskOnce z n)
once-kept z few some h n e u built f g =
    record {
      links = links-kept z few some h n e tt built f g.links;
      within = within-kept z h.callers n e few some g.links f g.within;
      once = nodes-moved NodeOnce z n e g.once (becomes z h.callers n e few some f g);
    }

start-once : (k : ℕ) (o : OpeningOf) (x : Node) → IsNew o k x → NodeOnce k x
start-once k o x (no_node e) = subst (NodeOnce k) (sym e) tt
start-once k o x (new_a_brick e) = subst (NodeOnce k) (sym e) (λ p f. cc)
start-once k o x (new_a_library high e) = subst (NodeOnce k) (sym e) tt

pub run-once : (o : OpeningOf) (journal : List Step) → IsOpening o → is_run o journal ≡ true → AskOnce (sizes_of o) (net (sizes_of o) (reached o journal))
run-once o journal h run =
    let z = sizes_of o in
    (run-keeps z (Unit {0}) (λ h n e u. tt) (λ h n u. AskOnce z n) journal (start o) h.ranges.bricks (once-kept z h.ranges.bricks h.ranges.libraries)
    (record {
      sized = sized-start o;
      books = tt;
      is = record { links = start-links o; within = run-within o [] h refl; once = λ k. start-once k o _ (start-node o k) };
    }) run).is

pub orders-ask : OrdersAskOnce
orders-ask o journal brick s q h run there open_order =
    let w = reached o journal in
    let g = run-once o journal h run in
    let all : OrderOnce s.order = subst (NodeOnce brick) (brick-node w brick s there) (g.once brick) in
    let it : AskedOnce q = all q open_order in
    let leaf : LeafOnce q = λ l e. leaves-list o journal l h run (in_order w l
    (record { brick = brick; state = s; order = q; there = there; open_order = open_order; is = inl e })) in
    record { asked = it.asked leaf; waiting = it.waiting leaf }
