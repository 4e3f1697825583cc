use Rattle.std.proofs.Common.{◌≡◌, ℕ, ◌≤◌, true, Option, Some, None, List, [], refl, sym, ap, subst}
use Rattle.std.specs.FinMap.{get}
use Rattle.std.specs.Prelude.{is_some}
use Rattle.dds_base.specs.Name.{Name, overlaps}
use Rattle.dds_base.specs.declared.leaf.Leaf.{Leaf}
use Rattle.dds_brick_rows.specs.Refusal.{is_join}
use Rattle.dds_cluster.proofs.Sizes.{sized-start}
use Rattle.dds_cluster.specs.Trace.{is_run, start}
use Rattle.dds_cluster.specs.World.{brick_at}
use Rattle.dds_cluster.specs.declared.step.Step.{Step}
use Rattle.dds_cluster.specs.declared.trace.Caller.{Caller}
use Rattle.dds_core.proofs.Lists.{all-is}
use Rattle.dds_core.specs.Brick.{brick_input, live_brick_turn}
use Rattle.dds_law_notice.proofs.Keeps.{AreLinked, links-kept}
use Rattle.dds_law_notice.proofs.Last.{start-links}
use Rattle.dds_law_own.proofs.Changes.{own}
use Rattle.dds_law_own.proofs.Keeps.{AreOwn, NodeOk, of-another, own-over}
use Rattle.dds_law_own.proofs.Parted.{IsBoth}
use Rattle.dds_law_own.proofs.Runs.{start-own}
use Rattle.dds_locks.specs.declared.leases.Lease.{Lease}
use Rattle.dds_net.proofs.Carried.{Becomes, nodes-moved}
use Rattle.dds_net.proofs.Letters.{first-all}
use Rattle.dds_net.proofs.Nodes.{brick-node}
use Rattle.dds_net.proofs.Opening.{IsNew, new_a_brick, new_a_library, no_node, start-node}
use Rattle.dds_net.proofs.Runs.{IsKept, run-keeps}
use Rattle.dds_net.specs.Event.{Event, nothing, unheard, unasked, brick_takes, brick_told, brick_stops, library_takes, library_asked, library_stops}
use Rattle.dds_net.specs.Event.{Fits}
use Rattle.dds_net.specs.Net.{Net, Node, nowhere, a_brick, a_library, Sizes, net, sizes_of}
use Rattle.dds_script.specs.Opening.{IsOpening, OpeningOf}
use Rattle.dds_states.specs.declared.brick_state.BrickState.{BrickState}
use Rattle.dds_trie.specs.Trie.{LeafMap}
use Rattle.dds_world.specs.Places.{reached}
use Rattle.dds_orders.proofs.Covered.{Covering, Covers, heard-kept, path-kept}
use Rattle.dds_orders.proofs.Deeds.{seat}
use Rattle.dds_orders.proofs.Numbered.{AreCounted, LetterOk, counted-kept}
use Rattle.dds_orders.proofs.Over.{IsOver}
use Rattle.dds_orders.proofs.Runs.{start-counted}
use Rattle.dds_orders.proofs.Standing.{Standing}
use Rattle.dds_orders.proofs.Turns.{letter-turns, order-goes}
use Rattle.dds_orders.specs.Covered.{PendingIsCovered}
use Rattle.dds_orders.specs.Standing.{HasLeafIn, LeasesStand}

-- Each event keeps what leases stand on, over the laws of notices, of own leaves and of orders' numbers; and what it says of runs.

abbrev pub NodeStands : ℕ → Node → Type 0
NodeStands k nowhere = Unit {0}
NodeStands k (a_brick s) = Standing (own s) × Covering (own s)
NodeStands k (a_library s) = Unit {0}

pub record AreStood (z : Sizes) (n : Net) : Type 0 where
  pub links : AreLinked z n
  pub own : AreOwn n
  pub counted : AreCounted n
  pub stands : (k : ℕ) → NodeStands k (n.node k)

becomes : (z : Sizes) (cs : List Caller) (n : Net) (e : Event) → z.bricks ≤ 64 → z.libraries ≤ 16 → Fits z cs n e → AreStood z n → Becomes NodeStands e
becomes z cs n nothing few some f g = tt
becomes z cs n (unheard at from l) few some f g = tt
becomes z cs n (unasked at caller call o) few some f g = tt
becomes z cs n (brick_takes at from l s) few some f g =
    let both : IsBoth at (own s) = subst (NodeOk at) f.here (g.own at) in
    let it : Standing (own s) × Covering (own s) = subst (NodeStands at) f.here (g.stands at) in
    let ok = first-all (LetterOk n.node from at) z n at from l f.letter (g.counted.letters from at) in
    let t = letter-turns s from l (of-another z n at from l s few some g.links f both.0.number) in
    let a = path-kept at (seat s) t.first [] t.takes (record { stood = record { both = both; stands = it.0 }; covers = it.1 }) in
    let b = heard-kept at from l t.first t.next t.answers t.hears (λ number e is. (ok.asked number e).0 is) a in
    let c = path-kept at t.next (seat (live_brick_turn s from l).state) t.letters t.goes b in
    (c.stood.stands, c.covers)
becomes z cs n (brick_told at o s) few some f g =
    let both : IsBoth at (own s) = subst (NodeOk at) f.here (g.own at) in
    let it : Standing (own s) × Covering (own s) = subst (NodeStands at) f.here (g.stands at) in
    let c = path-kept at (seat s) (seat (brick_input s o).state) (brick_input s o).out.letters (order-goes s o).path
    (record { stood = record { both = both; stands = it.0 }; covers = it.1 }) in
    (c.stood.stands, c.covers)
becomes z cs n (brick_stops at s kept) few some f g = (record { over = tt; held = λ o e j. cc }, tt)
becomes z cs n (library_takes at from l s) few some f g = tt
becomes z cs n (library_asked at caller call o s) few some f g = tt
becomes z cs n (library_stops at s kept) few some f g = tt

pub stood-kept : (z : Sizes) → z.bricks ≤ 64 → z.libraries ≤ 16 → IsKept z (Unit {0}) (λ h n e u. tt) (λ h n u. AreStood z n)
stood-kept z few some h n e u built f g =
    let links = links-kept z few some h n e tt built f g.links in
    record {
      links = links;
      own = own-over z few some h n e tt tt built f g.links links g.own;
      counted = counted-kept z h.callers n e few some g.links f g.counted;
      stands = nodes-moved NodeStands z n e g.stands (becomes z h.callers n e few some f g);
    }

-- the opening
start-stands : (o : OpeningOf) (k : ℕ) (x : Node) → IsNew o k x → NodeStands k x
start-stands o k x (no_node e) = subst (NodeStands k) (sym e) tt
start-stands o k x (new_a_brick e) = subst (NodeStands k) (sym e) (record { over = tt; held = λ p f j. cc }, tt)
start-stands o k x (new_a_library high e) = subst (NodeStands k) (sym e) tt

pub start-stood : (o : OpeningOf) → IsOpening o → AreStood (sizes_of o) (net (sizes_of o) (start o).world)
start-stood o h =
    record {
      links = start-links o;
      own = λ k. start-own o k _ h (start-node o k);
      counted = start-counted o;
      stands = λ k. start-stands o k _ (start-node o k);
    }

pub run-stood : (o : OpeningOf) (journal : List Step) → IsOpening o → is_run o journal ≡ true → AreStood (sizes_of o) (net (sizes_of o) (reached o journal))
run-stood o journal h run =
    let z = sizes_of o in
    (run-keeps z (Unit {0}) (λ h n e u. tt) (λ h n u. AreStood z n) journal (start o) h.ranges.bricks (stood-kept z h.ranges.bricks h.ranges.libraries)
    (record { sized = sized-start o; books = tt; is = start-stood o h }) run).is

-- what it says of a brick
leaf-in : (m : LeafMap) (top name : Name) (x : Option Leaf) → get m name ≡ x → is_some x ≡ true
    → overlaps name top ≡ true → top.depth ≤ name.depth → HasLeafIn m top
leaf-in m top name (Some leaf) e h meets deep = record { name = name; leaf = leaf; there = e; meets = meets; deep = deep }
leaf-in m top name None e h meets deep = cc

stood-at : (o : OpeningOf) (journal : List Step) (brick : ℕ) (s : BrickState) → IsOpening o → is_run o journal ≡ true
    → brick_at (reached o journal) brick ≡ Some s → Standing (own s) × Covering (own s)
stood-at o journal brick s h run there =
    subst (NodeStands brick) (brick-node (reached o journal) brick s there) ((run-stood o journal h run).stands brick)

pub leases-stand : LeasesStand
leases-stand o journal brick s h run there =
    let it = (stood-at o journal brick s h run there).0 in
    let over = (λ (at : ℕ) (a : Lease) (e : _).
    all-is (λ (l : Lease). IsOver s.leaves l.name) s.locks.leases at a it.over e) in
    record {
      within = λ at a name leaf e f meets. (over at a e).all name (ap is_some f) meets;
      some = λ at a e. let k = (over at a e).lies in leaf-in s.leaves a.name (over at a e).one (get s.leaves (over at a e).one) refl k.there k.meets k.deep;
      own = λ q e t. it.held q e (ap is_join t);
    }

pub pending-covered : PendingIsCovered
pending-covered o journal brick s at p h run live e =
    all-is (Covers s.leaves) s.locks.pending at p (stood-at o journal brick s h run live.there).1 e
