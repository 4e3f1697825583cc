use Rattle.std.proofs.Common.{◌≡◌, ℕ, ◌≤◌, ◌==◌, ◌⊎◌, inl, inr, Bool, true, not, List, [], refl, sym, ap, ◌∙◌, subst}
use Rattle.std.proofs.lemmas.Bool.{and_parts, both_ways}
use Rattle.dds_base.specs.BrickList.{has}
use Rattle.dds_base.specs.NodeSet.{has_node}
use Rattle.dds_cluster.proofs.Sizes.{sized-start}
use Rattle.dds_cluster.specs.Trace.{is_run, start}
use Rattle.dds_cluster.specs.declared.step.Step.{Step}
use Rattle.dds_cluster.specs.declared.trace.Caller.{Caller}
use Rattle.dds_core.specs.Brick.{brick_input, live_brick_turn}
use Rattle.dds_law_notice.proofs.Keeps.{AreLinked, links-kept}
use Rattle.dds_law_notice.proofs.Last.{start-links}
use Rattle.dds_law_notice.proofs.Link.{Link, lives, over, told}
use Rattle.dds_law_notice.proofs.Views.{knows, view}
use Rattle.dds_law_own.proofs.Changes.{own}
use Rattle.dds_law_own.proofs.Keeps.{AreOwn, NodeOk, of-another, own-over}
use Rattle.dds_law_own.proofs.Parted.{IsBoth}
use Rattle.dds_law_own.proofs.Runs.{start-own}
use Rattle.dds_letters.specs.declared.letter.Letter.{Letter}
use Rattle.dds_net.proofs.Carried.{Becomes, nodes-moved}
use Rattle.dds_net.proofs.Nodes.{brick-in, brick-node}
use Rattle.dds_net.proofs.Opening.{IsNew, new_a_brick, new_a_library, no_node, start-node}
use Rattle.dds_net.proofs.Runs.{IsKept, run-keeps, sized-run}
use Rattle.dds_net.specs.Event.{Event, nothing, unheard, unasked, brick_takes, brick_told, brick_stops, library_takes, library_asked, library_stops}
use Rattle.dds_net.specs.Event.{Fits}
use Rattle.dds_net.specs.Net.{Net, Node, nowhere, a_brick, a_library, Sizes, net, node_at, sizes_of}
use Rattle.dds_script.specs.Opening.{IsOpening, OpeningOf}
use Rattle.dds_states.specs.declared.brick_state.BrickState.{BrickState}
use Rattle.dds_order_rows.specs.OwnOrder.{is_leasing}
use Rattle.dds_world.specs.Places.{IsLive, reached}
use Rattle.dds_orders.proofs.Asked.{Answer, AskedBy, Asking, Member, gave, gone, granted, heard-asked, is_asked, itself, path-asked, stopped, waits}
use Rattle.dds_orders.proofs.Deeds.{seat}
use Rattle.dds_orders.proofs.Turns.{letter-turns, order-goes}
use Rattle.dds_orders.specs.Asked.{OrdersAskAll}

-- Each event keeps whom orders have asked, over the laws of notices and of own leaves; and what it says of runs.

abbrev pub NodeAsks : ℕ → Node → Type 0
NodeAsks k nowhere = Unit {0}
NodeAsks k (a_brick s) = AskedBy k s.known s.order
NodeAsks k (a_library s) = Unit {0}

pub record AreAsked (z : Sizes) (n : Net) : Type 0 where
  pub links : AreLinked z n
  pub own : AreOwn n
  pub asks : (k : ℕ) → NodeAsks k (n.node k)

becomes : (z : Sizes) (cs : List Caller) (n : Net) (e : Event) → z.bricks ≤ 64 → z.libraries ≤ 16 → Fits z cs n e → AreAsked z n → Becomes NodeAsks e
becomes z cs n nothing few some f g = tt
becomes z cs n (unheard at from l) few some f g = tt
becomes z cs n (unasked at caller call o) few some f g = tt
becomes z cs n (brick_takes at from l s) few some f g =
    let both : IsBoth at (own s) = subst (NodeOk at) f.here (g.own at) in
    let it : AskedBy at s.known s.order = subst (NodeAsks at) f.here (g.asks at) in
    let t = letter-turns s from l (of-another z n at from l s few some g.links f both.0.number) in
    let a = path-asked at (seat s) t.first [] t.takes (record { both = both; asked = it }) in
    let b = heard-asked at from l t.first t.next t.answers t.hears a in
    (path-asked at t.next (seat (live_brick_turn s from l).state) t.letters t.goes b).asked
becomes z cs n (brick_told at o s) few some f g =
    let both : IsBoth at (own s) = subst (NodeOk at) f.here (g.own at) in
    let it : AskedBy at s.known s.order = subst (NodeAsks at) f.here (g.asks at) in
    (path-asked at (seat s) (seat (brick_input s o).state) (brick_input s o).out.letters (order-goes s o).path
    (record { both = both; asked = it })).asked
becomes z cs n (brick_stops at s kept) few some f g = λ o e. cc
becomes z cs n (library_takes at from l s) few some f g = tt
becomes z cs n (library_asked at caller call o s) few some f g = tt
becomes z cs n (library_stops at s kept) few some f g = tt

pub asked-kept : (z : Sizes) → z.bricks ≤ 64 → z.libraries ≤ 16 → IsKept z (Unit {0}) (λ h n e u. tt) (λ h n u. AreAsked z n)
asked-kept z few some h n e u built f g =
    let links = links-kept z few some h n e tt built f g.links in
    record {
      links = links;
      own = own-over z few some h n e tt tt built f g.links links g.own;
      asks = nodes-moved NodeAsks z n e g.asks (becomes z h.callers n e few some f g);
    }

-- the opening
pub start-asks : (o : OpeningOf) (k : ℕ) (x : Node) → IsNew o k x → NodeAsks k x
start-asks o k x (no_node e) = subst (NodeAsks k) (sym e) tt
start-asks o k x (new_a_brick e) = subst (NodeAsks k) (sym e) (λ p f. cc)
start-asks o k x (new_a_library high e) = subst (NodeAsks k) (sym e) tt

pub run-asked : (o : OpeningOf) (journal : List Step) → IsOpening o → is_run o journal ≡ true → AreAsked (sizes_of o) (net (sizes_of o) (reached o journal))
run-asked o journal h run =
    let z = sizes_of o in
    (run-keeps z (Unit {0}) (λ h n e u. tt) (λ h n u. AreAsked z n) journal (start o) h.ranges.bricks (asked-kept z h.ranges.bricks h.ranges.libraries)
    (record {
      sized = sized-start o;
      books = tt;
      is = record { links = start-links o; own = λ k. start-own o k _ h (start-node o k); asks = λ k. start-asks o k _ (start-node o k) };
    }) run).is

-- who is known has stopped
pub over-is : {deaf stopped known : Bool} (c : List Letter) → Link deaf c stopped known → known ≡ true → stopped ≡ true
over-is c (lives h) e = cc
over-is c (told front is h) e = cc
over-is c (over known is h) e = refl

live-unknown : (o : OpeningOf) (journal : List Step) (brick other : ℕ) (s t : BrickState) → AreAsked (sizes_of o) (net (sizes_of o) (reached o journal))
    → IsLive (reached o journal) brick s → IsLive (reached o journal) other t → has_node s.known other ≡ true → ⊥
live-unknown o journal brick other s t g live also k =
    let w = reached o journal in
    let z = sizes_of o in
    let inside = brick-in z w brick s (sized-run o journal) live.there in
    let known : knows (view (node_at w brick)) other ≡ true = ap (λ x. knows (view x) other) (brick-node w brick s live.there) ∙ k in
    let stopped = (and_parts (view (node_at w other)).stopped (not (other == brick)) (over-is _ (g.links other brick inside) known)).0 in
    both_ways t.stopped also.live (sym (ap (λ x. (view x).stopped) (brick-node w other t also.there)) ∙ stopped)

pub orders-ask : OrdersAskAll
orders-ask o journal brick s q leaf h run live there fixed =
    let g = run-asked o journal h run in
    let w = reached o journal in
    let all : AskedBy brick s.known s.order = subst (NodeAsks brick) (brick-node w brick s live.there) (g.asks brick) in
    let it : Asking brick s.known q = all q there in
    record {
      members = λ other t also k. member other (live-unknown o journal brick other s t g live also) it (it.members leaf fixed other k);
      made = λ made phase other t k also. elim (it.made leaf made fixed phase other k) [
        | inl a ↦ a
        | inr a ↦ absurd (live-unknown o journal brick other s t g live also a)
      ];
    }
  where
    answer : (n : ℕ) → (has_node s.known n ≡ true → ⊥) → Answer s.known q n
        → (n ≡ brick) ⊎ (has q.granted n ≡ true) ⊎ ((is_leasing q.phase ≡ true) × (has q.waiting n ≡ true))
    answer n f (gave e) = inr (inl e)
    answer n f (stopped e) = absurd (f e)
    answer n f (waits l e) = inr (inr (l, e))

    member : (n : ℕ) → (has_node s.known n ≡ true → ⊥) → Asking brick s.known q → Member brick s.known q n
        → (n ≡ brick) ⊎ (has q.granted n ≡ true) ⊎ ((is_leasing q.phase ≡ true) × (has q.waiting n ≡ true))
    member n f it (itself e) = inl e
    member n f it (is_asked e) = answer n f (it.asked n e)
    member n f it (granted e) = inr (inl e)
    member n f it (gone e) = absurd (f e)
