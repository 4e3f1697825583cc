use Rattle.std.proofs.Common.{◌≡◌, ℕ, ◌≤◌, true, List, [], sym, ap, subst}
use Rattle.dds_brick_rows.specs.Refusal.{is_join}
use Rattle.dds_cluster.proofs.Sizes.{sized-start}
use Rattle.dds_cluster.specs.Trace.{is_run, start}
use Rattle.dds_cluster.specs.declared.step.Step.{Step}
use Rattle.dds_cluster.specs.declared.trace.Caller.{Caller}
use Rattle.dds_core.specs.Brick.{brick_input, live_brick_turn}
use Rattle.dds_law_own.proofs.Changes.{own}
use Rattle.dds_law_own.proofs.Keeps.{NodeOk, of-another}
use Rattle.dds_law_own.proofs.Parted.{IsBoth}
use Rattle.dds_net.proofs.Carried.{Becomes, nodes-moved}
use Rattle.dds_net.proofs.Letters.{first-all}
use Rattle.dds_net.proofs.Nodes.{brick-node}
use Rattle.dds_net.proofs.Opening.{IsNew, new_a_brick, new_a_library, no_node, start-node}
use Rattle.dds_net.proofs.Runs.{IsKept, run-keeps}
use Rattle.dds_net.specs.Event.{Event, nothing, unheard, unasked, brick_takes, brick_told, brick_stops, library_takes, library_asked, library_stops}
use Rattle.dds_net.specs.Event.{Fits}
use Rattle.dds_net.specs.Net.{Net, Node, nowhere, a_brick, a_library, Sizes, net, sizes_of}
use Rattle.dds_orders.proofs.Covered.{Covering}
use Rattle.dds_orders.proofs.Deeds.{seat}
use Rattle.dds_orders.proofs.Numbered.{LetterOk}
use Rattle.dds_orders.proofs.Standing.{Standing}
use Rattle.dds_orders.proofs.Stood.{AreStood, NodeStands, start-stood, stood-kept}
use Rattle.dds_orders.proofs.Turns.{letter-turns, order-goes}
use Rattle.dds_script.specs.Opening.{IsOpening, OpeningOf}
use Rattle.dds_states.specs.declared.brick_state.BrickState.{BrickState}
use Rattle.dds_world.specs.Places.{reached}
use Rattle.dds_parents.proofs.SplitLeaves.{Splitting, SplitsIn, heard-splits, path-splits}
use Rattle.dds_parents.specs.SplitLeaves.{SplitLeavesStand}

-- Each event keeps the leaf of an open split, over what leases stand on; and what it says of runs.

abbrev pub NodeSplits : ℕ → Node → Type 0
NodeSplits k nowhere = Unit {0}
NodeSplits k (a_brick s) = SplitsIn s.leaves s.order
NodeSplits k (a_library s) = Unit {0}

pub record AreSplit (z : Sizes) (n : Net) : Type 0 where
  pub stood : AreStood z n
  pub splits : (k : ℕ) → NodeSplits k (n.node k)

at-brick : (z : Sizes) (n : Net) (at : ℕ) (s : BrickState) → AreSplit z n → n.node at ≡ a_brick s → Splitting at (seat s)
at-brick z n at s g here =
    let both : IsBoth at (own s) = subst (NodeOk at) here (g.stood.own at) in
    let it : Standing (own s) × Covering (own s) = subst (NodeStands at) here (g.stood.stands at) in
    let splits : SplitsIn s.leaves s.order = subst (NodeSplits at) here (g.splits at) in
    record { stood = record { both = both; stands = it.0 }; splits = splits }

becomes : (z : Sizes) (cs : List Caller) (n : Net) (e : Event) → z.bricks ≤ 64 → z.libraries ≤ 16 → Fits z cs n e → AreSplit z n → Becomes NodeSplits e
becomes z cs n nothing few some f g = tt
becomes z cs n (unheard at from l) few some f g = tt
becomes z cs n (unasked at caller call o) few some f g = tt
becomes z cs n (brick_takes at from l s) few some f g =
    let h = at-brick z n at s g f.here in
    let ok = first-all (LetterOk n.node from at) z n at from l f.letter (g.stood.counted.letters from at) in
    let t = letter-turns s from l (of-another z n at from l s few some g.stood.links f h.stood.both.0.number) in
    let a = path-splits at (seat s) t.first [] t.takes h in
    let b = heard-splits at from l t.first t.next t.answers t.hears (λ number e is. (ok.asked number e).0 is) a in
    (path-splits at t.next (seat (live_brick_turn s from l).state) t.letters t.goes b).splits
becomes z cs n (brick_told at o s) few some f g =
    (path-splits at (seat s) (seat (brick_input s o).state) (brick_input s o).out.letters (order-goes s o).path (at-brick z n at s g f.here)).splits
becomes z cs n (brick_stops at s kept) few some f g = λ o e j. cc
becomes z cs n (library_takes at from l s) few some f g = tt
becomes z cs n (library_asked at caller call o s) few some f g = tt
becomes z cs n (library_stops at s kept) few some f g = tt

pub split-kept : (z : Sizes) → z.bricks ≤ 64 → z.libraries ≤ 16 → IsKept z (Unit {0}) (λ h n e u. tt) (λ h n u. AreSplit z n)
split-kept z few some h n e u built f g =
    record {
      stood = stood-kept z few some h n e tt built f g.stood;
      splits = nodes-moved NodeSplits z n e g.splits (becomes z h.callers n e few some f g);
    }

-- the opening
start-splits : (o : OpeningOf) (k : ℕ) (x : Node) → IsNew o k x → NodeSplits k x
start-splits o k x (no_node e) = subst (NodeSplits k) (sym e) tt
start-splits o k x (new_a_brick e) = subst (NodeSplits k) (sym e) (λ p f j. cc)
start-splits o k x (new_a_library high e) = subst (NodeSplits k) (sym e) tt

pub run-split : (o : OpeningOf) (journal : List Step) → IsOpening o → is_run o journal ≡ true → AreSplit (sizes_of o) (net (sizes_of o) (reached o journal))
run-split o journal h run =
    let z = sizes_of o in
    (run-keeps z (Unit {0}) (λ h n e u. tt) (λ h n u. AreSplit z n) journal (start o) h.ranges.bricks (split-kept z h.ranges.bricks h.ranges.libraries)
    (record {
      sized = sized-start o;
      books = tt;
      is = record { stood = start-stood o h; splits = λ k. start-splits o k _ (start-node o k) };
    }) run).is

pub split-leaves : SplitLeavesStand
split-leaves o journal brick s q h run there open_order split =
    let all : SplitsIn s.leaves s.order = subst (NodeSplits brick) (brick-node (reached o journal) brick s there) ((run-split o journal h run).splits brick) in
    all q open_order (ap is_join split)
