use Rattle.std.proofs.Common.{◌≡◌, ℕ, ◌≤◌, true, List, [], sym, subst}
use Rattle.dds_cluster.proofs.Sizes.{sized-start}
use Rattle.dds_cluster.specs.Trace.{is_run, start}
use Rattle.dds_cluster.specs.declared.step.Step.{Step}
use Rattle.dds_cluster.specs.declared.trace.Caller.{Caller}
use Rattle.dds_core.specs.Brick.{brick_input, live_brick_turn}
use Rattle.dds_law_own.proofs.Changes.{own}
use Rattle.dds_law_own.proofs.Keeps.{NodeOk, of-another}
use Rattle.dds_law_own.proofs.Parted.{IsBoth}
use Rattle.dds_net.proofs.Carried.{Becomes, nodes-moved}
use Rattle.dds_net.proofs.Journals.{net_of}
use Rattle.dds_net.proofs.Letters.{first-all}
use Rattle.dds_net.proofs.Opening.{IsNew, new_a_brick, new_a_library, no_node, start-node}
use Rattle.dds_net.proofs.Runs.{IsKept, run-keeps}
use Rattle.dds_net.specs.Event.{Event, nothing, unheard, unasked, brick_takes, brick_told, brick_stops, library_takes, library_asked, library_stops}
use Rattle.dds_net.specs.Event.{Fits}
use Rattle.dds_net.specs.Net.{Net, Node, nowhere, a_brick, a_library, Sizes, net, sizes_of}
use Rattle.dds_orders.proofs.Covered.{Covering}
use Rattle.dds_orders.proofs.Deeds.{seat}
use Rattle.dds_orders.proofs.Numbered.{LetterOk}
use Rattle.dds_orders.proofs.Standing.{Standing}
use Rattle.dds_orders.proofs.Stood.{AreStood, NodeStands, start-stood, stood-kept}
use Rattle.dds_orders.proofs.Turns.{letter-turns, order-goes}
use Rattle.dds_script.specs.Opening.{IsOpening, OpeningOf}
use Rattle.dds_states.specs.declared.brick_state.BrickState.{BrickState}
use Rattle.dds_order_ends.proofs.Letters.{letter-waits, told-waits}
use Rattle.dds_order_ends.proofs.Mine.{Mine, heard-held, path-held}
use Rattle.dds_order_ends.proofs.Rows.{OrderWaits, none-waits}

-- Each event keeps whom open orders wait for, and the leases that bricks have given to themselves; and so it is along each run.

pub record Ends (s : BrickState) : Type 0 where
  pub mine : Mine (own s)
  pub waits : OrderWaits s.known s.order

abbrev pub NodeEnds : ℕ → Node → Type 0
NodeEnds k nowhere = Unit {0}
NodeEnds k (a_brick s) = Ends s
NodeEnds k (a_library s) = Unit {0}

pub record AreEnding (z : Sizes) (n : Net) : Type 0 where
  pub stood : AreStood z n
  pub ends : (k : ℕ) → NodeEnds k (n.node k)

becomes : (z : Sizes) (cs : List Caller) (n : Net) (e : Event) → z.bricks ≤ 64 → z.libraries ≤ 16 → Fits z cs n e → AreEnding z n → Becomes NodeEnds e
becomes z cs n nothing few some f g = tt
becomes z cs n (unheard at from l) few some f g = tt
becomes z cs n (unasked at caller call o) few some f g = tt
becomes z cs n (brick_takes at from l s) few some f g =
    let w = g.stood in
    let both : IsBoth at (own s) = subst (NodeOk at) f.here (w.own at) in
    let stands : Standing (own s) × Covering (own s) = subst (NodeStands at) f.here (w.stands at) in
    let it : Ends s = subst (NodeEnds at) f.here (g.ends at) in
    let ok = first-all (LetterOk n.node from at) z n at from l f.letter (w.counted.letters from at) in
    let another = of-another z n at from l s few some w.links f both.0.number in
    let t = letter-turns s from l another in
    let a = path-held at (seat s) t.first [] t.takes (record { stood = record { both = both; stands = stands.0 }; mine = it.mine }) in
    let b = heard-held at from l t.first t.next t.answers t.hears (λ number e is. (ok.asked number e).0 is) a in
    let c = path-held at t.next (seat (live_brick_turn s from l).state) t.letters t.goes b in
    record { mine = c.mine; waits = letter-waits s from l f.live another.below it.waits }
becomes z cs n (brick_told at o s) few some f g =
    let w = g.stood in
    let both : IsBoth at (own s) = subst (NodeOk at) f.here (w.own at) in
    let stands : Standing (own s) × Covering (own s) = subst (NodeStands at) f.here (w.stands at) in
    let it : Ends s = subst (NodeEnds at) f.here (g.ends at) in
    let c = path-held at (seat s) (seat (brick_input s o).state) (brick_input s o).out.letters (order-goes s o).path
    (record { stood = record { both = both; stands = stands.0 }; mine = it.mine }) in
    record { mine = c.mine; waits = told-waits s o it.waits }
becomes z cs n (brick_stops at s kept) few some f g = record { mine = tt; waits = none-waits _ }
becomes z cs n (library_takes at from l s) few some f g = tt
becomes z cs n (library_asked at caller call o s) few some f g = tt
becomes z cs n (library_stops at s kept) few some f g = tt

pub ending-kept : (z : Sizes) → z.bricks ≤ 64 → z.libraries ≤ 16 → IsKept z (Unit {0}) (λ h n e u. tt) (λ h n u. AreEnding z n)
ending-kept z few some h n e u built f g =
    record {
      stood = stood-kept z few some h n e tt built f g.stood;
      ends = nodes-moved NodeEnds z n e g.ends (becomes z h.callers n e few some f g);
    }

-- the opening
start-ends : (o : OpeningOf) (k : ℕ) (x : Node) → IsNew o k x → NodeEnds k x
start-ends o k x (no_node e) = subst (NodeEnds k) (sym e) tt
start-ends o k x (new_a_brick e) = subst (NodeEnds k) (sym e) (record { mine = tt; waits = none-waits _ })
start-ends o k x (new_a_library high e) = subst (NodeEnds k) (sym e) tt

pub start-ending : (o : OpeningOf) → IsOpening o → AreEnding (sizes_of o) (net (sizes_of o) (start o).world)
start-ending o h = record { stood = start-stood o h; ends = λ k. start-ends o k _ (start-node o k) }

pub run-ending : (o : OpeningOf) (journal : List Step) → IsOpening o → is_run o journal ≡ true → AreEnding (sizes_of o) (net_of o journal)
run-ending o journal h run =
    let z = sizes_of o in
    (run-keeps z (Unit {0}) (λ h n e u. tt) (λ h n u. AreEnding z n) journal (start o) h.ranges.bricks
    (ending-kept z h.ranges.bricks h.ranges.libraries) (record { sized = sized-start o; books = tt; is = start-ending o h }) run).is
