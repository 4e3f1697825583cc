use Rattle.std.proofs.Common.{◌≡◌, ℕ, ◌<◌, ◌≤◌, true, List, refl, sym, ap, subst}
use Rattle.dds_base.specs.declared.node_set.NodeSet.{NodeSet}
use Rattle.dds_brick_rows.specs.declared.resolution.News.TheVariants as news
use Rattle.dds_cluster.proofs.Sizes.{sized-start}
use Rattle.dds_cluster.specs.Trace.{is_run, run_of, start}
use Rattle.dds_cluster.specs.declared.step.Step.{Step}
use Rattle.dds_cluster.specs.World.{emptied}
use Rattle.dds_core.proofs.LetterTells.{Any, letter-rests}
use Rattle.dds_core.proofs.OrderTells.{order-rests}
use Rattle.dds_core.proofs.Rests.{Whole}
use Rattle.dds_core.specs.Brick.{brick_input, live_brick_turn}
use Rattle.dds_letters.specs.declared.letter.Letter.{Letter}
use Rattle.dds_letters.specs.declared.letter.Letter.TheVariants as letter
use Rattle.dds_net.proofs.Opening.{IsNew, no_node, new_a_brick, new_a_library, start-node}
use Rattle.dds_net.proofs.Places.{node-below}
use Rattle.dds_net.proofs.Puts.{at-put}
use Rattle.dds_net.proofs.Runs.{IsKept, run-keeps}
use Rattle.dds_net.specs.Event.{nothing, unheard, unasked, brick_takes, brick_told, brick_stops, library_takes, library_asked, library_stops}
use Rattle.dds_net.specs.Net.{Net, Node, a_brick, a_library, net, sizes_of, Sizes}
use Rattle.dds_script.specs.Opening.{OpeningOf, ranges_of}
use Rattle.dds_script.specs.Ranges.{IsRanges}
use Rattle.dds_states.specs.declared.brick_state.BrickState.{BrickState}
use Rattle.dds_resolve.proofs.CallRows.{IsCall, call-plain}
use Rattle.dds_resolve.proofs.MemberSteps.{outcome-deferred}
use Rattle.dds_resolve.proofs.ResolverTurns.{outcome-ends}
use Rattle.dds_help.proofs.Steady.{Has, hear-has, hears-same, help-has, notice-has, query-has, same-has}
use Rattle.dds_help.specs.Steady.{AreSteady, IsPutOff, SteadyAt, Waits}

-- Each event keeps that no brick puts off what is ready, and that each resolving waits for a member.

abbrev Own : ℕ → BrickState → Type 0
Own at s = Has s.known at (IsPutOff s.known at) (Waits s.known at) s

own : {K : NodeSet} {at : ℕ} (s : BrickState) → Has K at (IsPutOff K at) (Waits K at) s → Own at s
own {at = at} s h = subst (λ k. Has k at (IsPutOff k at) (Waits k at) s) (sym h.knows) h

plain-own : {at : ℕ} (s : BrickState) (from : ℕ) (l : Letter) → IsCall l → Own at s → Own at (live_brick_turn s from l).state
plain-own s from l i h = let p = call-plain s from l i in
    own (live_brick_turn s from l).state (same-has s (live_brick_turn s from l).state p.known p.number p.deferred p.resolving h)

brick-own : {at : ℕ} (s : BrickState) (from : ℕ) (l : Letter) → from < 80 → Own at s → Own at (live_brick_turn s from l).state
brick-own s from (letter.Get txn caller call key name stamp) low h = plain-own s from (letter.Get txn caller call key name stamp) tt h
brick-own s from (letter.Prepare txn caller call below name stamp list op) low h =
    plain-own s from (letter.Prepare txn caller call below name stamp list op) tt h
brick-own s from (letter.Commit txn) low h = plain-own s from (letter.Commit txn) tt h
brick-own s from (letter.Abort txn) low h = plain-own s from (letter.Abort txn) tt h
brick-own s from (letter.MapAsk txn caller call key) low h = plain-own s from (letter.MapAsk txn caller call key) tt h
brick-own s from (letter.Got txn a) low h = h
brick-own s from (letter.Vote txn vote) low h = h
brick-own s from (letter.Applied txn was) low h = h
brick-own s from (letter.Aborted txn) low h = h
brick-own s from (letter.MapTell txn leaf) low h = h
brick-own s from (letter.Help txn list) low h = own (live_brick_turn s from (letter.Help txn list)).state (help-has s from txn list h)
brick-own s from (letter.Query txn list) low h = own (live_brick_turn s from (letter.Query txn list)).state (query-has s from txn list h)
brick-own {at = at} s from (letter.Status txn st) low h =
    own (live_brick_turn s from (letter.Status txn st)).state (hear-has s from (news.Told txn st) (hears-same s.known at from (news.Told txn st)) h)
brick-own s from (letter.Outcome txn c) low h =
    let e = outcome-ends s txn c in
    own (live_brick_turn s from (letter.Outcome txn c)).state
    (same-has s (live_brick_turn s from (letter.Outcome txn c)).state e.known e.number (outcome-deferred s txn c) e.resolving h)
brick-own s from letter.Notice low h = own (live_brick_turn s from letter.Notice).state (notice-has s from low h)
brick-own s from other low h =
    let k = (letter-rests s from from other tt).same in
    own (live_brick_turn s from other).state
    (same-has s (live_brick_turn s from other).state (ap (λ (w : Whole). w.who.known) k) (ap (λ (w : Whole). w.who.number) k)
    (ap (λ (w : Whole). w.deferred) k) (ap (λ (w : Whole). w.resolving) k) h)

from-own : {at : ℕ} (s : BrickState) → Own at s → SteadyAt at (a_brick s)
from-own s h = (h.number, record { deferred = h.deferred; resolving = h.resolving })

pub was-own : (n : Net) (at : ℕ) (s : BrickState) → n.node at ≡ a_brick s → AreSteady n → Own at s
was-own n at s e g =
    let k : SteadyAt at (a_brick s) = subst (SteadyAt at) e (g at) in
    record { knows = refl; number = k.0; deferred = k.1.deferred; resolving = k.1.resolving }

pub steady-kept : (z : Sizes) → z.bricks ≤ 64 → z.libraries ≤ 16 → IsKept z (Unit {0}) (λ h n e b. tt) (λ h n b. AreSteady n)
steady-kept z few some h n nothing b u f g = g
steady-kept z few some h n (unasked at caller call o) b u f g = g
steady-kept z few some h n (unheard at from l) b u f g = at-put SteadyAt at (n.node at) n.node (g at) (λ k ne. g k)
steady-kept z few some h n (brick_takes at from l s) b u f g =
    at-put SteadyAt at (a_brick (live_brick_turn s from l).state) n.node
    (from-own (live_brick_turn s from l).state (brick-own s from l (node-below z from few some f.letter.sender) (was-own n at s f.here g)))
    (λ k ne. g k)
steady-kept z few some h n (brick_told at o s) b u f g =
    let r = (brick_input s o).state in
    let k = (order-rests {L = Any} s o).same in
    at-put SteadyAt at (a_brick r) n.node
    (from-own r (own r (same-has s r (ap (λ (w : Whole). w.who.known) k) (ap (λ (w : Whole). w.who.number) k) (ap (λ (w : Whole). w.deferred) k)
    (ap (λ (w : Whole). w.resolving) k) (was-own n at s f.here g)))) (λ k ne. g k)
steady-kept z few some h n (brick_stops at s left) b u f g =
    at-put SteadyAt at (a_brick (emptied s.number)) n.node ((was-own n at s f.here g).number, record { deferred = tt; resolving = tt }) (λ k ne. g k)
steady-kept z few some h n (library_takes at from l s) b u f g = at-put SteadyAt at (a_library _) n.node tt (λ k ne. g k)
steady-kept z few some h n (library_asked at caller call o s) b u f g = at-put SteadyAt at (a_library _) n.node tt (λ k ne. g k)
steady-kept z few some h n (library_stops at s left) b u f g = at-put SteadyAt at (a_library _) n.node tt (λ k ne. g k)

-- the opening, and all runs
pub new-steady : (o : OpeningOf) (n : ℕ) (x : Node) → IsNew o n x → SteadyAt n x
new-steady o n x (no_node e) = subst (SteadyAt n) (sym e) tt
new-steady o n x (new_a_brick e) = subst (SteadyAt n) (sym e) (refl, record { deferred = tt; resolving = tt })
new-steady o n x (new_a_library high e) = subst (SteadyAt n) (sym e) tt

pub run-steady : (o : OpeningOf) (journal : List Step) → IsRanges (ranges_of o) → is_run o journal ≡ true →
    AreSteady (net (sizes_of o) (run_of o journal).world)
run-steady o journal ranges run =
    let z = sizes_of o in
    (run-keeps z (Unit {0}) (λ h n e b. tt) (λ h n b. AreSteady n) journal (start o) ranges.bricks (steady-kept z ranges.bricks ranges.libraries)
    (record { sized = sized-start o; books = tt; is = λ k. new-steady o k _ (start-node o k) }) run).is
