use Rattle.std.proofs.Common.{◌≡◌, ℕ, ◌<◌, ◌≤◌, refl, sym, ap, subst}
use Rattle.dds_base.specs.declared.node_set.NodeSet.{NodeSet}
use Rattle.dds_cluster.proofs.Sizes.{sized-start}
use Rattle.dds_cluster.specs.Trace.{run_of, start}
use Rattle.dds_cluster.specs.World.{emptied}
use Rattle.dds_core.proofs.LetterTells.{Any, letter-rests}
use Rattle.dds_core.proofs.OrderTells.{order-rests}
use Rattle.dds_core.proofs.Rests.{Whole}
use Rattle.dds_core.specs.Brick.{brick_input, live_brick_turn}
use Rattle.dds_letters.specs.declared.letter.Letter.{Letter}
use Rattle.dds_letters.specs.declared.letter.Letter.TheVariants as letter
use Rattle.dds_brick_rows.specs.declared.resolution.News.TheVariants as news
use Rattle.dds_net.proofs.Nodes.{brick-node}
use Rattle.dds_net.proofs.Opening.{IsNew, no_node, new_a_brick, new_a_library, start-node}
use Rattle.dds_net.proofs.Places.{node-below}
use Rattle.dds_net.proofs.Puts.{at-put}
use Rattle.dds_net.proofs.Runs.{IsKept, run-keeps}
use Rattle.dds_net.specs.Event.{nothing, unheard, unasked, brick_takes, brick_told, brick_stops, library_takes, library_asked, library_stops}
use Rattle.dds_net.specs.Net.{Net, Node, nowhere, a_brick, a_library, net, sizes_of}
use Rattle.dds_net.specs.Net.{Sizes}
use Rattle.dds_script.specs.Opening.{OpeningOf}
use Rattle.dds_states.specs.declared.brick_state.BrickState.{BrickState}
use Rattle.dds_resolve.proofs.CallRows.{IsCall, call-plain}
use Rattle.dds_resolve.proofs.Ready.{Readies, hear-readies, help-readies, notice-readies, query-readies, same-readies}
use Rattle.dds_resolve.proofs.ResolverTurns.{outcome-ends}
use Rattle.dds_resolve.specs.Law.{ResolvingsAreReady}

-- Each event keeps that a brick resolves an attempt once, and only where it is ready.

at-own : {K : NodeSet} {at : ℕ} (s : BrickState) → Readies K at s → Readies s.known at s
at-own {at = at} s h = subst (λ k. Readies k at s) (sym h.knows) h

plain-readies : {at : ℕ} (s : BrickState) (from : ℕ) (l : Letter) → IsCall l → Readies s.known at s →
    Readies (live_brick_turn s from l).state.known at (live_brick_turn s from l).state
plain-readies s from l i h = let p = call-plain s from l i in
    at-own (live_brick_turn s from l).state (same-readies s (live_brick_turn s from l).state p.known p.number p.resolving h)

pub brick-readies : {at : ℕ} (s : BrickState) (from : ℕ) (l : Letter) → from < 80 → Readies s.known at s →
    Readies (live_brick_turn s from l).state.known at (live_brick_turn s from l).state
brick-readies s from (letter.Get txn caller call key name stamp) low h = plain-readies s from (letter.Get txn caller call key name stamp) tt h
brick-readies s from (letter.Prepare txn caller call below name stamp list op) low h =
    plain-readies s from (letter.Prepare txn caller call below name stamp list op) tt h
brick-readies s from (letter.Commit txn) low h = plain-readies s from (letter.Commit txn) tt h
brick-readies s from (letter.Abort txn) low h = plain-readies s from (letter.Abort txn) tt h
brick-readies s from (letter.MapAsk txn caller call key) low h = plain-readies s from (letter.MapAsk txn caller call key) tt h
brick-readies s from (letter.Got txn a) low h = h
brick-readies s from (letter.Vote txn vote) low h = h
brick-readies s from (letter.Applied txn was) low h = h
brick-readies s from (letter.Aborted txn) low h = h
brick-readies s from (letter.MapTell txn leaf) low h = h
brick-readies s from (letter.Help txn list) low h = at-own (live_brick_turn s from (letter.Help txn list)).state (help-readies s from txn list h)
brick-readies s from (letter.Query txn list) low h = at-own (live_brick_turn s from (letter.Query txn list)).state (query-readies s from txn list h)
brick-readies s from (letter.Status txn st) low h = at-own (live_brick_turn s from (letter.Status txn st)).state (hear-readies s from (news.Told txn st) h)
brick-readies s from (letter.Outcome txn c) low h =
    let e = outcome-ends s txn c in at-own (live_brick_turn s from (letter.Outcome txn c)).state
    (same-readies s (live_brick_turn s from (letter.Outcome txn c)).state e.known e.number e.resolving h)
brick-readies s from letter.Notice low h = at-own (live_brick_turn s from letter.Notice).state (notice-readies s from low h)
brick-readies s from other low h =
    let k = letter-rests s from from other tt in
    at-own (live_brick_turn s from other).state
    (same-readies s (live_brick_turn s from other).state (ap (λ (w : Whole). w.who.known) k.same) (ap (λ (w : Whole). w.who.number) k.same)
    (ap (λ (w : Whole). w.resolving) k.same) h)

-- of each node
abbrev pub ReadyAt : ℕ → Node → Type 0
ReadyAt at nowhere = Unit {0}
ReadyAt at (a_brick s) = Readies s.known at s
ReadyAt at (a_library s) = Unit {0}

abbrev pub AreReady : Net → Type 0
AreReady n = (at : ℕ) → ReadyAt at (n.node at)

pub was-ready : (n : Net) (at : ℕ) (s : BrickState) → n.node at ≡ a_brick s → AreReady n → Readies s.known at s
was-ready n at s e g = subst (ReadyAt at) e (g at)

pub ready-kept : (z : Sizes) → z.bricks ≤ 64 → z.libraries ≤ 16 → IsKept z (Unit {0}) (λ h n e b. tt) (λ h n b. AreReady n)
ready-kept z few some h n nothing b u f g = g
ready-kept z few some h n (unasked at caller call o) b u f g = g
ready-kept z few some h n (unheard at from l) b u f g = at-put ReadyAt at (n.node at) n.node (g at) (λ k ne. g k)
ready-kept z few some h n (brick_takes at from l s) b u f g =
    at-put ReadyAt at (a_brick (live_brick_turn s from l).state) n.node
    (brick-readies s from l (node-below z from few some f.letter.sender) (was-ready n at s f.here g)) (λ k ne. g k)
ready-kept z few some h n (brick_told at o s) b u f g =
    let r = (brick_input s o).state in
    let k = (order-rests {L = Any} s o).same in
    at-put ReadyAt at (a_brick r) n.node
    (at-own r (same-readies s r (ap (λ (w : Whole). w.who.known) k) (ap (λ (w : Whole). w.who.number) k) (ap (λ (w : Whole). w.resolving) k)
    (was-ready n at s f.here g))) (λ k ne. g k)
ready-kept z few some h n (brick_stops at s left) b u f g =
    at-put ReadyAt at (a_brick (emptied s.number)) n.node (record { knows = refl; number = (was-ready n at s f.here g).number; ready = tt; once = tt })
    (λ k ne. g k)
ready-kept z few some h n (library_takes at from l s) b u f g = at-put ReadyAt at (a_library _) n.node tt (λ k ne. g k)
ready-kept z few some h n (library_asked at caller call o s) b u f g = at-put ReadyAt at (a_library _) n.node tt (λ k ne. g k)
ready-kept z few some h n (library_stops at s left) b u f g = at-put ReadyAt at (a_library _) n.node tt (λ k ne. g k)

-- the opening, and all runs
pub new-ready : (o : OpeningOf) (n : ℕ) (x : Node) → IsNew o n x → ReadyAt n x
new-ready o n x (no_node e) = subst (ReadyAt n) (sym e) tt
new-ready o n x (new_a_brick e) = subst (ReadyAt n) (sym e) (record { knows = refl; number = refl; ready = tt; once = tt })
new-ready o n x (new_a_library high e) = subst (ReadyAt n) (sym e) tt

pub resolvings-are-ready : ResolvingsAreReady
resolvings-are-ready o journal ranges run n s e =
    let z = sizes_of o in
    let r = run-keeps z (Unit {0}) (λ h n e b. tt) (λ h n b. AreReady n) journal (start o) ranges.bricks (ready-kept z ranges.bricks ranges.libraries)
    (record { sized = sized-start o; books = tt; is = λ k. new-ready o k _ (start-node o k) }) run in
    let k = was-ready (net z (run_of o journal).world) n s (brick-node (run_of o journal).world n s e) r.is in
    record { number = k.number; ready = k.ready; once = k.once }
