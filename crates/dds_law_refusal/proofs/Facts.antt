use Rattle.std.proofs.Common.{◌≡◌, ℕ, ◌≤◌, true, Some, List, [], length, refl, sym, ap, ◌∙◌, subst, arith}
use Rattle.std.specs.List.{AllByRecursion}
use Rattle.std.specs.Prelude.{slice_get, take}
use Rattle.dds_base.specs.declared.number.NodeNo.{NodeNo}
use Rattle.dds_base.specs.declared.op.Met.{Met}
use Rattle.dds_base.specs.declared.op.OrderReply.TheVariants as answered
use Rattle.dds_core.proofs.LibraryAttempts.{IsOpen}
use Rattle.dds_core.proofs.Lists.{all-is}
use Rattle.dds_letters.specs.declared.letter.Letter.{Letter}
use Rattle.dds_letters.specs.declared.letter.Letter.TheVariants as letter
use Rattle.dds_letters.specs.declared.refusal.Answer.TheVariants as answer
use Rattle.dds_letters.specs.declared.refusal.Ballot.TheVariants as ballot
use Rattle.dds_script.specs.Opening.{OpeningOf}
use Rattle.dds_states.specs.declared.library_state.LibraryState.{LibraryState}
use Rattle.dds_states.specs.declared.library_state.OpenCall.{OpenCall}
use Rattle.dds_states.specs.declared.library_state.Phase.{Phase}
use Rattle.dds_states.specs.declared.library_state.Phase.TheVariants as phase
use Rattle.dds_states.specs.declared.turn.Replied.TheVariants as replied
use Rattle.dds_world.specs.Places.{Travels}
use Rattle.dds_world.specs.Refusals.{OrderWasRefused, RefusalsWereTrue}
use Rattle.dds_cluster.specs.Trace.{is_run, replies_in, run_of}
use Rattle.dds_cluster.specs.World.{library_at}
use Rattle.dds_cluster.specs.declared.step.Step.{Step}
use Rattle.dds_net.proofs.Journals.{Grown, journal-keeps, net_of, next-event, place-of}
use Rattle.dds_net.proofs.Opening.{IsNew, new_a_brick, new_a_library, no_node, start-channel, start-node}
use Rattle.dds_net.proofs.Runs.{sized-run}
use Rattle.dds_net.proofs.Nodes.{library-node}
use Rattle.dds_net.proofs.Ways.{travels}
use Rattle.dds_net.specs.Net.{Node, a_library, sizes_of}
use Rattle.dds_law_refusal.proofs.Bricks.{ReplyOk}
use Rattle.dds_law_refusal.proofs.Good.{CallOk, IsGood, LetterOk, NodeOk, PhaseOk}
use Rattle.dds_law_refusal.proofs.Later.{order-later}
use Rattle.dds_law_refusal.proofs.Steps.{done, good-kept}

-- The invariant holds along each run, and what it says of refusals.

new-ok : (o : OpeningOf) (k : ℕ) (x : Node) → IsNew o k x → NodeOk o [] k x
new-ok o k x (no_node e) = subst (NodeOk o [] k) (sym e) tt
new-ok o k x (new_a_brick e) = subst (NodeOk o [] k) (sym e) refl
new-ok o k x (new_a_library high e) = subst (NodeOk o [] k) (sym e) (omega (arith, high), tt)

start-good : (o : OpeningOf) → IsGood o [] (net_of o [])
start-good o =
    record {
      nodes = λ k. new-ok o k _ (start-node o k);
      letters = λ a b. subst (AllByRecursion (LetterOk o [] (net_of o []) a b)) (sym (start-channel o a b)) tt;
    }

pub run-good : (o : OpeningOf) (journal : List Step) → o.bricks ≤ 64 → is_run o journal ≡ true → IsGood o journal (net_of o journal)
run-good o journal few r = journal-keeps o (IsGood o) journal few (good-kept o few) (start-good o) r

on-way : (o : OpeningOf) (journal : List Step) (from to : NodeNo) (l : Letter) → IsGood o journal (net_of o journal)
    → Travels (run_of o journal).world from to l → LetterOk o journal (net_of o journal) from to l
on-way o journal from to l g t =
    travels (LetterOk o journal (net_of o journal) from to) (sizes_of o) (run_of o journal).world from to l (sized-run o journal) t (g.letters from to)

kept-phase : (o : OpeningOf) (journal : List Step) (node : NodeNo) (s : LibraryState) (at : ℕ) (c : OpenCall) (p : Phase) → IsGood o journal (net_of o journal)
    → library_at (run_of o journal).world node ≡ Some s → slice_get s.calls at ≡ Some c → c.phase ≡ p
    → PhaseOk o journal c.txn c.request.caller c.request.call p
kept-phase o journal node s at c p g there is e =
    let own : NodeOk o journal node (a_library s) = subst (NodeOk o journal node) (library-node (run_of o journal).world node s there) (g.nodes node) in
    subst (PhaseOk o journal c.txn c.request.caller c.request.call) e (all-is (IsOpen (CallOk o journal) s.number s.next) s.calls at c own.1 is).kept

-- an order that is answered at a place of the run
order-met : (o : OpeningOf) (journal : List Step) (at place : ℕ) (x : Step) (m : Met) → o.bricks ≤ 64 → is_run o journal ≡ true → slice_get journal at ≡ Some x
    → slice_get (replies_in (run_of o (take at journal)) x) place ≡ Some (replied.Order (answered.Refused m)) → OrderWasRefused o journal at m
order-met o journal at place x m few r is told =
    let front = take at journal in
    let here = place-of o journal at x r is in
    let next = next-event o front x few here.possible in
    let d = done o front x next.0 few (run-good o front few here.run) next.1 in
    let met = all-is (ReplyOk o (Grown front x) (length front)) _ place (replied.Order (answered.Refused m)) d.replies
    (ap (λ rs. slice_get rs place) (sym next.1.replies) ∙ told) in
    subst (λ k. OrderWasRefused o journal k m) here.place (subst (λ steps. OrderWasRefused o steps (length front) m) here.whole
    (order-later o (Grown front x) _ (length front) m met))

pub refusals-true : (o : OpeningOf) (journal : List Step) → o.bricks ≤ 64 → is_run o journal ≡ true → RefusalsWereTrue o journal
refusals-true o journal few r =
    let g = run-good o journal few r in
    record {
      gets = λ from to txn why t. (on-way o journal from to (letter.Got txn (answer.Refused why)) g t).0;
      updates = λ from to txn why t. (on-way o journal from to (letter.Vote txn (ballot.No why)) g t).0;
      leases = λ from to number why t. on-way o journal from to (letter.LeaseRefused number why) g t;
      kept = λ node brick s at c waiting why there is e. (kept-phase o journal node s at c (phase.Aborting waiting why brick) g there is e).0;
      asking = λ node s at c waiting newest m there is e. kept-phase o journal node s at c (phase.Asking waiting newest m) g there is e;
      orders = λ at place x m is told. order-met o journal at place x m few r is told;
    }
