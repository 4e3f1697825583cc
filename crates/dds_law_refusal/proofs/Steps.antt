use Rattle.std.proofs.Common.{◌≡◌, ℕ, ◌≤◌, List, [], ◌∷◌, length, refl, sym, ap, ◌∙◌, subst}
use Rattle.std.proofs.lemmas.Bool.{eq-eqb}
use Rattle.std.specs.List.{AllByRecursion}
use Rattle.std.specs.Prelude.{if◌then◌else◌}
use Rattle.dds_base.specs.Number.{Txn}
use Rattle.dds_base.specs.declared.number.CallNo.{CallNo}
use Rattle.dds_base.specs.declared.number.NodeNo.{NodeNo}
use Rattle.dds_core.specs.Brick.{brick_input, live_brick_turn}
use Rattle.dds_core.specs.LibraryTurn.{live_library_turn, new_request}
use Rattle.dds_core.proofs.LetterTells.{letter-tells}
use Rattle.dds_core.proofs.LetterTells.{heard as told}
use Rattle.dds_core.proofs.CallAttempts.{AllFrom, FromLibrary}
use Rattle.dds_core.proofs.LibraryAttempts.{Attempts, IsCallReply, IsSent, input-attempts, library-attempts}
use Rattle.dds_core.proofs.Lists.{all-map}
use Rattle.dds_core.proofs.OrderTells.{order-tells}
use Rattle.dds_core.proofs.Tells.{Who}
use Rattle.dds_letters.specs.declared.letter.Letter.{Letter}
use Rattle.dds_letters.specs.declared.letter.Letter.TheVariants as letter
use Rattle.dds_script.specs.Opening.{OpeningOf}
use Rattle.dds_states.specs.declared.brick_state.BrickState.{BrickState}
use Rattle.dds_states.specs.declared.library_state.LibraryState.{LibraryState}
use Rattle.dds_states.specs.declared.turn.CoreTurn.{CoreTurn}
use Rattle.dds_states.specs.declared.turn.Replied.{Replied}
use Rattle.dds_states.specs.declared.turn.Replied.TheVariants as replied
use Rattle.dds_cluster.specs.Trace.{run_of}
use Rattle.dds_cluster.specs.declared.step.Step.{Step}
use Rattle.dds_net.proofs.Carried.{Becomes, Lands, News, Sends, letters-moved, nodes-moved}
use Rattle.dds_net.proofs.Journals.{EachKeeps, Grown, IsNext, net_of}
use Rattle.dds_net.proofs.Letters.{first-all}
use Rattle.dds_net.specs.Event.{Event, nothing, unheard, unasked, brick_takes, brick_told, brick_stops, library_takes, library_asked, library_stops}
use Rattle.dds_net.specs.Event.{Takes, asked_turn, moved, replies_of}
use Rattle.dds_net.specs.Net.{Net, Node, a_brick, a_library, put, sizes_of}
use Rattle.dds_law_refusal.proofs.Bricks.{NoRefusal, ReplyOk, TakesNow, input-replies, order-news, turn-news, turn-replies}
use Rattle.dds_law_refusal.proofs.Calls.{new-kept, turn-kept}
use Rattle.dds_law_refusal.proofs.Good.{AllLast, CallOk, IsGood, Lasts, LetterOk, NodeOk, TiedAt, TiedIn, calls-later, letter-later, letters-later, node-later}

-- Each step keeps the invariant, and answers an order with what was met.

-- what an event does: the node that it changes, the letters that this one sends, and the answers
pub record IsDone (o : OpeningOf) (journal : List Step) (x : Step) (n : Net) (e : Event) : Type 0 where
  pub becomes : Becomes (λ k y. Lasts (n.node k) y × NodeOk o (Grown journal x) k y) e
  pub sends : AllLast n (moved (sizes_of o) n e) → Sends (LetterOk o (Grown journal x) (moved (sizes_of o) n e)) (sizes_of o) e
  pub replies : AllByRecursion (ReplyOk o (Grown journal x) (length journal)) (replies_of e)

-- nodes that a letter finds or an order comes to
own-number : (o : OpeningOf) (journal : List Step) (n : Net) (at : ℕ) (s : BrickState) → IsGood o journal n → n.node at ≡ a_brick s → s.number ≡ at
own-number o journal n at s g here = subst (NodeOk o journal at) here (g.nodes at)

own-library : (o : OpeningOf) (journal : List Step) (n : Net) (at : ℕ) (s : LibraryState) → IsGood o journal n → n.node at ≡ a_library s
    → NodeOk o journal at (a_library s)
own-library o journal n at s g here = subst (NodeOk o journal at) here (g.nodes at)

-- a library's turn
put-own : (at : ℕ) (y : Node) (f : ℕ → Node) → put at y f at ≡ y
put-own at y f = ap (λ c. if c then y else f at) (eq-eqb at at refl)

tied-now : (u : Net) (at : ℕ) (s : LibraryState) (txn : Txn) (caller : ℕ) (call : CallNo) → u.node at ≡ a_library s → s.number ≡ at → IsSent s txn caller call
    → TiedIn u txn caller call
tied-now u at s txn caller call here number h = subst (TiedAt txn caller call) (sym (ap u.node (h.0 ∙ number) ∙ here)) h.1

library-ok : (o : OpeningOf) (journal : List Step) (u : Net) (at b : ℕ) (s : LibraryState) (l : Letter) → u.node at ≡ a_library s → s.number ≡ at
    → FromLibrary (IsSent s) l → LetterOk o journal u at b l
library-ok o journal u at b s (letter.Get txn caller call key name stamp) here number h = tied-now u at s txn caller call here number h
library-ok o journal u at b s (letter.Prepare txn caller call below name stamp list op) here number h = tied-now u at s txn caller call here number h
library-ok o journal u at b s (letter.Got txn a) here number h = absurd h
library-ok o journal u at b s (letter.Vote txn vote) here number h = absurd h
library-ok o journal u at b s (letter.LeaseRefused number why) here is h = absurd h
library-ok o journal u at b s other here number h = tt

library-news : (o : OpeningOf) (journal : List Step) (u : Net) (at : ℕ) (s : LibraryState) (ls : List (NodeNo × Letter)) → u.node at ≡ a_library s
    → s.number ≡ at → AllFrom (IsSent s) ls → News (LetterOk o journal u) (sizes_of o) at ls
library-news o journal u at s ls here number h b inside =
    all-map (λ (p : NodeNo × Letter). FromLibrary (IsSent s) p.1) (Lands (LetterOk o journal u) (sizes_of o) at b) ls
    (λ p k comes. library-ok o journal u at b s p.1 here number k) h

call-replies : (o : OpeningOf) (journal : List Step) (at : ℕ) (rs : List Replied) → AllByRecursion IsCallReply rs → AllByRecursion (ReplyOk o journal at) rs
call-replies o journal at [] h = tt
call-replies o journal at (replied.Order reply ∷ rs) h = absurd h.0
call-replies o journal at (other ∷ rs) h = (tt, call-replies o journal at rs h.1)

library-becomes : (o : OpeningOf) (journal : List Step) (n : Net) (at : ℕ) (s t : LibraryState) (out : CoreTurn) → n.node at ≡ a_library s → s.number ≡ at
    → Attempts (CallOk o journal) s t out → Lasts (n.node at) (a_library t) × NodeOk o journal at (a_library t)
library-becomes o journal n at s t out here number a =
    (λ txn caller call tie. a.ties txn caller call (subst (TiedAt txn caller call) here tie), (a.number ∙ number, a.calls))

-- the letter that a node takes
heard : (o : OpeningOf) (journal : List Step) (x : Step) (n u : Net) (at from : ℕ) (l : Letter) (y : Node) → IsGood o journal n
    → Takes (sizes_of o) n at from l y → AllLast n u → LetterOk o (Grown journal x) u from at l
heard o journal x n u at from l y g f last =
    letter-later o journal (x ∷ []) n u from at l last (first-all (LetterOk o journal n from at) (sizes_of o) n at from l f.letter (g.letters from at))

library-takes : (o : OpeningOf) (journal : List Step) (x : Step) (at from : ℕ) (l : Letter) (s : LibraryState) → IsGood o journal (net_of o journal)
    → IsNext o journal x (library_takes at from l s) → IsDone o journal x (net_of o journal) (library_takes at from l s)
library-takes o journal x at from l s g next =
    let n = net_of o journal in
    let f = next.fits in
    let t = live_library_turn s from l in
    let own = own-library o journal n at s g f.here in
    let says = heard o journal x n n at from l (a_library s) g f (λ k txn caller call tie. tie) in
    let a = library-attempts (CallOk o (Grown journal x)) s from l
    (turn-kept o (Grown journal x) n at s from at l (record { here = f.here; number = own.0; says = says })) (calls-later o journal (x ∷ []) s own.1) in
    record {
      becomes = library-becomes o (Grown journal x) n at s t.state t.out f.here own.0 a;
      sends = λ last. library-news o (Grown journal x) (moved (sizes_of o) n (library_takes at from l s)) at t.state t.out.letters
          (put-own at (a_library t.state) n.node) (a.number ∙ own.0) a.letters;
      replies = call-replies o (Grown journal x) (length journal) t.out.replies a.replies;
    }

heard-number : (s : BrickState) (from : NodeNo) (l : Letter) (t : BrickState) → t.number ≡ (told s from l).number → t.number ≡ s.number
heard-number s from letter.Notice t e = e
heard-number s from other t e = e

brick-takes : (o : OpeningOf) (journal : List Step) (x : Step) (at from : ℕ) (l : Letter) (s : BrickState) → o.bricks ≤ 64 → IsGood o journal (net_of o journal)
    → IsNext o journal x (brick_takes at from l s) → IsDone o journal x (net_of o journal) (brick_takes at from l s)
brick-takes o journal x at from l s few g next =
    let n = net_of o journal in
    let f = next.fits in
    let t = live_brick_turn s from l in
    let u = moved (sizes_of o) n (brick_takes at from l s) in
    let tells = letter-tells s from l in
    let now = (λ (v : Net) (last : AllLast n v).
    let it : TakesNow o journal x v at from l s = record {
      few = few;
      possible = next.possible;
      step = next.step;
      first = f.letter;
      here = f.here;
      live = f.live;
      says = heard o journal x n v at from l (a_brick s) g f last;
    } in
    it) in
    record {
      becomes = (λ txn caller call tie. tt, heard-number s from l t.state (ap (λ (w : Who). w.number) tells.same) ∙ own-number o journal n at s g f.here);
      sends = λ last. turn-news o journal x u at from l s t.out.letters (now u last) tells.letters;
      replies = turn-replies o journal x n at from l s t.out.replies (now n (λ k txn caller call tie. tie)) tells.replies;
    }

pub done : (o : OpeningOf) (journal : List Step) (x : Step) (e : Event) → o.bricks ≤ 64 → IsGood o journal (net_of o journal) → IsNext o journal x e
    → IsDone o journal x (net_of o journal) e
done o journal x nothing few g next = record { becomes = tt; sends = λ last. tt; replies = tt }
done o journal x (unheard at from l) few g next = record { becomes = tt; sends = λ last. tt; replies = tt }
done o journal x (unasked at caller call p) few g next = record { becomes = tt; sends = λ last. tt; replies = tt }
done o journal x (brick_takes at from l s) few g next = brick-takes o journal x at from l s few g next
done o journal x (brick_told at ord s) few g next =
    let f = next.fits in
    let n = net_of o journal in
    let own = own-number o journal n at s g f.here in
    let tells = order-tells {L = NoRefusal} s ord in
    record {
      becomes = (λ txn caller call tie. tt, ap (λ (w : Who). w.number) tells.same ∙ own);
      sends = λ last. order-news o (Grown journal x) (moved (sizes_of o) n (brick_told at ord s)) (sizes_of o) at (brick_input s ord).out.letters tells.letters;
      replies = input-replies o journal x at s ord (brick_input s ord).out.replies next.step f.here own f.may tells.replies;
    }
done o journal x (brick_stops at s kept) few g next =
    record { becomes = (λ txn caller call tie. tt, own-number o journal (net_of o journal) at s g next.fits.here); sends = λ last b. tt; replies = tt }
done o journal x (library_takes at from l s) few g next = library-takes o journal x at from l s g next
done o journal x (library_asked at caller call p s) few g next =
    let f = next.fits in
    let n = net_of o journal in
    let t = asked_turn s caller call p in
    let own = own-library o journal n at s g f.here in
    let a = input-attempts (CallOk o (Grown journal x)) s caller call p
    (λ d t y b is. new-kept o (Grown journal x) d (new_request caller call p) t y b is) (calls-later o journal (x ∷ []) s own.1) in
    record {
      becomes = library-becomes o (Grown journal x) n at s t.state t.out f.here own.0 a;
      sends = λ last. library-news o (Grown journal x) (moved (sizes_of o) n (library_asked at caller call p s)) at t.state t.out.letters
          (put-own at (a_library t.state) n.node) (a.number ∙ own.0) a.letters;
      replies = call-replies o (Grown journal x) (length journal) t.out.replies a.replies;
    }
done o journal x (library_stops at s kept) few g next =
    let n = net_of o journal in
    let own = own-library o journal n at s g next.fits.here in
    record {
      becomes = (
        λ txn caller call tie. let it = subst (TiedAt txn caller call) next.fits.here tie in record { below = it.below; calls = it.calls },
        (own.0, calls-later o journal (x ∷ []) s own.1),
      );
      sends = λ last b. tt;
      replies = tt;
    }

pub good-kept : (o : OpeningOf) → o.bricks ≤ 64 → EachKeeps o (IsGood o)
good-kept o few journal x e next g =
    let z = sizes_of o in
    let n = net_of o journal in
    let d = done o journal x e few g next in
    let all = nodes-moved (λ k y. Lasts (n.node k) y × NodeOk o (Grown journal x) k y) z n e
    (λ k. (λ txn caller call tie. tie, node-later o journal (x ∷ []) k (n.node k) (g.nodes k))) d.becomes in
    let last = (λ (k : ℕ). (all k).0) in
    let u = moved z n e in
    record {
      nodes = λ k. (all k).1;
      letters = letters-moved (LetterOk o (Grown journal x) u) z (run_of o journal).callers n e next.fits (letters-later o journal (x ∷ []) n u last g.letters)
          (d.sends last);
    }
