use Rattle.std.proofs.Common.{◌≡◌, ℕ, ◌≤◌, true, None, List, [], ◌∷◌, ◌++◌, refl, sym, ap, ◌∙◌, subst}
use Rattle.std.proofs.lemmas.Bool.{and_parts}
use Rattle.std.proofs.lemmas.List.{append-nil, append_assoc}
use Rattle.std.specs.List.{AllByRecursion}
use Rattle.std.specs.Prelude.{if◌then◌else◌}
use Rattle.dds_answered.proofs.Kept.{backed-kept}
use Rattle.dds_answered.proofs.Start.{start-backed}
use Rattle.dds_attempts.proofs.Runs.{stands-kept, start-last}
use Rattle.dds_books.specs.Books.{Book, booked}
use Rattle.dds_calls.proofs.Told.{trace-grown}
use Rattle.dds_cluster.specs.Trace.{is_possible, is_run, is_run_from, next, run_of, start}
use Rattle.dds_cluster.specs.Turn.{turn}
use Rattle.dds_cluster.specs.declared.step.Step.{Step}
use Rattle.dds_cluster.specs.declared.trace.Trace.{Trace}
use Rattle.dds_commit.proofs.Start.{start-all}
use Rattle.dds_net.proofs.Journals.{Grown, IsNext, net_of}
use Rattle.dds_net.proofs.Nodes.{brick-node}
use Rattle.dds_net.proofs.Opening.{IsNew, new_a_brick, new_a_library, no_node, start-channel, start-node}
use Rattle.dds_net.proofs.Runs.{IsKept, history-is, net-built, next-is, sized-run}
use Rattle.dds_net.proofs.Steps.{step-moves}
use Rattle.dds_net.specs.Event.{Event, History, goes, history_of}
use Rattle.dds_net.specs.Net.{Net, Node, Sizes, net, sizes_of}
use Rattle.dds_pairs.proofs.NameKeeps.{named-kept, start-names}
use Rattle.dds_parents.proofs.Splits.{run-split, split-kept}
use Rattle.dds_pending.proofs.Keeps.{fitting-kept}
use Rattle.dds_pending.proofs.Runs.{start-fitting}
use Rattle.dds_script.specs.Opening.{IsOpening, OpeningOf}
use Rattle.dds_talk.specs.Books as talk
use Rattle.dds_values.proofs.Histories.{legal-history}
use Rattle.dds_values.proofs.Kept.{Below, Held, held-then}
use Rattle.dds_values.proofs.Shares.{servers-share}
use Rattle.dds_values.specs.Held.{HeldWhereGiven, JoinsServeTheTable, TalkAlong}
use Rattle.dds_values.specs.Values.{LetterFlag, NodeHolds}

-- Of each run of which the premises hold: what its bricks hold, and that its points are legal.

abbrev Both : Type 0
Both = Book × talk.Books

abbrev adds_both : History → Net → Event → Both → Both
adds_both h n e b = (booked e b.0, talk.adds h n e b.1)

below-kept : (z : Sizes) → z.bricks ≤ 64 → z.libraries ≤ 16 → IsKept z Both adds_both (Below z)
below-kept z few some h n e b built f k =
    let stands = stands-kept z few some h n e b built f k.stands in
    record {
      stands = stands;
      backed = backed-kept z h n e b tt built f k.stands stands k.backed;
      fitting = fitting-kept z few some h n e tt built f k.fitting;
      split = split-kept z few some h n e tt built f k.split;
      named = named-kept z few some h n e tt built f k.named;
    }

-- what is given of a run
pub record Premises (o : OpeningOf) (journal : List Step) : Type 0 where
  pub opening : IsOpening o
  pub run : is_run o journal ≡ true
  pub talk : TalkAlong o journal
  pub joins : JoinsServeTheTable o journal

-- after a journal
pub record Along (o : OpeningOf) (journal : List Step) : Type 0 where
  pub books : Both
  pub below : Below (sizes_of o) (history_of (run_of o journal)) (net_of o journal) books
  pub held : Held (history_of (run_of o journal)) (net_of o journal) books

-- a step more
went-on : (o : OpeningOf) (was more journal : List Step) (x : Step) → Premises o journal → was ++ x ∷ more ≡ journal → Along o was
    → is_possible (run_of o was) x ≡ true → Along o (Grown was x)
went-on o was more journal x given whole w p =
    let z = sizes_of o in
    let t = run_of o was in
    let few = given.opening.ranges.bricks in
    let some = given.opening.ranges.libraries in
    let m = step-moves z t x few (sized-run o was) p in
    let h = history_of t in
    let n = net_of o was in
    let b = w.books in
    let built = net-built z t.world (sized-run o was) in
    let one = trace-grown (start o) was x ∙ next-is t x p in
    let is : IsNext o was x m.event = record {
      possible = p;
      step = m.step;
      fits = m.fits;
      replies = ap (λ c. if c then (turn t.steps t.world x).replies else []) p ∙ m.replies;
      after = ap (λ (u : Trace). net z u.world) one ∙ m.after;
    } in
    let share = servers-share o was (x ∷ more) journal given.opening whole given.run given.talk in
    let leaves = given.joins was more x m.event whole is in
    let low = below-kept z few some h n m.event b built m.fits w.below in
    let up = held-then z few some h n b built w.below share w.held m.event m.fits leaves low.stands.parts.1 in
    let c = adds_both h n m.event b in
    let past : history_of (run_of o (Grown was x)) ≡ goes h m.event = ap history_of one ∙ history-is z t x m in
    record {
      books = c;
      below = subst (λ i. Below z i (net_of o (Grown was x)) c) (sym past) (subst (λ v. Below z (goes h m.event) v c) (sym is.after) low);
      held = subst (λ i. Held i (net_of o (Grown was x)) c) (sym past) (subst (λ v. Held (goes h m.event) v c) (sym is.after) up);
    }

went-to : (o : OpeningOf) (was mid more journal : List Step) → Premises o journal → was ++ (mid ++ more) ≡ journal → Along o was
    → is_run_from (run_of o was) mid ≡ true → Along o (was ++ mid)
went-to o was [] more journal given whole w p = subst (Along o) (sym (append-nil was)) w
went-to o was (x ∷ mid) more journal given whole w p =
    let q = and_parts (is_possible (run_of o was) x) (is_run_from (next (run_of o was) x) mid) p in
    subst (Along o) (append_assoc was (x ∷ []) mid)
    (went-to o (Grown was x) mid more journal given (append_assoc was (x ∷ []) (mid ++ more) ∙ whole)
    (went-on o was (mid ++ more) journal x given whole w q.0)
    (subst (λ (t : Trace). is_run_from t mid ≡ true) (sym (trace-grown (start o) was x)) q.1))

-- the opening
new-holds : (o : OpeningOf) (k : ℕ) (x : Node) → IsNew o k x → NodeHolds [] x
new-holds o k x (no_node e) = subst (NodeHolds []) (sym e) tt
new-holds o k x (new_a_brick e) = subst (NodeHolds []) (sym e) (λ live. record { held = λ key covered. refl; after = tt })
new-holds o k x (new_a_library high e) = subst (NodeHolds []) (sym e) tt

start-along : (o : OpeningOf) → IsOpening o → Along o []
start-along o h =
    record {
      books = (λ t. None, talk.no_books);
      below = record {
        stands = record { parts = start-all o h; last = start-last o };
        backed = start-backed o;
        fitting = start-fitting o h;
        split = run-split o [] h refl;
        named = start-names o h;
      };
      held = record {
        is = record {
          nodes = λ k. new-holds o k _ (start-node o k);
          sent = λ a c. subst (AllByRecursion (LetterFlag [])) (sym (start-channel o a c)) tt;
          legal = tt;
          noted = λ k t e. cc;
        };
        fit = tt;
      };
    }

-- at each beginning
pub along : (o : OpeningOf) (front rest journal : List Step) → Premises o journal → front ++ rest ≡ journal → is_run o front ≡ true → Along o front
along o front rest journal given whole run = went-to o [] front rest journal given whole (start-along o given.opening) run

pub held-where-given : HeldWhereGiven
held-where-given o journal h run talk joins =
    let given : Premises o journal = record { opening = h; run = run; talk = talk; joins = joins } in
    let w = along o journal [] journal given (append-nil journal) run in
    record {
      legal = w.held.is.legal;
      history_is = legal-history (run_of o journal) w.held.is.legal;
      bricks = λ k s there live. subst (NodeHolds (run_of o journal).made) (brick-node (run_of o journal).world k s there) (w.held.is.nodes k) live;
    }
