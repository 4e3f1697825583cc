use Rattle.std.proofs.Common.{◌≡◌, ℕ, ◌-◌, ◌+◌, ◌==◌, true, false, Option, Some, None, List, [], ◌∷◌, length, refl, sym, subst}
use Rattle.std.proofs.Math.Seq.{take-append_seam}
use Rattle.std.specs.FinMap.{get}
use Rattle.std.specs.List.{AllByRecursion}
use Rattle.std.specs.Prelude.{take}
use Rattle.dds_base.specs.BrickList.{has, is_brick_list}
use Rattle.dds_base.specs.declared.leaf.Leaf.{Leaf}
use Rattle.dds_base.specs.declared.number.NodeNo.{NodeNo}
use Rattle.dds_cluster.specs.Trace.{is_possible, is_run, run_of}
use Rattle.dds_cluster.specs.World.{new_library}
use Rattle.dds_cluster.specs.declared.step.Step.{Step}
use Rattle.dds_core.proofs.Lists.{all-filter, all-map}
use Rattle.dds_core.specs.LibraryTurn.{live_library_turn}
use Rattle.dds_law_leaf.proofs.Book.{Each, InLetter, InLibrary, InMap}
use Rattle.dds_law_leaf.proofs.Libraries.{asked-goes, library-goes}
use Rattle.dds_law_leaf.proofs.Maps.{in-all, in-empty}
use Rattle.dds_law_own.proofs.Runs.{bricks-keep}
use Rattle.dds_letters.specs.declared.letter.Letter.{Letter}
use Rattle.dds_letters.specs.declared.letter.Letter.TheVariants as letter
use Rattle.dds_net.proofs.Carried.{AllCarried, Becomes, Lands, News, Sends, letters-moved, nodes-moved}
use Rattle.dds_net.proofs.Journals.{Grown, IsNext, last-is, net_of, next-event, place-of}
use Rattle.dds_net.proofs.Letters.{first-all}
use Rattle.dds_net.proofs.Opening.{IsNew, new_a_brick, new_a_library, no_node, start-channel, start-node}
use Rattle.dds_net.specs.Event.{Event, nothing, unheard, unasked, brick_takes, brick_told, brick_stops, library_takes, library_asked, library_stops}
use Rattle.dds_net.specs.Event.{moved}
use Rattle.dds_net.specs.Net.{Net, Node, nowhere, a_brick, a_library, Sizes, sizes_of}
use Rattle.dds_outcomes.proofs.Places.{brick-of}
use Rattle.dds_script.specs.Opening.{IsOpening, IsPlaced, OpeningOf}
use Rattle.dds_states.specs.Turn.{is_none_left}
use Rattle.dds_states.specs.declared.brick_state.BrickState.{BrickState}
use Rattle.dds_states.specs.declared.library_state.LibraryState.{LibraryState}
use Rattle.dds_calls.proofs.Answered.{differ, made-all, own-calls}
use Rattle.dds_calls.proofs.Fills.{AllFill, Fills, IsFilled, order-turn-fills, turn-fills}
use Rattle.dds_calls.proofs.Told.{each-journal}
use Rattle.dds_calls.proofs.Treats.{library-treats}

-- Each leaf in a library's map, and in its open calls, has members.
--
-- | part      | why it is needed                                          | which rows keep it                                            |
-- | `nodes`   | where no member lives, the first one is a stopped brick   | a library adopts leaves that it was told                      |
-- | `letters` | the library adopts them                                   | bricks tell their own leaves, which list them (the law of own) |

-- what each event of a run keeps
pub along : (o : OpeningOf) (P : List Step → Net → Type 0) → IsOpening o → P [] (net_of o [])
    → ((journal : List Step) (x : Step) (e : Event) → is_run o journal ≡ true → is_run o (Grown journal x) ≡ true → IsNext o journal x e
    → P journal (net_of o journal)
    → P (Grown journal x) (moved (sizes_of o) (net_of o journal) e)) → (journal : List Step) → is_run o journal ≡ true → P journal (net_of o journal)
along o P h first keeps journal =
    each-journal (λ j. is_run o j ≡ true → P j (net_of o j)) (λ r. first) (λ j x g run.
    let p = place-of o (Grown j x) (length j) x run (last-is j x) in
    let front : take (length j) (Grown j x) ≡ j = take-append_seam j (x ∷ []) in
    let run_so_far = subst (λ k. is_run o k ≡ true) front p.run in
    let n = next-event o j x h.ranges.bricks (subst (λ k. is_possible (run_of o k) x ≡ true) front p.possible) in
    subst (P (Grown j x)) (sym n.1.after) (keeps j x n.0 run_so_far run n.1 (g run_so_far))) journal

abbrev pub NodeFilled : ℕ → Node → Type 0
NodeFilled k nowhere = Unit {0}
NodeFilled k (a_brick s) = Unit {0}
NodeFilled k (a_library s) = InLibrary IsFilled s

abbrev Carries : ℕ → ℕ → Letter → Type 0
Carries a b l = Fills l

pub record AreFilled (n : Net) : Type 0 where
  pub nodes : (k : ℕ) → NodeFilled k (n.node k)
  pub letters : AllCarried Carries n

news : (z : Sizes) (at : ℕ) (ls : List (NodeNo × Letter)) → AllFill ls → News Carries z at ls
news z at ls h to inside = all-map (λ (p : NodeNo × Letter). Fills p.1) (Lands Carries z at to) ls (λ p k comes. k) h

-- a library's letters
leaf-fills : (l : Letter) → InLetter IsFilled l → Fills l
leaf-fills (letter.Got txn a) h = h
leaf-fills (letter.Vote txn vote) h = h
leaf-fills (letter.MapTell txn leaf) h = h
leaf-fills other h = tt

carry-fills : (ls : List (NodeNo × Letter)) → AllByRecursion (λ (p : NodeNo × Letter). InLetter IsFilled p.1) ls → AllFill ls
carry-fills ls h = all-map (λ (p : NodeNo × Letter). InLetter IsFilled p.1) (λ p. Fills p.1) ls (λ p k. leaf-fills p.1 k) h

library-fills : (s : LibraryState) (from : NodeNo) (l : Letter) → InLibrary IsFilled s → Fills l → AllFill (live_library_turn s from l).out.letters
library-fills s from (letter.Got txn a) h k = carry-fills _ (library-goes IsFilled s from (letter.Got txn a) h k).letters
library-fills s from (letter.Vote txn vote) h k = carry-fills _ (library-goes IsFilled s from (letter.Vote txn vote) h k).letters
library-fills s from (letter.MapTell txn leaf) h k = carry-fills _ (library-goes IsFilled s from (letter.MapTell txn leaf) h k).letters
library-fills s from (letter.Applied txn was) h k = carry-fills _ (library-goes IsFilled s from (letter.Applied txn was) h tt).letters
library-fills s from (letter.Aborted txn) h k = carry-fills _ (library-goes IsFilled s from (letter.Aborted txn) h tt).letters
library-fills s from letter.Notice h k = carry-fills _ (library-goes IsFilled s from letter.Notice h tt).letters
library-fills s from other h k = tt

-- a brick's own leaves list it
listed-filled : (list : List ℕ) (b : ℕ) → has list b ≡ true → is_none_left list ≡ false
listed-filled [] b e = cc
listed-filled (n ∷ ns) b e = refl

own-filled : (o : OpeningOf) (journal : List Step) (at : ℕ) (s : BrickState) → IsOpening o → is_run o journal ≡ true → (net_of o journal).node at ≡ a_brick s
    → InMap IsFilled s.leaves
own-filled o journal at s h run here name = by (get s.leaves name) refl
  where
    by : (x : Option Leaf) → get s.leaves name ≡ x → Each IsFilled x
    by None e = tt
    by (Some leaf) e = listed-filled leaf.list at ((bricks-keep o journal at s h run (brick-of o journal at s here)).lists name leaf e)

record Goes (z : Sizes) (e : Event) : Type 0 where
  becomes : Becomes NodeFilled e
  sends : Sends Carries z e

event-goes : (o : OpeningOf) (journal : List Step) (x : Step) (e : Event) → IsOpening o → is_run o journal ≡ true → IsNext o journal x e
    → AreFilled (net_of o journal) → Goes (sizes_of o) e
event-goes o journal x (brick_takes at from l s) h run next g =
    record { becomes = tt; sends = news (sizes_of o) at _ (turn-fills s from l (own-filled o journal at s h run next.fits.here)) }
event-goes o journal x (brick_told at ord s) h run next g = record { becomes = tt; sends = news (sizes_of o) at _ (order-turn-fills s ord) }
event-goes o journal x (library_takes at from l s) h run next g =
    let own : InLibrary IsFilled s = subst (NodeFilled at) next.fits.here (g.nodes at) in
    let k = own-calls o journal at s h run next.fits.here in
    let first = first-all Fills (sizes_of o) (net_of o journal) at from l next.fits.letter (g.letters from at) in
    record {
      becomes = (library-treats s from l next.fits.live (differ s.calls k.apart) (made-all s.next s.calls k.below)).filled own first;
      sends = news (sizes_of o) at _ (library-fills s from l own first);
    }
event-goes o journal x (library_asked at caller call op s) h run next g =
    let own : InLibrary IsFilled s = subst (NodeFilled at) next.fits.here (g.nodes at) in
    let k = asked-goes IsFilled s caller call op own in
    record { becomes = k.has; sends = news (sizes_of o) at _ (carry-fills _ k.letters) }
event-goes o journal x (library_stops at s left) h run next g =
    let own : InLibrary IsFilled s = subst (NodeFilled at) next.fits.here (g.nodes at) in
    record { becomes = record { map = own.map; calls = own.calls }; sends = λ b. tt }
event-goes o journal x (brick_stops at s left) h run next g = record { becomes = tt; sends = λ b. tt }
event-goes o journal x nothing h run next g = record { becomes = tt; sends = tt }
event-goes o journal x (unheard at from l) h run next g = record { becomes = tt; sends = tt }
event-goes o journal x (unasked at caller call op) h run next g = record { becomes = tt; sends = tt }

-- the opening
group-filled : (list : List ℕ) → is_brick_list list ≡ true → is_none_left list ≡ false
group-filled [] e = cc
group-filled (n ∷ ns) e = refl

placed-filled : (bricks : ℕ) (ls : List Leaf) → AllByRecursion (IsPlaced bricks) ls → AllByRecursion IsFilled ls
placed-filled bricks ls h = all-map (IsPlaced bricks) IsFilled ls (λ l p. group-filled l.list p.list.group) h

library-filled : (o : OpeningOf) (n : ℕ) → IsOpening o → InLibrary IsFilled (new_library o n)
library-filled o n h =
    record {
      map = in-all IsFilled _ _ (all-filter IsFilled (λ (l : Leaf). l.stamp.maker == 64 + n) o.old (placed-filled o.bricks o.old h.old))
          (in-all IsFilled _ o.leaves (placed-filled o.bricks o.leaves h.leaves) (in-empty IsFilled));
      calls = tt;
    }

new-filled : (o : OpeningOf) (k : ℕ) (x : Node) → IsOpening o → IsNew o k x → NodeFilled k x
new-filled o k x h (no_node e) = subst (NodeFilled k) (sym e) tt
new-filled o k x h (new_a_brick e) = subst (NodeFilled k) (sym e) tt
new-filled o k x h (new_a_library high e) = subst (NodeFilled k) (sym e) (library-filled o (k - 64) h)

pub run-filled : (o : OpeningOf) (journal : List Step) → IsOpening o → is_run o journal ≡ true → AreFilled (net_of o journal)
run-filled o journal h run =
    along o (λ j n. AreFilled n) h
    (record {
      nodes = λ k. new-filled o k _ h (start-node o k);
      letters = λ a b. subst (AllByRecursion Fills) (sym (start-channel o a b)) tt;
    })
    (λ j x e run_so_far on next g.
    let k = event-goes o j x e h run_so_far next g in
    record {
      nodes = nodes-moved NodeFilled (sizes_of o) (net_of o j) e g.nodes k.becomes;
      letters = letters-moved Carries (sizes_of o) (run_of o j).callers (net_of o j) e next.fits g.letters k.sends;
    }) journal run
