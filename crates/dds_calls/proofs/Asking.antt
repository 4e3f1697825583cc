use Rattle.std.proofs.Common.{◌≡◌, ℕ, ◌+◌, ◌<◌, true, Option, List, [], ◌∷◌, ◌++◌, length}
use Rattle.std.proofs.Common.{refl, sym, ap, subst, arith}
use Rattle.std.specs.List.{AllByRecursion}
use Rattle.std.specs.Prelude.{slice_get}
use Rattle.dds_base.specs.Number.{Txn}
use Rattle.dds_base.specs.declared.number.CallNo.{CallNo}
use Rattle.dds_base.specs.declared.number.NodeNo.{NodeNo}
use Rattle.dds_base.specs.declared.op.Op.{Op}
use Rattle.dds_cluster.specs.Trace.{all_kept, kept, may_call, opens, start}
use Rattle.dds_cluster.specs.Turn.{points_made, read_by}
use Rattle.dds_cluster.specs.declared.trace.Asked.{Asked}
use Rattle.dds_cluster.specs.declared.trace.Caller.{Caller}
use Rattle.dds_cluster.specs.declared.trace.Made.{Made}
use Rattle.dds_core.proofs.LetterTells.{Any, Says, letter-tells}
use Rattle.dds_core.proofs.Lists.{all-append, all-map}
use Rattle.dds_core.proofs.OrderTells.{order-rests, order-tells}
use Rattle.dds_core.proofs.Rests.{Whole}
use Rattle.dds_core.proofs.Tells.{AllSends, Sends, Sent}
use Rattle.dds_core.specs.Brick.{brick_input, live_brick_turn}
use Rattle.dds_core.specs.LibraryTurn.{live_library_turn}
use Rattle.dds_letters.specs.declared.letter.Letter.{Letter}
use Rattle.dds_letters.specs.declared.letter.Letter.TheVariants as letter
use Rattle.dds_net.proofs.Carried.{AllCarried, Becomes, Lands, News, Sends as Sending, letters-moved, nodes-moved}
use Rattle.dds_net.proofs.Letters.{first-all}
use Rattle.dds_net.proofs.Opening.{IsNew, new_a_brick, new_a_library, no_node, start-channel, start-node}
use Rattle.dds_net.proofs.Pairwise.{Pairwise, pairs-append}
use Rattle.dds_net.proofs.Runs.{IsKept}
use Rattle.dds_net.specs.Event.{Event, nothing, unheard, unasked, brick_takes, brick_told, brick_stops, library_takes, library_asked, library_stops}
use Rattle.dds_net.specs.Event.{Fits, History, asked_of, asked_turn, history_of, opened_of, points_of, replies_of}
use Rattle.dds_net.specs.Net.{Net, Node, Sizes, net, sizes_of}
use Rattle.dds_outcomes.proofs.PendingRows.{AllPending, AsksFor, turn-all}
use Rattle.dds_outcomes.proofs.Points.{kept-all}
use Rattle.dds_script.specs.Opening.{OpeningOf}
use Rattle.dds_states.specs.declared.turn.Point.{Point}
use Rattle.dds_states.specs.declared.turn.Point.TheVariants as point
use Rattle.dds_calls.proofs.Asked.{AreAsked, IsUsed, MadeOf, NodeIs, OtherCall, PendingWas, WasAsked, asked-later, get-end, letters-weaker, node-weaker}
use Rattle.dds_outcomes.proofs.PointRows.{PointHas, turn-points}
use Rattle.dds_calls.proofs.Requests.{LetterIs, LettersAre, OfCall, input-says, library-says}
use Rattle.dds_calls.proofs.Callers.{all-used, opened, the_call}

-- Each event keeps that what is named was asked.

-- Points

-- a point at a place, of such a call
abbrev PointAt : OfCall → ℕ → Made → Type 0
PointAt P place m = (m.place ≡ place) × P m.entry.caller m.entry.call m.entry.op

read-at : (P : OfCall) (place : ℕ) (txn : Txn) (value : Option (List ℕ)) (l : Letter) → LetterIs P l
    → AllByRecursion (PointAt P place) (read_by place txn value l)
read-at P place txn value (letter.Get asked caller call key name stamp) h = ((refl, h), tt)
read-at P place txn value other h = tt

points-at : (P : OfCall) (place : ℕ) (l : Letter) (ps : List Point) → LetterIs P l → AllByRecursion (PointHas (PendingWas P)) ps
    → AllByRecursion (PointAt P place) (points_made place l ps)
points-at P place l [] h k = tt
points-at P place l (point.Read txn value ∷ ps) h k =
    all-append (PointAt P place) (read_by place txn value l) (points_made place l ps) (read-at P place txn value l h) (points-at P place l ps h k.1)
points-at P place l (point.Applied p was ∷ ps) h k = ((refl, k.0), points-at P place l ps h k.1)

-- Letters

brick-letter : (L : Sent) (P : OfCall) (to : ℕ) (l : Letter) → Sends L to l → LetterIs P l
brick-letter L P to (letter.Get txn caller call key name stamp) h = absurd h
brick-letter L P to (letter.Prepare txn caller call below name stamp list o) h = absurd h
brick-letter L P to other h = tt

abbrev Carries : OfCall → ℕ → ℕ → Letter → Type 0
Carries P a b l = LetterIs P l

brick-news : (L : Sent) (P : OfCall) (z : Sizes) (at : ℕ) (ls : List (NodeNo × Letter)) → AllSends L ls → News (Carries P) z at ls
brick-news L P z at ls h to inside =
    all-map (λ (p : NodeNo × Letter). Sends L p.0 p.1) (Lands (Carries P) z at to) ls (λ p k comes. brick-letter L P p.0 p.1 k) h

library-news : (P : OfCall) (z : Sizes) (at : ℕ) (ls : List (NodeNo × Letter)) → LettersAre P ls → News (Carries P) z at ls
library-news P z at ls h to inside = all-map (λ (p : NodeNo × Letter). LetterIs P p.1) (Lands (Carries P) z at to) ls (λ p k comes. k) h

asks-for : (P : OfCall) (l : Letter) → LetterIs P l → AsksFor (PendingWas P) l
asks-for P (letter.Prepare txn caller call below name stamp list op) h = h
asks-for P other h = tt

-- Each event, with what is so of the calls asked by then

record Goes (P : OfCall) (z : Sizes) (e : Event) : Type 0 where
  becomes : Becomes (NodeIs P) e
  sends : Sending (Carries P) z e

event-points : (P : OfCall) (z : Sizes) (cs : List Caller) (place : ℕ) (n : Net) (e : Event) → Fits z cs n e → ((k : ℕ) → NodeIs P k (n.node k))
    → AllCarried (Carries P) n → AllByRecursion (PointAt P place) (points_of place e)
event-points P z cs place n (brick_takes at from l s) f g ls =
    let own : AllPending (PendingWas P) s = subst (NodeIs P at) f.here (g at) in
    points-at P place l (live_brick_turn s from l).out.points (first-all (LetterIs P) z n at from l f.letter (ls from at))
    (turn-points (PendingWas P) s from l own)
event-points P z cs place n nothing f g ls = tt
event-points P z cs place n (unheard at from l) f g ls = tt
event-points P z cs place n (unasked at caller call o) f g ls = tt
event-points P z cs place n (brick_told at o s) f g ls = tt
event-points P z cs place n (brick_stops at s kept) f g ls = tt
event-points P z cs place n (library_takes at from l s) f g ls = tt
event-points P z cs place n (library_asked at caller call o s) f g ls = tt
event-points P z cs place n (library_stops at s kept) f g ls = tt

event-goes : (P : OfCall) (z : Sizes) (cs : List Caller) (place : ℕ) (n : Net) (e : Event) → Fits z cs n e → ((k : ℕ) → NodeIs P k (n.node k))
    → AllCarried (Carries P) n → AllByRecursion (λ (a : Asked). P a.caller a.call a.op) (asked_of place e) → Goes P z e
event-goes P z cs place n nothing f g ls new = record { becomes = tt; sends = tt }
event-goes P z cs place n (unheard at from l) f g ls new = record { becomes = tt; sends = tt }
event-goes P z cs place n (unasked at caller call o) f g ls new = record { becomes = tt; sends = tt }
event-goes P z cs place n (brick_takes at from l s) f g ls new =
    let own : AllPending (PendingWas P) s = subst (NodeIs P at) f.here (g at) in
    let first = first-all (LetterIs P) z n at from l f.letter (ls from at) in
    record {
      becomes = turn-all (PendingWas P) s from l (asks-for P l first) own;
      sends = brick-news (Says s from l) P z at (live_brick_turn s from l).out.letters (letter-tells s from l).letters;
    }
event-goes P z cs place n (brick_told at o s) f g ls new =
    record {
      becomes = subst (AllByRecursion (PendingWas P)) (sym (ap (λ (w : Whole). w.pending) (order-rests {L = Any} s o).same))
          (subst (NodeIs P at) f.here (g at));
      sends = brick-news (λ to l. ⊥) P z at (brick_input s o).out.letters (order-tells {L = λ to l. ⊥} s o).letters;
    }
event-goes P z cs place n (brick_stops at s kept) f g ls new = record { becomes = tt; sends = λ b. tt }
event-goes P z cs place n (library_takes at from l s) f g ls new =
    let k = library-says P s from l (subst (NodeIs P at) f.here (g at)) in
    record { becomes = k.calls; sends = library-news P z at (live_library_turn s from l).out.letters k.letters }
event-goes P z cs place n (library_asked at caller call o s) f g ls new =
    let k = input-says P s caller call o (subst (NodeIs P at) f.here (g at)) new.0 in
    record { becomes = k.calls; sends = library-news P z at (asked_turn s caller call o).out.letters k.letters }
event-goes P z cs place n (library_stops at s kept) f g ls new =
    record { becomes = subst (NodeIs P at) f.here (g at); sends = λ b. tt }

-- what an event adds to the calls

record OpenedBy (h : History) (cs : List Caller) (more : List Asked) : Type 0 where
  least : AllByRecursion (IsUsed cs) (h.asked ++ more)
  apart : Pairwise OtherCall (h.asked ++ more)
  past : AllByRecursion (λ (x : Asked). x.place < h.steps + 1) (h.asked ++ more)
  new : AllByRecursion (λ (a : Asked). WasAsked (h.asked ++ more) (h.steps + 1) a.caller a.call a.op) more

nothing-between : (R : Asked → Asked → Type 0) (xs : List Asked) → AllByRecursion (λ x. AllByRecursion (R x) []) xs
nothing-between R [] = tt
nothing-between R (x ∷ xs) = (tt, nothing-between R xs)

none-opened : (h : History) (n : Net) → AreAsked h n → OpenedBy h h.callers []
none-opened h n g =
    record {
      least = all-append _ h.asked [] g.least tt;
      apart = pairs-append OtherCall h.asked [] g.apart tt (nothing-between OtherCall h.asked);
      past = all-append _ h.asked [] (all-map (λ (x : Asked). x.place < h.steps) _ h.asked (λ x low. omega (arith, low)) g.past) tt;
      new = tt;
    }

one-opened : (h : History) (n : Net) (caller at : ℕ) (call : CallNo) (op : Op) → AreAsked h n → may_call (slice_get h.callers caller) at call ≡ true
    → OpenedBy h (opens h.callers caller call (slice_get h.callers caller)) (the_call h.steps caller call op ∷ [])
one-opened h n caller at call op g may =
    let k = opened h n caller at call op g may in
    let a = the_call h.steps caller call op in
    record {
      least = k.least;
      apart = k.apart;
      past = k.past;
      new = (
        record {
          index = length h.asked;
          it = a;
          there = get-end h.asked a;
          caller_is = refl;
          call_is = refl;
          op_is = refl;
          earlier = omega arith;
        },
        tt,
      );
    }

event-opens : (z : Sizes) (h : History) (n : Net) (e : Event) → Fits z h.callers n e → AreAsked h n
    → OpenedBy h (opened_of h.callers e) (asked_of h.steps e)
event-opens z h n nothing f g = none-opened h n g
event-opens z h n (unheard at from l) f g = none-opened h n g
event-opens z h n (unasked at caller call o) f g = one-opened h n caller at call o g f
event-opens z h n (brick_takes at from l s) f g = none-opened h n g
event-opens z h n (brick_told at o s) f g = none-opened h n g
event-opens z h n (brick_stops at s kept) f g = none-opened h n g
event-opens z h n (library_takes at from l s) f g = none-opened h n g
event-opens z h n (library_asked at caller call o s) f g = one-opened h n caller at call o g f.may
event-opens z h n (library_stops at s kept) f g = none-opened h n g

made-later : (asked more : List Asked) (m : Made) → MadeOf asked m → MadeOf (asked ++ more) m
made-later asked more m = asked-later asked more m.place m.place (λ i le. le) m.entry.caller m.entry.call m.entry.op

point-made : (asked more : List Asked) (place : ℕ) (m : Made) → PointAt (WasAsked asked place) place m → MadeOf (asked ++ more) m
point-made asked more place m h =
    made-later asked more m (subst (λ k. WasAsked asked k m.entry.caller m.entry.call m.entry.op) (sym h.0) h.1)

pub asked-kept : (z : Sizes) → IsKept z (Unit {0}) (λ h n e b. tt) (λ h n b. AreAsked h n)
asked-kept z h n e b built f g =
    let more = asked_of h.steps e in
    let P = WasAsked h.asked h.steps in
    let Q = WasAsked (h.asked ++ more) (h.steps + 1) in
    let w = asked-later h.asked more h.steps (h.steps + 1) (λ i le. omega (arith, le)) in
    let opens_so = event-opens z h n e f g in
    let nodes = (λ (k : ℕ). node-weaker P Q k (n.node k) w (g.nodes k)) in
    let letters = letters-weaker P Q n w g.letters in
    let goes_so = event-goes Q z h.callers h.steps n e f nodes letters opens_so.new in
    record {
      nodes = nodes-moved (NodeIs Q) z n e nodes goes_so.becomes;
      letters = letters-moved (Carries Q) z h.callers n e f letters goes_so.sends;
      made = all-append (MadeOf (h.asked ++ more)) h.made (all_kept h.made (points_of h.steps e))
          (all-map (MadeOf h.asked) _ h.made (λ m k. made-later h.asked more m k) g.made)
          (kept-all (MadeOf (h.asked ++ more)) h.made (points_of h.steps e)
          (all-map (PointAt P h.steps) _ (points_of h.steps e) (λ m k. point-made h.asked more h.steps m k)
          (event-points P z h.callers h.steps n e f g.nodes g.letters)));
      least = all-map (IsUsed (opened_of h.callers e)) _ (h.asked ++ more) (λ a u. all-used (opened_of h.callers e) (replies_of e) a u) opens_so.least;
      apart = opens_so.apart;
      past = opens_so.past;
    }

-- the opening: nothing was asked

new-is : (P : OfCall) (o : OpeningOf) (k : ℕ) (x : Node) → IsNew o k x → NodeIs P k x
new-is P o k x (no_node e) = subst (NodeIs P k) (sym e) tt
new-is P o k x (new_a_brick e) = subst (NodeIs P k) (sym e) tt
new-is P o k x (new_a_library high e) = subst (NodeIs P k) (sym e) tt

pub start-asked : (o : OpeningOf) → AreAsked (history_of (start o)) (net (sizes_of o) (start o).world)
start-asked o =
    record {
      nodes = λ k. new-is (WasAsked [] 0) o k _ (start-node o k);
      letters = λ a b. subst (AllByRecursion (LetterIs (WasAsked [] 0))) (sym (start-channel o a b)) tt;
      made = tt;
      least = tt;
      apart = tt;
      past = tt;
    }
