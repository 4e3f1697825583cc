use Rattle.std.proofs.Common.{◌≡◌, ℕ, true, Option, Some, None, List, [], ◌∷◌, refl, sym, ap, ◌∙◌, subst}
use Rattle.std.specs.List.{AllByRecursion}
use Rattle.dds_base.specs.Name.{Name}
use Rattle.dds_base.specs.Number.{Txn, StampOf}
use Rattle.dds_base.specs.declared.node_set.NodeSet.{NodeSet}
use Rattle.dds_base.specs.declared.number.CallNo.{CallNo}
use Rattle.dds_base.specs.declared.number.NodeNo.{NodeNo}
use Rattle.dds_base.specs.declared.op.Reply.{Reply}
use Rattle.dds_base.specs.declared.op.Reply.TheVariants as reply
use Rattle.dds_books.proofs.Booking.{listed-within, start-listed}
use Rattle.dds_books.proofs.PlacedFirst.{start-placed}
use Rattle.dds_books.specs.Books.{AreListed, Book, Entry, IsBooked, IsWithin, LetterListed, LibraryListed, NodeListed, booked}
use Rattle.dds_books.specs.Placed.{ArePlaced, CallOk, LibraryOk, Made, NodeOk, OtherAttempt}
use Rattle.dds_brick_rows.specs.Calls as calls
use Rattle.dds_brick_rows.specs.Refusal.{get_refusal}
use Rattle.dds_cluster.proofs.Sizes.{sized-start}
use Rattle.dds_cluster.specs.Trace.{all_kept, is_run, run_of, start, told_at}
use Rattle.dds_cluster.specs.Turn.{points_made, read_by}
use Rattle.dds_cluster.specs.declared.step.Step.{Step}
use Rattle.dds_cluster.specs.declared.trace.Made.{Made as APoint}
use Rattle.dds_cluster.specs.declared.trace.Told.{Told}
use Rattle.dds_core.proofs.LetterTells.{MetAt, letter-tells}
use Rattle.dds_core.proofs.Lists.{all-append, all-is, all-map}
use Rattle.dds_core.proofs.OrderTells.{InputMet, order-tells}
use Rattle.dds_core.proofs.Tells.{Given, Gives}
use Rattle.dds_core.proofs.CallDoes.{new-begins}
use Rattle.dds_core.specs.Brick.{live_brick_turn}
use Rattle.dds_core.specs.LibraryTurn.{attempts, desk_of, live_library_turn, new_request}
use Rattle.dds_core.specs.LibraryTurn as core
use Rattle.dds_call_rows.specs.Library.{begin}
use Rattle.dds_letters.specs.declared.letter.Letter.{Letter}
use Rattle.dds_letters.specs.declared.letter.Letter.TheVariants as letter
use Rattle.dds_letters.specs.declared.refusal.Refusal.{Refusal}
use Rattle.dds_net.proofs.Opening.{start-node}
use Rattle.dds_net.proofs.Pairwise.{Pairwise}
use Rattle.dds_net.proofs.Rungs.{IsKeptOver, kept-over}
use Rattle.dds_net.proofs.Runs.{run-keeps}
use Rattle.dds_net.specs.Event.{Event, nothing, unheard, unasked, brick_takes, brick_told, brick_stops, library_takes, library_asked, library_stops}
use Rattle.dds_net.specs.Event.{Fits, History, history_of, points_of, replies_of}
use Rattle.dds_net.specs.Net.{Net, Sizes, sizes_of}
use Rattle.dds_outcomes.proofs.Entries.{ArePending, NodeHas, PendingIs, pending-kept}
use Rattle.dds_outcomes.proofs.Points.{kept-all}
use Rattle.dds_script.specs.Opening.{IsOpening, OpeningOf}
use Rattle.dds_states.specs.Turn.{read_of}
use Rattle.dds_states.specs.declared.brick_state.BrickState.{BrickState}
use Rattle.dds_states.specs.declared.library_state.LibraryState.{LibraryState}
use Rattle.dds_states.specs.declared.library_state.OpenCall.{OpenCall}
use Rattle.dds_states.specs.declared.turn.Point.{Point}
use Rattle.dds_states.specs.declared.turn.Point.TheVariants as point
use Rattle.dds_states.specs.declared.turn.Replied.{Replied}
use Rattle.dds_states.specs.declared.turn.Replied.TheVariants as replied
use Rattle.dds_world.specs.Stands.{is_result}
use Rattle.dds_calls.proofs.Locked.{listed-too, new-pending}
use Rattle.dds_outcomes.proofs.PointRows.{PointHas, turn-points}
use Rattle.dds_calls.proofs.Reasons.{begins-again}
use Rattle.dds_calls.proofs.Treats.{Answers, Differ, library-treats}
use Rattle.dds_calls.proofs.Treats as treats

-- A point, and what a get was answered, is of its attempt's call, over the book of attempts.
--
-- | part     | why it is needed                                    | which rows keep it                                         |
-- | `points` | an entry that was read is of the call that was told | a Get is of its attempt's call; so is what is pending      |
-- | `reads`  | the same of the answer, which is a result           | Got answers the call of its attempt; no other row reads    |

pub record IsFor (b : Book) (txn : Txn) (caller : ℕ) (call : CallNo) : Type 0 where
  pub its : Entry
  pub there : b txn ≡ Some its
  pub caller_is : its.caller ≡ caller
  pub call_is : its.call ≡ call

abbrev pub PointFor : Book → APoint → Type 0
PointFor b m = IsFor b m.txn m.entry.caller m.entry.call

-- what was read is of the call, whose answer is a result
abbrev pub ReadFor : Book → Option Txn → ℕ → CallNo → Reply → Type 0
ReadFor b read caller call reply = (txn : Txn) → read ≡ Some txn → IsFor b txn caller call × (is_result reply ≡ true)

abbrev pub ToldFor : Book → Told → Type 0
ToldFor b r = ReadFor b r.read r.caller r.call r.reply

pub record AreNamed (h : History) (b : Book) : Type 0 where
  pub points : AllByRecursion (PointFor b) h.made
  pub reads : AllByRecursion (ToldFor b) h.told

for-later : (b c : Book) (txn : Txn) (caller : ℕ) (call : CallNo) → IsWithin b c → IsFor b txn caller call → IsFor c txn caller call
for-later b c txn caller call f h = record { its = h.its; there = f txn h.its h.there; caller_is = h.caller_is; call_is = h.call_is }

told-later : (b c : Book) (r : Told) → IsWithin b c → ToldFor b r → ToldFor c r
told-later b c r f h txn e = let k = h txn e in (for-later b c txn r.caller r.call f k.0, k.1)

-- points of a brick's turn: a Get reads for its own attempt

abbrev ReadsFor : Letter → Point → Type 0
ReadsFor (letter.Get txn caller call key name stamp) (point.Read u value) = u ≡ txn
ReadsFor (letter.Get txn caller call key name stamp) (point.Applied p was) = Unit {0}
ReadsFor other p = Unit {0}

got-reads : (s : BrickState) (from : NodeNo) (txn : Txn) (caller : ℕ) (call : CallNo) (key : ℕ) (name : Name) (stamp : StampOf) (o : Option Refusal)
    → AllByRecursion (ReadsFor (letter.Get txn caller call key name stamp)) (calls.got s from txn key o).out.points
got-reads s from txn caller call key name stamp None = (refl, tt)
got-reads s from txn caller call key name stamp (Some why) = tt

point-for : (b : Book) (place : ℕ) (from to : ℕ) (l : Letter) (txn : Txn) (value : Option (List ℕ)) → LetterListed b from to l
    → ReadsFor l (point.Read txn value) → AllByRecursion (PointFor b) (read_by place txn value l)
point-for b place from to (letter.Get asked caller call key name stamp) txn value h e =
    (record { its = _; there = ap b e ∙ h; caller_is = refl; call_is = refl }, tt)
point-for b place from to other txn value h e = tt

points-for : (b : Book) (place : ℕ) (from to : ℕ) (l : Letter) (ps : List Point) → LetterListed b from to l → AllByRecursion (ReadsFor l) ps
    → AllByRecursion (PointHas (PendingIs b)) ps → AllByRecursion (PointFor b) (points_made place l ps)
points-for b place from to l [] h r k = tt
points-for b place from to l (point.Read txn value ∷ ps) h r k =
    all-append (PointFor b) (read_by place txn value l) (points_made place l ps) (point-for b place from to l txn value h r.0)
    (points-for b place from to l ps h r.1 k.1)
points-for b place from to l (point.Applied p was ∷ ps) h r k =
    (record { its = _; there = k.0; caller_is = refl; call_is = refl }, points-for b place from to l ps h r.1 k.1)

no-reads : (l : Letter) (ps : List Point) → ((p : Point) → ReadsFor l p) → AllByRecursion (ReadsFor l) ps
no-reads l [] f = tt
no-reads l (p ∷ ps) f = (f p, no-reads l ps f)

turn-reads : (s : BrickState) (from : NodeNo) (l : Letter) → AllByRecursion (ReadsFor l) (live_brick_turn s from l).out.points
turn-reads s from (letter.Get txn caller call key name stamp) = got-reads s from txn caller call key name stamp (get_refusal s key name stamp)
turn-reads s from other = no-reads other (live_brick_turn s from other).out.points (λ p. tt)

-- answers

abbrev ReplyFor : Book → Replied → Type 0
ReplyFor b (replied.Call read caller call reply) = ReadFor b read caller call reply
ReplyFor b (replied.Order reply) = Unit {0}

orders-for : (M : Given) (b : Book) (rs : List Replied) → AllByRecursion (Gives M) rs → AllByRecursion (ReplyFor b) rs
orders-for M b [] h = tt
orders-for M b (replied.Order r ∷ rs) h = (tt, orders-for M b rs h.1)
orders-for M b (replied.Call read caller call r ∷ rs) h = absurd h.0

told-for : (b : Book) (place : ℕ) (rs : List Replied) → AllByRecursion (ReplyFor b) rs → AllByRecursion (ToldFor b) (told_at place rs)
told-for b place [] h = tt
told-for b place (replied.Call read caller call reply ∷ rs) h = (h.0, told-for b place rs h.1)
told-for b place (replied.Order reply ∷ rs) h = told-for b place rs h.1

read-own : (txn u : Txn) (r : Reply) → read_of txn r ≡ Some u → (txn ≡ u) × (is_result r ≡ true)
read-own txn u (reply.Value value) e = let is : txn ≡ u = cc in (is, refl)
read-own txn u reply.Absent e = let is : txn ≡ u = cc in (is, refl)
read-own txn u other e = cc

answer-for : (b : Book) (s : LibraryState) (from : NodeNo) (l : Letter) (r : Replied) → AllByRecursion (IsBooked b) s.calls → Answers s from l r → ReplyFor b r
answer-for b s from l r h a =
    let c = a.by.call in
    let k = all-is (IsBooked b) s.calls a.by.index c h a.by.there in
    subst (ReplyFor b) (sym a.is) (λ txn e.
    let own = read-own c.txn txn a.reply e in
    (record { its = k.its; there = ap b (sym own.0) ∙ k.there; caller_is = k.caller_is; call_is = k.call_is }, own.1))

differ : (cs : List OpenCall) → Pairwise OtherAttempt cs → Pairwise Differ (attempts cs)
differ [] h = tt
differ (c ∷ cs) h = (each cs h.0, differ cs h.1)
  where
    each : (ds : List OpenCall) → AllByRecursion (OtherAttempt c) ds → AllByRecursion (Differ c.txn) (attempts ds)
    each [] k = tt
    each (d ∷ ds) k = (k.0, each ds k.1)

made-all : (z : Sizes) (number next : ℕ) (known : NodeSet) (cs : List OpenCall) → AllByRecursion (CallOk z number next known) cs
    → treats.Made next (attempts cs)
made-all z number next known [] h = tt
made-all z number next known (c ∷ cs) h = (h.0.below, made-all z number next known cs h.1)

again-for : (b : Book) (caller : ℕ) (call : CallNo) (txn : Txn) (o : Option Reply) → ((r : Reply) → o ≡ Some r → read_of txn r ≡ None)
    → AllByRecursion (ReplyFor b) (core.replies_of caller call txn o)
again-for b caller call txn None f = tt
again-for b caller call txn (Some r) f = ((λ u e. let no : None ≡ Some u = sym (f r refl) ∙ e in cc), tt)

abbrev Below : Sizes → Net → Book → Type 0
Below z n b = (ArePlaced z n × AreListed n b) × ArePending n b

event-replies : (z : Sizes) (h : History) (n : Net) (e : Event) (b : Book) → Fits z h.callers n e → Below z n b → AllByRecursion (ReplyFor b) (replies_of e)
event-replies z h n (brick_takes at from l s) b f g = orders-for (MetAt s from l) b _ (letter-tells s from l).replies
event-replies z h n (brick_told at o s) b f g = orders-for (InputMet s o) b _ (order-tells {L = λ to l. ⊥} s o).replies
event-replies z h n (library_takes at from l s) b f g =
    let own : LibraryOk z at s = subst (NodeOk (Made n) z at) f.here (g.0.0.nodes at) in
    let listed : LibraryListed b s = subst (NodeListed b at) f.here (g.0.1.nodes at) in
    all-map (Answers s from l) (ReplyFor b) (live_library_turn s from l).out.replies (λ r a. answer-for b s from l r listed.calls a)
    (library-treats s from l f.live (differ s.calls own.apart) (made-all z s.number s.next s.known s.calls own.calls)).replies
event-replies z h n (library_asked at caller call o s) b f g =
    let r = new_request caller call o in
    let d = desk_of s s.calls in
    let t = begin d r in
    again-for b caller call _ t.went.reply (λ x e. let a = begins-again d r t x (new-begins d r) e in ap (read_of _) (sym a.2))
event-replies z h n nothing b f g = tt
event-replies z h n (unheard at from l) b f g = tt
event-replies z h n (unasked at caller call o) b f g = tt
event-replies z h n (brick_stops at s left) b f g = tt
event-replies z h n (library_stops at s left) b f g = tt

event-points : (z : Sizes) (h : History) (n : Net) (e : Event) (b : Book) (place : ℕ) → Fits z h.callers n e → Below z n b
    → AllByRecursion (PointFor b) (points_of place e)
event-points z h n (brick_takes at from l s) b place f g =
    points-for b place from at l (live_brick_turn s from l).out.points
    ((subst (AllByRecursion (LetterListed b from at)) f.letter.first (g.0.1.letters from at)).0) (turn-reads s from l)
    (turn-points (PendingIs b) s from l (subst (NodeHas b at) f.here (g.1 at)))
event-points z h n nothing b place f g = tt
event-points z h n (unheard at from l) b place f g = tt
event-points z h n (unasked at caller call o) b place f g = tt
event-points z h n (brick_told at o s) b place f g = tt
event-points z h n (brick_stops at s left) b place f g = tt
event-points z h n (library_takes at from l s) b place f g = tt
event-points z h n (library_asked at caller call o s) b place f g = tt
event-points z h n (library_stops at s left) b place f g = tt

abbrev BelowBooks : History → Net → Event → Book × Unit {0} → Book × Unit {0}
BelowBooks h n e b = (booked e b.0, tt)

named-kept : (z : Sizes) → IsKeptOver z (Book × Unit {0}) BelowBooks (λ h n b. Below z n b.0) (Unit {0}) (λ h n e b u. tt) (λ h n b u. AreNamed h b.0)
named-kept z h n e b u built f low after g =
    let c = booked e b.0 in
    let w = listed-within z h.callers n e b.0 f low.0.0 low.0.1 in
    record {
      points = all-append (PointFor c) h.made (all_kept h.made (points_of h.steps e))
          (all-map (PointFor b.0) (PointFor c) h.made (λ m k. for-later b.0 c m.txn m.entry.caller m.entry.call w k) g.points)
          (kept-all (PointFor c) h.made (points_of h.steps e)
          (all-map (PointFor b.0) (PointFor c) (points_of h.steps e) (λ m k. for-later b.0 c m.txn m.entry.caller m.entry.call w k)
          (event-points z h n e b.0 h.steps f low)));
      reads = all-append (ToldFor c) h.told (told_at h.steps (replies_of e))
          (all-map (ToldFor b.0) (ToldFor c) h.told (λ r k. told-later b.0 c r w k) g.reads)
          (all-map (ToldFor b.0) (ToldFor c) (told_at h.steps (replies_of e)) (λ r k. told-later b.0 c r w k)
          (told-for b.0 h.steps (replies_of e) (event-replies z h n e b.0 f low)));
    }

pub record Named (o : OpeningOf) (journal : List Step) : Type 0 where
  pub book : Book
  pub named : AreNamed (history_of (run_of o journal)) book

pub run-named : (o : OpeningOf) (journal : List Step) → IsOpening o → is_run o journal ≡ true → Named o journal
run-named o journal h run =
    let z = sizes_of o in
    let ran = run-keeps z ((Book × Unit {0}) × Unit {0}) _ _ journal (start o) h.ranges.bricks
    (kept-over z (Book × Unit {0}) BelowBooks (λ h n b. Below z n b.0) (Unit {0}) (λ h n e b u. tt) (λ h n b u. AreNamed h b.0)
    (kept-over z Book (λ h n e b. booked e b) (λ h n b. ArePlaced z n × AreListed n b) (Unit {0}) (λ h n e b u. tt) (λ h n b u. ArePending n b)
    (listed-too z h.ranges.bricks h.ranges.libraries) (pending-kept z))
    (named-kept z))
    (record {
      sized = sized-start o;
      books = ((λ t. None, tt), tt);
      is = (
        ((start-placed o h, start-listed o), λ k. new-pending o (λ t. None) k _ (start-node o k)),
        record { points = tt; reads = tt },
      );
    }) run in
    record { book = ran.books.0.0; named = ran.is.1 }
