use Rattle.std.proofs.Common.{◌≡◌, ℕ, ◌+◌, ◌<◌, ◌++◌, Option, List, [], ◌∷◌, refl, subst, arith}
use Rattle.std.specs.List.{AllByRecursion}
use Rattle.dds_attempts.proofs.Runs.{Stands}
use Rattle.dds_base.specs.Number.{Txn}
use Rattle.dds_base.specs.declared.number.NodeNo.{NodeNo}
use Rattle.dds_books.specs.Books.{Book, booked}
use Rattle.dds_books.specs.Calls.{LibraryIs}
use Rattle.dds_cluster.specs.Trace.{all_kept, told_at}
use Rattle.dds_cluster.specs.Turn.{points_made, read_by}
use Rattle.dds_cluster.specs.declared.trace.Made.{Made}
use Rattle.dds_cluster.specs.declared.trace.Told.{Told}
use Rattle.dds_core.proofs.LetterTells.{Any}
use Rattle.dds_core.proofs.Lists.{all-append, all-map}
use Rattle.dds_core.proofs.OrderTells.{order-rests}
use Rattle.dds_core.specs.Brick.{brick_input, live_brick_turn}
use Rattle.dds_core.specs.LibraryTurn.{live_library_turn}
use Rattle.dds_letters.specs.declared.letter.Letter.{Letter}
use Rattle.dds_letters.specs.declared.letter.Letter.TheVariants as letter
use Rattle.dds_net.proofs.Carried.{AllCarried, Lands, News, Sends, letters-moved, nodes-moved}
use Rattle.dds_net.proofs.Rungs.{IsKeptOver}
use Rattle.dds_net.specs.Event.{Event, Fits, History, asked_turn, goes, points_of, replies_of, nothing, unheard, unasked, brick_takes, brick_told}
use Rattle.dds_net.specs.Event.{brick_stops, library_asked, library_stops, library_takes}
use Rattle.dds_net.specs.Net.{Net, Node, nowhere, a_brick, a_library, Sizes}
use Rattle.dds_outcomes.proofs.Entries.{NodeHas}
use Rattle.dds_outcomes.proofs.Points.{kept-all}
use Rattle.dds_states.specs.declared.turn.Point.{Point}
use Rattle.dds_states.specs.declared.turn.Point.TheVariants as point
use Rattle.dds_talk.specs.Books as talk
use Rattle.dds_answered.proofs.Backed.{AllBacked, IsBacked, all-silent-backed, backed-later, turn-backed}
use Rattle.dds_answered.proofs.Claim.{AreBacked, FlagBacked, FlagsBacked, HasPoint, IsItsRead, IsItsUpdate, ToldBacked, was_applied, was_read}
use Rattle.dds_answered.proofs.Having.{IsUpdateOf, has-later}
use Rattle.dds_answered.proofs.Sent.{IsSent, asked-sends, turn-sends}
use Rattle.dds_answered.proofs.Silent.{orders-silent}
use Rattle.dds_answered.proofs.Updates.{pending-updates, updates-then}
use Rattle.dds_answered.proofs.Answers.{replies-backed, told-backed}
use Rattle.dds_answered.proofs.Flags.{event-flags}

-- Each event keeps that results have their points.

-- What there is grows

flags-later : (made more : List Made) (x : Node) → LibraryIs (FlagsBacked made) x → LibraryIs (FlagsBacked (made ++ more)) x
flags-later made more nowhere h = tt
flags-later made more (a_brick s) h = tt
flags-later made more (a_library s) h =
    all-map (FlagBacked made) (FlagBacked (made ++ more)) s.calls (λ c k f. has-later made more (IsUpdateOf c.txn) (k f)) h

point-later : (made more : List Made) (r : Told) → HasPoint made r → HasPoint (made ++ more) r
point-later made more r (was_read h) = was_read (has-later made more (IsItsRead r) h)
point-later made more r (was_applied h) = was_applied (has-later made more (IsItsUpdate r) h)

letters-later : (made more : List Made) (n : Net) → AllCarried (λ x y l. IsBacked made l) n → AllCarried (λ x y l. IsBacked (made ++ more) l) n
letters-later made more n g a b = all-map (IsBacked made) (IsBacked (made ++ more)) (n.channel a b) (λ l h. backed-later made more l h) (g a b)

-- Letters that are sent

abbrev Backs : List Made → ℕ → ℕ → Letter → Type 0
Backs made a b l = IsBacked made l

sent-backed : (made : List Made) (number from next : ℕ) (l : Letter) → IsSent number from next l → IsBacked made l
sent-backed made number from next (letter.Got txn a) h = absurd h
sent-backed made number from next (letter.Applied txn was) h = absurd h
sent-backed made number from next other h = tt

backed-news : (made : List Made) (z : Sizes) (at : ℕ) (ls : List (NodeNo × Letter)) → AllBacked made ls → News (Backs made) z at ls
backed-news made z at ls h to inside = all-map (λ (p : NodeNo × Letter). IsBacked made p.1) (Lands (Backs made) z at to) ls (λ p k comes. k) h

all-sent-backed : (made : List Made) (number from next : ℕ) (ls : List (NodeNo × Letter))
    → AllByRecursion (λ (p : NodeNo × Letter). IsSent number from next p.1) ls → AllBacked made ls
all-sent-backed made number from next ls h =
    all-map (λ (p : NodeNo × Letter). IsSent number from next p.1) _ ls (λ p k. sent-backed made number from next p.1 k) h

event-sends : (z : Sizes) (h : History) (n : Net) (e : Event) (b : Book × talk.Books) → Fits z h.callers n e → Stands z h n b → AreBacked h n b.0
    → Sends (Backs (goes h e).made) z e
event-sends z h n (brick_takes at from l s) b f k g =
    backed-news (goes h (brick_takes at from l s)).made z at (live_brick_turn s from l).out.letters
    (turn-backed h.made h.steps s from l (pending-updates b.0 s g.updates (subst (NodeHas b.0 at) f.here (k.last.pending at))))
event-sends z h n (brick_told at o s) b f k g =
    let made = (goes h (brick_told at o s)).made in
    backed-news made z at (brick_input s o).out.letters
    (all-silent-backed made (brick_input s o).out.letters (orders-silent (brick_input s o).out.letters (order-rests {L = Any} s o).letters))
event-sends z h n (library_takes at from l s) b f k g =
    let made = (goes h (library_takes at from l s)).made in
    let out = (live_library_turn s from l).out in
    backed-news made z at out.letters
    (all-sent-backed made s.number s.next (live_library_turn s from l).state.next out.letters (turn-sends s from l).sends.each)
event-sends z h n (library_asked at caller call o s) b f k g =
    let made = (goes h (library_asked at caller call o s)).made in
    let out = (asked_turn s caller call o).out in
    backed-news made z at out.letters
    (all-sent-backed made s.number s.next (asked_turn s caller call o).state.next out.letters (asked-sends s caller call o).sends.each)
event-sends z h n nothing b f k g = tt
event-sends z h n (unheard at from l) b f k g = tt
event-sends z h n (unasked at caller call o) b f k g = tt
event-sends z h n (brick_stops at s left) b f k g = λ to. tt
event-sends z h n (library_stops at s left) b f k g = λ to. tt

-- Points stand at their step

abbrev IsAt : ℕ → Made → Type 0
IsAt place m = m.place ≡ place

read-at : (place : ℕ) (txn : Txn) (value : Option (List ℕ)) (l : Letter) → AllByRecursion (IsAt place) (read_by place txn value l)
read-at place txn value (letter.Get asked caller call key name stamp) = (refl, tt)
read-at place txn value other = tt

made-at : (place : ℕ) (l : Letter) (ps : List Point) → AllByRecursion (IsAt place) (points_made place l ps)
made-at place l [] = tt
made-at place l (point.Read txn value ∷ ps) =
    all-append (IsAt place) (read_by place txn value l) (points_made place l ps) (read-at place txn value l) (made-at place l ps)
made-at place l (point.Applied p was ∷ ps) = (refl, made-at place l ps)

points-at : (place : ℕ) (e : Event) → AllByRecursion (IsAt place) (points_of place e)
points-at place (brick_takes at from l s) = made-at place l (live_brick_turn s from l).out.points
points-at place other = tt

places-then : (h : History) (e : Event) → AllByRecursion (λ (m : Made). m.place < h.steps) h.made
    → AllByRecursion (λ (m : Made). m.place < h.steps + 1) (goes h e).made
places-then h e g =
    let Q = (λ (m : Made). m.place < h.steps + 1) in
    all-append Q h.made (all_kept h.made (points_of h.steps e)) (all-map (λ (m : Made). m.place < h.steps) Q h.made (λ m low. omega (arith, low)) g)
    (kept-all Q h.made (points_of h.steps e) (all-map (IsAt h.steps) Q (points_of h.steps e) (λ m here. omega (arith, here)) (points-at h.steps e)))

abbrev pub AreBackedOver : (z : Sizes) → (h : History) → Net → Book × talk.Books → Unit {0} → Type 0
AreBackedOver z h n b u = AreBacked h n b.0

pub backed-kept : (z : Sizes)
    → IsKeptOver z (Book × talk.Books) (λ h n e b. (booked e b.0, talk.adds h n e b.1)) (Stands z) (Unit {0}) (λ h n e b u. tt) (AreBackedOver z)
backed-kept z h n e b u built f k after g =
    let more = all_kept h.made (points_of h.steps e) in
    let made = (goes h e).made in
    let letters = letters-later h.made more n g.letters in
    let flags = (λ (i : ℕ). flags-later h.made more (n.node i) (g.flags i)) in
    record {
      updates = updates-then z n e b.0 after.parts.0.2 after.parts.0.3.nodes g.updates;
      letters = letters-moved (Backs made) z h.callers n e f letters (event-sends z h n e b f k g);
      flags = nodes-moved (λ i x. LibraryIs (FlagsBacked made) x) z n e flags (event-flags z h n e b made f k letters flags);
      places = places-then h e g.places;
      told = all-append (ToldBacked made) h.told (told_at h.steps (replies_of e))
          (all-map (ToldBacked h.made) (ToldBacked made) h.told (λ r q good. point-later h.made more r (q good)) g.told)
          (all-map (ToldBacked h.made) (ToldBacked made) (told_at h.steps (replies_of e)) (λ r q good. point-later h.made more r (q good))
          (told-backed h.made h.steps (replies_of e) (replies-backed z h n b k g e f)));
    }
