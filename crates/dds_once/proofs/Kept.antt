use Rattle.std.proofs.Common.{◌≡◌, ℕ, ◌+◌, ◌<◌, ◌++◌, true, Some, List, [], ◌∷◌, refl, sym, subst, arith}
use Rattle.std.specs.List.{AllByRecursion}
use Rattle.std.specs.Prelude.{slice_get}
use Rattle.dds_attempts.proofs.Callers.{callers-go}
use Rattle.dds_outcomes.proofs.PointRows.{turn-points}
use Rattle.dds_attempts.proofs.Runs.{Stands}
use Rattle.dds_base.specs.Number.{Txn}
use Rattle.dds_base.specs.declared.number.CallNo.{CallNo}
use Rattle.dds_base.specs.declared.op.Op.{Op}
use Rattle.dds_books.proofs.Booking.{listed-within}
use Rattle.dds_books.specs.Books.{Book, Entry, LetterListed, NodeListed, booked, with_library}
use Rattle.dds_books.specs.Calls.{LibraryIs}
use Rattle.dds_books.specs.Placed.{NodeOk}
use Rattle.dds_books.specs.Placed as placed
use Rattle.dds_cluster.specs.Trace.{all_kept, may_call}
use Rattle.dds_cluster.specs.declared.trace.Asked.{Asked}
use Rattle.dds_cluster.specs.declared.trace.Caller.{Caller}
use Rattle.dds_cluster.specs.declared.trace.Made.{Made}
use Rattle.dds_core.proofs.Lists.{all-append, all-both, all-map}
use Rattle.dds_core.specs.LibraryTurn.{live_library_turn}
use Rattle.dds_core.specs.Brick.{live_brick_turn}
use Rattle.dds_net.proofs.Carried.{Becomes, nodes-moved}
use Rattle.dds_net.proofs.Rungs.{IsKeptOver}
use Rattle.dds_net.specs.Event.{Event, Fits, History, asked_of, asked_turn, goes, moved, points_of, nothing, unheard, unasked, brick_takes, brick_told}
use Rattle.dds_net.specs.Event.{brick_stops, library_asked, library_stops, library_takes}
use Rattle.dds_net.specs.Net.{Net, a_library, Sizes}
use Rattle.dds_once.proofs.Claim.{AllAsk, AllBehind, AreAsked, AreOnce, AsksThis, IsBehind, IsPast}
use Rattle.dds_once.proofs.Grown.{entries-asked, more-asked, more-behind, more-node, entry-used}
use Rattle.dds_once.proofs.Lists.{once-kept}
use Rattle.dds_once.proofs.Points.{HasEntry, IsMade, has-later, made-have}
use Rattle.dds_once.proofs.Requests.{asked-says, turn-says}
use Rattle.dds_once.proofs.Used.{IsNew, asked-new, free-unused, may-free, used-later}
use Rattle.dds_outcomes.proofs.Entries.{NodeHas, PendingIs}
use Rattle.dds_outcomes.proofs.Points.{kept-all}
use Rattle.dds_talk.proofs.Changes.{put-here}
use Rattle.dds_talk.specs.Books as talk

-- Each event keeps what is so of calls and points.

-- the calls that were asked
past-then : (z : Sizes) (h : History) (n : Net) (e : Event) → Fits z h.callers n e → AllByRecursion (IsPast h.callers h.steps) h.asked
    → AllByRecursion (IsPast (goes h e).callers (goes h e).steps) (goes h e).asked
past-then z h n e f past =
    let ds = (goes h e).callers in
    all-append (IsPast ds (h.steps + 1)) h.asked (asked_of h.steps e)
    (all-map (IsPast h.callers h.steps) (IsPast ds (h.steps + 1)) h.asked
    (λ x q.
    let low = q.before in
    record { used = used-later h.callers ds x.caller x.call (callers-go z h n e f) q.used; before = omega (arith, low) }) past)
    (all-map (IsNew h.callers ds h.steps) (IsPast ds (h.steps + 1)) (asked_of h.steps e)
    (λ x q. let here = q.place_is in record { used = q.used; before = omega (arith, here) }) (asked-new z h n e f))

-- an asked call's operation is its own
own-asked : (cs : List Caller) (steps caller at : ℕ) (call : CallNo) (o : Op) (asked : List Asked) → may_call (slice_get cs caller) at call ≡ true
    → AllByRecursion (IsPast cs steps) asked
    → AllAsk (asked ++ record { place = steps; caller = caller; call = call; op = o } ∷ []) caller call o
own-asked cs steps caller at call o asked may past =
    all-append (AsksThis caller call o) asked (record { place = steps; caller = caller; call = call; op = o } ∷ [])
    (all-map (IsPast cs steps) (AsksThis caller call o) asked
    (λ x q e f. absurd (free-unused cs caller x.caller call x.call (may-free cs caller at call may) q.used (sym e) (sym f))) past)
    (λ e f. refl, tt)

-- the libraries after the event, where those before have the calls that are asked now
calls-become : (z : Sizes) (h : History) (n : Net) (e : Event) → Fits z h.callers n e → AllByRecursion (IsPast h.callers h.steps) h.asked
    → ((k : ℕ) → LibraryIs (AreAsked (goes h e).asked) (n.node k)) → Becomes (λ k x. LibraryIs (AreAsked (goes h e).asked) x) e
calls-become z h n nothing f past g = tt
calls-become z h n (unheard at from l) f past g = tt
calls-become z h n (unasked at caller call o) f past g = tt
calls-become z h n (brick_takes at from l s) f past g = tt
calls-become z h n (brick_told at o s) f past g = tt
calls-become z h n (brick_stops at s left) f past g = tt
calls-become z h n (library_stops at s left) f past g = subst (LibraryIs (AreAsked (goes h (library_stops at s left)).asked)) f.here (g at)
calls-become z h n (library_takes at from l s) f past g =
    let asked = (goes h (library_takes at from l s)).asked in
    turn-says (AllAsk asked) s from l (subst (LibraryIs (AreAsked asked)) f.here (g at))
calls-become z h n (library_asked at caller call o s) f past g =
    let asked = (goes h (library_asked at caller call o s)).asked in
    asked-says (AllAsk asked) s caller call o (own-asked h.callers h.steps caller at call o h.asked f.may past)
    (subst (LibraryIs (AreAsked asked)) f.here (g at))

-- the book
entries-then : (z : Sizes) (h : History) (n : Net) (e : Event) (a : Book) (asked : List Asked) → placed.ArePlaced z (moved z n e)
    → ((k : ℕ) → NodeListed (booked e a) k ((moved z n e).node k)) → Becomes (λ k x. LibraryIs (AreAsked asked) x) e
    → ((u : Txn) (f : Entry) → a u ≡ Some f → AllAsk asked f.caller f.call f.op) → (u : Txn) (f : Entry) → booked e a u ≡ Some f
    → AllAsk asked f.caller f.call f.op
entries-then z h n (library_takes at from l s) a asked p b calls g =
    let x = (live_library_turn s from l).state in
    let v = moved z n (library_takes at from l s) in
    let own : v.node at ≡ a_library x = put-here at (a_library x) n.node in
    entries-asked z a at x asked (subst (NodeOk (placed.Made v) z at) own (p.nodes at)) (subst (NodeListed (with_library at x a) at) own (b at)) calls g
entries-then z h n (library_asked at caller call o s) a asked p b calls g =
    let x = (asked_turn s caller call o).state in
    let v = moved z n (library_asked at caller call o s) in
    let own : v.node at ≡ a_library x = put-here at (a_library x) n.node in
    entries-asked z a at x asked (subst (NodeOk (placed.Made v) z at) own (p.nodes at)) (subst (NodeListed (with_library at x a) at) own (b at)) calls g
entries-then z h n nothing a asked p b calls g = g
entries-then z h n (unheard at from l) a asked p b calls g = g
entries-then z h n (unasked at caller call o) a asked p b calls g = g
entries-then z h n (brick_takes at from l s) a asked p b calls g = g
entries-then z h n (brick_told at o s) a asked p b calls g = g
entries-then z h n (brick_stops at s left) a asked p b calls g = g
entries-then z h n (library_stops at s left) a asked p b calls g = g

-- the points of the event
points-made : (z : Sizes) (h : History) (n : Net) (e : Event) (b : Book × talk.Books) → Fits z h.callers n e → Stands z h n b
    → AllByRecursion (IsMade b.0 h.steps) (points_of h.steps e)
points-made z h n (brick_takes at from l s) b f k =
    let told = (subst (AllByRecursion (LetterListed b.0 from at)) f.letter.first (k.parts.0.3.letters from at)).0 in
    made-have b.0 h.steps from at l (live_brick_turn s from l).out.points told
    (turn-points (PendingIs b.0) s from l (subst (NodeHas b.0 at) f.here (k.last.pending at)))
points-made z h n other b f k = tt

-- a step that makes points asks no call, and those that were asked stand before it
point-behind : (cs : List Caller) (steps : ℕ) (m : Made) (asked : List Asked) → m.place ≡ steps → AllByRecursion (IsPast cs steps) asked → AllBehind asked m
point-behind cs steps m asked here past =
    all-map (IsPast cs steps) (IsBehind m) asked (λ x q e f. subst (λ p. x.place < p) (sym here) q.before) past

none-asked : (P : Asked → Type 0) (asked : List Asked) → AllByRecursion P asked → AllByRecursion P (asked ++ [])
none-asked P asked h = all-append P asked [] h tt

points-behind : (h : History) (e : Event) (a : Book) → AllByRecursion (IsPast h.callers h.steps) h.asked
    → AllByRecursion (IsMade a h.steps) (points_of h.steps e) → AllByRecursion (AllBehind (goes h e).asked) (points_of h.steps e)
points-behind h (brick_takes at from l s) a past made =
    all-map (IsMade a h.steps) (AllBehind (h.asked ++ [])) (points_of h.steps (brick_takes at from l s))
    (λ m q. none-asked (IsBehind m) h.asked (point-behind h.callers h.steps m h.asked q.1 past)) made
points-behind h other a past made = tt

made-then : (h : History) (e : Event) (P : Made → Type 0) → AllByRecursion P h.made → AllByRecursion P (points_of h.steps e)
    → AllByRecursion P (goes h e).made
made-then h e P g k = all-append P h.made (all_kept h.made (points_of h.steps e)) g (kept-all P h.made (points_of h.steps e) k)

abbrev pub AreOnceOver : (z : Sizes) → (h : History) → Net → Book × talk.Books → Unit {0} → Type 0
AreOnceOver z h n b u = AreOnce h n b.0

pub once-stays : (z : Sizes)
    → IsKeptOver z (Book × talk.Books) (λ h n e b. (booked e b.0, talk.adds h n e b.1)) (Stands z) (Unit {0}) (λ h n e b u. tt) (AreOnceOver z)
once-stays z h n e b u built f k after g =
    let ds = (goes h e).callers in
    let new = asked-new z h n e f in
    let asked = (goes h e).asked in
    let c = booked e b.0 in
    let within = listed-within z h.callers n e b.0 f k.parts.0.2 k.parts.0.3 in
    let grown = (λ (i : ℕ). more-node h.callers ds h.steps h.asked (asked_of h.steps e) new b.0 i (n.node i)
    k.last.entries (k.parts.0.3.nodes i) (g.calls i)) in
    let become = calls-become z h n e f g.past grown in
    let made = points-made z h n e b f k in
    record {
      past = past-then z h n e f g.past;
      calls = nodes-moved (λ i x. LibraryIs (AreAsked asked) x) z n e grown become;
      entries = entries-then z h n e b.0 asked after.parts.0.2 after.parts.0.3.nodes become
          (λ v w there. more-asked h.callers ds h.steps h.asked (asked_of h.steps e) new w.caller w.call w.op
          (entry-used h.callers v w (k.last.entries v w there)) (g.entries v w there));
      points = made-then h e (HasEntry c) (all-map (HasEntry b.0) (HasEntry c) h.made (λ m q. has-later b.0 c m within q) g.points)
          (all-map (IsMade b.0 h.steps) (HasEntry c) (points_of h.steps e) (λ m q. has-later b.0 c m within q.0) made);
      behind = made-then h e (AllBehind asked)
          (all-map (λ m. HasEntry b.0 m × AllBehind h.asked m) (AllBehind asked) h.made
          (λ m q. more-behind h.callers ds h.steps h.asked (asked_of h.steps e) new b.0 m k.last.entries q.0 q.1)
          (all-both (HasEntry b.0) (AllBehind h.asked) h.made g.points g.behind)) (points-behind h e b.0 g.past made);
      once = once-kept h.made (points_of h.steps e) g.once;
    }
