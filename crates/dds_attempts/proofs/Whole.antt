use Rattle.std.proofs.Common.{◌≡◌, ℕ, ◌≤◌, ◌++◌, inl, inr, true, false, Some, [], refl, sym, ap, ◌∙◌, subst}
use Rattle.std.specs.FinMap.{get}
use Rattle.std.specs.List.{AllByRecursion}
use Rattle.std.specs.Prelude.{slice_get}
use Rattle.dds_base.specs.Number.{Txn}
use Rattle.dds_base.specs.declared.number.CallNo.{CallNo}
use Rattle.dds_books.proofs.Booking.{listed-within}
use Rattle.dds_base.specs.declared.op.Order.{Order}
use Rattle.dds_books.specs.Books.{AreListed, Book, IsBooked, IsWithin, LibraryListed, NodeListed, booked, with_library}
use Rattle.dds_books.specs.Calls.{CallsOk, LibraryIs}
use Rattle.dds_books.specs.Placed.{Made, NodeOk}
use Rattle.dds_cluster.specs.Trace.{all_kept}
use Rattle.dds_cluster.specs.declared.trace.Caller.{Caller}
use Rattle.dds_cluster.specs.declared.trace.Made as made
use Rattle.dds_commit.proofs.Knot.{All}
use Rattle.dds_core.proofs.LetterTells.{Any, letter-tells}
use Rattle.dds_core.proofs.Lists.{all-append, all-map}
use Rattle.dds_core.proofs.OrderTells.{order-rests}
use Rattle.dds_core.proofs.Rests.{Whole}
use Rattle.dds_core.proofs.Tells.{Who}
use Rattle.dds_core.specs.Brick.{brick_input, live_brick_turn}
use Rattle.dds_core.specs.LibraryTurn.{live_library_turn}
use Rattle.dds_letters.specs.declared.letter.Letter.{Letter}
use Rattle.dds_letters.specs.declared.letter.Letter.TheVariants as letter
use Rattle.dds_net.proofs.Carried.{Becomes, nodes-moved}
use Rattle.dds_net.proofs.Puts.{at-put}
use Rattle.dds_net.proofs.Rungs.{IsKeptOver, Upper}
use Rattle.dds_net.proofs.Runs.{IsBuilt}
use Rattle.dds_net.specs.Event.{Event, Fits, History, asked_turn, goes, moved, nothing, unheard, unasked, brick_takes, brick_told, brick_stops, library_takes}
use Rattle.dds_net.specs.Event.{library_asked, library_stops, points_of, Ordered, Takes}
use Rattle.dds_net.specs.Net.{Net, Node, nowhere, a_brick, a_library, Sizes, put}
use Rattle.dds_outcomes.proofs.Entries.{ArePending, pending-kept}
use Rattle.dds_outcomes.proofs.Grows.{decided-grows}
use Rattle.dds_outcomes.proofs.Marks.{turn-marked}
use Rattle.dds_outcomes.proofs.Points.{kept-all}
use Rattle.dds_states.specs.declared.brick_state.BrickState.{BrickState}
use Rattle.dds_states.specs.declared.library_state.LibraryState.{LibraryState}
use Rattle.dds_talk.proofs.BrickEvents.{old-decided}
use Rattle.dds_talk.proofs.Changes.{put-here, put-other}
use Rattle.dds_talk.proofs.Grounds.{Ground}
use Rattle.dds_talk.specs.Books as talk
use Rattle.dds_talk.specs.Parts.{Commit}
use Rattle.dds_attempts.proofs.Callers.{CallersGo, callers-go, may-least}
use Rattle.dds_attempts.proofs.Claim.{AreCommitting, AreLast, AreNewest, Commits, PointIs}
use Rattle.dds_attempts.proofs.Decided.{brick-commits, commits-then, lists-then, or-is, yes-is}
use Rattle.dds_attempts.proofs.Held.{IsHeld, all-held, applied-stays, points-are}
use Rattle.dds_attempts.proofs.Library.{Turn, applied-then, entries-later, entries-then, newest-then}
use Rattle.dds_outcomes.proofs.PointRows.{turn-points}
use Rattle.dds_attempts.proofs.Turns.{Comes, NoCall, ThisCall, Tracked, asked-tracked, library-tracked}

-- Each event keeps what is so of a call's attempts.

-- nodes and calls that another event leaves
library-map : (P Q : LibraryState → Type 0) (x : Node) → ((s : LibraryState) → P s → Q s) → LibraryIs P x → LibraryIs Q x
library-map P Q nowhere f h = tt
library-map P Q (a_brick s) f h = tt
library-map P Q (a_library s) f h = f s h

made-then : (h : History) (e : Event) (P : made.Made → Type 0) → AllByRecursion P h.made → AllByRecursion P (points_of h.steps e)
    → AllByRecursion P (goes h e).made
made-then h e P g k = all-append P h.made (all_kept h.made (points_of h.steps e)) g (kept-all P h.made (points_of h.steps e) k)

-- an event that changes no book and no library's calls
rests : (z : Sizes) (h : History) (n : Net) (e : Event) (a : Book) (b : talk.Books) → IsBuilt z n → Fits z h.callers n e
    → points_of h.steps e ≡ [] → ArePending (moved z n e) a
    → Becomes (λ k x. LibraryIs (AreNewest a) x) e → Becomes (λ k x. LibraryIs (AreCommitting b) x) e → AreLast z h n a b
    → AreLast z (goes h e) (moved z n e) a b
rests z h n e a b built f none pending newest commits g =
    let go = callers-go z h n e f in
    record {
      pending = pending;
      callers = go.counted g.callers;
      entries = entries-later h.callers (goes h e).callers a go g.entries;
      newest = nodes-moved (λ k x. LibraryIs (AreNewest a) x) z n e g.newest newest;
      lists = g.lists;
      commits = λ later. nodes-moved (λ k x. LibraryIs (AreCommitting b) x) z n e (g.commits built) commits;
      made = made-then h e (PointIs a b) g.made (subst (AllByRecursion (PointIs a b)) (sym none) tt);
    }

-- a brick's turn
turn-lives : (s : BrickState) (from : ℕ) (l : Letter) → s.stopped ≡ false → (live_brick_turn s from l).state.stopped ≡ false
turn-lives s from letter.Notice e = ap (λ (w : Who). w.stopped) (letter-tells s from letter.Notice).same ∙ e
turn-lives s from other e = ap (λ (w : Who). w.stopped) (letter-tells s from other).same ∙ e

libraries-booked : (n : Net) (a : Book) → AreListed n a → (k : ℕ) → LibraryIs (λ y. AllByRecursion (IsBooked a) y.calls) (n.node k)
libraries-booked n a h k = pick (n.node k) (h.nodes k)
  where
    pick : (x : Node) → NodeListed a k x → LibraryIs (λ y. AllByRecursion (IsBooked a) y.calls) x
    pick nowhere q = tt
    pick (a_brick s) q = tt
    pick (a_library s) q = q.calls

takes-last : (z : Sizes) → z.bricks ≤ 64 → z.libraries ≤ 16 → (h : History) (n : Net) (at from : ℕ) (l : Letter) (s : BrickState) (a : Book) (b : talk.Books)
    → (f : Takes z n at from l (a_brick s)) → IsBuilt z n → All z h n (a, b)
    → All z (goes h (brick_takes at from l s)) (moved z n (brick_takes at from l s)) (a, talk.with_brick at (live_brick_turn s from l).state b)
    → ArePending (moved z n (brick_takes at from l s)) a → AreLast z h n a b
    → AreLast z (goes h (brick_takes at from l s)) (moved z n (brick_takes at from l s)) a (talk.with_brick at (live_brick_turn s from l).state b)
takes-last z few some h n at from l s a b f built k after pending g =
    let e = brick_takes at from l s in
    let r = live_brick_turn s from l in
    let v = moved z n e in
    let c = talk.with_brick at r.state b in
    let go = callers-go z h n e f in
    let base : Ground z n = record { few = few; some = some; linked = k.0.0; built = built } in
    let held = all-held z n a b at s base k.1 k.0.2 k.0.3 g.pending g.newest f.here f.live in
    record {
      pending = pending;
      callers = go.counted g.callers;
      entries = entries-later h.callers (goes h e).callers a go g.entries;
      newest = at-put (λ i x. LibraryIs (AreNewest a) x) at (a_brick r.state) n.node tt (λ i ne. g.newest i);
      lists = g.lists;
      commits = λ later.
          brick-commits z v a b at r.state
          (record {
            ground = record { few = few; some = some; linked = after.0.0; built = later };
            parts = after.1;
            here = put-here at (a_brick r.state) n.node;
            live = turn-lives s from l f.live;
            lists = g.lists;
          })
          (libraries-booked v a after.0.3) (at-put (λ i x. LibraryIs (AreCommitting b) x) at (a_brick r.state) n.node tt (λ i ne. g.commits built i));
      made = made-then h e (PointIs a c)
          (all-map (PointIs a b) (PointIs a c) h.made (λ m q. applied-stays a b c m (λ t d. decided-grows h n e b t d) q) g.made)
          (points-are a b at h.steps l r.state r.out.points (turn-marked s from l (k.1.note at s f.here).once) (turn-points (IsHeld a) s from l held));
    }

-- an order leaves what is noted
told-decided : (z : Sizes) (n : Net) (at : ℕ) (o : Order) (s : BrickState) (b : talk.Books) (t : Txn) → Commit z n b → n.node at ≡ a_brick s
    → (talk.with_brick at (brick_input s o).state b).decided t ≡ true → b.decided t ≡ true
told-decided z n at o s b t parts here d = elim (or-is (b.decided t) (talk.is_yes (get (brick_input s o).state.locks.outcomes t)) d) [
  | inl was ↦ was
  | inr now ↦ old-decided z n at s b t parts here
      (sym (ap (λ (w : Whole). get w.outcomes t) (order-rests {L = Any} s o).same) ∙ yes-is (get (brick_input s o).state.locks.outcomes t) now)
]

told-last : (z : Sizes) (h : History) (n : Net) (at : ℕ) (o : Order) (s : BrickState) (a : Book) (b : talk.Books) → Ordered z n at o s → IsBuilt z n
    → Commit z n b → ArePending (moved z n (brick_told at o s)) a → AreLast z h n a b
    → AreLast z (goes h (brick_told at o s)) (moved z n (brick_told at o s)) a (talk.with_brick at (brick_input s o).state b)
told-last z h n at o s a b f built parts pending g =
    let e = brick_told at o s in
    let u = (brick_input s o).state in
    let c = talk.with_brick at u b in
    let go = callers-go z h n e f in
    record {
      pending = pending;
      callers = go.counted g.callers;
      entries = entries-later h.callers (goes h e).callers a go g.entries;
      newest = at-put (λ i x. LibraryIs (AreNewest a) x) at (a_brick u) n.node tt (λ i ne. g.newest i);
      lists = g.lists;
      commits = λ later. at-put (λ i x. LibraryIs (AreCommitting c) x) at (a_brick u) n.node tt
          (λ i ne. library-map (AreCommitting b) (AreCommitting c) (n.node i)
          (λ y q live. all-map (Commits b) (Commits c) y.calls (λ d w i. w (told-decided z n at o s b d.txn parts f.here i)) (q live)) (g.commits built i));
      made = made-then h e (PointIs a c)
          (all-map (PointIs a b) (PointIs a c) h.made (λ m q. applied-stays a b c m (λ t d. decided-grows h n e b t d) q) g.made) tt;
    }

-- a library's turn
turned : (New : Comes) (z : Sizes) (h j : History) (n v : Net) (a c : Book) (b d : talk.Books) (at : ℕ) (old s : LibraryState) → n.node at ≡ a_library old
    → v.node ≡ put at (a_library s) n.node → All z h n (a, b) → All z j v (c, d) → CallersGo h.callers j.callers → Tracked New old s
    → ((caller : ℕ) (call : CallNo) → New caller call → (x : Caller) → slice_get h.callers caller ≡ Some x → x.least ≤ call.0) → AreLast z h n a b
    → Turn New z h.callers j.callers n a at old s
turned New z h j n v a c b d at old s here nodes k after go tracked unmade g =
    let own : v.node at ≡ a_library s = ap (λ f. f at) nodes ∙ put-here at (a_library s) n.node in
    record {
      placed = subst (NodeOk (Made n) z at) here (k.0.2.nodes at);
      placed_then = subst (NodeOk (Made v) z at) own (after.0.2.nodes at);
      listed = subst (NodeListed a at) here (k.0.3.nodes at);
      booked = subst (LibraryIs (CallsOk h.callers at)) here (k.0.1.calls at);
      booked_then = subst (LibraryIs (CallsOk j.callers at)) own (after.0.1.calls at);
      others = λ i ne.
          subst (LibraryIs (CallsOk j.callers i)) (ap (λ f. f i) nodes ∙ put-other at (a_library s) n.node i ne) (after.0.1.calls i);
      tracked = tracked;
      go = go;
      counted = g.callers;
      entries = g.entries;
      newest = subst (LibraryIs (AreNewest a)) here (g.newest at);
      unmade = unmade;
    }

library-last : (New : Comes) (z : Sizes) (h j : History) (n v : Net) (a : Book) (b : talk.Books) (at : ℕ) (old s : LibraryState) → n.node at ≡ a_library old
    → old.stopped ≡ false → v.node ≡ put at (a_library s) n.node → j.made ≡ h.made ++ [] → IsBuilt z n → All z h n (a, b)
    → All z j v (with_library at s a, talk.with_library at s b) → IsWithin a (with_library at s a)
    → ((t : Txn) → b.decided t ≡ true → (talk.with_library at s b).decided t ≡ true)
    → CallersGo h.callers j.callers → Tracked New old s
    → ((caller : ℕ) (call : CallNo) → New caller call → (x : Caller) → slice_get h.callers caller ≡ Some x → x.least ≤ call.0)
    → ArePending v (with_library at s a) → AreLast z h n a b → AreLast z j v (with_library at s a) (talk.with_library at s b)
library-last New z h j n v a b at old s here live nodes made built k after within grows go tracked unmade pending g =
    let c = with_library at s a in
    let d = talk.with_library at s b in
    let t = turned New z h j n v a c b d at old s here nodes k after go tracked unmade g in
    let own : v.node at ≡ a_library s = ap (λ f. f at) nodes ∙ put-here at (a_library s) n.node in
    let booked : LibraryListed c s = subst (NodeListed c at) own (after.0.3.nodes at) in
    let all_commit = g.commits built in
    let committing = subst (LibraryIs (AreCommitting b)) here (all_commit at) live in
    record {
      pending = pending;
      callers = go.counted g.callers;
      entries = entries-then New z h.callers j.callers n a at old s t;
      newest = subst (λ f. (i : ℕ) → LibraryIs (AreNewest c) (f i)) (sym nodes) (newest-then New z h.callers j.callers n a at old s t g.newest);
      lists = λ u. lists-then a c b at s within booked.calls u (g.lists u);
      commits = λ later. subst (λ f. (i : ℕ) → LibraryIs (AreCommitting d) (f i)) (sym nodes)
          (commits-then z n b d at old s (k.1.calls at old here) (after.1.calls at s own) t.placed_then
          (λ i y e. subst (NodeOk (Made n) z i) e (k.0.2.nodes i)) tracked committing all_commit);
      made = subst (AllByRecursion (PointIs c d)) (sym made)
          (all-append (PointIs c d) h.made []
          (all-map (PointIs a b) (PointIs c d) h.made
          (λ m q e. applied-then New z h.callers j.callers n a at old s t b d m committing grows within (q e)) g.made) tt);
    }

abbrev pub AreLastOver : (z : Sizes) → Upper (Book × talk.Books) (Unit {0})
AreLastOver z h n b u = AreLast z h n b.0 b.1

pub last-kept : (z : Sizes) → z.bricks ≤ 64 → z.libraries ≤ 16
    → IsKeptOver z (Book × talk.Books) (λ h n e b. (booked e b.0, talk.adds h n e b.1)) (All z) (Unit {0}) (λ h n e b u. tt) (AreLastOver z)
last-kept z few some h n e b u built f k after g = go e f after
  where
    pending : (e : Event) → Fits z h.callers n e → All z (goes h e) (moved z n e) (booked e b.0, talk.adds h n e b.1) → ArePending (moved z n e) (booked e b.0)
    pending e f after = pending-kept z h n e b.0 tt built f (k.0.2, k.0.3) (after.0.2, after.0.3) g.pending

    go : (e : Event) (f : Fits z h.callers n e) → All z (goes h e) (moved z n e) (booked e b.0, talk.adds h n e b.1)
        → AreLast z (goes h e) (moved z n e) (booked e b.0) (talk.adds h n e b.1)
    go nothing f after = rests z h n nothing b.0 b.1 built f refl (pending nothing f after) tt tt g
    go (unheard at from l) f after = rests z h n (unheard at from l) b.0 b.1 built f refl (pending (unheard at from l) f after) tt tt g
    go (unasked at caller call o) f after =
        rests z h n (unasked at caller call o) b.0 b.1 built f refl (pending (unasked at caller call o) f after) tt tt g
    go (brick_stops at s left) f after = rests z h n (brick_stops at s left) b.0 b.1 built f refl (pending (brick_stops at s left) f after) tt tt g
    go (library_stops at s left) f after =
        rests z h n (library_stops at s left) b.0 b.1 built f refl (pending (library_stops at s left) f after)
        (subst (LibraryIs (AreNewest b.0)) f.here (g.newest at)) (λ live. cc) g
    go (brick_takes at from l s) f after =
        takes-last z few some h n at from l s b.0 b.1 f built k after (pending (brick_takes at from l s) f after) g
    go (brick_told at o s) f after = told-last z h n at o s b.0 b.1 f built k.1 (pending (brick_told at o s) f after) g
    go (library_takes at from l s) f after =
        let e = library_takes at from l s in
        library-last NoCall z h (goes h e) n (moved z n e) b.0 b.1 at s (live_library_turn s from l).state f.here f.live refl refl built k after
        (listed-within z h.callers n e b.0 f k.0.2 k.0.3) (decided-grows h n e b.1) (callers-go z h n e f) (library-tracked s from l)
        (λ caller call no. absurd no) (pending e f after) g
    go (library_asked at caller call o s) f after =
        let e = library_asked at caller call o s in
        library-last (ThisCall caller call) z h (goes h e) n (moved z n e) b.0 b.1 at s (asked_turn s caller call o).state f.here f.live refl refl built k after
        (listed-within z h.callers n e b.0 f k.0.2 k.0.3) (decided-grows h n e b.1) (callers-go z h n e f) (asked-tracked s caller call o)
        (λ i j is x there. subst (λ (q : CallNo). x.least ≤ q.0) (sym is.1)
        (may-least (slice_get h.callers caller) at call x f.may (ap (slice_get h.callers) (sym is.0) ∙ there))) (pending e f after) g
