use Rattle.std.proofs.Common.{◌≡◌, ℕ, ◌<◌, Some, None, List, [], ◌∷◌, refl, sym, ap, ◌∙◌, subst}
use Rattle.std.proofs.lemmas.Bool.{eq-eqb}
use Rattle.std.specs.List.{AllByRecursion}
use Rattle.std.specs.Prelude.{if◌then◌else◌}
use Rattle.dds_base.specs.Number.{Txn}
use Rattle.dds_base.specs.declared.node_set.NodeSet.{NodeSet}
use Rattle.dds_base.specs.declared.number.NodeNo.{NodeNo}
use Rattle.dds_cluster.specs.declared.trace.Caller.{Caller}
use Rattle.dds_core.proofs.CallTurns.{heard}
use Rattle.dds_core.proofs.LetterTells.{Says, letter-tells}
use Rattle.dds_core.proofs.Lists.{all-map}
use Rattle.dds_core.proofs.OrderTells.{order-tells}
use Rattle.dds_core.specs.Brick.{brick_input, live_brick_turn}
use Rattle.dds_core.specs.LibraryTurn.{attempt_of, attempts, live_library_turn}
use Rattle.dds_cluster.proofs.Sizes.{sized-start}
use Rattle.dds_cluster.specs.Trace.{start}
use Rattle.dds_letters.specs.declared.letter.Letter.{Letter}
use Rattle.dds_letters.specs.declared.letter.Letter.TheVariants as letter
use Rattle.dds_net.proofs.Carried.{AllCarried, News, letters-moved, nodes-moved}
use Rattle.dds_net.proofs.Letters.{first-all}
use Rattle.dds_net.proofs.Opening.{IsNew, new_a_brick, new_a_library, no_node, start-channel, start-node}
use Rattle.dds_net.proofs.Puts.{at-put}
use Rattle.dds_net.proofs.Rungs.{IsKeptOver, kept-over}
use Rattle.dds_net.proofs.Runs.{run-keeps}
use Rattle.dds_net.specs.Event.{Event, nothing, unheard, unasked, brick_takes, brick_told, brick_stops, library_takes, library_asked, library_stops}
use Rattle.dds_net.specs.Event.{Fits, asked_turn}
use Rattle.dds_net.specs.Net.{Net, Node, nowhere, a_brick, a_library, Sizes, net, put, sizes_of}
use Rattle.dds_script.specs.Opening.{OpeningOf}
use Rattle.dds_states.specs.Turn.{no_out}
use Rattle.dds_states.specs.declared.library_state.LibraryState.{LibraryState}
use Rattle.dds_states.specs.declared.library_state.OpenCall.{OpenCall}
use Rattle.dds_states.specs.declared.turn.CoreTurn.{CoreTurn}
use Rattle.dds_books.proofs.Listing.{IsOld, Listing, input-lists, listing-first, one-lists}
use Rattle.dds_books.proofs.OldCalls.{library-keeps-if}
use Rattle.dds_books.proofs.PlacedFirst.{start-placed}
use Rattle.dds_books.proofs.Placing.{placed-kept}
use Rattle.dds_books.specs.Books.{AreListed, Book, IsBooked, IsWithin, LetterListed, LibraryListed, NodeListed, booked}
use Rattle.dds_books.specs.Books.{with_library}
use Rattle.dds_books.specs.Law.{AttemptsAreListed}
use Rattle.dds_books.specs.Placed.{ArePlaced, CallOk, LetterOk, LibraryOk, Made, MadeAt, NodeOk}
use Rattle.dds_books.proofs.Overlays.{at-other, booked-within, brick-news, grows, letter-within, library-listed, library-news}

-- Each event keeps the book: what is there stays.

-- What a library's turn finds

own-listed : (n : Net) (b : Book) (at : ℕ) (s : LibraryState) → AreListed n b → n.node at ≡ a_library s → LibraryListed b s
own-listed n b at s g e = subst (NodeListed b at) e (g.nodes at)

own-placed : (z : Sizes) (n : Net) (at : ℕ) (s : LibraryState) → ArePlaced z n → n.node at ≡ a_library s → LibraryOk z at s
own-placed z n at s g e = subst (NodeOk (Made n) z at) e (g.nodes at)

all-old : (z : Sizes) (number next : ℕ) (cs : List OpenCall) (known : NodeSet)
    → AllByRecursion (CallOk z number next known) cs → AllByRecursion (IsOld next) (attempts cs)
all-old z number next [] known h = tt
all-old z number next (c ∷ cs) known h = (h.0.below, all-old z number next cs known h.1)

old-made : (n : Net) (at : ℕ) (s : LibraryState) (t u : Txn) → n.node at ≡ a_library s → t.library ≡ at → Made n t → Some t ≡ Some u → u.number < s.next
old-made n at s t u here home made e =
    let is : t ≡ u = cc in
    subst (IsOld s.next) is (subst (MadeAt t) (ap n.node home ∙ here) made)

old-attempt : (z : Sizes) (n : Net) (at : ℕ) (from : NodeNo) (s : LibraryState) (l : Letter) (u : Txn) → n.node at ≡ a_library s → LetterOk (Made n) z from at l
    → attempt_of l ≡ Some u → IsOld s.next u
old-attempt z n at from s (letter.Got txn a) u here h e = old-made n at s txn u here h.0.library h.0.made e
old-attempt z n at from s (letter.Vote txn vote) u here h e = old-made n at s txn u here h.0.library h.0.made e
old-attempt z n at from s (letter.Applied txn was) u here h e = old-made n at s txn u here h.library h.made e
old-attempt z n at from s (letter.Aborted txn) u here h e = old-made n at s txn u here h.library h.made e
old-attempt z n at from s (letter.MapTell txn leaf) u here h e = old-made n at s txn u here h.0.library h.0.made e
old-attempt z n at from s other u here h e = cc

heard-lists : (b : Book) (z : Sizes) (at : ℕ) (s : LibraryState) (from : NodeNo) (l : Letter) → LibraryOk z at s → AllByRecursion (IsBooked b) s.calls
    → Listing b s (heard s from l) no_out
heard-lists b z at s from letter.Notice h k = listing-first b z at s (heard s from letter.Notice) h k refl refl refl
heard-lists b z at s from other h k = listing-first b z at s s h k refl refl refl

pub took-lists : (z : Sizes) (n : Net) (b : Book) (at : ℕ) (from : NodeNo) (l : Letter) (s : LibraryState) → ArePlaced z n → AreListed n b
    → n.node at ≡ a_library s → LetterOk (Made n) z from at l → Listing b s (live_library_turn s from l).state (live_library_turn s from l).out
took-lists z n b at from l s p g here first =
    let h = own-placed z n at s p here in
    library-keeps-if (IsOld s.next) (Listing b s) s from l (one-lists b s from l) (all-old z s.number s.next s.calls s.known h.calls)
    (λ u e. old-attempt z n at from s l u here first e) (heard-lists b z at s from l h (own-listed n b at s g here).calls)

-- other libraries
node-other : (z : Sizes) (n : Net) (b : Book) (at k : ℕ) (s : LibraryState) (x : Node) → (k ≡ at → ⊥) → IsWithin b (with_library at s b)
    → NodeOk (Made n) z k x → NodeListed b k x → NodeListed (with_library at s b) k x
node-other z n b at k s nowhere ne f p h = tt
node-other z n b at k s (a_brick y) ne f p h = tt
node-other z n b at k s (a_library y) ne f p h =
    record {
      calls = all-map (IsBooked b) (IsBooked (with_library at s b)) y.calls (λ c q. booked-within b (with_library at s b) c f q) h.calls;
      to_come = λ t home high. at-other at s b t (λ e. ne (sym (home ∙ p.its_number) ∙ e)) ∙ h.to_come t home high;
    }

-- the library that an event changes has the overlay
pub record Overlaid (z : Sizes) (n : Net) (b : Book) (at : ℕ) (s : LibraryState) (out : CoreTurn) : Type 0 where
  pub within : IsWithin b (with_library at s b)
  pub nodes : (k : ℕ) → NodeListed (with_library at s b) k (put at (a_library s) n.node k)
  pub sends : News (LetterListed (with_library at s b)) z at out.letters

overlaid : (z : Sizes) (n : Net) (b : Book) (at : ℕ) (old s : LibraryState) (out : CoreTurn) → ArePlaced z n → AreListed n b → n.node at ≡ a_library old
    → LibraryOk z at s → Listing b old s out → Overlaid z n b at s out
overlaid z n b at old s out p g here after k =
    let number = after.its_number in
    let before = own-listed n b at old g here in
    let below = all-map (CallOk z s.number s.next s.known) (λ (c : OpenCall). c.txn.number < s.next) s.calls (λ c q. q.below) after.calls in
    let f = grows b at old s out number before k in
    record {
      within = f;
      nodes = at-put (NodeListed (with_library at s b)) at (a_library s) n.node (library-listed b at old s out number before k below)
          (λ i ne. node-other z n b at i s (n.node i) ne f (p.nodes i) (g.nodes i));
      sends = library-news b z at old s out number k;
    }

put-own : (at : ℕ) (y : Node) (f : ℕ → Node) → put at y f at ≡ y
put-own at y f = ap (λ c. if c then y else f at) (eq-eqb at at refl)

letters-within : (n : Net) (b c : Book) → IsWithin b c → AllCarried (LetterListed b) n → AllCarried (LetterListed c) n
letters-within n b c f g i j = all-map (LetterListed b i j) (LetterListed c i j) (n.channel i j) (λ l h. letter-within b c i j l f h) (g i j)

pub listed-kept : (z : Sizes)
    → IsKeptOver z (Unit {0}) (λ h n e b. tt) (λ h n b. ArePlaced z n) Book (λ h n e a b. booked e b) (λ h n a b. AreListed n b)
listed-kept z h n nothing a b built f low after g = record { nodes = g.nodes; letters = g.letters }
listed-kept z h n (unasked at caller call o) a b built f low after g = record { nodes = g.nodes; letters = g.letters }
listed-kept z h n (unheard at from l) a b built f low after g =
    record {
      nodes = nodes-moved (NodeListed b) z n (unheard at from l) g.nodes tt;
      letters = letters-moved (LetterListed b) z h.callers n (unheard at from l) f g.letters tt;
    }
listed-kept z h n (brick_takes at from l s) a b built f low after g =
    record {
      nodes = nodes-moved (NodeListed b) z n (brick_takes at from l s) g.nodes tt;
      letters = letters-moved (LetterListed b) z h.callers n (brick_takes at from l s) f g.letters
          (brick-news (Says s from l) b z at (live_brick_turn s from l).out.letters (letter-tells s from l).letters);
    }
listed-kept z h n (brick_told at o s) a b built f low after g =
    record {
      nodes = nodes-moved (NodeListed b) z n (brick_told at o s) g.nodes tt;
      letters = letters-moved (LetterListed b) z h.callers n (brick_told at o s) f g.letters
          (brick-news (λ to l. ⊥) b z at (brick_input s o).out.letters (order-tells {L = λ to l. ⊥} s o).letters);
    }
listed-kept z h n (brick_stops at s left) a b built f low after g =
    record {
      nodes = nodes-moved (NodeListed b) z n (brick_stops at s left) g.nodes tt;
      letters = letters-moved (LetterListed b) z h.callers n (brick_stops at s left) f g.letters (λ to. tt);
    }
listed-kept z h n (library_stops at s left) a b built f low after g =
    let own = own-listed n b at s g f.here in
    record {
      nodes = nodes-moved (NodeListed b) z n (library_stops at s left) g.nodes (record { calls = own.calls; to_come = own.to_come });
      letters = letters-moved (LetterListed b) z h.callers n (library_stops at s left) f g.letters (λ to. tt);
    }
listed-kept z h n (library_takes at from l s) a b built f low after g =
    let y = (live_library_turn s from l).state in
    let out = (live_library_turn s from l).out in
    let first = first-all (LetterOk (Made n) z from at) z n at from l f.letter (low.letters from at) in
    let k = overlaid z n b at s y out low g f.here (own-placed z _ at y after (put-own at (a_library y) n.node))
    (took-lists z n b at from l s low g f.here first) in
    record {
      nodes = k.nodes;
      letters = letters-moved (LetterListed (with_library at y b)) z h.callers n (library_takes at from l s) f
          (letters-within n b (with_library at y b) k.within g.letters) k.sends;
    }
listed-kept z h n (library_asked at caller call o s) a b built f low after g =
    let y = (asked_turn s caller call o).state in
    let out = (asked_turn s caller call o).out in
    let own = own-placed z n at s low f.here in
    let k = overlaid z n b at s y out low g f.here (own-placed z _ at y after (put-own at (a_library y) n.node))
    (input-lists b z at s caller call o own (own-listed n b at s g f.here).calls) in
    record {
      nodes = k.nodes;
      letters = letters-moved (LetterListed (with_library at y b)) z h.callers n (library_asked at caller call o s) f
          (letters-within n b (with_library at y b) k.within g.letters) k.sends;
    }

-- an entry stays through each event
pub listed-within : (z : Sizes) (cs : List Caller) (n : Net) (e : Event) (b : Book) → Fits z cs n e → ArePlaced z n
    → AreListed n b → IsWithin b (booked e b)
listed-within z cs n (library_takes at from l s) b f low g =
    let own = own-placed z n at s low f.here in
    let k = took-lists z n b at from l s low g f.here (first-all (LetterOk (Made n) z from at) z n at from l f.letter (low.letters from at)) in
    grows b at s (live_library_turn s from l).state (live_library_turn s from l).out (k.number ∙ own.its_number) (own-listed n b at s g f.here) k
listed-within z cs n (library_asked at caller call o s) b f low g =
    let own = own-placed z n at s low f.here in
    let k = input-lists b z at s caller call o own (own-listed n b at s g f.here).calls in
    grows b at s (asked_turn s caller call o).state (asked_turn s caller call o).out own.its_number (own-listed n b at s g f.here) k
listed-within z cs n other b f low g = λ t e h. h

-- The opening: no attempt was made

new-listed : (o : OpeningOf) (k : ℕ) (x : Node) → IsNew o k x → NodeListed (λ t. None) k x
new-listed o k x (no_node e) = subst (NodeListed (λ t. None) k) (sym e) tt
new-listed o k x (new_a_brick e) = subst (NodeListed (λ t. None) k) (sym e) tt
new-listed o k x (new_a_library high e) = subst (NodeListed (λ t. None) k) (sym e) (record { calls = tt; to_come = λ t home high. refl })

pub start-listed : (o : OpeningOf) → AreListed (net (sizes_of o) (start o).world) (λ t. None)
start-listed o =
    record {
      nodes = λ k. new-listed o k _ (start-node o k);
      letters = λ a b. subst (AllByRecursion (LetterListed (λ t. None) a b)) (sym (start-channel o a b)) tt;
    }

pub attempts-are-listed : AttemptsAreListed
attempts-are-listed o journal h run =
    let z = sizes_of o in
    let ran = run-keeps z (Unit {0} × Book) _ _ journal (start o) h.ranges.bricks
    (kept-over z (Unit {0}) (λ h n e b. tt) (λ h n b. ArePlaced z n) Book (λ h n e a b. booked e b) (λ h n a b. AreListed n b)
    (placed-kept z h.ranges.bricks h.ranges.libraries) (listed-kept z))
    (record { sized = sized-start o; books = (tt, λ t. None); is = (start-placed o h, start-listed o) }) run in
    (ran.books.1, ran.is.1)
