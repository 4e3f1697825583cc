use Rattle.std.proofs.Common.{◌≡◌, ℕ, Bool, true, false, List, [], ◌∷◌, ◌++◌, refl, sym, ap, ◌∙◌, subst}
use Rattle.std.proofs.lemmas.Bool.{both_ways}
use Rattle.dds_books.specs.Placed.{ArePlaced, LibraryOk, Made, NodeOk}
use Rattle.dds_cluster.specs.World.{emptied}
use Rattle.dds_core.proofs.Lists.{all-map}
use Rattle.dds_core.proofs.OrderTells.{order-tells}
use Rattle.dds_core.proofs.Tells.{Who}
use Rattle.dds_core.specs.Brick.{brick_input, live_brick_turn}
use Rattle.dds_core.specs.LibraryTurn.{live_library_turn}
use Rattle.dds_letters.specs.declared.letter.Letter.{Letter}
use Rattle.dds_net.proofs.PairTakes.{pairs-does, pairs-takes}
use Rattle.dds_net.proofs.Puts.{Pairs, pairs-changed}
use Rattle.dds_net.proofs.Rungs.{IsKeptOver}
use Rattle.dds_net.proofs.Runs.{IsBuilt}
use Rattle.dds_net.specs.Event.{IsDeaf, asked_turn, nothing, unheard, unasked, brick_takes, brick_told, brick_stops, library_takes, library_asked}
use Rattle.dds_net.specs.Event.{library_stops, stops}
use Rattle.dds_net.specs.Net.{Net, Node, nowhere, a_brick, a_library, Sizes, gains, is_in}
use Rattle.dds_states.specs.declared.brick_state.BrickState.{BrickState}
use Rattle.dds_states.specs.declared.library_state.LibraryState.{LibraryState}
use Rattle.dds_due.proofs.BrickDue.{brick-took}
use Rattle.dds_due.proofs.CallSends.{DueTo}
use Rattle.dds_due.proofs.LibraryDue.{AllDue, asked-due, library-due, library-took}
use Rattle.dds_due.proofs.Sent.{due-back}

-- Each event keeps what is due between a library and a brick, of the calls that don't commit.

abbrev pub DueAt : ℕ → LibraryState → List Letter → List Letter → Node → Type 0
DueAt m l out back nowhere = Unit {0}
DueAt m l out back (a_library s) = Unit {0}
DueAt m l out back (a_brick s) = l.stopped ≡ false → s.stopped ≡ false → AllDue m out back l.calls

abbrev pub PairDue : ℕ → ℕ → Node → Node → List Letter → List Letter → Type 0
PairDue k m nowhere y out back = Unit {0}
PairDue k m (a_brick s) y out back = Unit {0}
PairDue k m (a_library l) y out back = DueAt m l out back y

-- pairs of which nothing is said

stopped-at : (m : ℕ) (l : LibraryState) (out back : List Letter) (y : Node) → l.stopped ≡ true → DueAt m l out back y
stopped-at m l out back nowhere e = tt
stopped-at m l out back (a_library s) e = tt
stopped-at m l out back (a_brick s) e = λ lives live. absurd (both_ways l.stopped lives e)

deaf-from : (k m : ℕ) (x y : Node) (out back : List Letter) → IsDeaf x → PairDue k m x y out back
deaf-from k m nowhere y out back e = tt
deaf-from k m (a_brick s) y out back e = tt
deaf-from k m (a_library l) y out back e = stopped-at m l out back y e

deaf-at : (m : ℕ) (l : LibraryState) (out back : List Letter) (y : Node) → IsDeaf y → DueAt m l out back y
deaf-at m l out back nowhere e = tt
deaf-at m l out back (a_library s) e = tt
deaf-at m l out back (a_brick s) e = λ lives live. absurd (both_ways s.stopped live e)

deaf-to : (k m : ℕ) (x y : Node) (out back : List Letter) → IsDeaf y → PairDue k m x y out back
deaf-to k m nowhere y out back e = tt
deaf-to k m (a_brick s) y out back e = tt
deaf-to k m (a_library l) y out back e = deaf-at m l out back y e

to-library : (k m : ℕ) (x : Node) (s : LibraryState) (out back : List Letter) → PairDue k m x (a_library s) out back
to-library k m nowhere s out back = tt
to-library k m (a_brick b) s out back = tt
to-library k m (a_library l) s out back = tt

-- a brick does something: what comes back only grows

back-grows : (m : ℕ) (l : LibraryState) (s u : BrickState) (out back more : List Letter) → (u.stopped ≡ false → s.stopped ≡ false)
    → DueAt m l out back (a_brick s) → DueAt m l out (back ++ more) (a_brick u)
back-grows m l s u out back more f h =
    λ lives live.
    all-map (λ c. DueTo m c out back) (λ c. DueTo m c out (back ++ more)) l.calls (λ c k waits going. due-back c out back more (k waits going))
    (h lives (f live))

pair-grows : (k m : ℕ) (x y : Node) (s u : BrickState) (out back more : List Letter) → y ≡ a_brick s → (u.stopped ≡ false → s.stopped ≡ false)
    → PairDue k m x y out back → PairDue k m x (a_brick u) out (back ++ more)
pair-grows k m nowhere y s u out back more e f h = tt
pair-grows k m (a_brick b) y s u out back more e f h = tt
pair-grows k m (a_library l) y s u out back more e f h = back-grows m l s u out back more f (subst (DueAt m l out back) e h)

pair-took : (z : Sizes) (k m : ℕ) (x y : Node) (s : BrickState) (out back : List Letter) (l : Letter) → is_in z k ≡ true → y ≡ a_brick s → s.stopped ≡ false
    → PairDue k m x y (l ∷ out) back
    → PairDue k m x (a_brick (live_brick_turn s k l).state) out (back ++ gains z (live_brick_turn s k l).out.letters k)
pair-took z k m nowhere y s out back l inside e live h = tt
pair-took z k m (a_brick b) y s out back l inside e live h = tt
pair-took z k m (a_library t) y s out back l inside e live h =
    let old = subst (DueAt m t (l ∷ out) back) e h in
    λ lives still.
    all-map (λ c. DueTo m c (l ∷ out) back) (λ c. DueTo m c out (back ++ gains z (live_brick_turn s k l).out.letters k)) t.calls
    (λ c q. brick-took z m out back s k l c inside q) (old lives live)

-- a library's turn

inside-of : (z : Sizes) (n : Net) (k : ℕ) (s : BrickState) → IsBuilt z n → n.node k ≡ a_brick s → is_in z k ≡ true
inside-of z n k s b e = by (is_in z k) refl
  where
    by : (c : Bool) → is_in z k ≡ c → is_in z k ≡ true
    by true is = is
    by false is = let no : nowhere ≡ a_brick s = sym (b.outside k is) ∙ e in cc

turn-at : (m : ℕ) (s t : LibraryState) (out back out2 back2 : List Letter) (y : Node) → s.stopped ≡ false
    → ((b : BrickState) → y ≡ a_brick b → AllDue m out back s.calls → AllDue m out2 back2 t.calls) → DueAt m s out back y → DueAt m t out2 back2 y
turn-at m s t out back out2 back2 nowhere live f h = tt
turn-at m s t out back out2 back2 (a_library u) live f h = tt
turn-at m s t out back out2 back2 (a_brick b) live f h = λ lives alive. f b refl (h live alive)

from-here : (k m : ℕ) (x y : Node) (s : LibraryState) (out back : List Letter) → x ≡ a_library s → PairDue k m x y out back → DueAt m s out back y
from-here k m x y s out back e h = subst (λ w. PairDue k m w y out back) e h

own-library : (z : Sizes) (n : Net) (at : ℕ) (s : LibraryState) → ArePlaced z n → n.node at ≡ a_library s → LibraryOk z at s
own-library z n at s g e = subst (NodeOk (Made n) z at) e (g.nodes at)

pub due-kept : (z : Sizes) → IsKeptOver z (Unit {0}) (λ h n e b. tt) (λ h n b. ArePlaced z n) (Unit {0}) (λ h n e a b. tt) (λ h n a b. Pairs PairDue n)
due-kept z h n nothing a b built f low after g = g
due-kept z h n (unasked at caller call o) a b built f low after g = g
due-kept z h n (unheard at from l) a b built f low after g =
    let x = n.node at in
    pairs-takes PairDue z n at from l x [] f.letter (record {
      out = λ c na nf p. deaf-from at c x (n.node c) (n.channel at c ++ gains z [] c) (n.channel c at) f.deaf;
      back = λ c na nf p. deaf-to c at (n.node c) x (n.channel c at) (n.channel at c ++ gains z [] c) f.deaf;
      reply = λ ne p. deaf-from at from x (n.node from) (n.channel at from ++ gains z [] from) f.letter.others f.deaf;
      heard = λ ne p. deaf-to from at (n.node from) x f.letter.others (n.channel at from ++ gains z [] from) f.deaf;
      own = λ ne p. deaf-from at at x x (n.channel at at ++ gains z [] at) (n.channel at at ++ gains z [] at) f.deaf;
      own_heard = λ e p. deaf-from at at x x (f.letter.others ++ gains z [] at) (f.letter.others ++ gains z [] at) f.deaf;
    }) g
due-kept z h n (brick_takes at from l s) a b built f low after g =
    let t = live_brick_turn s from l in
    pairs-takes PairDue z n at from l (a_brick t.state) t.out.letters f.letter (record {
      out = λ c na nf p. tt;
      back = λ c na nf p. pair-grows c at (n.node c) (n.node at) s t.state (n.channel c at) (n.channel at c) (gains z t.out.letters c) f.here (λ e. f.live) p;
      reply = λ ne p. tt;
      heard = λ ne p. pair-took z from at (n.node from) (n.node at) s f.letter.others (n.channel at from) l f.letter.sender f.here f.live p;
      own = λ ne p. tt;
      own_heard = λ e p. tt;
    }) g
due-kept z h n (brick_told at o s) a b built f low after g =
    let t = brick_input s o in
    let same = (order-tells {L = λ to l. ⊥} s o).same in
    pairs-does PairDue z n at (a_brick t.state) t.out.letters (record {
      out = λ c na p. tt;
      back = λ c na p. pair-grows c at (n.node c) (n.node at) s t.state (n.channel c at) (n.channel at c) (gains z t.out.letters c) f.here
          (λ e. sym (ap (λ (w : Who). w.stopped) same) ∙ e) p;
      own = λ p. tt;
    }) g
due-kept z h n (brick_stops at s left) a b built f low after g =
    let x = a_brick (emptied s.number) in
    pairs-changed PairDue n (stops z n at x left)
    (record { own = tt; from = λ c nc. tt; to = λ c nc. deaf-to c at (n.node c) x _ _ refl }) g
due-kept z h n (library_takes at from l s) a b built f low after g =
    let t = live_library_turn s from l in
    let ls = t.out.letters in
    pairs-takes PairDue z n at from l (a_library t.state) ls f.letter (record {
      out = λ c na nf p.
          turn-at c s t.state (n.channel at c) (n.channel c at) (n.channel at c ++ gains z ls c) (n.channel c at) (n.node c) f.live
          (λ m e q. library-due z c (n.channel at c) (n.channel c at) s from l (inside-of z n c m built e) q)
          (from-here at c (n.node at) (n.node c) s (n.channel at c) (n.channel c at) f.here p);
      back = λ c na nf p. to-library c at (n.node c) t.state (n.channel c at) (n.channel at c ++ gains z ls c);
      reply = λ ne p.
          turn-at from s t.state (n.channel at from) (l ∷ f.letter.others) (n.channel at from ++ gains z ls from) f.letter.others (n.node from) f.live
          (λ m e q. library-took z at (n.channel at from) f.letter.others s from l f.letter.sender (own-library z n at s low f.here) q)
          (from-here at from (n.node at) (n.node from) s (n.channel at from) (l ∷ f.letter.others) f.here p);
      heard = λ ne p. to-library from at (n.node from) t.state f.letter.others (n.channel at from ++ gains z ls from);
      own = λ ne p. tt;
      own_heard = λ e p. tt;
    }) g
due-kept z h n (library_asked at caller call o s) a b built f low after g =
    let t = asked_turn s caller call o in
    let ls = t.out.letters in
    pairs-does PairDue z n at (a_library t.state) ls (record {
      out = λ c na p.
          turn-at c s t.state (n.channel at c) (n.channel c at) (n.channel at c ++ gains z ls c) (n.channel c at) (n.node c) f.live
          (λ m e q. asked-due z c (n.channel at c) (n.channel c at) s caller call o (inside-of z n c m built e) q)
          (from-here at c (n.node at) (n.node c) s (n.channel at c) (n.channel c at) f.here p);
      back = λ c na p. to-library c at (n.node c) t.state (n.channel c at) (n.channel at c ++ gains z ls c);
      own = λ p. tt;
    }) g
due-kept z h n (library_stops at s left) a b built f low after g =
    let x = a_library (record s { stopped = true }) in
    pairs-changed PairDue n (stops z n at x left)
    (record { own = tt; from = λ c nc. deaf-from at c x (n.node c) _ _ refl; to = λ c nc. to-library c at (n.node c) (record s { stopped = true }) _ _ }) g
