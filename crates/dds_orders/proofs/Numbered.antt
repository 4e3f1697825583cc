use Rattle.std.proofs.Common.{◌≡◌, ℕ, ◌+◌, ◌-◌, ◌<◌, ◌≤◌, ◌==◌, Bool, true, false, Some, None, List, [], ◌∷◌, refl, sym, ap, ◌∙◌}
use Rattle.std.proofs.Common.{subst, arith}
use Rattle.std.proofs.lemmas.Bool.{eq-eqb, eqb-true, ne_eqb}
use Rattle.std.proofs.lemmas.Bool.Decides.{nat_tests}
use Rattle.std.specs.List.{AllByRecursion}
use Rattle.std.specs.Prelude.{nat_lt, if◌then◌else◌}
use Rattle.dds_base.specs.declared.number.NodeNo.{NodeNo}
use Rattle.dds_base.specs.declared.op.Order.{Order}
use Rattle.dds_cluster.specs.World.{emptied}
use Rattle.dds_cluster.specs.declared.trace.Caller.{Caller}
use Rattle.dds_core.proofs.Lists.{all-append, all-map}
use Rattle.dds_core.proofs.LetterTells.{heard, letter-tells}
use Rattle.dds_core.proofs.OrderTells.{order-tells}
use Rattle.dds_core.proofs.Tells.{Who}
use Rattle.dds_core.specs.Brick.{brick_input, live_brick_turn}
use Rattle.dds_core.specs.LibraryTurn.{live_library_turn}
use Rattle.dds_law_notice.proofs.Keeps.{AreLinked}
use Rattle.dds_law_own.proofs.Keeps.{of-another}
use Rattle.dds_letters.specs.declared.letter.Letter.{Letter}
use Rattle.dds_letters.specs.declared.letter.Letter.TheVariants as letter
use Rattle.dds_net.proofs.Carried.{AllCarried, Lands, News, letters-moved, nodes-moved}
use Rattle.dds_net.proofs.Letters.{first-all}
use Rattle.dds_net.proofs.Places.{one-place}
use Rattle.dds_net.proofs.Puts.{if-keeps}
use Rattle.dds_net.proofs.Rungs.{IsKeptOver}
use Rattle.dds_net.specs.Event.{Event, nothing, unheard, unasked, brick_takes, brick_told, brick_stops, library_takes, library_asked, library_stops}
use Rattle.dds_net.specs.Event.{Fits, asked_turn, moved}
use Rattle.dds_net.specs.Net.{Net, Node, nowhere, a_brick, a_library, Sizes, is_in, lands, place_in, put}
use Rattle.dds_states.specs.Turn.{BrickTurn}
use Rattle.dds_states.specs.declared.brick_state.BrickState.{BrickState}
use Rattle.dds_states.specs.declared.brick_state.OpenOrder.{OpenOrder}
use Rattle.dds_orders.proofs.Counting.{Answered, answers, kept-heard, kept-path, own}
use Rattle.dds_orders.proofs.Deeds.{AreOthers, Seat, is_of_orders, seat}
use Rattle.dds_orders.proofs.LibraryLetters.{asked-others, library-others}
use Rattle.dds_orders.proofs.Numbers.{AllOwn, Counted, Later, Numbering, Sent, others-asked, sent-later}
use Rattle.dds_orders.proofs.Turns.{Turns, letter-turns, order-goes}
use Rattle.dds_orders.specs.Law.{IsOf, asked_of, said_of}

-- In the net: the numbers in letters, by the nodes that they go from and to. Each event keeps them. This is wanted of others: a brick
-- has no notice of itself (the law of notices).

pub record BrickOk (me : ℕ) (s : BrickState) : Type 0 where
  pub low : me < 64
  pub is : Numbering me (seat s)

abbrev pub NodeOk : ℕ → Node → Type 0
NodeOk k nowhere = Unit {0}
NodeOk k (a_brick s) = BrickOk k s
NodeOk k (a_library s) = Unit {0}

-- a number that a live brick gave
abbrev pub Counts : Node → ℕ → Letter → Type 0
Counts nowhere number l = Unit {0}
Counts (a_brick s) number l = s.stopped ≡ false → Counted (seat s) number l
Counts (a_library s) number l = Unit {0}

pub record LetterOk (nodes : ℕ → Node) (a b : ℕ) (l : Letter) : Type 0 where
  pub asked : (number : ℕ) → asked_of l ≡ Some number → (a ≡ b → ⊥) × Counts (nodes a) number l
  pub said : (number : ℕ) → said_of l ≡ Some number → (a ≡ b → ⊥) × Counts (nodes b) number l

pub record AreCounted (n : Net) : Type 0 where
  pub nodes : (k : ℕ) → NodeOk k (n.node k)
  pub letters : AllCarried (LetterOk n.node) n

-- a node changes
abbrev Stays : Node → Node → Type 0
Stays x y = (number : ℕ) (l : Letter) → Counts x number l → Counts y number l

put-stays : (nodes : ℕ → Node) (at : ℕ) (y : Node) → Stays (nodes at) y → (k : ℕ) → Stays (nodes k) (put at y nodes k)
put-stays nodes at y f k number l c =
    if-keeps (λ x. Counts x number l) (k == at) y (nodes k) (λ e. f number l (subst (λ i. Counts (nodes i) number l) (eqb-true k at e) c)) (λ e. c)

letters-later : (n : Net) (at : ℕ) (y : Node) → Stays (n.node at) y → AllCarried (LetterOk n.node) n → AllCarried (LetterOk (put at y n.node)) n
letters-later n at y f g a b =
    all-map (LetterOk n.node a b) (LetterOk (put at y n.node) a b) (n.channel a b)
    (λ l h. record {
      asked = λ number e. let k = h.asked number e in (k.0, put-stays n.node at y f a number l k.1);
      said = λ number e. let k = h.said number e in (k.0, put-stays n.node at y f b number l k.1);
    }) (g a b)

pub put-at : (nodes : ℕ → Node) (at : ℕ) (y : Node) → put at y nodes at ≡ y
put-at nodes at y = ap (λ c. if c then y else nodes at) (eq-eqb at at refl)

put-other : (nodes : ℕ → Node) (at k : ℕ) (y : Node) → (k ≡ at → ⊥) → put at y nodes k ≡ nodes k
put-other nodes at k y ne = ap (λ c. if c then y else nodes k) (ne_eqb k at ne)

-- a letter that comes back to a brick is for that brick
self-if : (bricks to at : ℕ) (c : Bool) → nat_lt to 64 ≡ c → at < bricks → (if c then to else bricks + (to - 64)) ≡ at → to ≡ at
self-if bricks to at true t lt e = e
self-if bricks to at false t lt e = absurd (omega (arith, lt, e))

low-place : (b n : ℕ) → n < 64 → place_in b n ≡ n
low-place b n low = let t : nat_lt n 64 ≡ true = grind (arith, nat_tests, low) in rw t refl

pub below-if : (z : Sizes) (n : ℕ) (c : Bool) → nat_lt n 64 ≡ c → n < 64 → (if c then nat_lt n z.bricks else nat_lt (n - 64) z.libraries) ≡ true → n < z.bricks
below-if z n true t low h = grind (arith, nat_tests, h)
below-if z n false t low h = grind (arith, nat_tests, t, low)

lands-self : (z : Sizes) (to at : ℕ) → at < 64 → is_in z at ≡ true → lands z to at ≡ true → to ≡ at
lands-self z to at low inside h =
    self-if z.bricks to at (nat_lt to 64) refl (below-if z at (nat_lt at 64) refl low inside)
    (eqb-true (place_in z.bricks to) (place_in z.bricks at) h ∙ low-place z.bricks at low)

pub lands-one : (z : Sizes) (to b : ℕ) → z.bricks ≤ 64 → is_in z to ≡ true → is_in z b ≡ true → lands z to b ≡ true → to ≡ b
lands-one z to b few h k e = one-place z to b few h k (eqb-true (place_in z.bricks to) (place_in z.bricks b) e)

-- what a brick sends of itself
own-news : (z : Sizes) (nodes : ℕ → Node) (at b : ℕ) (s : BrickState) (p : NodeNo × Letter) → at < 64 → is_in z b ≡ true → Sent at (seat s) p
    → Lands (LetterOk (put at (a_brick s) nodes)) z at b p
own-news z nodes at b s p low inside h lands_there =
    record {
      asked = λ number e.
          let k = h.asked number e in (
            λ is. k.1 (lands-self z p.0 at low (subst (λ i. is_in z i ≡ true) (sym is) inside) (subst (λ i. lands z p.0 i ≡ true) (sym is) lands_there)),
            subst (λ x. Counts x number p.1) (sym (put-at nodes at (a_brick s))) (λ live. k.0),
          );
      said = λ number e. let no : None ≡ Some number = sym h.said ∙ e in cc;
    }

all-news : (z : Sizes) (nodes : ℕ → Node) (at b : ℕ) (s : BrickState) (ls : List (NodeNo × Letter)) → at < 64 → is_in z b ≡ true → AllOwn at (seat s) ls
    → AllByRecursion (Lands (LetterOk (put at (a_brick s) nodes)) z at b) ls
all-news z nodes at b s ls low inside h =
    all-map (Sent at (seat s)) (Lands (LetterOk (put at (a_brick s) nodes)) z at b) ls (λ p k. own-news z nodes at b s p low inside k) h

-- what it sends as it hears a letter
answer-news : (z : Sizes) (n : Net) (at from b : ℕ) (l : Letter) (y : Seat) (s : BrickState) (p : NodeNo × Letter) → z.bricks ≤ 64 → at < 64
    → is_in z from ≡ true → is_in z b ≡ true → LetterOk n.node from at l → Later y (seat s) → Answered at from l y p
    → Lands (LetterOk (put at (a_brick s) n.node)) z at b p
answer-news z n at from b l y s p few low sender inside ok later (own h) lands_there =
    own-news z n.node at b s p low inside (sent-later at y (seat s) (p ∷ []) later (h, tt)).0 lands_there
answer-news z n at from b l y s p few low sender inside ok later (answers to none asks) lands_there =
    let is : from ≡ b = lands-one z from b few sender inside (subst (λ i. lands z i b ≡ true) to lands_there) in
    record {
      asked = λ number e. let no : None ≡ Some number = sym none ∙ e in cc;
      said = λ number e.
          let k = ok.asked number (asks number e) in
          let ne : b ≡ at → ⊥ = (λ f. k.0 (is ∙ f)) in (
            λ f. ne (sym f),
            subst (λ x. Counts x number p.1) (sym (put-other n.node at b (a_brick s) ne))
                (subst (λ i. Counts (n.node i) number p.1) is (said-counts (n.node from) number l p.1 (said-any p.1 number e) k.1)),
          );
    }
  where
    said-any : (m : Letter) (number : ℕ) → said_of m ≡ Some number → (o : OpenOrder) → IsOf o m
    said-any (letter.Granted number leaf) k e o = tt
    said-any (letter.LeaseRefused number why) k e o = tt
    said-any (letter.CopyPart number last pairs) k e o = tt
    said-any (letter.Installed number name) k e o = tt
    said-any other k e o = cc

    said-counts : (x : Node) (number : ℕ) (l m : Letter) → ((o : OpenOrder) → IsOf o m) → Counts x number l → Counts x number m
    said-counts nowhere number l m f c = tt
    said-counts (a_brick q) number l m f c = λ live. record { given = (c live).given; of = λ o e g. f o }
    said-counts (a_library q) number l m f c = tt

-- letters of other kinds
other-ok : (nodes : ℕ → Node) (a b : ℕ) (l : Letter) → is_of_orders l ≡ false → LetterOk nodes a b l
other-ok nodes a b l h =
    let k = others-asked l h in
    record {
      asked = λ number e. let no : None ≡ Some number = sym k.0 ∙ e in cc;
      said = λ number e. let no : None ≡ Some number = sym k.1 ∙ e in cc;
    }

pub other-news : (z : Sizes) (nodes : ℕ → Node) (at : ℕ) (ls : List (NodeNo × Letter)) → AreOthers ls → News (LetterOk nodes) z at ls
other-news z nodes at ls h b inside =
    all-map _ (Lands (LetterOk nodes) z at b) ls (λ (p : NodeNo × Letter) k there. other-ok nodes at b p.1 k) h

-- a live brick takes a letter
pub same-stopped : (s : BrickState) (from : NodeNo) (l : Letter) → (heard s from l).stopped ≡ s.stopped
same-stopped s from letter.Notice = refl
same-stopped s from other = refl

pub takes-stopped : (s : BrickState) (from : NodeNo) (l : Letter) → (live_brick_turn s from l).state.stopped ≡ s.stopped
takes-stopped s from l = ap (λ (w : Who). w.stopped) (letter-tells s from l).same ∙ same-stopped s from l

pub told-stopped : (s : BrickState) (o : Order) → (brick_input s o).state.stopped ≡ s.stopped
told-stopped s o = ap (λ (w : Who). w.stopped) (order-tells {L = λ to m. ⊥} s o).same

-- what a turn leaves of the node, of letters on their way, and sends
record TurnOk (z : Sizes) (n : Net) (at : ℕ) (s : BrickState) (t : BrickTurn) : Type 0 where
  node : BrickOk at t.state
  stays : Stays (a_brick s) (a_brick t.state)
  news : News (LetterOk (put at (a_brick t.state) n.node)) z at t.out.letters

turn-stays : (s u : BrickState) → u.stopped ≡ s.stopped → Later (seat s) (seat u) → Stays (a_brick s) (a_brick u)
turn-stays s u e f number l c live = f number l (c (sym e ∙ live))

takes-ok : (z : Sizes) (n : Net) (at from : ℕ) (l : Letter) (s : BrickState) → z.bricks ≤ 64 → is_in z from ≡ true → LetterOk n.node from at l
    → BrickOk at s → Turns from (seat s) l (live_brick_turn s from l) → TurnOk z n at s (live_brick_turn s from l)
takes-ok z n at from l s few sender ok h t =
    let u = (live_brick_turn s from l).state in
    let a = kept-path at (seat s) t.first [] t.takes h.is in
    let b = kept-heard at from l t.first t.next t.answers t.hears (λ number e is. (ok.said number e).0 is) a.next in
    let c = kept-path at t.next (seat u) t.letters t.goes b.next in
    record {
      node = record { low = h.low; is = c.next };
      stays = turn-stays s u (takes-stopped s from l) (λ number m k. c.later number m (b.later number m (a.later number m k)));
      news = λ to inside. subst (AllByRecursion (Lands (LetterOk (put at (a_brick u) n.node)) z at to)) (sym t.all)
          (all-append (Lands (LetterOk (put at (a_brick u) n.node)) z at to) t.answers t.letters
          (all-map (Answered at from l t.next) (Lands (LetterOk (put at (a_brick u) n.node)) z at to) t.answers
          (λ p k. answer-news z n at from to l t.next u p few h.low sender inside ok c.later k) b.sent)
          (all-news z n.node at to u t.letters h.low inside c.sent));
    }

told-ok : (z : Sizes) (n : Net) (at : ℕ) (o : Order) (s : BrickState) → BrickOk at s → TurnOk z n at s (brick_input s o)
told-ok z n at o s h =
    let u = (brick_input s o).state in
    let c = kept-path at (seat s) (seat u) (brick_input s o).out.letters (order-goes s o).path h.is in
    record {
      node = record { low = h.low; is = c.next };
      stays = turn-stays s u (told-stopped s o) c.later;
      news = λ to inside. all-news z n.node at to u (brick_input s o).out.letters h.low inside c.sent;
    }

-- each event
node-stays : (x y z : Node) → x ≡ y → Stays y z → Stays x z
node-stays x y z e f number l c = f number l (subst (λ q. Counts q number l) e c)

pub notice-ok : (nodes : ℕ → Node) (a b : ℕ) → LetterOk nodes a b letter.Notice
notice-ok nodes a b = other-ok nodes a b letter.Notice refl

pub counted-kept : (z : Sizes) (cs : List Caller) (n : Net) (e : Event) → z.bricks ≤ 64 → z.libraries ≤ 16 → AreLinked z n → Fits z cs n e → AreCounted n
    → AreCounted (moved z n e)
counted-kept z cs n nothing few some links f g = g
counted-kept z cs n (unasked at caller call o) few some links f g = g
counted-kept z cs n (unheard at from l) few some links f g =
    record {
      nodes = nodes-moved NodeOk z n (unheard at from l) g.nodes tt;
      letters = letters-moved (LetterOk (put at (n.node at) n.node)) z cs n (unheard at from l) f
          (letters-later n at (n.node at) (λ number m c. c) g.letters) tt;
    }
counted-kept z cs n (brick_takes at from l s) few some links f g =
    let h : BrickOk at s = subst (NodeOk at) f.here (g.nodes at) in
    let ok = first-all (LetterOk n.node from at) z n at from l f.letter (g.letters from at) in
    let t = takes-ok z n at from l s few f.letter.sender ok h
    (letter-turns s from l (of-another z n at from l s few some links f h.is.number)) in
    let u = (live_brick_turn s from l).state in
    record {
      nodes = nodes-moved NodeOk z n (brick_takes at from l s) g.nodes t.node;
      letters = letters-moved (LetterOk (put at (a_brick u) n.node)) z cs n (brick_takes at from l s) f
          (letters-later n at (a_brick u) (node-stays (n.node at) (a_brick s) (a_brick u) f.here t.stays) g.letters) t.news;
    }
counted-kept z cs n (brick_told at o s) few some links f g =
    let h : BrickOk at s = subst (NodeOk at) f.here (g.nodes at) in
    let t = told-ok z n at o s h in
    let u = (brick_input s o).state in
    record {
      nodes = nodes-moved NodeOk z n (brick_told at o s) g.nodes t.node;
      letters = letters-moved (LetterOk (put at (a_brick u) n.node)) z cs n (brick_told at o s) f
          (letters-later n at (a_brick u) (node-stays (n.node at) (a_brick s) (a_brick u) f.here t.stays) g.letters) t.news;
    }
counted-kept z cs n (brick_stops at s kept) few some links f g =
    let h : BrickOk at s = subst (NodeOk at) f.here (g.nodes at) in
    let u = emptied s.number in
    record {
      nodes = nodes-moved NodeOk z n (brick_stops at s kept) g.nodes
          (record { low = h.low; is = record { number = h.is.number; order = λ o e. cc } });
      letters = letters-moved (LetterOk (put at (a_brick u) n.node)) z cs n (brick_stops at s kept) f
          (letters-later n at (a_brick u) (λ number m c live. cc) g.letters) (λ b. notice-ok (put at (a_brick u) n.node) at b);
    }
counted-kept z cs n (library_takes at from l s) few some links f g =
    let y = a_library (live_library_turn s from l).state in
    record {
      nodes = nodes-moved NodeOk z n (library_takes at from l s) g.nodes tt;
      letters = letters-moved (LetterOk (put at y n.node)) z cs n (library_takes at from l s) f
          (letters-later n at y (λ number m c. tt) g.letters) (other-news z (put at y n.node) at _ (library-others s from l));
    }
counted-kept z cs n (library_asked at caller call o s) few some links f g =
    let y = a_library (asked_turn s caller call o).state in
    record {
      nodes = nodes-moved NodeOk z n (library_asked at caller call o s) g.nodes tt;
      letters = letters-moved (LetterOk (put at y n.node)) z cs n (library_asked at caller call o s) f
          (letters-later n at y (λ number m c. tt) g.letters) (other-news z (put at y n.node) at _ (asked-others s caller call o));
    }
counted-kept z cs n (library_stops at s kept) few some links f g =
    let y = a_library (record s { stopped = true }) in
    record {
      nodes = nodes-moved NodeOk z n (library_stops at s kept) g.nodes tt;
      letters = letters-moved (LetterOk (put at y n.node)) z cs n (library_stops at s kept) f
          (letters-later n at y (λ number m c. tt) g.letters) (λ b. notice-ok (put at y n.node) at b);
    }

pub counted-over : (z : Sizes) → z.bricks ≤ 64 → z.libraries ≤ 16
    → IsKeptOver z (Unit {0}) (λ h n e a. tt) (λ h n a. AreLinked z n) (Unit {0}) (λ h n e a b. tt) (λ h n a b. AreCounted n)
counted-over z few some h n e a b built f before after g = counted-kept z h.callers n e few some before f g
