use Rattle.std.proofs.Common.{◌≡◌, ℕ, ◌+◌, ◌-◌, ◌<◌, ◌≤◌, ◌==◌, Bool, true, false, Some, None, List, [], ◌∷◌, refl, sym, ap, ◌∙◌}
use Rattle.std.proofs.Common.{subst, arith}
use Rattle.std.proofs.lemmas.Bool.{eqb-true}
use Rattle.std.proofs.lemmas.Bool.Decides.{nat_tests}
use Rattle.std.specs.List.{AllByRecursion}
use Rattle.std.specs.Prelude.{nat_lt, if◌then◌else◌}
use Rattle.dds_base.specs.declared.number.NodeNo.{NodeNo}
use Rattle.dds_base.specs.declared.op.Order.{Order}
use Rattle.dds_cluster.specs.World.{emptied}
use Rattle.dds_cluster.specs.declared.trace.Caller.{Caller}
use Rattle.dds_core.proofs.Lists.{all-append, all-map}
use Rattle.dds_core.proofs.LetterTells.{heard, letter-tells}
use Rattle.dds_core.proofs.OrderTells.{order-tells}
use Rattle.dds_core.proofs.Tells.{Who}
use Rattle.dds_core.specs.Brick.{brick_input, live_brick_turn}
use Rattle.dds_core.specs.LibraryTurn.{live_library_turn}
use Rattle.dds_law_notice.proofs.Keeps.{AreLinked}
use Rattle.dds_law_own.proofs.Keeps.{of-another}
use Rattle.dds_letters.specs.declared.letter.Letter.{Letter}
use Rattle.dds_letters.specs.declared.letter.Letter.TheVariants as letter
use Rattle.dds_net.proofs.Carried.{AllCarried, Lands, News, letters-moved, nodes-moved}
use Rattle.dds_net.proofs.Letters.{first-all}
use Rattle.dds_net.proofs.Puts.{if-keeps}
use Rattle.dds_net.proofs.Rungs.{IsKeptOver}
use Rattle.dds_net.specs.Event.{Event, nothing, unheard, unasked, brick_takes, brick_told, brick_stops, library_takes, library_asked, library_stops}
use Rattle.dds_net.specs.Event.{Fits, asked_turn, moved}
use Rattle.dds_net.specs.Net.{Net, Node, nowhere, a_brick, a_library, Sizes, is_in, lands, place_in, put}
use Rattle.dds_orders.proofs.Numbered.{below-if, lands-one, put-at}
use Rattle.dds_states.specs.Turn.{BrickTurn}
use Rattle.dds_states.specs.declared.brick_state.BrickState.{BrickState}
use Rattle.dds_orders.proofs.Deeds.{AreOthers, Seat, is_of_orders, seat}
use Rattle.dds_orders.proofs.LibraryLetters.{asked-others, library-others}
use Rattle.dds_orders.proofs.Numbers.{others-asked}
use Rattle.dds_orders.proofs.Turns.{Turns, letter-turns, order-goes}
use Rattle.dds_orders.specs.Law.{asked_of, said_of}
use Rattle.dds_order_talk.proofs.Kept.{kept-path}
use Rattle.dds_order_talk.proofs.HearsOthers.{Answered, answers, kept-heard, own}
use Rattle.dds_order_talk.proofs.Members.{Asks, Later, Sent, Within, sent-later}

-- In the net: who the letters of orders go to and come from. Each event keeps it. This is wanted of others: a brick has no notice of
-- itself (the law of notices).

pub record BrickOk (me : ℕ) (s : BrickState) : Type 0 where
  pub low : me < 64
  pub is : Asks me (seat s)

abbrev pub NodeOk : ℕ → Node → Type 0
NodeOk k nowhere = Unit {0}
NodeOk k (a_brick s) = BrickOk k s
NodeOk k (a_library s) = Unit {0}

-- a number that a live brick gave, with a member that it asked
abbrev pub Asked : Node → ℕ → ℕ → Type 0
Asked nowhere number n = Unit {0}
Asked (a_brick s) number n = s.stopped ≡ false → Within (seat s) number n
Asked (a_library s) number n = Unit {0}

pub record LetterOk (nodes : ℕ → Node) (a b : ℕ) (l : Letter) : Type 0 where
  pub asks : (number : ℕ) → asked_of l ≡ Some number → b < 64 → Asked (nodes a) number b
  pub answers : (number : ℕ) → said_of l ≡ Some number → Asked (nodes b) number a

pub record AreWithin (n : Net) : Type 0 where
  pub nodes : (k : ℕ) → NodeOk k (n.node k)
  pub letters : AllCarried (LetterOk n.node) n

-- a node changes
abbrev Stays : Node → Node → Type 0
Stays x y = (number n : ℕ) → Asked x number n → Asked y number n

put-stays : (nodes : ℕ → Node) (at : ℕ) (y : Node) → Stays (nodes at) y → (k : ℕ) → Stays (nodes k) (put at y nodes k)
put-stays nodes at y f k number n c =
    if-keeps (λ x. Asked x number n) (k == at) y (nodes k) (λ e. f number n (subst (λ i. Asked (nodes i) number n) (eqb-true k at e) c)) (λ e. c)

letters-later : (n : Net) (at : ℕ) (y : Node) → Stays (n.node at) y → AllCarried (LetterOk n.node) n → AllCarried (LetterOk (put at y n.node)) n
letters-later n at y f g a b =
    all-map (LetterOk n.node a b) (LetterOk (put at y n.node) a b) (n.channel a b)
    (λ l h. record {
      asks = λ number e low. put-stays n.node at y f a number b (h.asks number e low);
      answers = λ number e. put-stays n.node at y f b number a (h.answers number e);
    }) (g a b)

-- a letter comes to the brick that it is for
brick-if : (bricks to b : ℕ) (c : Bool) → nat_lt to 64 ≡ c → b < bricks → (if c then to else bricks + (to - 64)) ≡ b → to ≡ b
brick-if bricks to b true t lt e = e
brick-if bricks to b false t lt e = absurd (omega (arith, lt, e))

low-place : (bricks n : ℕ) → n < 64 → place_in bricks n ≡ n
low-place bricks n low = let t : nat_lt n 64 ≡ true = grind (arith, nat_tests, low) in rw t refl

pub lands-low : (z : Sizes) (to b : ℕ) → b < 64 → is_in z b ≡ true → lands z to b ≡ true → to ≡ b
lands-low z to b low inside h =
    brick-if z.bricks to b (nat_lt to 64) refl (below-if z b (nat_lt b 64) refl low inside)
    (eqb-true (place_in z.bricks to) (place_in z.bricks b) h ∙ low-place z.bricks b low)

-- what a brick sends of itself
own-news : (z : Sizes) (nodes : ℕ → Node) (at b : ℕ) (s : BrickState) (p : NodeNo × Letter) → is_in z b ≡ true → Sent (seat s) p
    → Lands (LetterOk (put at (a_brick s) nodes)) z at b p
own-news z nodes at b s p inside h there =
    record {
      asks = λ number e low.
          subst (λ x. Asked x number b) (sym (put-at nodes at (a_brick s)))
          (λ live. subst (Within (seat s) number) (lands-low z p.0 b low inside there) (h.asked number e));
      answers = λ number e. let no : None ≡ Some number = sym h.said ∙ e in cc;
    }

all-news : (z : Sizes) (nodes : ℕ → Node) (at b : ℕ) (s : BrickState) (ls : List (NodeNo × Letter)) → is_in z b ≡ true
    → AllByRecursion (Sent (seat s)) ls → AllByRecursion (Lands (LetterOk (put at (a_brick s) nodes)) z at b) ls
all-news z nodes at b s ls inside h =
    all-map (Sent (seat s)) (Lands (LetterOk (put at (a_brick s) nodes)) z at b) ls (λ p k. own-news z nodes at b s p inside k) h

-- what it sends as it hears a letter
answer-news : (z : Sizes) (n : Net) (at from b : ℕ) (l : Letter) (y : Seat) (s : BrickState) (p : NodeNo × Letter) → z.bricks ≤ 64 → at < 64
    → is_in z from ≡ true → is_in z b ≡ true → LetterOk n.node from at l → Stays (n.node at) (a_brick s) → Later y (seat s) → Answered from l y p
    → Lands (LetterOk (put at (a_brick s) n.node)) z at b p
answer-news z n at from b l y s p few low sender inside ok stays later (own h) there =
    own-news z n.node at b s p inside (sent-later y (seat s) (p ∷ []) later (h, tt)).0 there
answer-news z n at from b l y s p few low sender inside ok stays later (answers to none asks) there =
    let is : from ≡ b = lands-one z from b few sender inside (subst (λ i. lands z i b ≡ true) to there) in
    record {
      asks = λ number e k. let no : None ≡ Some number = sym none ∙ e in cc;
      answers = λ number e.
          put-stays n.node at (a_brick s) stays b number at
          (subst (λ i. Asked (n.node i) number at) is (ok.asks number (asks number e) low));
    }

-- letters of other kinds
other-ok : (nodes : ℕ → Node) (a b : ℕ) (l : Letter) → is_of_orders l ≡ false → LetterOk nodes a b l
other-ok nodes a b l h =
    let k = others-asked l h in
    record {
      asks = λ number e low. let no : None ≡ Some number = sym k.0 ∙ e in cc;
      answers = λ number e. let no : None ≡ Some number = sym k.1 ∙ e in cc;
    }

other-news : (z : Sizes) (nodes : ℕ → Node) (at : ℕ) (ls : List (NodeNo × Letter)) → AreOthers ls → News (LetterOk nodes) z at ls
other-news z nodes at ls h b inside =
    all-map _ (Lands (LetterOk nodes) z at b) ls (λ (p : NodeNo × Letter) k there. other-ok nodes at b p.1 k) h

-- a live brick takes a letter, or is told an order
same-stopped : (s : BrickState) (from : NodeNo) (l : Letter) → (heard s from l).stopped ≡ s.stopped
same-stopped s from letter.Notice = refl
same-stopped s from other = refl

takes-stopped : (s : BrickState) (from : NodeNo) (l : Letter) → (live_brick_turn s from l).state.stopped ≡ s.stopped
takes-stopped s from l = ap (λ (w : Who). w.stopped) (letter-tells s from l).same ∙ same-stopped s from l

told-stopped : (s : BrickState) (o : Order) → (brick_input s o).state.stopped ≡ s.stopped
told-stopped s o = ap (λ (w : Who). w.stopped) (order-tells {L = λ to m. ⊥} s o).same

-- what a turn leaves of the node and of letters on their way, and sends
record TurnOk (z : Sizes) (n : Net) (at : ℕ) (s : BrickState) (t : BrickTurn) : Type 0 where
  node : BrickOk at t.state
  stays : Stays (n.node at) (a_brick t.state)
  news : News (LetterOk (put at (a_brick t.state) n.node)) z at t.out.letters

turn-stays : (x : Node) (s u : BrickState) → x ≡ a_brick s → u.stopped ≡ s.stopped → Later (seat s) (seat u) → Stays x (a_brick u)
turn-stays x s u e f later number n c live =
    let was : Asked (a_brick s) number n = subst (λ y. Asked y number n) e c in later number n (was (sym f ∙ live))

takes-ok : (z : Sizes) (n : Net) (at from : ℕ) (l : Letter) (s : BrickState) → z.bricks ≤ 64 → is_in z from ≡ true → n.node at ≡ a_brick s
    → s.stopped ≡ false → LetterOk n.node from at l → BrickOk at s → Turns from (seat s) l (live_brick_turn s from l)
    → TurnOk z n at s (live_brick_turn s from l)
takes-ok z n at from l s few sender here live ok h t =
    let u = (live_brick_turn s from l).state in
    let a = kept-path at (seat s) t.first [] t.takes h.is in
    let from_one = (λ (number : ℕ) (e : said_of l ≡ Some number).
    let it : Asked (a_brick s) number from = subst (λ x. Asked x number from) here (ok.answers number e) in a.later number from (it live)) in
    let b = kept-heard at from l t.first t.next t.answers t.hears from_one a.next in
    let c = kept-path at t.next (seat u) t.letters t.goes b.next in
    let stays = turn-stays (n.node at) s u here (takes-stopped s from l) (λ number m k. c.later number m (b.later number m (a.later number m k))) in
    record {
      node = record { low = h.low; is = c.next };
      stays = stays;
      news = λ to inside. subst (AllByRecursion (Lands (LetterOk (put at (a_brick u) n.node)) z at to)) (sym t.all)
          (all-append (Lands (LetterOk (put at (a_brick u) n.node)) z at to) t.answers t.letters
          (all-map (Answered from l t.next) (Lands (LetterOk (put at (a_brick u) n.node)) z at to) t.answers
          (λ p k. answer-news z n at from to l t.next u p few h.low sender inside ok stays c.later k) b.sent)
          (all-news z n.node at to u t.letters inside c.sent));
    }

told-ok : (z : Sizes) (n : Net) (at : ℕ) (o : Order) (s : BrickState) → n.node at ≡ a_brick s → BrickOk at s → TurnOk z n at s (brick_input s o)
told-ok z n at o s here h =
    let u = (brick_input s o).state in
    let c = kept-path at (seat s) (seat u) (brick_input s o).out.letters (order-goes s o).path h.is in
    record {
      node = record { low = h.low; is = c.next };
      stays = turn-stays (n.node at) s u here (told-stopped s o) c.later;
      news = λ to inside. all-news z n.node at to u (brick_input s o).out.letters inside c.sent;
    }

-- each event
notice-ok : (nodes : ℕ → Node) (a b : ℕ) → LetterOk nodes a b letter.Notice
notice-ok nodes a b = other-ok nodes a b letter.Notice refl

pub within-kept : (z : Sizes) (cs : List Caller) (n : Net) (e : Event) → z.bricks ≤ 64 → z.libraries ≤ 16 → AreLinked z n → Fits z cs n e → AreWithin n
    → AreWithin (moved z n e)
within-kept z cs n nothing few some links f g = g
within-kept z cs n (unasked at caller call o) few some links f g = g
within-kept z cs n (unheard at from l) few some links f g =
    record {
      nodes = nodes-moved NodeOk z n (unheard at from l) g.nodes tt;
      letters = letters-moved (LetterOk (put at (n.node at) n.node)) z cs n (unheard at from l) f
          (letters-later n at (n.node at) (λ number m c. c) g.letters) tt;
    }
within-kept z cs n (brick_takes at from l s) few some links f g =
    let h : BrickOk at s = subst (NodeOk at) f.here (g.nodes at) in
    let ok = first-all (LetterOk n.node from at) z n at from l f.letter (g.letters from at) in
    let t = takes-ok z n at from l s few f.letter.sender f.here f.live ok h
    (letter-turns s from l (of-another z n at from l s few some links f h.is.number)) in
    let u = (live_brick_turn s from l).state in
    record {
      nodes = nodes-moved NodeOk z n (brick_takes at from l s) g.nodes t.node;
      letters = letters-moved (LetterOk (put at (a_brick u) n.node)) z cs n (brick_takes at from l s) f
          (letters-later n at (a_brick u) t.stays g.letters) t.news;
    }
within-kept z cs n (brick_told at o s) few some links f g =
    let h : BrickOk at s = subst (NodeOk at) f.here (g.nodes at) in
    let t = told-ok z n at o s f.here h in
    let u = (brick_input s o).state in
    record {
      nodes = nodes-moved NodeOk z n (brick_told at o s) g.nodes t.node;
      letters = letters-moved (LetterOk (put at (a_brick u) n.node)) z cs n (brick_told at o s) f
          (letters-later n at (a_brick u) t.stays g.letters) t.news;
    }
within-kept z cs n (brick_stops at s kept) few some links f g =
    let h : BrickOk at s = subst (NodeOk at) f.here (g.nodes at) in
    let u = emptied s.number in
    record {
      nodes = nodes-moved NodeOk z n (brick_stops at s kept) g.nodes
          (record { low = h.low; is = record { number = h.is.number; order = λ o e. cc } });
      letters = letters-moved (LetterOk (put at (a_brick u) n.node)) z cs n (brick_stops at s kept) f
          (letters-later n at (a_brick u) (λ number m c live. cc) g.letters) (λ b. notice-ok (put at (a_brick u) n.node) at b);
    }
within-kept z cs n (library_takes at from l s) few some links f g =
    let y = a_library (live_library_turn s from l).state in
    record {
      nodes = nodes-moved NodeOk z n (library_takes at from l s) g.nodes tt;
      letters = letters-moved (LetterOk (put at y n.node)) z cs n (library_takes at from l s) f
          (letters-later n at y (λ number m c. tt) g.letters) (other-news z (put at y n.node) at _ (library-others s from l));
    }
within-kept z cs n (library_asked at caller call o s) few some links f g =
    let y = a_library (asked_turn s caller call o).state in
    record {
      nodes = nodes-moved NodeOk z n (library_asked at caller call o s) g.nodes tt;
      letters = letters-moved (LetterOk (put at y n.node)) z cs n (library_asked at caller call o s) f
          (letters-later n at y (λ number m c. tt) g.letters) (other-news z (put at y n.node) at _ (asked-others s caller call o));
    }
within-kept z cs n (library_stops at s kept) few some links f g =
    let y = a_library (record s { stopped = true }) in
    record {
      nodes = nodes-moved NodeOk z n (library_stops at s kept) g.nodes tt;
      letters = letters-moved (LetterOk (put at y n.node)) z cs n (library_stops at s kept) f
          (letters-later n at y (λ number m c. tt) g.letters) (λ b. notice-ok (put at y n.node) at b);
    }

pub within-over : (z : Sizes) → z.bricks ≤ 64 → z.libraries ≤ 16
    → IsKeptOver z (Unit {0}) (λ h n e a. tt) (λ h n a. AreLinked z n) (Unit {0}) (λ h n e a b. tt) (λ h n a b. AreWithin n)
within-over z few some h n e a b built f before after g = within-kept z h.callers n e few some before f g
