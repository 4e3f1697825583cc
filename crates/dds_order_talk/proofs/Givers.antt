use Rattle.std.proofs.Common.{◌≡◌, ℕ, ◌≤◌, ◌==◌, true, Some, None, List, [], ◌∷◌, refl, sym, ap, ◌∙◌, subst}
use Rattle.std.proofs.lemmas.Bool.{eqb-true}
use Rattle.std.specs.FinMap.{get}
use Rattle.std.specs.List.{AllByRecursion}
use Rattle.dds_base.specs.BrickList.{has}
use Rattle.dds_base.specs.Name.{Name}
use Rattle.dds_base.specs.declared.leaf.Leaf.{Leaf}
use Rattle.dds_base.specs.declared.number.NodeNo.{NodeNo}
use Rattle.dds_cluster.specs.World.{emptied}
use Rattle.dds_cluster.specs.declared.trace.Caller.{Caller}
use Rattle.dds_core.proofs.Lists.{all-append, all-map}
use Rattle.dds_core.specs.Brick.{brick_input, live_brick_turn}
use Rattle.dds_core.specs.LibraryTurn.{live_library_turn}
use Rattle.dds_law_own.proofs.Keeps.{of-another}
use Rattle.dds_law_own.proofs.Lists.{each-is}
use Rattle.dds_law_own.proofs.Owned.{Named}
use Rattle.dds_law_own.proofs.Parted.{IsBoth}
use Rattle.dds_letters.specs.declared.letter.Letter.{Letter}
use Rattle.dds_letters.specs.declared.letter.Letter.TheVariants as letter
use Rattle.dds_net.proofs.Carried.{AllCarried, News, letters-moved}
use Rattle.dds_net.proofs.Letters.{first-all}
use Rattle.dds_net.proofs.Puts.{if-keeps}
use Rattle.dds_net.specs.Event.{Event, nothing, unheard, unasked, brick_takes, brick_told, brick_stops, library_takes, library_asked, library_stops}
use Rattle.dds_net.specs.Event.{Fits, asked_turn, moved}
use Rattle.dds_net.specs.Net.{Net, Node, a_brick, a_library, Sizes, put}
use Rattle.dds_orders.proofs.Counting.{not-none}
use Rattle.dds_orders.proofs.Deeds.{AreOthers, Seat, seat, wanted_name}
use Rattle.dds_orders.proofs.LibraryLetters.{asked-others, library-others}
use Rattle.dds_orders.proofs.Numbered as numbered
use Rattle.dds_orders.proofs.Numbers.{others-asked}
use Rattle.dds_orders.proofs.Standing.{path-stood, Standing}
use Rattle.dds_orders.proofs.Covered.{Covering}
use Rattle.dds_orders.proofs.Stood.{AreStood, NodeStands}
use Rattle.dds_orders.proofs.Turns.{Hears, copies_not, denies, gives, grants, grants_not, hears_other, installed_not, installs, installs_not}
use Rattle.dds_orders.proofs.Turns.{is_installed, is_refused, learns, letter-turns, order-goes, refused_not, releases, sends_none, sends_part}
use Rattle.dds_orders.proofs.Turns.{copies as copies_part}
use Rattle.dds_orders.specs.Law.{said_of}
use Rattle.dds_law_own.proofs.Keeps as law_own
use Rattle.dds_states.specs.Turn.{to_each, unknown}
use Rattle.dds_states.specs.declared.brick_state.BrickState.{BrickState}
use Rattle.dds_states.specs.declared.library_state.LibraryState.{LibraryState}
use Rattle.dds_order_talk.proofs.HearsOthers.{kept-heard}
use Rattle.dds_order_talk.proofs.Kept.{kept-path}
use Rattle.dds_order_talk.proofs.Letters as within
use Rattle.dds_order_talk.proofs.Letters.{AreWithin, Asked}
use Rattle.dds_order_talk.proofs.Members.{Sent}
use Rattle.dds_order_talk.proofs.Talking.{IsBrick, is_brick}

-- Who says something of another one's order is a brick, and a leaf that it grants lists it. Each event keeps it.

pub record GiverOk (nodes : ℕ → Node) (a b : ℕ) (l : Letter) : Type 0 where
  pub senders : (number : ℕ) → said_of l ≡ Some number → IsBrick (nodes a)
  pub lists : (number : ℕ) (leaf : Leaf) → l ≡ letter.Granted number leaf → has leaf.list a ≡ true

abbrev pub AreGiven : Net → Type 0
AreGiven n = AllCarried (GiverOk n.node) n

-- a node stays what it is
put-brick : (nodes : ℕ → Node) (at : ℕ) (y : Node) → (IsBrick (nodes at) → IsBrick y) → (k : ℕ) → IsBrick (nodes k) → IsBrick (put at y nodes k)
put-brick nodes at y f k c = if-keeps (λ x. IsBrick x) (k == at) y (nodes k) (λ e. f (subst (λ i. IsBrick (nodes i)) (eqb-true k at e) c)) (λ e. c)

given-later : (n : Net) (at : ℕ) (y : Node) → (IsBrick (n.node at) → IsBrick y) → AreGiven n → AllCarried (GiverOk (put at y n.node)) n
given-later n at y f g a b =
    all-map (GiverOk n.node a b) (GiverOk (put at y n.node) a b) (n.channel a b)
    (λ l h. record { senders = λ number e. put-brick n.node at y f a (h.senders number e); lists = h.lists }) (g a b)

-- what is sent
unsaid-ok : (nodes : ℕ → Node) (a b : ℕ) (l : Letter) → said_of l ≡ None → GiverOk nodes a b l
unsaid-ok nodes a b l h =
    record {
      senders = λ number e. absurd (not-none number (sym h ∙ e));
      lists = λ number leaf e. absurd (not-none number (sym h ∙ ap said_of e));
    }

-- what a brick gives lists it
abbrev Gives : ℕ → NodeNo × Letter → Type 0
Gives me p = (number : ℕ) (leaf : Leaf) → p.1 ≡ letter.Granted number leaf → has leaf.list me ≡ true

own-named : (me : ℕ) (x : Seat) (name : Name) (leaf : Leaf) → IsBoth me x.own → get x.own.leaves name ≡ Some leaf → has leaf.list me ≡ true
own-named me x name leaf h e = (each-is (Named me name) (get x.own.leaves name) leaf e (h.0.leaves name)).1

unsaid-gives : (me : ℕ) (p : NodeNo × Letter) → said_of p.1 ≡ None → Gives me p
unsaid-gives me p h number leaf e = absurd (not-none number (sym h ∙ ap said_of e))

no-grant : (me : ℕ) (to : NodeNo) (l : Letter) → ((number : ℕ) (leaf : Leaf) → l ≡ letter.Granted number leaf → ⊥) → Gives me (to, l)
no-grant me to l f number leaf e = absurd (f number leaf e)

released-gives : (me : ℕ) (ns : List NodeNo) (number : ℕ) (name : Name) → AllByRecursion (Gives me) (to_each ns (letter.Release number name))
released-gives me [] number name = tt
released-gives me (n ∷ ns) number name = (unsaid-gives me (n, letter.Release number name) refl, released-gives me ns number name)

heard-gives : (me from : ℕ) (l : Letter) (x y : Seat) (ls : List (NodeNo × Letter)) → Hears from x l ls y → IsBoth me x.own
    → AllByRecursion (Gives me) ls
heard-gives me from l x y ls (gives number what leaf there free stamp unknown) h =
    (λ i k e. let is : leaf ≡ k = cc in subst (λ (m : Leaf). has m.list me ≡ true) is (own-named me x (wanted_name what) leaf h there), tt)
heard-gives me from l x _ ls (denies number what why) h = (no-grant me from (letter.LeaseRefused number why) (λ i k e. cc), tt)
heard-gives me from l x y ls (releases number name) h = tt
heard-gives me from l x _ ls (sends_part number name place last pairs given there) h =
    (no-grant me from (letter.CopyPart number last pairs) (λ i k e. cc), tt)
heard-gives me from l x _ ls (sends_none number name place e) h = tt
heard-gives me from l x y ls (installs number leaf mine may) h = (no-grant me from (letter.Installed number mine.name) (λ i k e. cc), tt)
heard-gives me from l x _ ls (installs_not number leaf may) h = tt
heard-gives me from l x y ls (grants number leaf o finds) h = tt
heard-gives me from l x _ ls (grants_not number leaf e) h = tt
heard-gives me from l x y ls (is_refused number why o finds) h =
    released-gives me (unknown o.asked x.own.known) o.number o.name
heard-gives me from l x _ ls (refused_not number why e) h = tt
heard-gives me from l x y ls (copies_part number last pairs o finds) h = tt
heard-gives me from l x _ ls (copies_not number last pairs e) h = tt
heard-gives me from l x y ls (is_installed number name o finds) h = tt
heard-gives me from l x _ ls (installed_not number name e) h = tt
heard-gives me from l x y ls (learns below other) h = tt
heard-gives me from l x _ ls (hears_other _ e) h = tt

-- one letter that a node sends, where it comes to
gives-ok : (nodes : ℕ → Node) (a b : ℕ) (p : NodeNo × Letter) → IsBrick (nodes a) → Gives a p → GiverOk nodes a b p.1
gives-ok nodes a b p is h = record { senders = λ number e. is; lists = h }

brick-there : (nodes : ℕ → Node) (at : ℕ) (s : BrickState) → IsBrick (put at (a_brick s) nodes at)
brick-there nodes at s = is_brick s (numbered.put-at nodes at (a_brick s))

brick-news : (z : Sizes) (nodes : ℕ → Node) (at : ℕ) (s : BrickState) (ls : List (NodeNo × Letter)) → AllByRecursion (Gives at) ls
    → News (GiverOk (put at (a_brick s) nodes)) z at ls
brick-news z nodes at s ls h b inside =
    all-map (Gives at) _ ls (λ (p : NodeNo × Letter) k there. gives-ok (put at (a_brick s) nodes) at b p (brick-there nodes at s) k) h

other-news : (z : Sizes) (nodes : ℕ → Node) (at : ℕ) (ls : List (NodeNo × Letter)) → AreOthers ls → News (GiverOk nodes) z at ls
other-news z nodes at ls h b inside =
    all-map _ _ ls (λ (p : NodeNo × Letter) k there. unsaid-ok nodes at b p.1 (others-asked p.1 k).1) h

sent-gives : (me : ℕ) (y : Seat) (ls : List (NodeNo × Letter)) → AllByRecursion (Sent y) ls → AllByRecursion (Gives me) ls
sent-gives me y ls h = all-map (Sent y) (Gives me) ls (λ p s. unsaid-gives me p s.said) h

no-library : (s : LibraryState) (y : Node) → IsBrick (a_library s) → IsBrick y
no-library s y (is_brick t e) = cc

at-library : (x y : Node) (s : LibraryState) → x ≡ a_library s → IsBrick x → IsBrick y
at-library x y s e h = no-library s y (subst IsBrick e h)

-- each event
pub given-kept : (z : Sizes) (cs : List Caller) (n : Net) (e : Event) → z.bricks ≤ 64 → z.libraries ≤ 16 → Fits z cs n e → AreStood z n → AreWithin n
    → AreGiven n → AreGiven (moved z n e)
given-kept z cs n nothing few some f w v g = g
given-kept z cs n (unasked at caller call o) few some f w v g = g
given-kept z cs n (unheard at from l) few some f w v g =
    letters-moved (GiverOk (put at (n.node at) n.node)) z cs n (unheard at from l) f (given-later n at (n.node at) (λ c. c) g) tt
given-kept z cs n (brick_takes at from l s) few some f w v g =
    let both : IsBoth at (seat s).own = subst (law_own.NodeOk at) f.here (w.own at) in
    let it : Standing (seat s).own × Covering (seat s).own = subst (NodeStands at) f.here (w.stands at) in
    let t = letter-turns s from l (of-another z n at from l s few some w.links f both.0.number) in
    let a = path-stood at (seat s) t.first [] t.takes (record { both = both; stands = it.0 }) in
    let asks : within.BrickOk at s = subst (within.NodeOk at) f.here (v.nodes at) in
    let ok = first-all (within.LetterOk n.node from at) z n at from l f.letter (v.letters from at) in
    let k = kept-path at (seat s) t.first [] t.takes asks.is in
    let from_one = (λ (number : ℕ) (e : said_of l ≡ Some number).
    let was : Asked (a_brick s) number from = subst (λ x. Asked x number from) f.here (ok.answers number e) in k.later number from (was f.live)) in
    let b = kept-heard at from l t.first t.next t.answers t.hears from_one k.next in
    let c = kept-path at t.next (seat (live_brick_turn s from l).state) t.letters t.goes b.next in
    let u = (live_brick_turn s from l).state in
    let all = subst (AllByRecursion (Gives at)) (sym t.all)
    (all-append (Gives at) t.answers t.letters (heard-gives at from l t.first t.next t.answers t.hears a.both) (sent-gives at (seat u) t.letters c.sent)) in
    letters-moved (GiverOk (put at (a_brick u) n.node)) z cs n (brick_takes at from l s) f (given-later n at (a_brick u) (λ c. is_brick u refl) g)
    (brick-news z n.node at u (live_brick_turn s from l).out.letters all)
given-kept z cs n (brick_told at o s) few some f w v g =
    let asks : within.BrickOk at s = subst (within.NodeOk at) f.here (v.nodes at) in
    let u = (brick_input s o).state in
    let c = kept-path at (seat s) (seat u) (brick_input s o).out.letters (order-goes s o).path asks.is in
    letters-moved (GiverOk (put at (a_brick u) n.node)) z cs n (brick_told at o s) f (given-later n at (a_brick u) (λ c. is_brick u refl) g)
    (brick-news z n.node at u (brick_input s o).out.letters (sent-gives at (seat u) (brick_input s o).out.letters c.sent))
given-kept z cs n (brick_stops at s kept) few some f w v g =
    let u = emptied s.number in
    letters-moved (GiverOk (put at (a_brick u) n.node)) z cs n (brick_stops at s kept) f (given-later n at (a_brick u) (λ c. is_brick u refl) g)
    (λ b. unsaid-ok (put at (a_brick u) n.node) at b letter.Notice refl)
given-kept z cs n (library_takes at from l s) few some f w v g =
    let y = a_library (live_library_turn s from l).state in
    letters-moved (GiverOk (put at y n.node)) z cs n (library_takes at from l s) f (given-later n at y (at-library (n.node at) y s f.here) g)
    (other-news z (put at y n.node) at (live_library_turn s from l).out.letters (library-others s from l))
given-kept z cs n (library_asked at caller call o s) few some f w v g =
    let y = a_library (asked_turn s caller call o).state in
    letters-moved (GiverOk (put at y n.node)) z cs n (library_asked at caller call o s) f (given-later n at y (at-library (n.node at) y s f.here) g)
    (other-news z (put at y n.node) at (asked_turn s caller call o).out.letters (asked-others s caller call o))
given-kept z cs n (library_stops at s kept) few some f w v g =
    let y = a_library (record s { stopped = true }) in
    letters-moved (GiverOk (put at y n.node)) z cs n (library_stops at s kept) f (given-later n at y (at-library (n.node at) y s f.here) g)
    (λ b. unsaid-ok (put at y n.node) at b letter.Notice refl)
