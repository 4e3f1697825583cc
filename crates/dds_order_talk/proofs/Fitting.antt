use Rattle.std.proofs.Common.{◌≡◌, ℕ, ◌≤◌, Some, None, true, false, List, [], refl, subst}
use Rattle.std.specs.FinMap.{get}
use Rattle.dds_base.specs.BrickList.{has}
use Rattle.dds_base.specs.Name.{Name}
use Rattle.dds_base.specs.declared.leaf.Leaf.{Leaf}
use Rattle.dds_base.specs.declared.number.NodeNo.{NodeNo}
use Rattle.dds_cluster.specs.declared.trace.Caller.{Caller}
use Rattle.dds_core.specs.Brick.{brick_input, live_brick_turn}
use Rattle.dds_law_own.proofs.Keeps as law_own
use Rattle.dds_law_own.proofs.Keeps.{of-another}
use Rattle.dds_law_own.proofs.Parted.{IsBoth}
use Rattle.dds_letters.specs.declared.letter.Letter.{Letter}
use Rattle.dds_letters.specs.declared.letter.Letter.TheVariants as letter
use Rattle.dds_net.proofs.Carried.{Becomes, nodes-moved}
use Rattle.dds_net.proofs.Letters.{first-all}
use Rattle.dds_net.specs.Event.{Event, nothing, unheard, unasked, brick_takes, brick_told, brick_stops, library_takes, library_asked, library_stops}
use Rattle.dds_net.specs.Event.{IsFirst, moved}
use Rattle.dds_net.specs.Event as event
use Rattle.dds_net.specs.Net.{Net, Node, nowhere, a_brick, a_library, Sizes}
use Rattle.dds_orders.proofs.Deeds.{Seat, Stage, Trip, arrives, does_next, nothing_owed, seat, told_order}
use Rattle.dds_orders.proofs.Stood.{AreStood}
use Rattle.dds_orders.proofs.Turns.{letter-turns, order-goes, owed}
use Rattle.dds_orders.specs.Law.{said_of}
use Rattle.dds_states.specs.declared.brick_state.BrickState.{BrickState}
use Rattle.dds_states.specs.declared.brick_state.OpenOrder.{OpenOrder}
use Rattle.dds_order_talk.proofs.BrickHeard.{heard-fits, heard-owed}
use Rattle.dds_order_talk.proofs.BrickSide.{Fits, Owed, none-fits}
use Rattle.dds_order_talk.proofs.BrickTurns.{deed-fits, deed-owed}
use Rattle.dds_order_talk.proofs.Givers.{AreGiven, GiverOk}
use Rattle.dds_order_talk.proofs.HearsOthers.{kept-heard}
use Rattle.dds_order_talk.proofs.Kept.{kept-deed, kept-path}
use Rattle.dds_order_talk.proofs.Letters as within
use Rattle.dds_order_talk.proofs.Letters.{AreWithin, Asked}
use Rattle.dds_order_talk.proofs.Members.{Asks}
use Rattle.dds_order_talk.proofs.Sendings.{Once}
use Rattle.dds_order_talk.proofs.Talking.{Wanted}
use Rattle.dds_order_talk.specs.Seen.{JoinersAreUnlisted}

-- Each event keeps what is wanted of open orders, if leaves list each member once.

trip-fits : (j : ℕ) (a b : Stage) (x y : Seat) (ls : List (NodeNo × Letter)) → Trip a x ls b y → Asks j x → Fits x.own.order → Owed a x [] []
    → Fits y.own.order
trip-fits j a _ x _ _ (arrives _ _) asks f w = f
trip-fits j a b x z _ (does_next _ c _ _ y _ ls ms d q v) asks f w =
    trip-fits j c b y z ms v (kept-deed j x y ls d asks).next (deed-fits j a c x y ls [] [] d q asks f w)
    (deed-owed a c x y ls [] [] [] d q (λ others. tt) w)

abbrev pub NodeFits : ℕ → Node → Type 0
NodeFits k nowhere = Unit {0}
NodeFits k (a_brick s) = Fits s.order
NodeFits k (a_library s) = Unit {0}

-- that leaves list each once, of a brick's own and of those that are granted
pub record ListOnce (z : Sizes) (n : Net) : Type 0 where
  pub own : (k : ℕ) (s : BrickState) (at : Name) (leaf : Leaf) → n.node k ≡ a_brick s → get s.leaves at ≡ Some leaf → Once leaf.list
  pub given : (at from number : ℕ) (leaf : Leaf) → IsFirst z n at from (letter.Granted number leaf) → Once leaf.list

given-lists : (z : Sizes) (n : Net) (at from number : ℕ) (leaf : Leaf) → AreGiven n → ListOnce z n → IsFirst z n at from (letter.Granted number leaf)
    → Once leaf.list × (has leaf.list from ≡ true)
given-lists z n at from number leaf g o f =
    (o.given at from number leaf f, (first-all (GiverOk n.node from at) z n at from (letter.Granted number leaf) f (g from at)).lists number leaf refl)

becomes : (z : Sizes) (cs : List Caller) (n : Net) (e : Event) → z.bricks ≤ 64 → z.libraries ≤ 16 → event.Fits z cs n e → AreStood z n → AreWithin n
    → AreGiven n → ListOnce z n → ((k : ℕ) → NodeFits k (n.node k)) → Becomes NodeFits e
becomes z cs n nothing few some f w v g o h = tt
becomes z cs n (unheard at from l) few some f w v g o h = tt
becomes z cs n (unasked at caller call op) few some f w v g o h = tt
becomes z cs n (brick_takes at from l s) few some f w v g o h =
    let both : IsBoth at (seat s).own = subst (law_own.NodeOk at) f.here (w.own at) in
    let t = letter-turns s from l (of-another z n at from l s few some w.links f both.0.number) in
    let asks : within.BrickOk at s = subst (within.NodeOk at) f.here (v.nodes at) in
    let was : Fits s.order = subst (NodeFits at) f.here (h at) in
    let ok = first-all (within.LetterOk n.node from at) z n at from l f.letter (v.letters from at) in
    let k = kept-path at (seat s) t.first [] t.takes asks.is in
    let from_one = (λ (number : ℕ) (e : said_of l ≡ Some number).
    let it : Asked (a_brick s) number from = subst (λ x. Asked x number from) f.here (ok.answers number e) in k.later number from (it f.live)) in
    let b = kept-heard at from l t.first t.next t.answers t.hears from_one k.next in
    let first = trip-fits at nothing_owed nothing_owed (seat s) t.first [] t.idle asks.is was tt in
    let lists = (λ (number : ℕ) (leaf : Leaf) (e : l ≡ letter.Granted number leaf).
    given-lists z n at from number leaf g o (subst (IsFirst z n at from) e f.letter)) in
    trip-fits at (owed t.hears) nothing_owed t.next (seat (live_brick_turn s from l).state) t.letters t.trip b.next
    (heard-fits from l t.first t.next t.answers t.hears first)
    (heard-owed from l t.first t.next t.next t.answers [] [] t.hears lists)
becomes z cs n (brick_told at c s) few some f w v g o h =
    let asks : within.BrickOk at s = subst (within.NodeOk at) f.here (v.nodes at) in
    let was : Fits s.order = subst (NodeFits at) f.here (h at) in
    trip-fits at told_order nothing_owed (seat s) (seat (brick_input s c).state) (brick_input s c).out.letters (order-goes s c).trip asks.is was
    (tt, tt, λ name leaf e. o.own at s name leaf f.here e)
becomes z cs n (brick_stops at s kept) few some f w v g o h = none-fits
becomes z cs n (library_takes at from l s) few some f w v g o h = tt
becomes z cs n (library_asked at caller call op s) few some f w v g o h = tt
becomes z cs n (library_stops at s kept) few some f w v g o h = tt

pub fits-kept : (z : Sizes) (cs : List Caller) (n : Net) (e : Event) → z.bricks ≤ 64 → z.libraries ≤ 16 → event.Fits z cs n e → AreStood z n
    → AreWithin n → AreGiven n → ListOnce z n → ((k : ℕ) → NodeFits k (n.node k)) → (k : ℕ) → NodeFits k ((moved z n e).node k)
fits-kept z cs n e few some f w v g o h = nodes-moved NodeFits z n e h (becomes z cs n e few some f w v g o h)

-- so this is what is wanted of a world, from the laws of which each event keeps some, and from two others
pub wanted-of : (z : Sizes) (n : Net) → AreStood z n → AreWithin n → AreGiven n → ((k : ℕ) → NodeFits k (n.node k)) → ListOnce z n
    → JoinersAreUnlisted n → Wanted z n
wanted-of z n w v g h o u =
    record {
      stood = w;
      within = v;
      fits = λ k s e. subst (NodeFits k) e (h k);
      once = o.own;
      lists = λ at from number leaf f. given-lists z n at from number leaf g o f;
      senders = λ at from number l f e. (first-all (GiverOk n.node from at) z n at from l f (g from at)).senders number e;
      unlisted = u;
    }
