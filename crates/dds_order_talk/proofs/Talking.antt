use Rattle.std.proofs.Common.{◌≡◌, ℕ, ◌<◌, ◌==◌, true, false, not, Some, None, List, sym, subst}
use Rattle.std.proofs.lemmas.Bool.{ne_eqb}
use Rattle.std.specs.FinMap.{get}
use Rattle.std.specs.List.{AllByRecursion}
use Rattle.dds_base.specs.BrickList.{has}
use Rattle.dds_base.specs.Name.{Name}
use Rattle.dds_base.specs.NodeSet.{has_node}
use Rattle.dds_base.specs.declared.leaf.Leaf.{Leaf}
use Rattle.dds_core.proofs.Lists.{all-map}
use Rattle.dds_law_own.proofs.Keeps as law_own
use Rattle.dds_letters.specs.declared.letter.Letter.{Letter}
use Rattle.dds_letters.specs.declared.letter.Letter.TheVariants as letter
use Rattle.dds_locks.specs.Leases.{is_given}
use Rattle.dds_net.specs.Event.{IsFirst}
use Rattle.dds_net.specs.Net.{Net, Node, nowhere, a_brick, a_library, Sizes}
use Rattle.dds_orders.proofs.Deeds.{nothing_owed, seat}
use Rattle.dds_orders.proofs.Numbered as numbered
use Rattle.dds_orders.proofs.Standing.{Standing, Stood}
use Rattle.dds_orders.proofs.Covered.{Covering}
use Rattle.dds_orders.proofs.Stood.{AreStood, NodeStands}
use Rattle.dds_orders.specs.Law.{said_of}
use Rattle.dds_states.specs.declared.brick_state.BrickState.{BrickState}
use Rattle.dds_states.specs.declared.brick_state.OpenOrder.{OpenOrder}
use Rattle.dds_order_talk.proofs.BrickSide.{Fits, IsCounted, Side}
use Rattle.dds_order_talk.proofs.Letters as within
use Rattle.dds_order_talk.proofs.Letters.{AreWithin, Asked}
use Rattle.dds_order_talk.proofs.Members.{Asks}
use Rattle.dds_order_talk.proofs.Sendings.{Once}
use Rattle.dds_order_talk.proofs.Speaking.{Speaks}
use Rattle.dds_order_talk.specs.Seen.{BrickTalk, New, Own, asks, rests, says, view}
use Rattle.dds_order_talk.specs.Table.{Talks}
use Rattle.dds_order_talk.specs.Table.Talks.{gone}

-- Two nodes of the net that talk by the lines of the table; and what of a world is wanted of other laws, so that an event keeps it.

-- the claim, of two nodes and the channels between them
abbrev pub TalkWith : ℕ → ℕ → BrickState → Node → List Letter → List Letter → Type 0
TalkWith j m s nowhere out back = Unit {0}
TalkWith j m s (a_brick t) out back = (j == m) ≡ false → (x : Name) → BrickTalk rests j m x s t out back
TalkWith j m s (a_library t) out back = Unit {0}

abbrev pub Talking : ℕ → ℕ → Node → Node → List Letter → List Letter → Type 0
Talking j m nowhere y out back = Unit {0}
Talking j m (a_brick s) y out back = TalkWith j m s y out back
Talking j m (a_library s) y out back = Unit {0}

-- what is wanted of the world: laws that stand below, and
--
-- | part | what it says |
-- |---|---|
-- | `fits`     | a split has its leaf, and an order that has all leases; an order's leaf lists each member once, and all that were asked    |
-- | `once`     | own leaves list each member once                                                                                           |
-- | `lists`    | a leaf that is granted lists each member once, and the one that grants                                                    |
-- | `senders`  | only bricks send what is said of an order                                                                                  |
-- | `unlisted` | where a join's name is that of a live member's leaf, the leaf doesn't list the live brick that joins                        |
pub data IsBrick (x : Node) : Type 0 where
  is_brick : (t : BrickState) → x ≡ a_brick t → IsBrick x

pub record Wanted (z : Sizes) (n : Net) : Type 0 where
  pub stood : AreStood z n
  pub within : AreWithin n
  pub fits : (k : ℕ) (s : BrickState) → n.node k ≡ a_brick s → Fits s.order
  pub once : (k : ℕ) (s : BrickState) (at : Name) (leaf : Leaf) → n.node k ≡ a_brick s → get s.leaves at ≡ Some leaf → Once leaf.list
  pub lists :
      (at from number : ℕ) (leaf : Leaf) → IsFirst z n at from (letter.Granted number leaf) → Once leaf.list × (has leaf.list from ≡ true)
  pub senders : (at from number : ℕ) (l : Letter) → IsFirst z n at from l → said_of l ≡ Some number → IsBrick (n.node from)
  pub unlisted :
      (j m : ℕ) (s t : BrickState) (o : OpenOrder) (leaf : Leaf) → n.node j ≡ a_brick s → n.node m ≡ a_brick t → s.stopped ≡ false
      → t.stopped ≡ false → (m ≡ j → ⊥) → s.order ≡ Some o → o.leaf ≡ None → get t.leaves o.name ≡ Some leaf → has leaf.list j ≡ false

-- a live brick of the world
pub stood-at : (z : Sizes) (n : Net) (k : ℕ) (s : BrickState) → Wanted z n → n.node k ≡ a_brick s → Stood k (seat s)
stood-at z n k s w here =
    let it : Standing (seat s).own × Covering (seat s).own = subst (NodeStands k) here (w.stood.stands k) in
    record { both = subst (law_own.NodeOk k) here (w.stood.own k); stands = it.0 }

pub asks-at : (z : Sizes) (n : Net) (k : ℕ) (s : BrickState) → Wanted z n → n.node k ≡ a_brick s → Asks k (seat s)
asks-at z n k s w here = let it : within.BrickOk k s = subst (within.NodeOk k) here (w.within.nodes k) in it.is

pub low-at : (z : Sizes) (n : Net) (k : ℕ) (s : BrickState) → Wanted z n → n.node k ≡ a_brick s → k < 64
low-at z n k s w here = let it : within.BrickOk k s = subst (within.NodeOk k) here (w.within.nodes k) in it.low

pub counted-at : (z : Sizes) (n : Net) (k b : ℕ) (s : BrickState) → Wanted z n → n.node k ≡ a_brick s → s.stopped ≡ false
    → AllByRecursion (IsCounted (seat s)) (n.channel k b)
counted-at z n k b s w here live =
    all-map (numbered.LetterOk n.node k b) (IsCounted (seat s)) (n.channel k b)
    (λ l ok number e.
    let c : numbered.Counts (a_brick s) number l = subst (λ x. numbered.Counts x number l) here (ok.asked number e).1 in c live)
    (w.stood.counted.letters k b)

pub side-at : (z : Sizes) (n : Net) (j m : ℕ) (s t : BrickState) (back : List Letter) → Wanted z n → n.node j ≡ a_brick s → s.stopped ≡ false
    → Speaks j m t rests s.order (n.channel j m) back → Side j m t nothing_owed (seat s) (n.channel j m) back
side-at z n j m s t back w here live h =
    let it : numbered.BrickOk j s = subst (numbered.NodeOk j) here (w.stood.counted.nodes j) in
    record {
      speaks = h;
      stood = stood-at z n j s w here;
      asks = asks-at z n j s w here;
      numbers = it.is;
      counted = counted-at z n j m s w here live;
      fits = w.fits j s here;
      owed = tt;
    }

-- a live brick, and one that stopped
pub speaks-of : (j m : ℕ) (s t : BrickState) (out back : List Letter) → s.stopped ≡ false → has_node s.known m ≡ false
    → ((x : Name) → BrickTalk rests j m x s t out back) → Speaks j m t rests s.order out back
speaks-of j m s t out back live unknown h x =
    subst (λ c. Talks x (Own t.leaves x) (New t.leaves x) (not c) (not t.stopped) (view rests s.order x m) (asks s.order x out)
    (is_given t.locks.leases x j) (says s.order x back)) live (h x unknown)

pub talk-of : (j m : ℕ) (s t : BrickState) (out back : List Letter) (x : Name) → s.stopped ≡ false → Speaks j m t rests s.order out back
    → BrickTalk rests j m x s t out back
talk-of j m s t out back x live h unknown =
    subst (λ c. Talks x (Own t.leaves x) (New t.leaves x) (not c) (not t.stopped) (view rests s.order x m) (asks s.order x out)
    (is_given t.locks.leases x j) (says s.order x back)) (sym live) (h x)

pub talk-gone : (j m : ℕ) (s t : BrickState) (out back : List Letter) (x : Name) → s.stopped ≡ true → BrickTalk rests j m x s t out back
talk-gone j m s t out back x stopped unknown =
    subst (λ c. Talks x (Own t.leaves x) (New t.leaves x) (not c) (not t.stopped) (view rests s.order x m) (asks s.order x out)
    (is_given t.locks.leases x j) (says s.order x back)) (sym stopped) gone

-- the claim of all bricks
pub with-of : (j m : ℕ) (s t : BrickState) (x y : Node) (out back : List Letter) → x ≡ a_brick s → y ≡ a_brick t → (j ≡ m → ⊥)
    → Talking j m x y out back → (n : Name) → BrickTalk rests j m n s t out back
with-of j m s t x y out back e f ne h =
    let k : TalkWith j m s y out back = subst (λ i. Talking j m i y out back) e h in
    let q : (j == m) ≡ false → (n : Name) → BrickTalk rests j m n s t out back = subst (λ i. TalkWith j m s i out back) f k in
    q (ne_eqb j m ne)
