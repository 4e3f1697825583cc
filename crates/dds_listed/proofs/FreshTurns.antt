use Rattle.std.proofs.Common.{◌≡◌, ℕ, ◌+◌, ◌≤◌, ◌==◌, ◌&&◌, ◌||◌, Bool, true, false, not, Option, Some, None, List, [], ◌∷◌, refl, sym, subst}
use Rattle.std.proofs.Common.{arith}
use Rattle.std.proofs.lemmas.Bool.{and_parts, eqb-true}
use Rattle.std.specs.FinMap.{get, remove}
use Rattle.std.specs.List.{AllByRecursion}
use Rattle.std.specs.Prelude.{is_some, if◌then◌else◌}
use Rattle.dds_base.specs.Name.{Name}
use Rattle.dds_base.specs.NodeSet.{has_node}
use Rattle.dds_base.specs.declared.leaf.Leaf.{Leaf}
use Rattle.dds_base.specs.declared.number.NodeNo.{NodeNo}
use Rattle.dds_core.proofs.Lists.{all-append, all-map}
use Rattle.dds_core.specs.Brick.{live_brick_turn}
use Rattle.dds_groups.proofs.Steps.{successor-epoch}
use Rattle.dds_groups.specs.Leaves.{newer, same_stamp, sibling, successor}
use Rattle.dds_groups.specs.Take.{is_better_rival, maker_known}
use Rattle.dds_groups.specs.declared.successor.Change.{Change}
use Rattle.dds_law_leaf.proofs.Book.{Each, InLetter, InMap, InOrder}
use Rattle.dds_law_leaf.proofs.Maps.{each-is, in-put, in-remove}
use Rattle.dds_law_own.proofs.Changes.{served}
use Rattle.dds_letters.specs.declared.letter.Letter.{Letter}
use Rattle.dds_letters.specs.declared.letter.Letter.TheVariants as letter
use Rattle.dds_letters.specs.declared.refusal.Wanted.TheVariants as wanted
use Rattle.dds_maps.specs.Own.{own_leaf, whole}
use Rattle.dds_order_rows.specs.OwnOrder as order
use Rattle.dds_orders.proofs.Deeds.{AreOthers, Deed, Leaves, Seat, Staged, Trip, arrives, asks_more, closes, copies, copies_none, does_next, drops}
use Rattle.dds_orders.proofs.Deeds.{Stage, fixes, is_of_orders, joins, leaf_owed, loses, makes, nothing_owed, owed_at, pends, refuses, says}
use Rattle.dds_orders.proofs.Deeds.{seat, serves, split_asked, splits, splits_none, stays, takes, wanted_name}
use Rattle.dds_orders.proofs.Turns.{Hears, Turns, owed}
use Rattle.dds_orders.proofs.Turns.{copies as copied, copies_not as copied_not, denies, gives, grants, grants_not, hears_other, installed_not, installs}
use Rattle.dds_orders.proofs.Turns.{installs_not, is_installed, is_refused, learns, refused_not, releases, sends_none, sends_part}
use Rattle.dds_states.specs.Turn.{to_each, unknown, unknown_others}
use Rattle.dds_states.specs.declared.brick_state.BrickState.{BrickState}
use Rattle.dds_states.specs.declared.brick_state.OpenOrder.{OpenOrder}
use Rattle.dds_states.specs.declared.brick_state.OrderPhase.{OrderPhase}
use Rattle.dds_states.specs.declared.brick_state.OrderPhase.TheVariants.{Installing}
use Rattle.dds_states.specs.declared.brick_state.Task.{Task}
use Rattle.dds_states.specs.declared.brick_state.Task.TheVariants.{Join, Split}
use Rattle.dds_trie.specs.Trie.{LeafMap, or_else, put}
use Rattle.dds_world.specs.Groups.{made_leaf}
use Rattle.dds_listed.proofs.Replaced.{in-replaced}

-- A brick whose leaves aren't stale ones of the opening takes, installs and makes no such leaf in a turn, and tells none in Lease, Granted and
-- Install.

abbrev pub IsFresh : Leaf → Type 0
IsFresh leaf = 1 ≤ leaf.epoch

-- the letters of orders but for refusals
abbrev pub FreshLetter : Letter → Type 0
FreshLetter (letter.Lease number what) = InLetter IsFresh (letter.Lease number what)
FreshLetter (letter.Granted number leaf) = IsFresh leaf
FreshLetter (letter.Install number leaf) = IsFresh leaf
FreshLetter other = Unit {0}

abbrev pub FreshLetters : List (NodeNo × Letter) → Type 0
FreshLetters ls = AllByRecursion (λ (p : NodeNo × Letter). FreshLetter p.1) ls

-- the leaf that came with a first grant
abbrev pub OwesFresh : Stage → Type 0
OwesFresh (leaf_owed from leaf) = IsFresh leaf
OwesFresh other = Unit {0}

abbrev pub FreshSeat : Seat → Type 0
FreshSeat x = InMap IsFresh x.own.leaves × InOrder IsFresh x.own.order

-- letters
letters-each : (ns : List NodeNo) (l : Letter) → FreshLetter l → FreshLetters (to_each ns l)
letters-each [] l h = tt
letters-each (n ∷ ns) l h = (h, letters-each ns l h)

of-other : (l : Letter) → is_of_orders l ≡ false → FreshLetter l
of-other (letter.Lease number what) h = cc
of-other (letter.Granted number leaf) h = cc
of-other (letter.Install number leaf) h = cc
of-other other h = tt

pub others-fresh : (ls : List (NodeNo × Letter)) → AreOthers ls → FreshLetters ls
others-fresh ls h = all-map (λ (p : NodeNo × Letter). is_of_orders p.1 ≡ false) (λ p. FreshLetter p.1) ls (λ p k. of-other p.1 k) h

-- a leaf in the place of an own one
after-one : (n m : ℕ) → n ≡ m + 1 → 1 ≤ n
after-one n m e = omega (arith, e)

pub successor-fresh : (mine leaf : Leaf) (q : Option Change) → successor mine leaf ≡ q → is_some q ≡ true → IsFresh leaf
successor-fresh mine leaf None e h = cc
successor-fresh mine leaf (Some change) e h = after-one leaf.epoch mine.epoch (successor-epoch mine leaf change e)

rival-epoch : (known : ℕ → Bool) (mine leaf : Leaf) → is_better_rival known mine leaf ≡ true → mine.epoch ≡ leaf.epoch
rival-epoch known mine leaf h =
    let one = same_stamp mine.prev leaf.prev in
    let two = mine.epoch == leaf.epoch in
    let three = not (same_stamp mine.stamp leaf.stamp) in
    let four = maker_known known mine.stamp in
    let a = and_parts (one && two && three && four) (newer leaf mine) h in
    let b = and_parts (one && two && three) four a.0 in
    let c = and_parts (one && two) three b.0 in
    eqb-true mine.epoch leaf.epoch (and_parts one two c.0).1

pub comes-fresh : (known : ℕ → Bool) (mine leaf : Leaf) → (is_some (successor mine leaf) || is_better_rival known mine leaf) ≡ true → IsFresh mine
    → IsFresh leaf
comes-fresh known mine leaf comes h = by (is_some (successor mine leaf)) refl comes
  where
    by : (c : Bool) → is_some (successor mine leaf) ≡ c → (c || is_better_rival known mine leaf) ≡ true → IsFresh leaf
    by true e i = successor-fresh mine leaf (successor mine leaf) refl e
    by false e i = subst (λ n. 1 ≤ n) (rival-epoch known mine leaf i) h

own-if : (P : Leaf → Type 0) (m : LeafMap) (n : Name) (x : Option Leaf) (c : Bool) → Each P x → Each P (get m (whole n))
    → Each P (or_else x (if c then None else get m (whole n)))
own-if P m n (Some l) c h k = h
own-if P m n None true h k = tt
own-if P m n None false h k = k

pub in-own : (P : Leaf → Type 0) (m : LeafMap) (n : Name) (mine : Leaf) → own_leaf m n ≡ Some mine → InMap P m → P mine
in-own P m n mine e h = each-is P (own_leaf m n) mine e (own-if P m n (get m n) (n.depth == 0) (h n) (h (whole n)))

-- what an order makes
pub made-fresh : (s : BrickState) (o : OpenOrder) (leaf : Leaf) (t : Task) → IsFresh (order.made_leaf s o leaf t)
made-fresh s o leaf (Join via) = after-one (leaf.epoch + 1) leaf.epoch refl
made-fresh s o leaf Split = after-one (leaf.epoch + 1) leaf.epoch refl

-- an order's leaves
abbrev AreFresh : OpenOrder → Type 0
AreFresh o = Each IsFresh o.leaf × Each IsFresh (made_leaf o.phase)

its-leaves : (q : Option OpenOrder) (o : OpenOrder) → q ≡ Some o → InOrder IsFresh q → AreFresh o
its-leaves q o e h = subst (InOrder IsFresh) e h

was-fresh : (p : OrderPhase) (made : Leaf) → p ≡ Installing made → Each IsFresh (made_leaf p) → IsFresh made
was-fresh p made e h = subst (λ i. Each IsFresh (made_leaf i)) e h

served-fresh : (m : LeafMap) (o : OpenOrder) (made : Leaf) (t : Task) → IsFresh made → InMap IsFresh m → InMap IsFresh (served m o made t)
served-fresh m o made (Join via) h all = in-put IsFresh m made h all
served-fresh m o made Split h all =
    in-put IsFresh (put (remove m o.name) made) (sibling made) h (in-put IsFresh (remove m o.name) made h (in-remove IsFresh m o.name all))

-- after a deed
record Fresh (y : Seat) (ls : List (NodeNo × Letter)) (b : Stage) : Type 0 where
  leaves : FreshSeat y
  letters : FreshLetters ls
  owes : OwesFresh b

none-owed : (b : Stage) → b ≡ nothing_owed → OwesFresh b
none-owed b e = subst OwesFresh (sym e) tt

left-owed : (x : Seat) (a b : Stage) → Leaves x a b → OwesFresh a → OwesFresh b
left-owed x a b (stays e) h = subst OwesFresh e h
left-owed x a b (refuses e f) h = none-owed b f
left-owed x a b (copies_none o is none e f) h = none-owed b f
left-owed x a b (splits_none o is none e f) h = none-owed b f

deed-fresh : (a b : Stage) (x y : Seat) (ls : List (NodeNo × Letter)) (d : Deed x ls y) → Staged a b d → OwesFresh a → FreshSeat x → Fresh y ls b
deed-fresh a b x _ _ (says ls others) q o h = record { leaves = h; letters = others-fresh ls others; owes = left-owed x a b q o }
deed-fresh a b x _ _ (takes mine leaf may) q o h =
    let its = comes-fresh (has_node x.own.known) mine leaf may.comes (in-own IsFresh x.own.leaves leaf.name mine may.there h.0) in
    record { leaves = (in-replaced IsFresh x.own.leaves mine leaf its (λ e. its) h.0, h.1); letters = tt; owes = none-owed b q.1 }
deed-fresh a b x _ _ (pends p may) q o h = record { leaves = h; letters = tt; owes = none-owed b q.1 }
deed-fresh a b x _ _ (drops txn) q o h = record { leaves = h; letters = tt; owes = none-owed b q.1 }
deed-fresh a b x _ _ (joins name via may) q o h = record { leaves = (h.0, (tt, tt)); letters = (tt, tt); owes = none-owed b q.1 }
deed-fresh a b x _ _ (splits leaf may) q o h =
    let its : IsFresh leaf = each-is IsFresh (get x.own.leaves may.at) leaf may.there (h.0 may.at) in
    record {
      leaves = (h.0, (its, tt));
      letters = letters-each (split_asked x leaf) (letter.Lease x.orders (wanted.Leaf leaf)) its;
      owes = none-owed b q.1;
    }
deed-fresh a b x _ _ (loses p y there known) q o h =
    record { leaves = (h.0, its-leaves x.own.order p there h.1); letters = tt; owes = none-owed b q.1 }
deed-fresh a b x _ _ (fixes p from leaf there may) q o h =
    let its : IsFresh leaf = subst OwesFresh q.0 o in
    record {
      leaves = (h.0, (its, (its-leaves x.own.order p there h.1).1));
      letters = letters-each (unknown_others leaf.list from x.own.known) (letter.Lease p.number (wanted.Leaf leaf)) its;
      owes = none-owed b q.1;
    }
deed-fresh a b x _ _ (copies p leaf source there may) q o h =
    record { leaves = (h.0, ((its-leaves x.own.order p there h.1).0, tt)); letters = (tt, tt); owes = none-owed b q.1 }
deed-fresh a b x _ _ (asks_more p source there phase) q o h = record { leaves = h; letters = (tt, tt); owes = none-owed b q.1 }
deed-fresh a b x _ _ (makes p made nodes there may) q o h =
    let its : IsFresh made = subst IsFresh (sym may.may.is) (made-fresh may.may.state p may.may.leaf p.task) in
    record {
      leaves = (h.0, ((its-leaves x.own.order p there h.1).0, its));
      letters = letters-each nodes (letter.Install p.number made) its;
      owes = none-owed b q.1;
    }
deed-fresh a b x _ _ (closes p there) q o h =
    record {
      leaves = (h.0, tt);
      letters = letters-each (unknown p.asked x.own.known) (letter.Release p.number p.name) tt;
      owes = none-owed b q.next;
    }
deed-fresh a b x _ _ (serves p made there phase) q o h =
    let its = was-fresh p.phase made phase (its-leaves x.own.order p there h.1).1 in
    record {
      leaves = (served-fresh x.own.leaves p made p.task its h.0, tt);
      letters = letters-each (unknown p.granted x.own.known) (letter.Release p.number p.name) tt;
      owes = none-owed b q.1;
    }

abbrev pub Kept : Seat → List (NodeNo × Letter) → Type 0
Kept y ls = FreshSeat y × FreshLetters ls

pub trip-fresh : {a b : Stage} {x y : Seat} {ls : List (NodeNo × Letter)} → Trip a x ls b y → OwesFresh a → FreshSeat x → Kept y ls
trip-fresh (arrives _ _) o h = (h, tt)
trip-fresh (does_next a b c x y z ls ms d q w) o h =
    let k = deed-fresh a b x y ls d q o h in
    let r = trip-fresh w k.owes k.leaves in
    (r.0, all-append (λ (p : NodeNo × Letter). FreshLetter p.1) ls ms k.letters r.1)

owed-fresh : (q : Option Leaf) (from : NodeNo) (leaf : Leaf) → IsFresh leaf → OwesFresh (owed_at q from leaf)
owed-fresh None from leaf h = h
owed-fresh (Some fixed) from leaf h = tt

hear-fresh : (from : NodeNo) (x y : Seat) (l : Letter) (ls : List (NodeNo × Letter)) (h : Hears from x l ls y) → FreshLetter l → FreshSeat x
    → Fresh y ls (owed h)
hear-fresh from x _ _ _ (gives number what leaf there free found unknown) k h =
    record { leaves = h; letters = (each-is IsFresh (get x.own.leaves (wanted_name what)) leaf there (h.0 (wanted_name what)), tt); owes = tt }
hear-fresh from x _ _ _ (denies number what why) k h = record { leaves = h; letters = (tt, tt); owes = tt }
hear-fresh from x _ _ _ (releases number name) k h = record { leaves = h; letters = tt; owes = tt }
hear-fresh from x _ _ _ (sends_part number name place last pairs given there) k h = record { leaves = h; letters = (tt, tt); owes = tt }
hear-fresh from x _ _ _ (sends_none number name place none) k h = record { leaves = h; letters = tt; owes = tt }
hear-fresh from x _ _ _ (installs number leaf mine may) k h =
    let its = successor-fresh mine leaf (successor mine leaf) refl may.comes in
    record { leaves = (in-replaced IsFresh x.own.leaves mine leaf its (λ e. its) h.0, h.1); letters = (tt, tt); owes = tt }
hear-fresh from x _ _ _ (installs_not number leaf none) k h = record { leaves = h; letters = tt; owes = tt }
hear-fresh from x _ _ _ (grants number leaf o finds) k h =
    record { leaves = (h.0, its-leaves x.own.order o finds.there h.1); letters = tt; owes = owed-fresh o.leaf from leaf k }
hear-fresh from x _ _ _ (grants_not number leaf none) k h = record { leaves = h; letters = tt; owes = tt }
hear-fresh from x _ _ _ (is_refused number why o finds) k h =
    record { leaves = (h.0, tt); letters = letters-each (unknown o.asked x.own.known) (letter.Release o.number o.name) tt; owes = tt }
hear-fresh from x _ _ _ (refused_not number why none) k h = record { leaves = h; letters = tt; owes = tt }
hear-fresh from x _ _ _ (copied number last pairs o finds) k h =
    record { leaves = (h.0, its-leaves x.own.order o finds.there h.1); letters = tt; owes = tt }
hear-fresh from x _ _ _ (copied_not number last pairs none) k h = record { leaves = h; letters = tt; owes = tt }
hear-fresh from x _ _ _ (is_installed number name o finds) k h =
    record { leaves = (h.0, its-leaves x.own.order o finds.there h.1); letters = tt; owes = tt }
hear-fresh from x _ _ _ (installed_not number name none) k h = record { leaves = h; letters = tt; owes = tt }
hear-fresh from x _ _ _ (learns low other) k h = record { leaves = h; letters = tt; owes = tt }
hear-fresh from x _ _ _ (hears_other l none) k h = record { leaves = h; letters = tt; owes = tt }

-- a brick's turn
pub letter-fresh : (s : BrickState) (from : NodeNo) (l : Letter) → Turns from (seat s) l (live_brick_turn s from l) → FreshLetter l → FreshSeat (seat s)
    → Kept (seat (live_brick_turn s from l).state) (live_brick_turn s from l).out.letters
letter-fresh s from l t k ok =
    let a = trip-fresh t.idle tt ok in
    let b = hear-fresh from t.first t.next l t.answers t.hears k a.0 in
    let c = trip-fresh t.trip b.owes b.leaves in
    (c.0, subst FreshLetters (sym t.all) (all-append (λ (p : NodeNo × Letter). FreshLetter p.1) t.answers t.letters b.letters c.1))
