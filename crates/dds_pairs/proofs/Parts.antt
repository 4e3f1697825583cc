use Rattle.std.proofs.Common.{◌≡◌, ℕ, zero, suc, ◌&&◌, Bool, true, false, Option, Some, None, List, [], ◌∷◌, refl, sym, subst}
use Rattle.std.proofs.lemmas.Bool.{and_from, and_parts}
use Rattle.std.specs.FinMap.{get}
use Rattle.std.specs.List.{AllByRecursion}
use Rattle.std.specs.Prelude.{is_some, take, if◌then◌else◌}
use Rattle.dds_base.specs.Name.{Name}
use Rattle.dds_base.specs.Place.{is_after, rise_after}
use Rattle.dds_base.specs.declared.number.NodeNo.{NodeNo}
use Rattle.dds_base.specs.declared.pair.Pair.{Pair}
use Rattle.dds_core.proofs.Lists.{all-append, all-map}
use Rattle.dds_core.specs.Brick.{live_brick_turn}
use Rattle.dds_law_own.proofs.LetterWays.{IsOfAnother}
use Rattle.dds_letters.specs.declared.letter.Letter.{Letter}
use Rattle.dds_letters.specs.declared.letter.Letter.TheVariants as letter
use Rattle.dds_locks.specs.Leases.{is_given}
use Rattle.dds_order_rows.specs.Orders.{copy_part, pairs_after}
use Rattle.dds_orders.proofs.Deeds.{AreOthers, Deed, Path, Seat, asks_more, closes, copies, drops, fixes, is_of_orders, joins, loses, makes, over, pends, says}
use Rattle.dds_orders.proofs.Deeds.{serves, splits, step, takes}
use Rattle.dds_orders.proofs.Turns.{Hears, copies_not, denies, gives, grants, grants_not, hears_other, installed_not, installs, installs_not, letter-turns}
use Rattle.dds_orders.proofs.Turns.{is_installed, is_refused, learns, refused_not, releases, sends_none, sends_part}
use Rattle.dds_orders.proofs.Turns.{copies as copies_part}
use Rattle.dds_states.specs.Turn.{still, to_each}
use Rattle.dds_states.specs.declared.brick_state.BrickState.{BrickState}
use Rattle.dds_pairs.proofs.Bindings.{after-rises}
use Rattle.dds_pairs.proofs.Copies.{PartRises}

-- The pairs of each part that a brick sends rise: it sends one at a CopyAsk alone.

abbrev pub AllRise : List (NodeNo × Letter) → Type 0
AllRise ls = AllByRecursion (λ (p : NodeNo × Letter). PartRises p.1) ls

-- the first of pairs that rise
pub take-rises : (n : ℕ) (after : Option ℕ) (ps : List Pair) → rise_after after ps ≡ true → rise_after after (take n ps) ≡ true
take-rises zero after ps h = refl
take-rises (suc n) after [] h = refl
take-rises (suc n) after (p ∷ ps) h =
    let parts = and_parts (is_after after p.key) (rise_after (Some p.key) ps) h in
    and_from (is_after after p.key) (rise_after (Some p.key) (take n ps)) parts.0 (take-rises n (Some p.key) ps parts.1)

each-rises : (nodes : List NodeNo) (l : Letter) → PartRises l → AllRise (to_each nodes l)
each-rises [] l h = tt
each-rises (n ∷ ns) l h = (h, each-rises ns l h)

other-rises : (l : Letter) → is_of_orders l ≡ false → PartRises l
other-rises (letter.CopyPart number last pairs) e = cc
other-rises other e = tt

pub others-rise : (ls : List (NodeNo × Letter)) → AreOthers ls → AllRise ls
others-rise ls h = all-map (λ (p : NodeNo × Letter). is_of_orders p.1 ≡ false) (λ p. PartRises p.1) ls (λ p e. other-rises p.1 e) h

deed-rises : (x y : Seat) (ls : List (NodeNo × Letter)) → Deed x ls y → AllRise ls
deed-rises x _ ls (says _ others) = others-rise ls others
deed-rises x y ls (takes mine leaf may) = tt
deed-rises x y ls (pends p may) = tt
deed-rises x y ls (drops txn) = tt
deed-rises x y ls (joins name via may) = (tt, tt)
deed-rises x y ls (splits leaf may) = each-rises _ _ tt
deed-rises x y ls (loses o n e k) = tt
deed-rises x y ls (fixes o from leaf e may) = each-rises _ _ tt
deed-rises x y ls (copies o leaf source e may) = (tt, tt)
deed-rises x _ ls (asks_more o source e phase) = (tt, tt)
deed-rises x y ls (makes o made nodes e may) = each-rises _ _ tt
deed-rises x y ls (closes o e) = each-rises _ _ tt
deed-rises x y ls (serves o made e phase) = each-rises _ _ tt

pub path-rises : (x z : Seat) (ls : List (NodeNo × Letter)) → Path x ls z → AllRise ls
path-rises x _ _ (over _) = tt
path-rises x z _ (step _ y _ ls ms d w) = all-append (λ (p : NodeNo × Letter). PartRises p.1) ls ms (deed-rises x y ls d) (path-rises y z ms w)

-- a letter that asks for no pairs
abbrev AsksNone : Letter → Type 0
AsksNone (letter.CopyAsk number name place) = ⊥
AsksNone other = Unit {0}

heard-rises : (from : ℕ) (l : Letter) (x y : Seat) (ls : List (NodeNo × Letter)) → Hears from x l ls y → AsksNone l → AllRise ls
heard-rises from l x y ls (gives number what leaf there free stamp unknown) a = (tt, tt)
heard-rises from l x _ ls (denies number what why) a = (tt, tt)
heard-rises from l x y ls (releases number name) a = tt
heard-rises from l x _ ls (sends_part number name place last pairs given there) a = absurd a
heard-rises from l x _ ls (sends_none number name place e) a = tt
heard-rises from l x y ls (installs number leaf mine may) a = (tt, tt)
heard-rises from l x _ ls (installs_not number leaf f) a = tt
heard-rises from l x y ls (grants number leaf o f) a = tt
heard-rises from l x _ ls (grants_not number leaf e) a = tt
heard-rises from l x y ls (is_refused number why o f) a = each-rises _ _ tt
heard-rises from l x _ ls (refused_not number why e) a = tt
heard-rises from l x y ls (copies_part number last pairs o f) a = tt
heard-rises from l x _ ls (copies_not number last pairs e) a = tt
heard-rises from l x y ls (is_installed number name o f) a = tt
heard-rises from l x _ ls (installed_not number name e) a = tt
heard-rises from l x y ls (learns below other) a = tt
heard-rises from l x _ ls (hears_other _ e) a = tt

asked-rises : (s : BrickState) (from : NodeNo) (number : ℕ) (name : Name) (after : Option ℕ) (c : Bool)
    → AllRise (if c then copy_part (pairs_after s.pairs name after) from number s else still s).out.letters
asked-rises s from number name after true = (take-rises 32 None (pairs_after s.pairs name after) (after-rises s.pairs name after), tt)
asked-rises s from number name after false = tt

turned-rises : (s : BrickState) (from : NodeNo) (l : Letter) → IsOfAnother s from l → AsksNone l → AllRise (live_brick_turn s from l).out.letters
turned-rises s from l h a =
    let t = letter-turns s from l h in
    subst AllRise (sym t.all) (all-append (λ (p : NodeNo × Letter). PartRises p.1) t.answers t.letters
    (heard-rises from l t.first t.next t.answers t.hears a) (path-rises t.next _ t.letters t.goes))

pub turn-rises : (s : BrickState) (from : NodeNo) (l : Letter) → IsOfAnother s from l → AllRise (live_brick_turn s from l).out.letters
turn-rises s from (letter.CopyAsk number name after) h = asked-rises s from number name after (is_given s.locks.leases name from && is_some (get s.leaves name))
turn-rises s from (letter.Get txn caller call key name stamp) h = turned-rises s from (letter.Get txn caller call key name stamp) h tt
turn-rises s from other h = turned-rises s from other h tt
