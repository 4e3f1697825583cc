use Rattle.std.proofs.Common.{◌≡◌, ℕ, ◌&&◌, ◌++◌, Bool, true, false, Option, List, [], ◌∷◌, refl, sym, subst}
use Rattle.std.specs.FinMap.{get}
use Rattle.std.specs.Prelude.{is_some, if◌then◌else◌}
use Rattle.dds_base.specs.Name.{Name}
use Rattle.dds_base.specs.declared.number.NodeNo.{NodeNo}
use Rattle.dds_core.proofs.Lists.{all-append}
use Rattle.dds_core.specs.Brick.{brick_input, live_brick_turn}
use Rattle.dds_history.specs.Map.{Map}
use Rattle.dds_law_own.proofs.LetterWays.{IsOfAnother}
use Rattle.dds_letters.specs.declared.letter.Letter.{Letter}
use Rattle.dds_letters.specs.declared.letter.Letter.TheVariants as letter
use Rattle.dds_letters.specs.declared.refusal.Wanted.TheVariants as wanted
use Rattle.dds_locks.specs.Leases.{is_given}
use Rattle.dds_order_rows.specs.Orders.{copy_part, pairs_after}
use Rattle.dds_orders.proofs.Deeds.{AreOthers, Deed, Path, Seat, asks_more, closes, copies, drops, fixes, is_of_orders, joins, loses, makes, over, pends}
use Rattle.dds_orders.proofs.Deeds.{says, seat, serves, splits, step, takes}
use Rattle.dds_orders.proofs.Turns.{Hears, Turns, copies_not, denies, gives, grants, grants_not, hears_other, installed_not, installs, installs_not}
use Rattle.dds_orders.proofs.Turns.{is_installed, is_refused, learns, letter-turns, order-goes, refused_not, releases, sends_none, sends_part}
use Rattle.dds_orders.proofs.Turns.{copies as copies_part}
use Rattle.dds_states.specs.Turn.{BrickTurn, still, to_each}
use Rattle.dds_states.specs.declared.brick_state.BrickState.{BrickState}
use Rattle.dds_states.specs.declared.brick_state.OpenOrder.{OpenOrder}
use Rattle.dds_copies.proofs.Sources.{sent-if}
use Rattle.dds_copies.specs.Copies.{TellsNext}
use Rattle.dds_copies.specs.Turns.{AllTell, SourceHolds, TurnsTellNext}

-- A brick tells a join of another one the next part as it is asked for it, and nothing at any other letter.

tell-each : (table : Map) (o : OpenOrder) (nodes : List NodeNo) (l : Letter) → TellsNext table o l → AllTell table o (to_each nodes l)
tell-each table o [] l h = tt
tell-each table o (n ∷ ns) l h = (h, tell-each table o ns l h)

other-tells : (table : Map) (o : OpenOrder) (l : Letter) → is_of_orders l ≡ false → TellsNext table o l
other-tells table o (letter.CopyPart number last pairs) h = cc
other-tells table o other h = tt

pub others-tell : (table : Map) (o : OpenOrder) (ls : List (NodeNo × Letter)) → AreOthers ls → AllTell table o ls
others-tell table o [] h = tt
others-tell table o (l ∷ ls) h = (other-tells table o l.1 h.0, others-tell table o ls h.1)

append : (table : Map) (o : OpenOrder) (ls ms : List (NodeNo × Letter)) → AllTell table o ls → AllTell table o ms → AllTell table o (ls ++ ms)
append table o ls ms h k = all-append (λ (p : NodeNo × Letter). TellsNext table o p.1) ls ms h k

-- no deed tells pairs
deed-tells : (table : Map) (q : OpenOrder) (x y : Seat) (ls : List (NodeNo × Letter)) → Deed x ls y → AllTell table q ls
deed-tells table q x _ ls (says _ others) = others-tell table q ls others
deed-tells table q x y ls (takes mine leaf may) = tt
deed-tells table q x y ls (pends p may) = tt
deed-tells table q x y ls (drops txn) = tt
deed-tells table q x y ls (joins name via may) = (tt, tt)
deed-tells table q x y ls (splits leaf may) = tell-each table q _ (letter.Lease x.orders (wanted.Leaf leaf)) tt
deed-tells table q x y ls (loses o n e k) = tt
deed-tells table q x y ls (fixes o from leaf e may) = tell-each table q _ (letter.Lease o.number (wanted.Leaf leaf)) tt
deed-tells table q x y ls (copies o leaf source e may) = (tt, tt)
deed-tells table q x _ ls (asks_more o source e phase) = (tt, tt)
deed-tells table q x y ls (makes o made nodes e may) = tell-each table q nodes (letter.Install o.number made) tt
deed-tells table q x y ls (closes o e) = tell-each table q _ (letter.Release o.number o.name) tt
deed-tells table q x y ls (serves o made e phase) = tell-each table q _ (letter.Release o.number o.name) tt

path-tells : (table : Map) (q : OpenOrder) (x z : Seat) (ls : List (NodeNo × Letter)) → Path x ls z → AllTell table q ls
path-tells table q x _ _ (over _) = tt
path-tells table q x z _ (step _ y _ ls ms d w) = append table q ls ms (deed-tells table q x y ls d) (path-tells table q y z ms w)

-- nor any letter but one that asks for them
abbrev IsNoAsk : Letter → Type 0
IsNoAsk (letter.CopyAsk number name place) = ⊥
IsNoAsk other = Unit {0}

heard-tells : (table : Map) (q : OpenOrder) (from : NodeNo) (x y : Seat) (l : Letter) (ls : List (NodeNo × Letter)) → Hears from x l ls y → IsNoAsk l
    → AllTell table q ls
heard-tells table q from x y l ls (gives number what leaf there free stamp unknown) h = (tt, tt)
heard-tells table q from x y l ls (denies number what why) h = (tt, tt)
heard-tells table q from x y l ls (releases number name) h = tt
heard-tells table q from x y l ls (sends_part number name place last pairs given there) h = absurd h
heard-tells table q from x y l ls (sends_none number name place e) h = tt
heard-tells table q from x y l ls (installs number leaf mine may) h = (tt, tt)
heard-tells table q from x y l ls (installs_not number leaf may_not) h = tt
heard-tells table q from x y l ls (grants number leaf o finds) h = tt
heard-tells table q from x y l ls (grants_not number leaf e) h = tt
heard-tells table q from x y l ls (is_refused number why o finds) h = tell-each table q _ (letter.Release o.number o.name) tt
heard-tells table q from x y l ls (refused_not number why e) h = tt
heard-tells table q from x y l ls (copies_part number last pairs o finds) h = tt
heard-tells table q from x y l ls (copies_not number last pairs e) h = tt
heard-tells table q from x y l ls (is_installed number name o finds) h = tt
heard-tells table q from x y l ls (installed_not number name e) h = tt
heard-tells table q from x y l ls (learns below ne) h = tt
heard-tells table q from x y l ls (hears_other _ other) h = tt

turned : (table : Map) (q : OpenOrder) (from : NodeNo) (x : Seat) (l : Letter) (t : BrickTurn) → Turns from x l t → IsNoAsk l
    → AllTell table q t.out.letters
turned table q from x l t g h =
    subst (AllTell table q) (sym g.all)
    (append table q g.answers g.letters (heard-tells table q from g.first g.next l g.answers g.hears h)
    (path-tells table q g.next (seat t.state) g.letters g.goes))

-- one that asks
asked-if : (table : Map) (s : BrickState) (from : NodeNo) (number : ℕ) (o : OpenOrder) (name : Name) (place : Option ℕ) (c : Bool)
    → (is_given s.locks.leases name from && is_some (get s.leaves name)) ≡ c → SourceHolds table s from o (letter.CopyAsk number name place)
    → AllTell table o (if c then copy_part (pairs_after s.pairs name place) from number s else still s).out.letters
asked-if table s from number o name place false e h = tt
asked-if table s from number o name place true e h =
    ((λ same. (sent-if table s from number o name place true (h same).named (h same).at ((h same).holds e)).0 same), tt)

pub tells : (table : Map) (s : BrickState) (from : NodeNo) (l : Letter) (o : OpenOrder) → IsOfAnother s from l → SourceHolds table s from o l
    → AllTell table o (live_brick_turn s from l).out.letters
tells table s from (letter.CopyAsk number name place) o h k =
    asked-if table s from number o name place (is_given s.locks.leases name from && is_some (get s.leaves name)) refl k
tells table s from other o h k = turned table o from (seat s) other (live_brick_turn s from other) (letter-turns s from other h) tt

pub turns-tell : TurnsTellNext
turns-tell =
    record {
      hears = λ table s from l o below unknown other k. tells table s from l o (record { below = below; unknown = unknown; other = other }) k;
      told = λ table s order o. path-tells table o (seat s) (seat (brick_input s order).state) (brick_input s order).out.letters (order-goes s order).path;
    }
