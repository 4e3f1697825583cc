use Rattle.std.proofs.Common.{◌≡◌, ℕ, Some, None, List, [], ◌∷◌, refl, sym, subst, arith}
use Rattle.dds_base.specs.declared.number.NodeNo.{NodeNo}
use Rattle.dds_letters.specs.declared.letter.Letter.{Letter}
use Rattle.dds_orders.proofs.Deeds.{Deed, Path, Seat, asks_more, closes, copies, drops, fixes, joins, loses, makes, over, pends, says, serves, splits, step}
use Rattle.dds_orders.proofs.Deeds.{new_order, split_asked, takes}
use Rattle.dds_orders.proofs.Turns.{Hears, copies_not, denies, gives, grants, grants_not, hears_other, installed_not, installs, installs_not}
use Rattle.dds_orders.proofs.Turns.{is_installed, is_refused, learns, refused_not, releases, sends_none, sends_part}
use Rattle.dds_orders.proofs.Turns.{copies as copies_part}
use Rattle.dds_states.specs.declared.brick_state.OpenOrder.{OpenOrder}
use Rattle.dds_states.specs.declared.brick_state.OrderPhase.TheVariants.{Copying}
use Rattle.dds_states.specs.declared.brick_state.Task.TheVariants.{Join, Split}
use Rattle.dds_room.proofs.Gains.{IsSmall, OrderSmall, part-small}

-- What an order has copied stays at most the limit: a part is heard only where it fits.

one-is : (p : OpenOrder) → IsSmall p.name p.copied → OrderSmall (Some p)
one-is p h o e = let is : p ≡ o = cc in subst (λ (x : OpenOrder). IsSmall x.name x.copied) is h

nothing : (p : OpenOrder) → p.copied ≡ [] → IsSmall p.name p.copied
nothing p e = subst (IsSmall p.name) (sym e) (record { under = tt; few = omega arith })

deed-small : (x y : Seat) (ls : List (NodeNo × Letter)) → Deed x ls y → OrderSmall x.own.order → OrderSmall y.own.order
deed-small x _ ls (says _ others) h = h
deed-small x y ls (takes mine leaf may) h = h
deed-small x y ls (pends p may) h = h
deed-small x y ls (drops txn) h = h
deed-small x y ls (joins name via may) h =
    let o = new_order x (Join via) name None (via ∷ []) in one-is o (nothing o refl)
deed-small x y ls (splits leaf may) h =
    let o = new_order x Split leaf.name (Some leaf) (split_asked x leaf) in one-is o (nothing o refl)
deed-small x y ls (loses o n e k) h = one-is _ (h o e)
deed-small x y ls (fixes o from leaf e may) h = one-is _ (h o e)
deed-small x y ls (copies o leaf source e may) h =
    let p = record o { copied = []; phase = Copying source } in one-is p (nothing p refl)
deed-small x _ ls (asks_more o source e phase) h = h
deed-small x y ls (makes o made nodes e may) h = one-is _ (h o e)
deed-small x y ls (closes o e) h = λ o e. cc
deed-small x y ls (serves o made e phase) h = λ o e. cc

pub path-small : (x z : Seat) (ls : List (NodeNo × Letter)) → Path x ls z → OrderSmall x.own.order → OrderSmall z.own.order
path-small x _ _ (over _) h = h
path-small x z _ (step _ y _ ls ms d w) h = path-small y z ms w (deed-small x y ls d h)

pub heard-small : (from : ℕ) (l : Letter) (x y : Seat) (ls : List (NodeNo × Letter)) → Hears from x l ls y → OrderSmall x.own.order
    → OrderSmall y.own.order
heard-small from l x y ls (gives number what leaf there free stamp unknown) h = h
heard-small from l x _ ls (denies number what why) h = h
heard-small from l x y ls (releases number name) h = h
heard-small from l x _ ls (sends_part number name place last pairs given there) h = h
heard-small from l x _ ls (sends_none number name place e) h = h
heard-small from l x y ls (installs number leaf mine may) h = h
heard-small from l x _ ls (installs_not number leaf f) h = h
heard-small from l x y ls (grants number leaf o f) h = one-is _ (h o f.there)
heard-small from l x _ ls (grants_not number leaf e) h = h
heard-small from l x y ls (is_refused number why o f) h = λ o e. cc
heard-small from l x _ ls (refused_not number why e) h = h
heard-small from l x y ls (copies_part number last pairs o f) h = one-is _ (part-small from o pairs f.passes (h o f.there))
heard-small from l x _ ls (copies_not number last pairs e) h = h
heard-small from l x y ls (is_installed number name o f) h = one-is _ (h o f.there)
heard-small from l x _ ls (installed_not number name e) h = h
heard-small from l x y ls (learns below other) h = h
heard-small from l x _ ls (hears_other _ e) h = h
