use Rattle.std.proofs.Common.{◌≡◌, ℕ, ◌+◌, ◌&&◌, ◌++◌, Bool, true, Option, Some, None, List, [], ◌∷◌, refl, sym, ap, ◌∙◌, subst}
use Rattle.std.proofs.lemmas.Bool.{and_from, and_parts}
use Rattle.std.specs.List.{AllByRecursion, list_all}
use Rattle.std.specs.Prelude.{length, nat_le}
use Rattle.dds_base.specs.Name.{covers}
use Rattle.dds_base.specs.Place.{is_after, last_key, rise_after}
use Rattle.dds_base.specs.declared.number.NodeNo.{NodeNo}
use Rattle.dds_base.specs.declared.pair.Pair.{Pair}
use Rattle.dds_brick_rows.specs.declared.refusal.TheConstants.{PAIRS}
use Rattle.dds_core.proofs.Lists.{all-append}
use Rattle.dds_letters.specs.declared.letter.Letter.{Letter}
use Rattle.dds_letters.specs.declared.letter.Letter.TheVariants as letter
use Rattle.dds_order_rows.specs.OwnOrder as order
use Rattle.dds_states.specs.declared.brick_state.OpenOrder.{OpenOrder}
use Rattle.dds_states.specs.declared.brick_state.OrderPhase.{OrderPhase}
use Rattle.dds_states.specs.declared.brick_state.OrderPhase.TheVariants.{Copying, Installing, Leasing}
use Rattle.dds_orders.proofs.Deeds.{Deed, Path, Seat, asks_more, closes, copies, drops, fixes, joins, loses, makes, over, pends, says, serves, splits, step}
use Rattle.dds_orders.proofs.Deeds.{takes}
use Rattle.dds_orders.proofs.Turns.{Hears, copies_not, denies, gives, grants, grants_not, hears_other, installed_not, installs, installs_not}
use Rattle.dds_orders.proofs.Turns.{is_installed, is_refused, learns, refused_not, releases, sends_none, sends_part}
use Rattle.dds_orders.proofs.Turns.{copies as copies_part}
use Rattle.dds_pairs.specs.Copied.{HasCopied}

-- What each deed and each letter does to an order's copied pairs.

abbrev pub OrderCopied : Option OpenOrder → Type 0
OrderCopied q = (o : OpenOrder) → q ≡ Some o → HasCopied o

-- places that rise go on behind others
pub rise-append : (after : Option ℕ) (xs ys : List Pair) → rise_after after xs ≡ true → rise_after (last_key after xs) ys ≡ true
    → rise_after after (xs ++ ys) ≡ true
rise-append after [] ys h k = k
rise-append after (x ∷ xs) ys h k =
    let parts = and_parts (is_after after x.key) (rise_after (Some x.key) xs) h in
    and_from (is_after after x.key) (rise_after (Some x.key) (xs ++ ys)) parts.0 (rise-append (Some x.key) xs ys parts.1 k)

pub rise-from : (after : Option ℕ) (ps : List Pair) → rise_after None ps ≡ true → order.starts_after after ps ≡ true → rise_after after ps ≡ true
rise-from after [] h k = refl
rise-from after (p ∷ ps) h k = and_from (is_after after p.key) (rise_after (Some p.key) ps) k h

pub all-pass : (test : Pair → Bool) (ps : List Pair) → list_all test ps ≡ true → AllByRecursion (λ p. test p ≡ true) ps
all-pass test [] h = tt
all-pass test (p ∷ ps) h = let parts = and_parts (test p) (list_all test ps) h in (parts.0, all-pass test ps parts.1)

-- an order that has copied nothing
fresh : (o : OpenOrder) → o.copied ≡ [] → HasCopied o
fresh o e =
    record {
      under = subst (AllByRecursion (λ (p : Pair). covers o.name p.key ≡ true)) (sym e) tt;
      rise = ap (rise_after None) e;
      none = λ l. e;
    }

-- the same copies, while the order leases only where it did
same : (o p : OpenOrder) → p.name ≡ o.name → p.copied ≡ o.copied → (order.is_leasing p.phase ≡ true → order.is_leasing o.phase ≡ true) → HasCopied o
    → HasCopied p
same o p name copied f h =
    record {
      under = subst (λ n. AllByRecursion (λ (x : Pair). covers n x.key ≡ true) p.copied) (sym name)
          (subst (AllByRecursion (λ (x : Pair). covers o.name x.key ≡ true)) (sym copied) h.under);
      rise = ap (rise_after None) copied ∙ h.rise;
      none = λ l. copied ∙ h.none (f l);
    }

one-is : (p : OpenOrder) → HasCopied p → (o : OpenOrder) → Some p ≡ Some o → HasCopied o
one-is p h o e = let is : p ≡ o = cc in subst HasCopied is h

deed-copied : (x y : Seat) (ls : List (NodeNo × Letter)) → Deed x ls y → OrderCopied x.own.order → OrderCopied y.own.order
deed-copied x _ ls (says _ others) h = h
deed-copied x y ls (takes mine leaf may) h = h
deed-copied x y ls (pends p may) h = h
deed-copied x y ls (drops txn) h = h
deed-copied x y ls (joins name via may) h = one-is _ (fresh _ refl)
deed-copied x y ls (splits leaf may) h = one-is _ (fresh _ refl)
deed-copied x y ls (loses o n e k) h = one-is _ (same o _ refl refl (λ l. l) (h o e))
deed-copied x y ls (fixes o from leaf e may) h = one-is _ (same o _ refl refl (λ l. l) (h o e))
deed-copied x y ls (copies o leaf source e may) h = one-is _ (fresh _ refl)
deed-copied x _ ls (asks_more o source e phase) h = h
deed-copied x y ls (makes o made nodes e may) h = one-is _ (same o _ refl refl (λ l. cc) (h o e))
deed-copied x y ls (closes o e) h = λ o e. cc
deed-copied x y ls (serves o made e phase) h = λ o e. cc

pub path-copied : (x z : Seat) (ls : List (NodeNo × Letter)) → Path x ls z → OrderCopied x.own.order → OrderCopied z.own.order
path-copied x _ _ (over _) h = h
path-copied x z _ (step _ y _ ls ms d w) h = path-copied y z ms w (deed-copied x y ls d h)

-- a part that comes from the order's source
leasing-not : (from : NodeNo) (phase : OrderPhase) → order.is_source from phase ≡ true → order.is_leasing phase ≡ true → ⊥
leasing-not from Leasing h l = cc
leasing-not from (Copying source) h l = cc
leasing-not from (Installing made) h l = cc

part-copied : (from : NodeNo) (o : OpenOrder) (pairs : List Pair) → (order.is_source from o.phase && order.fits o pairs) ≡ true → rise_after None pairs ≡ true
    → HasCopied o → HasCopied (record o { copied = o.copied ++ pairs })
part-copied from o pairs e rises h =
    let a = and_parts (order.is_source from o.phase) (order.fits o pairs) e in
    let under = list_all (λ (p : Pair). covers o.name p.key) pairs in
    let room = nat_le (length o.copied + length pairs) PAIRS in
    let b = and_parts under (order.starts_after (last_key None o.copied) pairs && room) a.1 in
    let c = and_parts (order.starts_after (last_key None o.copied) pairs) room b.1 in
    record {
      under = all-append (λ (p : Pair). covers o.name p.key ≡ true) o.copied pairs h.under (all-pass (λ (p : Pair). covers o.name p.key) pairs b.0);
      rise = rise-append None o.copied pairs h.rise (rise-from (last_key None o.copied) pairs rises c.0);
      none = λ l. absurd (leasing-not from o.phase a.0 l);
    }

-- the pairs of a part rise
abbrev pub PartRises : Letter → Type 0
PartRises (letter.CopyPart number last pairs) = rise_after None pairs ≡ true
PartRises other = Unit {0}

pub heard-copied : (from : ℕ) (l : Letter) (x y : Seat) (ls : List (NodeNo × Letter)) → Hears from x l ls y → PartRises l → OrderCopied x.own.order
    → OrderCopied y.own.order
heard-copied from l x y ls (gives number what leaf there free stamp unknown) r h = h
heard-copied from l x _ ls (denies number what why) r h = h
heard-copied from l x y ls (releases number name) r h = h
heard-copied from l x _ ls (sends_part number name place last pairs given there) r h = h
heard-copied from l x _ ls (sends_none number name place e) r h = h
heard-copied from l x y ls (installs number leaf mine may) r h = h
heard-copied from l x _ ls (installs_not number leaf f) r h = h
heard-copied from l x y ls (grants number leaf o f) r h = one-is _ (same o _ refl refl (λ i. i) (h o f.there))
heard-copied from l x _ ls (grants_not number leaf e) r h = h
heard-copied from l x y ls (is_refused number why o f) r h = λ o e. cc
heard-copied from l x _ ls (refused_not number why e) r h = h
heard-copied from l x y ls (copies_part number last pairs o f) r h = one-is _ (part-copied from o pairs f.passes r (h o f.there))
heard-copied from l x _ ls (copies_not number last pairs e) r h = h
heard-copied from l x y ls (is_installed number name o f) r h = one-is _ (same o _ refl refl (λ i. i) (h o f.there))
heard-copied from l x _ ls (installed_not number name e) r h = h
heard-copied from l x y ls (learns below other) r h = h
heard-copied from l x _ ls (hears_other _ e) r h = h
