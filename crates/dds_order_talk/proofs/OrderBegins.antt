use Rattle.std.proofs.Common.{◌≡◌, ℕ, ◌==◌, Bool, true, false, Option, Some, None, List, [], ◌∷◌, refl, sym, ap, ◌∙◌, subst}
use Rattle.std.proofs.lemmas.Bool.{eq-eqb, eqb-true}
use Rattle.std.specs.Prelude.{if◌then◌else◌}
use Rattle.dds_base.specs.BrickList.{has}
use Rattle.dds_base.specs.Name.{Name}
use Rattle.dds_base.specs.Place.{last_key}
use Rattle.dds_base.specs.declared.leaf.Leaf.{Leaf}
use Rattle.dds_base.specs.declared.number.NodeNo.{NodeNo}
use Rattle.dds_letters.specs.declared.refusal.Wanted.{Wanted}
use Rattle.dds_letters.specs.declared.refusal.Wanted.TheVariants as wanted
use Rattle.dds_states.specs.declared.brick_state.OpenOrder.{OpenOrder}
use Rattle.dds_states.specs.declared.brick_state.OrderPhase.TheVariants.{Leasing, Copying, Installing}
use Rattle.dds_order_talk.proofs.Moves.{Ends, Takes, asks, asks_first, copied_all, drops, finishes, fixes, gives_up, rests as still, tells}
use Rattle.dds_order_talk.proofs.OrderViews.{by}
use Rattle.dds_order_talk.specs.Seen.{Doing, granted_view, phase_view, rests, source_view, took_first, took_part, with_leaf}
use Rattle.dds_order_talk.specs.Table.{Ask, AsksFor}
use Rattle.dds_order_talk.specs.Table.AsksFor.{by_leaf}
use Rattle.dds_order_talk.specs.Table.Ask.{copy, install, lease}
use Rattle.dds_order_talk.specs.Table.View.{Off, Waits, First, Has, Due, Done}

-- The same where an order opens, fixes its leaf, begins to copy or to install, or ends.

-- what each of some members is sent
abbrev pub to_some : List NodeNo → ℕ → Ask → List Ask
to_some nodes m a = if has nodes m then a ∷ [] else []

-- an order opens
open-at : (x : Name) (w g : Bool) (m : ℕ) (q : Option Leaf) (what : Wanted) → g ≡ false → AsksFor x q what
    → Takes x Off [] (if w then Waits q else (if g then with_leaf rests m q Has else Off)) (if w then lease what ∷ [] else [])
open-at x true g m q what e f = asks f
open-at x false true m q what e f = cc
open-at x false false m q what e f = still Off

pub open-moves : (x : Name) (o : OpenOrder) (m : ℕ) (what : Wanted) → has o.granted m ≡ false → AsksFor x o.leaf what
    → Takes x Off [] (phase_view rests o m Leasing) (to_some o.waiting m (lease what))
open-moves x o m what e f = open-at x (has o.waiting m) (has o.granted m) m o.leaf what e f

-- a join's first grant fixes its leaf, and every other member is asked
fix-at : (x : Name) (from m : ℕ) (leaf : Leaf) (w also g new : Bool) → w ≡ false → also ≡ new → (g ≡ true → m ≡ from) → (m ≡ from → new ≡ false)
    → leaf.name ≡ x
    → Takes x (if w then Waits None else (if g then with_leaf (took_first from leaf) m None Has else Off)) []
    (if also then Waits (Some leaf) else (if g then Has leaf else Off)) (if new then lease (wanted.Leaf leaf) ∷ [] else [])
fix-at x from m leaf true also g new e same only apart name = cc
fix-at x from m leaf false true true true e same only apart name = let no : true ≡ false = apart (only refl) in cc
fix-at x from m leaf false true false true e same only apart name = asks (by_leaf name)
fix-at x from m leaf false false g true e same only apart name = cc
fix-at x from m leaf false true g false e same only apart name = cc
fix-at x from m leaf false false false false e same only apart name = still Off
fix-at x from m leaf false false true false e same only apart name =
    subst (λ v. Takes x v [] (Has leaf) [])
    (sym (ap (λ c. if c then First leaf else Off) (eq-eqb from m (sym (only refl))))) fixes

pub fix-moves : (x : Name) (o p : OpenOrder) (from m : ℕ) (leaf : Leaf) (new : List NodeNo) → o.leaf ≡ None → p.leaf ≡ Some leaf → p.granted ≡ o.granted
    → has o.waiting m ≡ false → has p.waiting m ≡ has new m → (has o.granted m ≡ true → m ≡ from) → (m ≡ from → has new m ≡ false) → leaf.name ≡ x
    → Takes x (phase_view (took_first from leaf) o m Leasing) [] (phase_view rests p m Leasing) (to_some new m (lease (wanted.Leaf leaf)))
fix-moves x o p from m leaf new none fixed same w also only apart name =
    subst (λ q. Takes x (if has o.waiting m then Waits q else (if has o.granted m then with_leaf (took_first from leaf) m q Has else Off)) []
    (phase_view rests p m Leasing) (to_some new m (lease (wanted.Leaf leaf)))) (sym none)
    (subst (λ q. Takes x (if has o.waiting m then Waits None else (if has o.granted m then with_leaf (took_first from leaf) m None Has else Off)) []
    (if has p.waiting m then Waits q else (if has p.granted m then with_leaf rests m q Has else Off)) (to_some new m (lease (wanted.Leaf leaf)))) (sym fixed)
    (subst (λ ns. Takes x (if has o.waiting m then Waits None else (if has o.granted m then with_leaf (took_first from leaf) m None Has else Off)) []
    (if has p.waiting m then Waits (Some leaf) else (if has ns m then Has leaf else Off)) (to_some new m (lease (wanted.Leaf leaf)))) (sym same)
    (fix-at x from m leaf (has o.waiting m) (has p.waiting m) (has o.granted m) (has new m) w also only apart name)))

-- where nobody is waited for, and of who isn't copied from
pub leasing-idle : (o : OpenOrder) (m : ℕ) → has o.waiting m ≡ false → phase_view rests o m Leasing ≡ granted_view rests o m Has
leasing-idle o m e = ap (λ c. if c then Waits o.leaf else granted_view rests o m Has) e

pub copying-other : (o : OpenOrder) (source m : ℕ) → (source == m) ≡ false → phase_view rests o m (Copying source) ≡ granted_view rests o m Has
copying-other o source m e =
    ap (λ c. if c then with_leaf rests m o.leaf (source_view rests (last_key None o.copied)) else granted_view rests o m Has) e

-- a join begins to copy
copy-at : (x : Name) (m : ℕ) (c g : Bool) (q : Option Leaf) (leaf : Leaf) → q ≡ Some leaf → (c ≡ true → g ≡ true)
    → Takes x (if g then with_leaf rests m q Has else Off) []
    (if c then with_leaf rests m q (source_view rests None) else (if g then with_leaf rests m q Has else Off)) (if c then copy None ∷ [] else [])
copy-at x m c g None leaf e f = cc
copy-at x m true true (Some fixed) leaf e f = asks_first
copy-at x m true false (Some fixed) leaf e f = let no : false ≡ true = f refl in cc
copy-at x m false true (Some fixed) leaf e f = still (Has fixed)
copy-at x m false false (Some fixed) leaf e f = still Off

pub copy-moves : (x : Name) (o : OpenOrder) (source m : ℕ) (leaf : Leaf) → o.leaf ≡ Some leaf → has o.granted source ≡ true
    → Takes x (granted_view rests o m Has) [] (phase_view rests (record o { copied = []; phase = Copying source }) m (Copying source))
    (by source m (copy None))
copy-moves x o source m leaf fixed gave =
    copy-at x m (source == m) (has o.granted m) o.leaf leaf fixed (λ e. ap (has o.granted) (sym (eqb-true source m e)) ∙ gave)

-- an order begins to install: those that granted are told
make-at : (x : Name) (m : ℕ) (n g : Bool) (q : Option Leaf) (leaf made : Leaf) → q ≡ Some leaf → n ≡ g
    → Takes x (if g then with_leaf rests m q Has else Off) []
    (if n then with_leaf rests m q (λ l. Due l made) else (if g then with_leaf rests m q (λ l. Done l made) else Off))
    (if n then install made ∷ [] else [])
make-at x m n g None leaf made e f = cc
make-at x m true true (Some fixed) leaf made e f = tells
make-at x m true false (Some fixed) leaf made e f = cc
make-at x m false true (Some fixed) leaf made e f = cc
make-at x m false false (Some fixed) leaf made e f = still Off

pub make-moves : (x : Name) (o : OpenOrder) (m : ℕ) (leaf made : Leaf) (nodes : List NodeNo) → o.leaf ≡ Some leaf → has nodes m ≡ has o.granted m
    → Takes x (granted_view rests o m Has) [] (phase_view rests (record o { waiting = nodes; phase = Installing made }) m (Installing made))
    (to_some nodes m (install made))
make-moves x o m leaf made nodes fixed same = make-at x m (has nodes m) (has o.granted m) o.leaf leaf made fixed same

-- and so is the one that the last pairs came from
last-at : (x : Name) (m : ℕ) (key : Option ℕ) (c n g : Bool) (q : Option Leaf) (leaf made : Leaf) → q ≡ Some leaf → n ≡ g → (c ≡ true → g ≡ true)
    → Takes x (if c then with_leaf took_part m q (source_view took_part key) else (if g then with_leaf took_part m q Has else Off)) []
    (if n then with_leaf rests m q (λ l. Due l made) else (if g then with_leaf rests m q (λ l. Done l made) else Off))
    (if n then install made ∷ [] else [])
last-at x m key c n g None leaf made e f h = cc
last-at x m key true true true (Some fixed) leaf made e f h = copied_all
last-at x m key true n false (Some fixed) leaf made e f h = let no : false ≡ true = h refl in cc
last-at x m key c false true (Some fixed) leaf made e f h = cc
last-at x m key false true true (Some fixed) leaf made e f h = tells
last-at x m key false true false (Some fixed) leaf made e f h = cc
last-at x m key false false false (Some fixed) leaf made e f h = still Off

pub last-moves : (x : Name) (o : OpenOrder) (source m : ℕ) (leaf made : Leaf) (nodes : List NodeNo) → o.leaf ≡ Some leaf
    → has nodes m ≡ has o.granted m → has o.granted source ≡ true
    → Takes x (phase_view took_part o m (Copying source)) []
    (phase_view rests (record o { waiting = nodes; phase = Installing made }) m (Installing made)) (to_some nodes m (install made))
last-moves x o source m leaf made nodes fixed same gave =
    last-at x m (last_key None o.copied) (source == m) (has nodes m) (has o.granted m) o.leaf leaf made fixed same
    (λ e. ap (has o.granted) (sym (eqb-true source m e)) ∙ gave)

-- an order ends: for who is waited for, who granted, and who installed
pub waiting-ends : (d : Doing) (o : OpenOrder) (m : ℕ) → has o.waiting m ≡ true → Ends (phase_view d o m Leasing) []
waiting-ends d o m e = subst (λ c. Ends (if c then Waits o.leaf else granted_view d o m Has) []) (sym e) gives_up

ends-at : (d : Doing) (m : ℕ) (g : Bool) (q : Option Leaf) (leaf : Leaf) → q ≡ Some leaf → g ≡ true → Ends (if g then with_leaf d m q Has else Off) []
ends-at d m g None leaf e f = cc
ends-at d m true (Some fixed) leaf e f = drops
ends-at d m false (Some fixed) leaf e f = cc

pub granted-ends : (o : OpenOrder) (m : ℕ) (leaf : Leaf) → o.leaf ≡ Some leaf → has o.granted m ≡ true → Ends (granted_view rests o m Has) []
granted-ends o m leaf fixed gave = ends-at rests m (has o.granted m) o.leaf leaf fixed gave

done-at : (m : ℕ) (w g : Bool) (q : Option Leaf) (leaf made : Leaf) → q ≡ Some leaf → w ≡ false → g ≡ true
    → Ends (if w then with_leaf rests m q (λ l. Due l made) else (if g then with_leaf rests m q (λ l. Done l made) else Off)) []
done-at m w g None leaf made e h f = cc
done-at m true g (Some fixed) leaf made e h f = cc
done-at m false true (Some fixed) leaf made e h f = finishes
done-at m false false (Some fixed) leaf made e h f = cc

pub installed-ends : (o : OpenOrder) (m : ℕ) (leaf made : Leaf) → o.leaf ≡ Some leaf → has o.waiting m ≡ false → has o.granted m ≡ true
    → Ends (phase_view rests o m (Installing made)) []
installed-ends o m leaf made fixed none gave = done-at m (has o.waiting m) (has o.granted m) o.leaf leaf made fixed none gave
