use Rattle.std.proofs.Common.{◌≡◌, ℕ, ◌==◌, Bool, true, false, Option, Some, None, List, [], ◌∷◌, ◌++◌, refl, sym, ap, subst}
use Rattle.std.specs.Prelude.{if◌then◌else◌}
use Rattle.dds_base.specs.BrickList.{has}
use Rattle.dds_base.specs.Name.{Name}
use Rattle.dds_base.specs.Place.{last_key}
use Rattle.dds_base.specs.declared.leaf.Leaf.{Leaf}
use Rattle.dds_letters.specs.declared.refusal.Wanted.{Wanted}
use Rattle.dds_order_rows.specs.OwnOrder as order
use Rattle.dds_states.specs.declared.brick_state.OpenOrder.{OpenOrder}
use Rattle.dds_states.specs.declared.brick_state.OrderPhase.{OrderPhase}
use Rattle.dds_states.specs.declared.brick_state.OrderPhase.TheVariants.{Copying, Installing, Leasing}
use Rattle.dds_order_talk.proofs.Moves.{Tells, brick-takes, drops_part}
use Rattle.dds_order_talk.specs.Seen.{phase_view, rests, source_view, with_leaf}
use Rattle.dds_order_talk.specs.Table.{Ask, AsksFor, Fits, Say, Talk, Talks, View}
use Rattle.dds_order_talk.specs.Table.Ask.{lease}
use Rattle.dds_order_talk.specs.Table.Say.{granted, refused, part, installed}
use Rattle.dds_order_talk.specs.Table.Stale.{clear}
use Rattle.dds_order_talk.specs.Table.Talk.{off, asked, said_yes, said_no, first, has as has_granted, copies, copied, dropped, heard, told, said_so, done}
use Rattle.dds_order_talk.specs.Table.Talks.{live, lost}
use Rattle.dds_order_talk.specs.Table.View.{Off, Waits, Has, Source, Due, Done}

-- What a member's first letter tells of how the order sees it.

pub data IsWaits (v : View) : Type 0 where
  is_waits : (what : Option Leaf) → v ≡ Waits what → IsWaits v

pub data IsSource (v : View) : Type 0 where
  is_source : (leaf : Leaf) (key : Option ℕ) → v ≡ Source leaf key → IsSource v

pub data IsDue (v : View) : Type 0 where
  is_due : (leaf made : Leaf) → v ≡ Due leaf made → IsDue v

abbrev pub Speaker : Say → View → Type 0
Speaker (granted leaf) v = IsWaits v
Speaker refused v = IsWaits v
Speaker part v = IsSource v
Speaker installed v = IsDue v

first-said : {x : Name} {Own New : Tells} {v : View} {o : List Ask} {given : Bool} {r b : List Say} {a : Say} → r ≡ a ∷ b → Talk x Own New v o given r
    → Speaker a v
first-said e (off k) = cc
first-said e (asked q k) = cc
first-said {a = a} e (said_yes {what = what} {leaf = leaf} own fits) =
    let is : granted leaf ≡ a = cc in subst (λ s. Speaker s (Waits what)) is (is_waits what refl)
first-said {a = a} e (said_no {what = what}) = let is : refused ≡ a = cc in subst (λ s. Speaker s (Waits what)) is (is_waits what refl)
first-said e (first own) = cc
first-said e (has_granted own) = cc
first-said e (copies own) = cc
first-said {a = a} e (copied {leaf = leaf} {key = key} own) =
    let is : part ≡ a = cc in subst (λ s. Speaker s (Source leaf key)) is (is_source leaf key refl)
first-said e (dropped own) = cc
first-said e (heard own) = cc
first-said e (told own) = cc
first-said {a = a} e (said_so {leaf = leaf} {made = made} new) =
    let is : installed ≡ a = cc in subst (λ s. Speaker s (Due leaf made)) is (is_due leaf made refl)
first-said e (done new) = cc

pub says-first : {x : Name} {Own New : Tells} {lives : Bool} {v : View} {o : List Ask} {given : Bool} {b : List Say} {a : Say}
    → Talks x Own New true lives v o given (a ∷ b) → Speaker a v
says-first (live h) = first-said refl h
says-first (lost cut h) = first-said refl h

-- a part of the pairs that doesn't fit
part-dropped : {x : Name} {Own New : Tells} {lives : Bool} {v : View} {o : List Ask} {given : Bool} {b : List Say} → IsSource v
    → Talks x Own New true lives v o given (part ∷ b) → Talks x Own New true lives v o given b
part-dropped {x = x} {Own = Own} {New = New} {lives = lives} {o = o} {given = given} {b = b} (is_source leaf key e) h =
    subst (λ w. Talks x Own New true lives w o given b) (sym e)
    (subst (λ a. Talks x Own New true lives (Source leaf key) a given b) (append-none o)
    (brick-takes drops_part (subst (λ w. Talks x Own New true lives w o given (part ∷ b)) e h)))
  where
    append-none : (xs : List Ask) → xs ++ [] ≡ xs
    append-none [] = refl
    append-none (y ∷ ys) = ap (λ zs. y ∷ zs) (append-none ys)

pub drops-part : {x : Name} {Own New : Tells} {lives : Bool} {v : View} {o : List Ask} {given : Bool} {b : List Say}
    → Talks x Own New true lives v o given (part ∷ b) → Talks x Own New true lives v o given b
drops-part h = part-dropped (says-first h) h

-- a grant that isn't taken: of a live member that is excluded
pub data HasAsk (x : Name) (what : Option Leaf) : Type 0 where
  has_ask : (l : Wanted) → AsksFor x what l → HasAsk x what

abbrev pub IsUntaken : Name → Tells → View → Leaf → Type 0
IsUntaken x Own v leaf = (what : Option Leaf) → v ≡ Waits what → Own leaf → Fits what leaf → ⊥

grant-taken : {x : Name} {Own New : Tells} {v : View} {o : List Ask} {given : Bool} {r b : List Say} {leaf : Leaf} → r ≡ granted leaf ∷ b
    → IsUntaken x Own v leaf → Talk x Own New v o given r → ⊥
grant-taken e f (off k) = cc
grant-taken e f (asked q k) = cc
grant-taken {Own = Own} {leaf = leaf} e f (said_yes {what = what} {leaf = own_leaf} own fits) =
    let is : own_leaf ≡ leaf = cc in f what refl (subst Own is own) (subst (Fits what) is fits)
grant-taken e f said_no = cc
grant-taken e f (first own) = cc
grant-taken e f (has_granted own) = cc
grant-taken e f (copies own) = cc
grant-taken e f (copied own) = cc
grant-taken e f (dropped own) = cc
grant-taken e f (heard own) = cc
grant-taken e f (told own) = cc
grant-taken e f (said_so new) = cc
grant-taken e f (done new) = cc

ask-again : {x : Name} {Own New : Tells} {v : View} {o : List Ask} {given : Bool} {r b : List Say} {leaf : Leaf} (l : Wanted) (what : Option Leaf)
    → r ≡ granted leaf ∷ b → v ≡ Waits what → AsksFor x what l → Talk x Own New v o given r → Talk x Own New v (lease l ∷ []) false b
ask-again l q e f g (off k) = cc
ask-again l q e f g (asked p k) = cc
ask-again {x = x} {Own = Own} {New = New} {b = b} {leaf = leaf} l q e f g (said_yes {what = what} {leaf = own_leaf} own fits) =
    let none : b ≡ [] = cc in
    let is : q ≡ what = cc in
    subst (λ c. Talk x Own New (Waits what) (lease l ∷ []) false c) (sym none) (asked (subst (λ k. AsksFor x k l) is g) clear)
ask-again l q e f g said_no = cc
ask-again l q e f g (first own) = cc
ask-again l q e f g (has_granted own) = cc
ask-again l q e f g (copies own) = cc
ask-again l q e f g (copied own) = cc
ask-again l q e f g (dropped own) = cc
ask-again l q e f g (heard own) = cc
ask-again l q e f g (told own) = cc
ask-again l q e f g (said_so new) = cc
ask-again l q e f g (done new) = cc

again : {x : Name} {OwnAfter NewAfter : Tells} {v : View} {o out : List Ask} {given gave : Bool} {b : List Say} {leaf : Leaf} (cut : List Say)
    → IsWaits v → ((what : Option Leaf) → v ≡ Waits what → HasAsk x what)
    → Talk x (λ l. Unit {0}) (λ l. Unit {0}) v out gave (granted leaf ∷ (b ++ cut)) → Talks x OwnAfter NewAfter true false v o given b
again cut (is_waits what e) f h = elim (f what e) [ has_ask l q ↦ lost cut (ask-again l what refl e q h) ]

pub drops-grant : {x : Name} {Own New : Tells} {lives : Bool} {v : View} {o : List Ask} {given : Bool} {b : List Say} {leaf : Leaf}
    → (lives ≡ true → IsUntaken x Own v leaf) → ((what : Option Leaf) → v ≡ Waits what → HasAsk x what)
    → Talks x Own New true lives v o given (granted leaf ∷ b) → Talks x Own New true lives v o given b
drops-grant f g (live h) = absurd (grant-taken refl (f refl) h)
drops-grant f g (lost cut h) = again cut (first-said refl h) g h

-- what the order's phase is then
pub record WaitsFor (o : OpenOrder) (m : ℕ) (p : OrderPhase) (what : Option Leaf) : Type 0 where
  pub phase : p ≡ Leasing
  pub waits : has o.waiting m ≡ true
  pub leaf : what ≡ o.leaf

waits-leasing : (m : ℕ) (w g : Bool) (q what : Option Leaf)
    → (if w then Waits q else (if g then with_leaf rests m q Has else Off)) ≡ Waits what → (w ≡ true) × (what ≡ q)
waits-leasing m true g q what e = let is : q ≡ what = cc in (refl, sym is)
waits-leasing m false true None what e = cc
waits-leasing m false true (Some leaf) what e = cc
waits-leasing m false false q what e = cc

not-copying : (m : ℕ) (c g : Bool) (q what : Option Leaf) (key : Option ℕ)
    → (if c then with_leaf rests m q (source_view rests key) else (if g then with_leaf rests m q Has else Off)) ≡ Waits what → ⊥
not-copying m true g None what key e = cc
not-copying m true g (Some leaf) what key e = cc
not-copying m false true None what key e = cc
not-copying m false true (Some leaf) what key e = cc
not-copying m false false q what key e = cc

not-installing : (m : ℕ) (w g : Bool) (q what : Option Leaf) (made : Leaf)
    → (if w then with_leaf rests m q (λ l. Due l made) else (if g then with_leaf rests m q (λ l. Done l made) else Off)) ≡ Waits what → ⊥
not-installing m true g None what made e = cc
not-installing m true g (Some leaf) what made e = cc
not-installing m false true None what made e = cc
not-installing m false true (Some leaf) what made e = cc
not-installing m false false q what made e = cc

pub waits-phase : (o : OpenOrder) (m : ℕ) (p : OrderPhase) (what : Option Leaf) → phase_view rests o m p ≡ Waits what → WaitsFor o m p what
waits-phase o m Leasing what e =
    let r = waits-leasing m (has o.waiting m) (has o.granted m) o.leaf what e in record { phase = refl; waits = r.0; leaf = r.1 }
waits-phase o m (Copying source) what e =
    absurd (not-copying m (source == m) (has o.granted m) o.leaf what (last_key None o.copied) e)
waits-phase o m (Installing made) what e = absurd (not-installing m (has o.waiting m) (has o.granted m) o.leaf what made e)

due-leasing : (m : ℕ) (w g : Bool) (q : Option Leaf) (leaf made : Leaf)
    → (if w then Waits q else (if g then with_leaf rests m q Has else Off)) ≡ Due leaf made → ⊥
due-leasing m true g q leaf made e = cc
due-leasing m false true None leaf made e = cc
due-leasing m false true (Some own) leaf made e = cc
due-leasing m false false q leaf made e = cc

due-copying : (m : ℕ) (c g : Bool) (q : Option Leaf) (leaf made : Leaf) (key : Option ℕ)
    → (if c then with_leaf rests m q (source_view rests key) else (if g then with_leaf rests m q Has else Off)) ≡ Due leaf made → ⊥
due-copying m true g None leaf made key e = cc
due-copying m true g (Some own) leaf made key e = cc
due-copying m false true None leaf made key e = cc
due-copying m false true (Some own) leaf made key e = cc
due-copying m false false q leaf made key e = cc

due-waits : (m : ℕ) (w g : Bool) (q : Option Leaf) (made leaf also : Leaf)
    → (if w then with_leaf rests m q (λ l. Due l made) else (if g then with_leaf rests m q (λ l. Done l made) else Off)) ≡ Due leaf also → w ≡ true
due-waits m true g q made leaf also e = refl
due-waits m false true None made leaf also e = cc
due-waits m false true (Some own) made leaf also e = cc
due-waits m false false q made leaf also e = cc

pub due-phase : (o : OpenOrder) (m : ℕ) (p : OrderPhase) (leaf made : Leaf) → phase_view rests o m p ≡ Due leaf made
    → (order.is_installing p ≡ true) × (has o.waiting m ≡ true)
due-phase o m Leasing leaf made e = absurd (due-leasing m (has o.waiting m) (has o.granted m) o.leaf leaf made e)
due-phase o m (Copying source) leaf made e =
    absurd (due-copying m (source == m) (has o.granted m) o.leaf leaf made (last_key None o.copied) e)
due-phase o m (Installing also) leaf made e = (refl, due-waits m (has o.waiting m) (has o.granted m) o.leaf also leaf made e)
