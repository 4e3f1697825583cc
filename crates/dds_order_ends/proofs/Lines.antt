use Rattle.std.proofs.Common.{◌≡◌, ℕ, ◌&&◌, ◌||◌, ◌++◌, ◌⊎◌, inl, inr, Bool, true, false, Option, Some, None, List, [], ◌∷◌, refl, sym, ap, ◌∙◌, subst}
use Rattle.std.proofs.lemmas.Bool.{both_ways, cases_Bool}
use Rattle.std.specs.List.{list_any}
use Rattle.std.specs.Prelude.{if◌then◌else◌}
use Rattle.dds_base.specs.BrickList.{has}
use Rattle.dds_base.specs.Name.{Name, same_name}
use Rattle.dds_base.specs.declared.leaf.Leaf.{Leaf}
use Rattle.dds_letters.specs.declared.letter.Letter.TheVariants as letter
use Rattle.dds_letters.specs.declared.letter.Letter.{Letter}
use Rattle.dds_letters.specs.declared.refusal.Wanted.{Wanted}
use Rattle.dds_order_rows.specs.OwnOrder.{is_leasing}
use Rattle.dds_order_talk.proofs.Lines.{HasRelease, IsHeld, given-held, is_granted, released, was_granted}
use Rattle.dds_order_talk.proofs.Members.{one-only}
use Rattle.dds_order_talk.proofs.Moves.{Tells}
use Rattle.dds_order_talk.specs.Seen.{ask_of, asks, granted_view, is_its, is_named, lease_asks, one, phase_view, rests, view, wanted_name, with_leaf, work_asks}
use Rattle.dds_order_talk.specs.Table.Ask.{copy, install, old, release}
use Rattle.dds_order_talk.specs.Table.Stale.{clear}
use Rattle.dds_order_talk.specs.Table.Talk.{asked, off}
use Rattle.dds_order_talk.specs.Table.View.{Done, Due, Has, Off, Waits}
use Rattle.dds_order_talk.specs.Table.{Ask, Say, Talk}
use Rattle.dds_orders.proofs.Leases.{same-is}
use Rattle.dds_states.specs.declared.brick_state.OpenOrder.{OpenOrder}
use Rattle.dds_states.specs.declared.brick_state.OrderPhase.TheVariants.{Copying, Installing, Leasing}
use Rattle.dds_states.specs.declared.brick_state.OrderPhase.{OrderPhase}
use Rattle.dds_order_ends.specs.Leases.{IsOrderOf, WillGiveBack, is_release}
use Rattle.dds_order_ends.specs.Waiting.{awaited}

-- What a conversation about an order says, where nothing is on its way, and of a lease that is given.

-- a member that is waited for has a letter to come, or has sent one
waits-silent : {x : Name} {Own New : Tells} {what : Option Leaf} {given : Bool} → Talk x Own New (Waits what) [] given [] → ⊥
waits-silent (asked q k) = elim k [ ]

due-silent : {x : Name} {Own New : Tells} {leaf made : Leaf} {given : Bool} → Talk x Own New (Due leaf made) [] given [] → ⊥
due-silent h = elim h [ ]

-- one that no open order asks has given no lease
pub off-silent : {x : Name} {Own New : Tells} {given : Bool} → Talk x Own New Off [] given [] → given ≡ false
off-silent (off clear) = refl

due-if : {x : Name} {Own New : Tells} {given : Bool} (m : ℕ) (made : Leaf) (q : Option Leaf) → (q ≡ None → ⊥)
    → Talk x Own New (with_leaf rests m q (λ leaf. Due leaf made)) [] given [] → ⊥
due-if m made None f h = f refl
due-if m made (Some leaf) f h = due-silent h

-- the order's phase; copying is apart
pub awaited-speaks : {x : Name} {Own New : Tells} {given : Bool} (o : OpenOrder) (m : ℕ) (p : OrderPhase) → o.phase ≡ p
    → has (awaited p o.waiting) m ≡ true → (o.leaf ≡ None → o.phase ≡ Leasing) → (o.phase ≡ Copying m → ⊥)
    → Talk x Own New (phase_view rests o m p) [] given [] → ⊥
awaited-speaks {x = x} {Own = Own} {New = New} {given = given} o m Leasing e h f g k =
    waits-silent (subst (λ c. Talk x Own New (if c then Waits o.leaf else granted_view rests o m Has) [] given []) h k)
awaited-speaks o m (Copying source) e h f g k = absurd (g (e ∙ ap Copying (sym (one-only source m h))))
awaited-speaks {x = x} {Own = Own} {New = New} {given = given} o m (Installing made) e h f g k =
    due-if m made o.leaf
    (λ n. both_ways (is_leasing o.phase) (ap is_leasing e) (ap is_leasing (f n)))
    (subst (λ c. Talk x Own New (if c then with_leaf rests m o.leaf (λ leaf. Due leaf made)
    else granted_view rests o m (λ leaf. Done leaf made)) [] given []) h k)

-- a Release among what is asked is one among the letters
in-one : (c : Bool) (a : Ask) (rest : List Ask) (r : Bool) → (HasRelease (a ∷ rest) → HasRelease rest) → (HasRelease rest → r ≡ true)
    → HasRelease (one c a ++ rest) → r ≡ true
in-one true a rest r f g h = g (f h)
in-one false a rest r f g h = g h

in-lease : (c : Bool) (x : Name) (what : Wanted) (rest : List Ask) (r : Bool) → (HasRelease rest → r ≡ true)
    → HasRelease (lease_asks c x what ++ rest) → r ≡ true
in-lease true x what rest r g h = g h
in-lease false x what rest r g h = in-one (same_name (wanted_name what) x) old rest r (λ k. k) g h

in-work : (c named : Bool) (a : Ask) (rest : List Ask) (r : Bool) → (HasRelease (a ∷ rest) → HasRelease rest) → (HasRelease rest → r ≡ true)
    → HasRelease (work_asks c named a ++ rest) → r ≡ true
in-work true named a rest r f g h = in-one named a rest r f g h
in-work false named a rest r f g h = g h

in-release : (c : Bool) (rest : List Ask) (r : Bool) → (HasRelease rest → r ≡ true) → HasRelease (one c release ++ rest) → (c || r) ≡ true
in-release true rest r g h = refl
in-release false rest r g h = g h

in-letter : (q : Option OpenOrder) (x : Name) (l : Letter) (rest : List Ask) (r : Bool) → (HasRelease rest → r ≡ true)
    → HasRelease (ask_of q x l ++ rest) → (is_release x l || r) ≡ true
in-letter q x (letter.Lease number what) rest r g h = in-lease (is_its q number && is_named q x) x what rest r g h
in-letter q x (letter.Release number name) rest r g h = in-release (same_name name x) rest r g h
in-letter q x (letter.CopyAsk number name key) rest r g h = in-work (is_its q number) (is_named q x) (copy key) rest r (λ k. k) g h
in-letter q x (letter.Install number leaf) rest r g h = in-work (is_its q number) (is_named q x) (install leaf) rest r (λ k. k) g h
in-letter q x other rest r g h = g h

pub release-sent : (q : Option OpenOrder) (x : Name) (ls : List Letter) → HasRelease (asks q x ls) → list_any (is_release x) ls ≡ true
release-sent q x [] h = absurd h
release-sent q x (l ∷ ls) h = in-letter q x l (asks q x ls) (list_any (is_release x) ls) (release-sent q x ls) h

-- the order is of the name, or its brick asks nothing of the member
named-or : (q : Option OpenOrder) (x : Name) (m : ℕ) → IsOrderOf q x ⊎ (view rests q x m ≡ Off)
named-or None x m = inr refl
named-or (Some o) x m = elim (cases_Bool (same_name o.name x)) [
  | inl e ↦ inl (record { order = o; there = refl; named = same-is o.name x e })
  | inr e ↦ inr (ap (λ c. if c then phase_view rests o m o.phase else Off) e)
]

off-back : {x : Name} {Own New : Tells} {w : List Ask} {given : Bool} {b : List Say} → Talk x Own New Off w given b → b ≡ []
off-back (off k) = refl

off-released : {w : List Ask} {b : List Say} → b ≡ [] → IsHeld Off w b → HasRelease w
off-released e (released h) = h
off-released e (was_granted h) = cc
off-released e (is_granted leaf) = cc

off-gives : {x : Name} {Own New : Tells} {w : List Ask} {given : Bool} {b : List Say} → given ≡ true → Talk x Own New Off w given b → HasRelease w
off-gives {x = x} {Own = Own} {New = New} {w = w} {b = b} e h =
    off-released (off-back h) (given-held (subst (λ g. Talk x Own New Off w g b) e h))

-- a lease that is given is one that will be given back
pub will-give-back : {x : Name} {Own New : Tells} {given : Bool} {b : List Say} (q : Option OpenOrder) (m : ℕ) (ls : List Letter) → given ≡ true
    → Talk x Own New (view rests q x m) (asks q x ls) given b → WillGiveBack q x ls
will-give-back {x = x} {Own = Own} {New = New} {given = given} {b = b} q m ls e h = elim (named-or q x m) [
  | inl is ↦ inl is
  | inr is ↦ inr (release-sent q x ls (off-gives e (subst (λ v. Talk x Own New v (asks q x ls) given b) is h)))
]
