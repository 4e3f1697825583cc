use Rattle.std.proofs.Common.{◌≡◌, ◌⊎◌, inr, ℕ, ◌==◌, Bool, true, false, not, Option, Some, None, List, refl, sym, ap, ◌∙◌, subst, arith}
use Rattle.std.proofs.lemmas.Bool.Decides.{nat_tests}
use Rattle.std.specs.Prelude.{if◌then◌else◌}
use Rattle.dds_base.specs.BrickList.{has}
use Rattle.dds_base.specs.Name.{Name, same_name}
use Rattle.dds_base.specs.NodeSet.{has_node}
use Rattle.dds_base.specs.Place.{last_key}
use Rattle.dds_base.specs.declared.leaf.Leaf.{Leaf}
use Rattle.dds_letters.specs.declared.letter.Letter.{Letter}
use Rattle.dds_locks.specs.Leases.{is_given}
use Rattle.dds_states.specs.declared.brick_state.BrickState.{BrickState}
use Rattle.dds_states.specs.declared.brick_state.OpenOrder.{OpenOrder}
use Rattle.dds_states.specs.declared.brick_state.OrderPhase.{OrderPhase}
use Rattle.dds_states.specs.declared.brick_state.OrderPhase.TheVariants.{Leasing, Copying, Installing}
use Rattle.dds_order_talk.proofs.Lines.{HasLeaf, granted-leaf, has_granted}
use Rattle.dds_order_talk.proofs.Moves.{Tells}
use Rattle.dds_order_talk.specs.Seen.{BrickTalk, New, Own, phase_view, rests, view, with_leaf}
use Rattle.dds_order_talk.specs.Table.{Ask, Say, Talk, Talks, View}
use Rattle.dds_order_talk.specs.Table.Talks.{live, lost, gone}
use Rattle.dds_order_talk.specs.Table.View.{Off, Waits, Has, Source, Due, Done}

-- What the conversation gives of a member that granted an open order that has its leaf: it holds the lease, and has the order's leaf
-- until it installs what the order made.

-- what a member has by the order's phase
abbrev pub HasOf : Tells → Tells → OrderPhase → Leaf → Type 0
HasOf Own New Leasing leaf = Own leaf
HasOf Own New (Copying source) leaf = Own leaf
HasOf Own New (Installing made) leaf = Own leaf ⊎ New made

-- how the order sees such a member
pub data Sees (Own New : Tells) (phase : OrderPhase) (leaf : Leaf) (v : View) : Type 0 where
  sees : has_granted v ≡ true → (HasLeaf Own New v → HasOf Own New phase leaf) → Sees Own New phase leaf v

seen-leasing : {Own New : Tells} (o : OpenOrder) (m : ℕ) (leaf : Leaf) (w g : Bool) (q : Option Leaf) → w ≡ false → g ≡ true → q ≡ Some leaf
    → Sees Own New Leasing leaf (if w then Waits q else (if g then with_leaf rests m q Has else Off))
seen-leasing o m leaf true g q e h f = cc
seen-leasing o m leaf false false q e h f = cc
seen-leasing o m leaf false true None e h f = cc
seen-leasing {Own = Own} o m leaf false true (Some own) e h f = sees refl (λ k. subst Own (leaf-is own leaf f) k)
  where
    leaf-is : (a b : Leaf) → Some a ≡ Some b → a ≡ b
    leaf-is a b e = cc

seen-copying : {Own New : Tells} (m source : ℕ) (key : Option ℕ) (leaf : Leaf) (c g : Bool) (q : Option Leaf) → g ≡ true → q ≡ Some leaf
    → Sees Own New (Copying source) leaf (if c then with_leaf rests m q (λ own. Source own key) else (if g then with_leaf rests m q Has else Off))
seen-copying m source key leaf c false q h f = cc
seen-copying m source key leaf true true None h f = cc
seen-copying m source key leaf false true None h f = cc
seen-copying {Own = Own} m source key leaf true true (Some own) h f = sees refl (λ k. subst Own (leaf-is own leaf f) k)
  where
    leaf-is : (a b : Leaf) → Some a ≡ Some b → a ≡ b
    leaf-is a b e = cc
seen-copying {Own = Own} m source key leaf false true (Some own) h f = sees refl (λ k. subst Own (leaf-is own leaf f) k)
  where
    leaf-is : (a b : Leaf) → Some a ≡ Some b → a ≡ b
    leaf-is a b e = cc

seen-installing : {Own New : Tells} (m : ℕ) (made leaf : Leaf) (w g : Bool) (q : Option Leaf) → g ≡ true → q ≡ Some leaf
    → Sees Own New (Installing made) leaf
    (if w then with_leaf rests m q (λ own. Due own made) else (if g then with_leaf rests m q (λ own. Done own made) else Off))
seen-installing m made leaf w false q h f = cc
seen-installing m made leaf true true None h f = cc
seen-installing m made leaf false true None h f = cc
seen-installing {Own = Own} {New = New} m made leaf true true (Some own) h f =
    sees refl (λ k. subst (λ l. Own l ⊎ New made) (leaf-is own leaf f) k)
  where
    leaf-is : (a b : Leaf) → Some a ≡ Some b → a ≡ b
    leaf-is a b e = cc
seen-installing m made leaf false true (Some own) h f = sees refl (λ k. inr k)

seen : {Own New : Tells} (o : OpenOrder) (m : ℕ) (leaf : Leaf) (p : OrderPhase) → (p ≡ Leasing → has o.waiting m ≡ false) → has o.granted m ≡ true
    → o.leaf ≡ Some leaf → Sees Own New p leaf (phase_view rests o m p)
seen o m leaf Leasing apart h f = seen-leasing o m leaf (has o.waiting m) (has o.granted m) o.leaf (apart refl) h f
seen o m leaf (Copying source) apart h f = seen-copying m source (last_key None o.copied) leaf (source == m) (has o.granted m) o.leaf h f
seen o m leaf (Installing made) apart h f = seen-installing m made leaf (has o.waiting m) (has o.granted m) o.leaf h f

holds-leaf : {x : Name} {Own New : Tells} {p : OrderPhase} {leaf : Leaf} {v : View} {o : List Ask} {given : Bool} {b : List Say}
    → Sees Own New p leaf v → Talk x Own New v o given b → (given ≡ true) × HasOf Own New p leaf
holds-leaf (sees e f) h = let r = granted-leaf e h in (r.0, f r.1)

-- between live bricks
pub both-live : {x : Name} {Own New : Tells} {a c : Bool} {v : View} {o : List Ask} {given : Bool} {b : List Say} → a ≡ true → c ≡ true
    → Talks x Own New a c v o given b → Talk x Own New v o given b
both-live e f (live h) = h
both-live e f (lost cut h) = cc
both-live e f gone = cc

pub name-self : (x : Name) → same_name x x ≡ true
name-self x = grind (arith, nat_tests)

-- a live member that granted: it holds the lease, and has the order's leaf, or what the order made
pub granted-holds :
    (j m : ℕ) (s t : BrickState) (o : OpenOrder) (leaf : Leaf) (out back : List Letter) → s.stopped ≡ false → t.stopped ≡ false
    → has_node s.known m ≡ false → s.order ≡ Some o → o.leaf ≡ Some leaf → has o.granted m ≡ true → (o.phase ≡ Leasing → has o.waiting m ≡ false)
    → BrickTalk rests j m o.name s t out back
    → (is_given t.locks.leases o.name j ≡ true) × HasOf (Own t.leaves o.name) (New t.leaves o.name) o.phase leaf
granted-holds j m s t o leaf out back lives also unknown is fixed gave apart h =
    let it = both-live (ap not lives) (ap not also) (h unknown) in
    let of : view rests s.order o.name m ≡ phase_view rests o m o.phase =
    ap (λ q. view rests q o.name m) is ∙ ap (λ c. if c then phase_view rests o m o.phase else Off) (name-self o.name) in
    holds-leaf (subst (Sees (Own t.leaves o.name) (New t.leaves o.name) o.phase leaf) (sym of) (seen o m leaf o.phase apart gave fixed)) it
