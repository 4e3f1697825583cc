use Rattle.std.proofs.Common.{◌≡◌, ℕ, Bool, true, false, Option, List, [], ◌∷◌, ◌⊎◌, inl, inr, refl}
use Rattle.dds_base.specs.Name.{Name}
use Rattle.dds_base.specs.declared.leaf.Leaf.{Leaf}
use Rattle.dds_letters.specs.declared.refusal.Wanted.{Wanted}
use Rattle.dds_order_talk.proofs.Moves.{Tells}
use Rattle.dds_order_talk.specs.Table.{Ask, Say, Stale, Talk, View}
use Rattle.dds_order_talk.specs.Table.Ask.{release, lease, copy, install, stray}
use Rattle.dds_order_talk.specs.Table.Say.{granted, refused}
use Rattle.dds_order_talk.specs.Table.Stale.{gives_back, may_give}
use Rattle.dds_order_talk.specs.Table.Talk.{off, asked, said_yes, said_no, first, has, copies, copied, dropped, heard, told, said_so, done}
use Rattle.dds_order_talk.specs.Table.View.{Off, Waits, First, Has, Source, Heard, Due, Done}

-- What a conversation tells of a member by what is on its way, or by how the brick sees it.

-- a member that granted has the leaf, and the lease given
pub granted-has :
    {x : Name} {Own New : Tells} {v : View} {o : List Ask} {given : Bool} {leaf : Leaf} {b : List Say} → Talk x Own New v o given (granted leaf ∷ b)
    → Own leaf × (o ≡ []) × (given ≡ true)
granted-has (said_yes own fits) = (own, refl, refl)

-- who refused has given none
pub refused-gave :
    {x : Name} {Own New : Tells} {v : View} {o : List Ask} {given : Bool} {b : List Say} → Talk x Own New v o given (refused ∷ b) → given ≡ false
refused-gave said_no = refl

-- a member that is told to install has the order's leaf, and the lease given
pub data IsTold (Own : Tells) (made : Leaf) : View → List Ask → Bool → Type 0 where
  is_told : {leaf : Leaf} → Own leaf → IsTold Own made (Due leaf made) [] true

pub install-told :
    {x : Name} {Own New : Tells} {v : View} {made : Leaf} {o : List Ask} {given : Bool} {b : List Say}
    → Talk x Own New v (install made ∷ o) given b → IsTold Own made v o given
install-told (told own) = is_told own
install-told (off k) = elim k [ ]
install-told (asked q k) = elim k [ ]

-- and so has one that is asked for pairs
pub data IsSource (Own : Tells) (key : Option ℕ) : View → List Ask → Bool → Type 0 where
  is_source : {leaf : Leaf} → Own leaf → IsSource Own key (Source leaf key) [] true

pub copy-source :
    {x : Name} {Own New : Tells} {v : View} {key : Option ℕ} {o : List Ask} {given : Bool} {b : List Say}
    → Talk x Own New v (copy key ∷ o) given b → IsSource Own key v o given
copy-source (copies own) = is_source own
copy-source (off k) = elim k [ ]
copy-source (asked q k) = elim k [ ]

-- no letter to copy or to install that is on its way is of an order that has ended
pub no-stray :
    {x : Name} {Own New : Tells} {v : View} {o : List Ask} {given : Bool} {b : List Say} → Talk x Own New v (stray ∷ o) given b → ⊥
no-stray (off k) = elim k [ ]
no-stray (asked q k) = elim k [ ]

-- what the member has while the brick sees that it granted
abbrev pub HasLeaf : Tells → Tells → View → Type 0
HasLeaf Own New Off = Unit {0}
HasLeaf Own New (Waits what) = Unit {0}
HasLeaf Own New (First leaf) = Own leaf
HasLeaf Own New (Has leaf) = Own leaf
HasLeaf Own New (Source leaf key) = Own leaf
HasLeaf Own New (Heard leaf) = Own leaf
HasLeaf Own New (Due leaf made) = Own leaf ⊎ New made
HasLeaf Own New (Done leaf made) = New made

abbrev pub has_granted : View → Bool
has_granted Off = false
has_granted (Waits what) = false
has_granted other = true

pub granted-leaf :
    {x : Name} {Own New : Tells} {v : View} {o : List Ask} {given : Bool} {b : List Say} → has_granted v ≡ true → Talk x Own New v o given b
    → (given ≡ true) × HasLeaf Own New v
granted-leaf e (off k) = cc
granted-leaf e (asked q k) = cc
granted-leaf e (said_yes own fits) = cc
granted-leaf e said_no = cc
granted-leaf e (first own) = (refl, own)
granted-leaf e (has own) = (refl, own)
granted-leaf e (copies own) = (refl, own)
granted-leaf e (copied own) = (refl, own)
granted-leaf e (dropped own) = (refl, own)
granted-leaf e (heard own) = (refl, own)
granted-leaf e (told own) = (refl, inl own)
granted-leaf e (said_so new) = (refl, inr new)
granted-leaf e (done new) = (refl, new)

-- A lease that a member has given has a release behind, or the order granted it, or is told so
abbrev pub HasRelease : List Ask → Type 0
HasRelease [] = ⊥
HasRelease (release ∷ o) = Unit {0}
HasRelease (other ∷ o) = HasRelease o

pub data IsHeld (v : View) : List Ask → List Say → Type 0 where
  released : {o : List Ask} {b : List Say} → HasRelease o → IsHeld v o b
  was_granted : {o : List Ask} {b : List Say} → has_granted v ≡ true → IsHeld v o b
  is_granted : {o : List Ask} {b : List Say} (leaf : Leaf) → IsHeld v o (granted leaf ∷ b)

stale-held : {l : Wanted} {w : List Ask} → Stale (lease l ∷ []) w true → HasRelease w
stale-held (gives_back k) = tt
stale-held (may_give k) = stale-held k

off-held : {w : List Ask} → Stale [] w true → HasRelease w
off-held (gives_back k) = tt
off-held (may_give k) = off-held k

pub given-held : {x : Name} {Own New : Tells} {v : View} {o : List Ask} {b : List Say} → Talk x Own New v o true b → IsHeld v o b
given-held (off k) = released (off-held k)
given-held (asked q k) = released (stale-held k)
given-held (said_yes {leaf = leaf} own fits) = is_granted leaf
given-held (first own) = was_granted refl
given-held (has own) = was_granted refl
given-held (copies own) = was_granted refl
given-held (copied own) = was_granted refl
given-held (dropped own) = was_granted refl
given-held (heard own) = was_granted refl
given-held (told own) = was_granted refl
given-held (said_so new) = was_granted refl
given-held (done new) = was_granted refl
