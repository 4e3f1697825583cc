-- The conversations of a brick that has an order and a member of the order's leaf, about one name.
use Rattle.std.specs.Prelude.{ℕ, ◌≡◌, Bool, true, false, List, [], ◌∷◌, ◌++◌, Option, Some, None}
use Rattle.dds_base.specs.Name.{Name}
use Rattle.dds_base.specs.declared.leaf.Leaf.{Leaf}
use Rattle.dds_letters.specs.declared.refusal.Wanted.{Wanted}
use Rattle.dds_letters.specs.declared.refusal.Wanted.TheVariants as wanted

-- how the order's brick sees the member: no open order of the name asks it; its answer is due, with the leaf that the order has, if it
-- has one; it granted, and the order has no leaf yet; it granted; pairs are copied from it, after a key; a part of them was heard; it
-- is to install a leaf; it has
pub data View : Type 0 where
  Off : View
  Waits : Option Leaf → View
  First : Leaf → View
  Has : Leaf → View
  Source : Leaf → Option ℕ → View
  Heard : Leaf → View
  Due : Leaf → Leaf → View
  Done : Leaf → Leaf → View

-- what is on its way to the member: a lease that an order asked for that has ended, a release, what the open order asks for, and a
-- letter of an order that has ended to copy or to install
pub data Ask : Type 0 where
  old : Ask
  release : Ask
  lease : Wanted → Ask
  copy : Option ℕ → Ask
  install : Leaf → Ask
  stray : Ask

-- what is on its way back, of the open order
pub data Say : Type 0 where
  granted : Leaf → Say
  refused : Say
  part : Say
  installed : Say

-- Leases of ended orders and releases before the last letters `end`, and whether the member has a lease given: however it answers the
-- old ones, it has none given when it comes to the last letters
pub data Stale (end : List Ask) : List Ask → Bool → Type 0 where
  clear : Stale end end false
  gives_back : {given : Bool} {w : List Ask} → Stale end w false → Stale end (release ∷ w) given
  may_give : {given : Bool} {w : List Ask} → Stale end w true → Stale end (old ∷ w) given

-- what an order of the name asks for: a lease of the name while it has no leaf, else one of its leaf
pub data AsksFor (x : Name) : Option Leaf → Wanted → Type 0 where
  by_name : AsksFor x None (wanted.Name x)
  by_leaf : {leaf : Leaf} → leaf.name ≡ x → AsksFor x (Some leaf) (wanted.Leaf leaf)

-- the leaf with which the member grants is the one that the order has, or that was asked for
abbrev pub Fits : Option Leaf → Leaf → Type 0
Fits None leaf = Unit {0}
Fits (Some told) leaf = told ≡ leaf

abbrev pub FitsAsked : Wanted → Leaf → Type 0
FitsAsked (wanted.Name x) leaf = Unit {0}
FitsAsked (wanted.Leaf told) leaf = told ≡ leaf

-- The conversations that there are: the brick's view, what is on its way to the member, whether the member has a lease of the name given
-- to the brick, and what is on its way back. `Own` says that the member has a leaf under the name, and `New` that it has one that the
-- order made, or for a split both. One constructor for each line:
--
-- | line       | view             | to the member      | lease       | the member's leaf | back      | what it means                        |
-- | `off`      | Off              | stale              | as `Stale`  |                   | -         | no open order asks the member        |
-- | `asked`    | Waits what       | stale, then lease  | as `Stale`  |                   | -         | it is asked for its lease            |
-- | `said_yes` | Waits what       | -                  | yes         | the granted one   | granted   | it gave the lease                    |
-- | `said_no`  | Waits what       | -                  | no          |                   | refused   | it refused                           |
-- | `first`    | First leaf       | -                  | yes         | leaf              | -         | its grant will fix the order's leaf  |
-- | `has`      | Has leaf         | -                  | yes         | leaf              | -         | its grant was heard                  |
-- | `copies`   | Source leaf key  | copy after the key | yes         | leaf              | -         | it is asked for pairs                |
-- | `copied`   | Source leaf key  | -                  | yes         | leaf              | part      | it sent some                         |
-- | `dropped`  | Source leaf key  | -                  | yes         | leaf              | -         | they didn't fit                      |
-- | `heard`    | Heard leaf       | -                  | yes         | leaf              | -         | they did, and more follows           |
-- | `told`     | Due leaf made    | install made       | yes         | leaf              | -         | it is told to install the made leaf  |
-- | `said_so`  | Due leaf made    | -                  | yes         | what was made     | installed | it installed it                      |
-- | `done`     | Done leaf made   | -                  | yes         | what was made     | -         | that was heard, another one's is due |
--
-- `first` and `heard` stand within a turn alone; `dropped` is where a part doesn't fit: between live bricks that doesn't occur (`dds_room`).
pub data Talk (x : Name) (Own New : Leaf → Type 0) : View → List Ask → Bool → List Say → Type 0 where
  off : {w : List Ask} {given : Bool} → Stale [] w given → Talk x Own New Off w given []
  asked :
      {what : Option Leaf} {l : Wanted} {w : List Ask} {given : Bool} → AsksFor x what l → Stale (lease l ∷ []) w given
      → Talk x Own New (Waits what) w given []
  said_yes : {what : Option Leaf} {leaf : Leaf} → Own leaf → Fits what leaf → Talk x Own New (Waits what) [] true (granted leaf ∷ [])
  said_no : {what : Option Leaf} → Talk x Own New (Waits what) [] false (refused ∷ [])
  first : {leaf : Leaf} → Own leaf → Talk x Own New (First leaf) [] true []
  has : {leaf : Leaf} → Own leaf → Talk x Own New (Has leaf) [] true []
  copies : {leaf : Leaf} {key : Option ℕ} → Own leaf → Talk x Own New (Source leaf key) (copy key ∷ []) true []
  copied : {leaf : Leaf} {key : Option ℕ} → Own leaf → Talk x Own New (Source leaf key) [] true (part ∷ [])
  dropped : {leaf : Leaf} {key : Option ℕ} → Own leaf → Talk x Own New (Source leaf key) [] true []
  heard : {leaf : Leaf} → Own leaf → Talk x Own New (Heard leaf) [] true []
  told : {leaf made : Leaf} → Own leaf → Talk x Own New (Due leaf made) (install made ∷ []) true []
  said_so : {leaf made : Leaf} → New made → Talk x Own New (Due leaf made) [] true (installed ∷ [])
  done : {leaf made : Leaf} → New made → Talk x Own New (Done leaf made) [] true []

-- The same where one of the two has stopped (the first says whether the brick lives, the second whether the member does). Of the
-- orders of a brick that stopped nothing is said. A member that stopped has its last letters cut off, and of what was sent to it, and
-- of what it has, nothing is said
pub data Talks (x : Name) (Own New : Leaf → Type 0) : Bool → Bool → View → List Ask → Bool → List Say → Type 0 where
  live : {v : View} {o : List Ask} {given : Bool} {b : List Say} → Talk x Own New v o given b → Talks x Own New true true v o given b
  lost :
      {v : View} {o out : List Ask} {given gave : Bool} {b : List Say} (cut : List Say)
      → Talk x (λ l. Unit {0}) (λ l. Unit {0}) v out gave (b ++ cut) → Talks x Own New true false v o given b
  gone : {m : Bool} {v : View} {o : List Ask} {given : Bool} {b : List Say} → Talks x Own New false m v o given b
